mod Examples
mod SizeLaws
pub mod TileLaws
mod ByteLaws
pub mod HeldLaws
mod PartLaws
mod SearchLaws
pub mod RoomLaws
mod ListLaws
pub mod AnswerLaws
pub mod Claims
