pub mod Export
pub mod Claims
pub mod Examples
