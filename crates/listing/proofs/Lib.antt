pub mod WordLaws
mod RunLaws
pub mod ListingLaws
mod StopLaws
mod LaterLaws
pub mod Claims
pub mod Examples
