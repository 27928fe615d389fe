pub mod Tile
pub mod Held
pub mod Steps
pub mod Bytes
pub mod Claims
pub mod Examples
