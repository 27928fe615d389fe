pub mod Window
pub mod Promise
