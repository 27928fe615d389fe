-- In reading order.
pub mod Words
pub mod Answer
pub mod Listing
pub mod Promise
pub mod Claims
pub mod Examples
pub mod Steps
