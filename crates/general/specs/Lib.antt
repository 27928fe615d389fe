-- In reading order.
pub mod Least
pub mod Scatter
pub mod Number
pub mod Places
pub mod Determined
pub mod Examples
