-- In reading order.
pub mod Within
pub mod Examples
