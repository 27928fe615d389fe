-- In reading order.
pub mod Calls
pub mod Crossing
pub mod Between
pub mod Runs
pub mod Listings
pub mod Exhibit
pub mod Shown
pub mod Drawn
pub mod BesideShown
pub mod LoadsShown
