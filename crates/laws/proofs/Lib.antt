mod CallLaws
mod MoveFacts
mod PhaseLaws
pub mod Exhibit
pub mod Crossing
pub mod Between
pub mod Shown
pub mod Runs
pub mod Listings
pub mod Drawn
pub mod BesideShown
pub mod LoadsShown
