pub mod PlaceLaws
pub mod AgreeLaws
pub mod Claims
pub mod Fillings
pub mod Examples
