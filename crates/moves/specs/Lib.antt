pub mod Eights
pub mod Paired
pub mod Mask
