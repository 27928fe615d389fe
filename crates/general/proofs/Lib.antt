pub mod Examples
pub mod BoolLaws
pub mod DeterminedLaws
pub mod LeastLaws
pub mod ScatterLaws
pub mod NumberLaws
pub mod PlaceLaws
