pub mod BlockLaws
pub mod PartLaws
mod EightLaws
mod MaskLaws
pub mod SpanLaws
mod GroupLaws
mod RunLaws
pub mod PredicateLaws
