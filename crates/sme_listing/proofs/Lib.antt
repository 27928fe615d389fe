mod ExportLaws
pub mod Claims
pub mod Examples
