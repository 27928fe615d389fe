mod DigitLaws
pub mod LineLaws
mod RecordLaws
mod AnswerLaws
