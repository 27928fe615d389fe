pub mod LentLaws
mod Claims
