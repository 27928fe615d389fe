mod CheckLaws
mod MoveLaws
mod PerformLaws
