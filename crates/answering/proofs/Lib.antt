pub mod AnsweringLaws
pub mod Examples
