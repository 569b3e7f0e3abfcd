pub mod AskingPhasesLaws
pub mod CountedLaws
pub mod Claims
pub mod AskingLaws
