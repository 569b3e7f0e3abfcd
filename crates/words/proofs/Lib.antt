pub mod WordsMovedLaws
pub mod WordsSteppedLaws
pub mod WordsPlacedLaws
