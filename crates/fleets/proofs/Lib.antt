pub mod InputsLaws
pub mod FleetsLaws
pub mod FleetsLedgerLaws
pub mod MakingLaws
pub mod WritingLaws
pub mod Claims
pub mod Examples
