pub mod RowLaws
pub mod PhasesLaws
pub mod TableLaws
pub mod TableSlotLaws
