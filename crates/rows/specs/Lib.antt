pub mod Row
pub mod Phases
pub mod Table
pub mod Needs
