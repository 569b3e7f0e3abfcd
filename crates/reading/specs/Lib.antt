pub mod Runs
pub mod Timeslices
pub mod Reading
pub mod Tallies
pub mod Needs
