pub mod Inputs
pub mod Fleets
pub mod Claims
pub mod Examples
pub mod Making
pub mod Writing
