pub mod Bounds
pub mod Mark
pub mod Reached
pub mod Slot
pub mod Choose
