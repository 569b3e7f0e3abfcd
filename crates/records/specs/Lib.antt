pub mod Records
pub mod Order
pub mod Soundness
pub mod Places
pub mod Words
pub mod Needs
