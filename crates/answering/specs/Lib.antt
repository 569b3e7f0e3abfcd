pub mod Replay
pub mod Answering
pub mod Index
pub mod Examples
