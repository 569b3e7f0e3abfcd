pub mod Replies
pub mod Hosts
