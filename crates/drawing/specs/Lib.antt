pub mod Squares
pub mod Drawn
pub mod Chart
pub mod Claims
pub mod Needs
pub mod Examples
