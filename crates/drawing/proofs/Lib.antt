pub mod SquaresLaws
pub mod DrawnLaws
pub mod ChartLaws
pub mod Claims
pub mod Examples
