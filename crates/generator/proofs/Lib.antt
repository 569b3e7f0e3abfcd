pub mod StepsLaws
pub mod GeneratorLaws
pub mod Claims
pub mod Examples
