pub mod RetiringLaws
