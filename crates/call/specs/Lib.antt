pub mod Lent
pub mod Start
pub mod Outcomes
pub mod Whole
