pub mod Moves
pub mod Area
