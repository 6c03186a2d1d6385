pub mod Written
pub mod Nests
pub mod Charged
pub mod LeftTurns
pub mod LeftMakes
pub mod Turning
