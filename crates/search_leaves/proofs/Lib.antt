pub mod Walk
pub mod Fall
