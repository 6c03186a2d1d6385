pub mod Prepared
pub mod Asked
