pub mod Kinds
pub mod Put
