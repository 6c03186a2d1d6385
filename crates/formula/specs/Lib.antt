pub mod Kinds
pub mod Leaves
