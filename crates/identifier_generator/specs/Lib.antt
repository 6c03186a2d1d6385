pub mod Entry
pub mod Handed
