pub mod Mapped
pub mod Pieces
pub mod Printing
pub mod Whole
