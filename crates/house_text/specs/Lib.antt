pub mod Laid
pub mod Pieces
pub mod Drafted
