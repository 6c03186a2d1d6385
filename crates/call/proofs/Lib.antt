pub mod Refusals
pub mod Seating
pub mod Given
pub mod First
pub mod Ending
pub mod Whole
