pub mod Marks
pub mod Answers
pub mod Whole
