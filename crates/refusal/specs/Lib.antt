pub mod Answers
pub mod Marks
pub mod Table
