pub mod Numbers
pub mod Filling
pub mod Cutting
pub mod Cursor
pub mod Walking
pub mod Entries
pub mod Goals
pub mod Decoding
