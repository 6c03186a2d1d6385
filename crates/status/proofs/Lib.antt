pub mod Shapes
pub mod Marked
pub mod Lists
pub mod Alike
pub mod Second
pub mod Whole
