-- The definitions that the contracts of `test_rows` cite. Assumes nothing.
pub mod Bytes
