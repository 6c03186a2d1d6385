-- The laws behind the proofs of `test_rows`. Assumes nothing.
pub mod Laying
