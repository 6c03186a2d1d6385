-- The definitions that the contracts of `test_runs` cite. Assumes nothing.
pub mod Judged
pub mod Told
