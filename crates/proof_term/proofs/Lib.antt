pub mod Sums
pub mod PutLaws
pub mod NodeLaws
pub mod FieldLaws
