pub mod Packed
pub mod KindLaws
pub mod LeafWords
