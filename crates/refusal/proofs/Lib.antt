pub mod Table
pub mod Walks
pub mod Room
pub mod NameWalk
pub mod TermWalk
pub mod MarkBits
pub mod MarkLaws
pub mod Noted
