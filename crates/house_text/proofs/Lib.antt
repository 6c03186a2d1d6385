pub mod Laying
pub mod Levels
pub mod FormulaPieces
pub mod NodePieces
pub mod Nodes
pub mod Testing
pub mod WholeText
pub mod Drafts
