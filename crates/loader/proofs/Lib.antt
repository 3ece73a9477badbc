pub mod Endings
pub mod Image
pub mod InTurn
