pub mod Firsts
pub mod Pieces
pub mod LeftOver
pub mod Told
