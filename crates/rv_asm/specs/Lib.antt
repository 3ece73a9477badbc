pub mod Gives
pub mod Labels
pub mod First
pub mod Coded
pub mod Second
pub mod Kept
pub mod Assembled
pub mod Shown
