pub mod Splits
pub mod Trims
pub mod Symbols
pub mod PlainLines
