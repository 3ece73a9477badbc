pub mod Splits
pub mod ReadDigits
mod Table
