pub mod Text
pub mod Printable
pub mod Checking
pub mod Reading
pub mod Index
pub mod Confirm
pub mod HeadReading
pub mod Whole
