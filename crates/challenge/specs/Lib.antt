pub mod Challenges
pub mod Numbers
pub mod Bytes
