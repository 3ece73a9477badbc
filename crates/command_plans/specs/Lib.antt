pub mod Answered
pub mod Lines
pub mod Reading
pub mod Steps
pub mod Written
