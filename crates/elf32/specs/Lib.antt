pub mod Fields
pub mod Files
pub mod Sound
pub mod Worked
pub mod Written
