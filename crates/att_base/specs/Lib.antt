pub mod Fakes
pub mod Faults
pub mod Files
pub mod FilesInMemory
pub mod Streams
