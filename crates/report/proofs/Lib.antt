pub mod Fields
pub mod NoteBytes
pub mod Reading
pub mod Writing
pub mod SameRanges
