pub mod FirstHeaders
pub mod ReadBack
pub mod SegmentHeaders
pub mod SoundFiles
pub mod Stands
pub mod WrittenHeader
