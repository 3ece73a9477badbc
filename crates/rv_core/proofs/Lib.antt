pub mod DecodedLaws
pub mod RunLaws
