pub mod Listing
pub mod Left
pub mod Told
pub mod Worked
