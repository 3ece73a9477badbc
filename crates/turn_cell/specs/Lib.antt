pub mod Cells
pub mod SeatViews
pub mod Turning
pub mod Steps
pub mod Lending
