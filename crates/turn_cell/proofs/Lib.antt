pub mod Histories
pub mod Seats
pub mod Keeps
pub mod Shares
