pub mod Forms
pub mod Orders
pub mod Sizes
