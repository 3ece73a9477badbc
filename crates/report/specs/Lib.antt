pub mod Tags
pub mod Reports
pub mod Notes
pub mod Shapes
