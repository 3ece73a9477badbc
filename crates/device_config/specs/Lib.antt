pub mod Arrays
pub mod Names
pub mod Files
pub mod Plans
