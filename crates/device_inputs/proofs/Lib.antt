pub mod EachRead
pub mod Rising
pub mod Named
