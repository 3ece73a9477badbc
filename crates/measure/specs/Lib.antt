pub mod Program
pub mod Measured
pub mod Passing
pub mod Machine
pub mod Stepping
