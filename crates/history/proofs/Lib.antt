pub mod Exponents
pub mod Blocks
pub mod RangeTests
