pub mod Documents
pub mod ItemsSoFar
pub mod Layouts
pub mod RangeItems
