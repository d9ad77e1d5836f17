pub mod Regions
pub mod Rows
pub mod Roots
pub mod Whole
