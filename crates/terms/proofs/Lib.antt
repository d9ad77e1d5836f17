pub mod Steps
pub mod Vars
pub mod Blocks
pub mod Whole
