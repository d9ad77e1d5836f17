pub mod Given
pub mod Between
pub mod Arms
pub mod Questions
pub mod Filled
pub mod Setting
pub mod Passed
