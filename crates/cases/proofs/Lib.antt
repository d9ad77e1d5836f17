pub mod Passes
pub mod Long
pub mod Cases
pub mod Reading
