pub mod Cases
pub mod Ways
pub mod Moments
