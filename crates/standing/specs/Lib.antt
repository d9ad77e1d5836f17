pub mod Shared
pub mod Stands
pub mod Contract
pub mod Moments
pub mod Part
