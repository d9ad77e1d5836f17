pub mod Zeros
pub mod Joining
pub mod Records
