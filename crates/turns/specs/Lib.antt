pub mod Front
pub mod Calls
pub mod Ends
