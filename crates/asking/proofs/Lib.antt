pub mod Holding
pub mod Records
pub mod Terms
pub mod Walks
pub mod Pours
pub mod Answers
