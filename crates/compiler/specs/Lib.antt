pub mod Records
pub mod Rows
pub mod Here
pub mod Tables
