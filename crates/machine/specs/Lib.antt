pub mod Tables
pub mod View
pub mod Contract
pub mod Drive
