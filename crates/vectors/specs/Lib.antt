pub mod Case
pub mod Cases1
pub mod Cases2
pub mod Cases3
pub mod Cases4
pub mod Cases5
pub mod Outside
