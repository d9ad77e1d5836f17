pub mod Laws
pub mod Writes
pub mod Laying
pub mod Became
