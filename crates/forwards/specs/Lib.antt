pub mod Shortcut
