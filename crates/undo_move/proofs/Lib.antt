pub mod Begun
pub mod Undone
