pub mod Names
pub mod Growing
pub mod Rows
