pub mod Found
pub mod Left
pub mod Plain
pub mod Rows
pub mod Wants
pub mod Written
