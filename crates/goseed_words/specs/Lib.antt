pub mod Amounts
pub mod Asked
pub mod Commands
pub mod Orders
