pub mod Ends
pub mod Named
pub mod Rules
pub mod Searched
