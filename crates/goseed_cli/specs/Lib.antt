pub mod ExitCodes
pub mod Exits
