pub mod Growing
pub mod Parts
pub mod Putting
pub mod Reading
pub mod Setting
pub mod Taking
