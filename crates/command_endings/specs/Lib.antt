pub mod Creating
pub mod Laws
pub mod Reading
pub mod Worlds
