pub mod Alike
pub mod Copying
mod Examples
pub mod Matched
pub mod NameLists
pub mod Names
pub mod NamedSums
pub mod OneOrder
pub mod Ordering
pub mod Pinned
pub mod Sharing
pub mod InOrder
pub mod Steps
pub mod Within
