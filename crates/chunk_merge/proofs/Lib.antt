pub mod Best
pub mod Folded
pub mod Lists
pub mod Merging
