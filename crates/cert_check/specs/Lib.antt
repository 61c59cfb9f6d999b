pub mod Checking
pub mod Histories
pub mod Judging
pub mod Keeping
pub mod Leaves
pub mod Paths
pub mod Texts
