pub mod Causes
pub mod Endings
pub mod Gap
pub mod Gen
pub mod Greedy
pub mod Texts
