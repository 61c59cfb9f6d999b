pub mod Greedy
pub mod Admitted
pub mod Inside
pub mod Shares
