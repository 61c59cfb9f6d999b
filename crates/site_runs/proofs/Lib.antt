pub mod Adding
pub mod Fronts
pub mod Leading
pub mod Opening
pub mod RunEnds
pub mod Runs
pub mod Settled
