-- for the crates above
pub mod Apart
pub mod Leads
pub mod Moments
pub mod Ranges
pub mod Rest
pub mod Within
-- of this crate alone
mod Edits
mod Marks
mod MemCalls
mod Mirror
mod Picked
mod Recording
