pub mod Ends
pub mod Flexible
pub mod Mark
pub mod Next
pub mod PlainFronts
pub mod PlainRows
pub mod Written
