pub mod Cursors
pub mod Events
pub mod Fitting
pub mod Lasting
pub mod Plans
pub mod Steps
