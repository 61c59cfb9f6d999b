pub mod Leading
pub mod Runs
pub mod SiteValues
