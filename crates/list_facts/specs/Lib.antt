pub mod Firsts
pub mod Inside
pub mod Keyed
pub mod Listed
