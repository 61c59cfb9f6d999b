pub mod HaltLemmas
pub mod LineLemmas
pub mod RefusalLemmas
