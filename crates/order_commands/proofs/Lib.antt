mod BestCarried
mod CarryLemmas
mod CauseLemmas
mod DeterminedLemmas
mod OneCarry
pub mod SortLemmas
mod ToldLemmas
