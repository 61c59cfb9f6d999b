mod CauseLemmas
mod DeterminedLemmas
pub mod GenLemmas
mod OneChoice
mod TrialLemmas
