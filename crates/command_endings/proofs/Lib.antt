pub mod CreatingLemmas
pub mod DeterminedLemmas
pub mod WorldLemmas
