pub mod AmountLemmas
pub mod MeaningLemmas
pub mod OperandLemmas
pub mod WordLemmas
