pub mod SetBits
pub mod SetDigitLemmas
pub mod SetWordLemmas
