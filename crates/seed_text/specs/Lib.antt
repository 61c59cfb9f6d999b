pub mod SetDigits
pub mod SetTexts
pub mod SetWords
