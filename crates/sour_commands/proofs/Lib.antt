pub mod DigitLemmas
pub mod TextLemmas
pub mod ShowLemmas
pub mod WordLemmas
pub mod CommandLemmas
