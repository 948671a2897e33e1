pub mod Public
mod PlainLemmas
mod OutLemmas
mod DigitLemmas
mod HexLemmas
mod SettingsLemmas
mod OrderLemmas
mod CodeLemmas
mod SpeltLemmas
mod TextLemmas
