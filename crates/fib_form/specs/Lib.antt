pub mod Fib
pub mod FibFields
pub mod FibRules
pub mod FibBytes
pub mod Stories
pub mod TableParts
pub mod TableEntries
