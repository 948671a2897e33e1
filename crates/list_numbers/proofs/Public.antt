-- What other crates may cite of these proofs.

-- A document has one list of numbers, one text of lines, and one list of values of its paragraphs.
pub use Rattle.list_numbers.proofs.OneLemmas.{lines_one, paragraph_values_of_one}
