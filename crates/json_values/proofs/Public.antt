-- What other crates may cite of these proofs.

-- Digits are read as what they were written for, and no other digits are.
pub use Rattle.json_values.proofs.HexLemmas.{digits_one, string_is}
-- What is read of a text has the keys of its objects in ascending order.
pub use Rattle.json_values.proofs.OrderLemmas.{keys_ascend}
-- Pieces that are added one behind the other.
pub use Rattle.json_values.proofs.OutLemmas.{Adds-Adds, Adds-same}
-- Properties are read as what they were written for, and no other values are.
pub use Rattle.json_values.proofs.SpeltLemmas.{object_is, properties_one, step_found}
-- The text of a plain value is UTF-8, so it is JSON.
pub use Rattle.json_values.proofs.TextLemmas.{plain_json}
