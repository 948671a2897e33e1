-- What other crates may cite of these proofs.

-- The order of names is that of the entries that have them, and equal names are in none.
pub use Rattle.cfb_directory.proofs.NameLemmas.{ComesBefore-entries, EntryBefore-names, before_apart, same_not_before}
-- The order of names, and lists that are put in it.
pub use Rattle.cfb_directory.proofs.OrderLemmas.{before_irreflexive, before_trans, first_difference, name_length}
pub use Rattle.cfb_directory.proofs.OrderLemmas.{name_short, name_some, one_name-sym, streams_apart}
-- The entries that the root reaches: a list that grows, and when it is closed.
pub use Rattle.cfb_directory.proofs.ReachLemmas.{reached_there}
