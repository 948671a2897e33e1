-- What other crates may cite of these proofs.

-- Lists of bytes: their parts, such lists joined, and the bytes of a number that was read.
pub use Rattle.doc_bits.proofs.ByteListLemmas.{AreBytes-drop, AreBytes-flat_map, AreBytes-range, AreBytes-take}
pub use Rattle.doc_bits.proofs.ByteListLemmas.{back_bytes, front_bytes, joined_bytes, no_bytes, number_are_bytes}
pub use Rattle.doc_bits.proofs.ByteListLemmas.{number_bytes-number_at, one_byte}
-- Lists: fronts and parts, what is at a place, and what holds of each element.
pub use Rattle.doc_bits.proofs.ListLemmas.{All-from_slice_get, All_at, found_has, from_map, get-map, get_or-behind}
pub use Rattle.doc_bits.proofs.ListLemmas.{last_get, length-range, length_below, length_part, map-map, nil_from_length}
pub use Rattle.doc_bits.proofs.ListLemmas.{one_not_kept, one_range, part_within, range_index, range_mid, range_more}
pub use Rattle.doc_bits.proofs.ListLemmas.{range_split, rest_is, same_entry, same_front, set_here, set_other}
pub use Rattle.doc_bits.proofs.ListLemmas.{slice_get-take, slice_get_before, slice_get_push, take_step, there_is}
pub use Rattle.doc_bits.proofs.ListLemmas.{three_parts}
-- Numbers in bytes: where they are in a longer list, and how their bytes spell them.
pub use Rattle.doc_bits.proofs.NumberLemmas.{length-number_bytes, length-numbers, length-zeros, number_at-after}
pub use Rattle.doc_bits.proofs.NumberLemmas.{number_at-before, number_at-bound, number_at-drop, number_at-first}
pub use Rattle.doc_bits.proofs.NumberLemmas.{number_at-number_bytes, number_at-numbers, number_at-range}
pub use Rattle.doc_bits.proofs.NumberLemmas.{number_at-read_back, number_at-same, number_at-take, zero_more, zeros-add}
-- The order of places, and the least place of a rule of two parts.
pub use Rattle.doc_bits.proofs.PlaceLemmas.{least_first, least_second, place_one, same_places, upto_later, upto_next}
pub use Rattle.doc_bits.proofs.PlaceLemmas.{upto_same}
-- CP tables as they are printed.
pub use Rattle.doc_bits.proofs.PlcLemmas.{drop-front, joined, length-joined, printed-HasPlc, slice_get-joined}
-- The first broken rule: how the least places of parts join, and that there is one answer.
pub use Rattle.doc_bits.proofs.RuleLemmas.{ascends_wider, breaks_within, first_agrees, first_among, first_breaks}
pub use Rattle.doc_bits.proofs.RuleLemmas.{first_in, first_number, hold_in, hold_or_first, least_either, least_from}
pub use Rattle.doc_bits.proofs.RuleLemmas.{least_none, least_of_all, least_same, least_step, lesser_none, none_among}
-- Tests, and what is not not so.
pub use Rattle.doc_bits.proofs.TestLemmas.{and_false, and_first, and_second, and_true, both_are, both_true, either}
pub use Rattle.doc_bits.proofs.TestLemmas.{first_false, ltb_false, neither, none_is, not_true, not_zero, or_false}
pub use Rattle.doc_bits.proofs.TestLemmas.{or_first, or_second, or_true, second_false, stable_eq, stable_le}
pub use Rattle.doc_bits.proofs.TestLemmas.{true_from_not}
-- What is at places of lists that are together, or one behind the other, and parts of such lists.
pub use Rattle.doc_bits.proofs.TogetherLemmas.{Beside, beside, from_behind, got_drop, in_back, in_front, together_drop}
pub use Rattle.doc_bits.proofs.TogetherLemmas.{together_joined, together_take}
