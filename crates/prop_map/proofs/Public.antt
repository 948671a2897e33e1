-- What other crates may cite of these proofs.

-- A list of sprms without a fault is accepted.
pub use Rattle.prop_map.proofs.AcceptedLemmas.{accepted_of}
-- Acting with one list and then another, with a list of one entry, and what stays true of a map.
pub use Rattle.prop_map.proofs.ActingLemmas.{HasByteValue, IsPropertyMap-after, IsPropertyMap-empty, last_or_both}
pub use Rattle.prop_map.proofs.ActingLemmas.{sets_not_clears, value_after-append}
-- The bytes of entries spell these entries and no others.
pub use Rattle.prop_map.proofs.BlockLemmas.{same_bytes}
-- The values of entries that bytes spell are bytes.
pub use Rattle.prop_map.proofs.ByteLemmas.{list_bytes, style_small}
-- Changes of a map that is in a tree: an entry put, entries removed, a whole map put over it.
pub use Rattle.prop_map.proofs.ChangeLemmas.{find-earlier, get-retained}
-- Lists of entries in order: where a code is, and the map of such a list.
pub use Rattle.prop_map.proofs.EntriesLemmas.{both_first, both_second, cmp_equal, cmp_greater, cmp_less, entries-empty}
pub use Rattle.prop_map.proofs.EntriesLemmas.{find_gap, less_from, of_true, rises, true_of}
-- The maps that lists and modifiers make are there.
pub use Rattle.prop_map.proofs.ExistMaps.{after_list, character_after, mark_after}
-- The definition of acting in other words, and that there is one map and one modifier of a list.
pub use Rattle.prop_map.proofs.LawLemmas.{acting_one, modifier_one, stay_formed}
-- Maps made of maps: the functions are what the relations say, and stay well formed.
pub use Rattle.prop_map.proofs.MapLemmas.{characters_after, empty-overlay, get-overlay, get-without}
pub use Rattle.prop_map.proofs.MapLemmas.{is_modified_characters, is_modified_paragraph, is_overlay, overlay-empty}
pub use Rattle.prop_map.proofs.MapLemmas.{overlay_formed, paragraph_after, same_properties, without_formed}
-- What a modifier does, one put over another, and that of a list.
pub use Rattle.prop_map.proofs.ModifierLemmas.{IsPropertyMap-over, acts_in_turn}
-- A printed map: its entries, and what acting with them gives.
pub use Rattle.prop_map.proofs.PrintLemmas.{get-entry, print_is}
-- The bytes of a modifier: those of its four parts, one after the other.
pub use Rattle.prop_map.proofs.PrintedLemmas.{length-clear, length-printed_modifier, length-style}
-- How long the printed forms of maps and modifiers are: a part is not longer than the whole, and what is put over
pub use Rattle.prop_map.proofs.PrintedLengths.{characters_are_not_longer, made_is_not_longer, marks_are_not_longer}
pub use Rattle.prop_map.proofs.PrintedLengths.{modifier_parts, over_is_not_longer}
