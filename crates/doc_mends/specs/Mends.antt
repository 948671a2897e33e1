-- A document changed by named mends. Each mend is a value, and a function of documents.
use Rattle.std.specs.Prelude.{Bool, not, List, [], ◌∷◌, length, map, filter, nat_le, slice_range, All}
use Rattle.std.specs.List.{list_all}
use Rattle.std.specs.FinMap.{empty, insert}
use Rattle.prop_map.specs.declared.modifiers.Modifier.{Modifier}
use Rattle.prop_map.specs.Settings.{Properties}
use Rattle.prop_map.specs.Overlay.{modified_characters}
use Rattle.prop_map.specs.Printing.{printed_list}
use Rattle.doc_model.specs.declared.document.Document.{Document}
use Rattle.doc_patch.specs.declared.changes.Change.{Change}
use Rattle.doc_patch.specs.declared.changes.Change.TheVariants.{ModifyItems}
use Rattle.doc_patch.specs.Changes.{all_changed}
use Rattle.doc_patch.specs.Modifiers.{property_characters}
use Rattle.doc_patch.specs.Places.{HasText, HasRange, items_at}
use Rattle.doc_mends.specs.declared.mends.DeletedRange.{DeletedRange}
use Rattle.doc_mends.specs.declared.mends.Mend.{Mend}
use Rattle.doc_mends.specs.declared.mends.Mend.TheVariants.{StrikeDeleted}

-- [MS-DOC] sprmCFStrike: struck through
abbrev pub strike : Properties
strike = insert empty 0x0837 (1 ∷ [])

abbrev pub striking : Modifier
striking = property_characters strike

-- what striking a range changes
abbrev pub strike_of : DeletedRange → Change
strike_of range = ModifyItems range.story range.from range.to striking

-- the document with ranges struck, one after another
abbrev pub all_struck : List DeletedRange → Document → Document
all_struck ranges document = all_changed (map strike_of ranges) document

-- the properties of a character fit a page once it is struck
abbrev pub is_short : Properties → Bool
is_short chp = nat_le (length (printed_list (modified_characters striking chp))) 255

-- the properties of the items of a range
abbrev pub range_chps : Document → DeletedRange → List Properties
range_chps document range =
    slice_range (map (λ item. item.chp) (items_at document range.story)) range.from range.to

-- all items of a range can be struck
abbrev pub can_strike : Document → DeletedRange → Bool
can_strike document range = list_all is_short (range_chps document range)

-- the ranges that are struck, each a mend, and those that stay as they are
abbrev pub struck_ranges : Document → List DeletedRange → List DeletedRange
struck_ranges document ranges = filter (can_strike document) ranges

abbrev pub strikes : Document → List DeletedRange → List Mend
strikes document ranges = map StrikeDeleted (struck_ranges document ranges)

abbrev pub kept_ranges : Document → List DeletedRange → List DeletedRange
kept_ranges document ranges = filter (λ range. not (can_strike document range)) ranges

-- the document has the text of each range, and the range is one of it
abbrev pub AreRanges : Document → List DeletedRange → Type 0
AreRanges document ranges = All (λ range. HasText document range.story (HasRange range.from range.to)) ranges
