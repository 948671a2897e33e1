-- Texts, and the properties of their items, of which ranges are struck.
use Rattle.std.specs.Prelude.{ℕ, ◌≤◌, Bool, true, false, List, map}
use Rattle.std.specs.List.{fold}
use Rattle.prop_map.specs.Settings.{Properties}
use Rattle.prop_map.specs.Overlay.{modified_characters}
use Rattle.doc_model.specs.declared.item.Item.{Item}
use Rattle.doc_patch.specs.Changes.{map_range, modified_item}
use Rattle.doc_mends.specs.declared.mends.DeletedRange.{DeletedRange}
use Rattle.doc_mends.specs.Mends.{striking}

-- the properties of a character that is struck
abbrev pub struck_chp : Properties → Properties
struck_chp chp = modified_characters striking chp

-- properties of which a range is struck, and of which several are, one after another
abbrev pub range_struck : List Properties → DeletedRange → List Properties
range_struck chps range = map_range struck_chp chps range.from range.to

abbrev pub chps_struck : List DeletedRange → List Properties → List Properties
chps_struck ranges chps = fold range_struck chps ranges

-- the same of the items of a text
abbrev pub items_struck : List Item → DeletedRange → List Item
items_struck text range = map_range (modified_item striking) text range.from range.to

abbrev pub text_struck : List DeletedRange → List Item → List Item
text_struck ranges text = fold items_struck text ranges

-- the range is one of so many items
abbrev pub IsRangeWithin : ℕ → DeletedRange → Type 0
IsRangeWithin len range = (range.from ≤ range.to) × (range.to ≤ len)

-- what becomes of properties where their part is struck, and where it stays
abbrev pub part_value : Bool → Properties → Properties
part_value true chp = struck_chp chp
part_value false chp = chp

abbrev pub part_values : Bool → List Properties → List Properties
part_values true chps = map struck_chp chps
part_values false chps = chps
