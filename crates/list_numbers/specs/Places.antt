-- Where a paragraph is: in which list, and at which level.
use Rattle.std.specs.Prelude.{◌≡◌, ℕ, ◌-◌, ◌==◌, nat_le, if◌then◌else◌, List, Option, Some, None, slice_get}
use Rattle.std.specs.Prelude.{length}
use Rattle.std.specs.List.{position_from}
use Rattle.std.specs.Ordering.{nat_cmp}
use Rattle.std.specs.BTreeMap.{BTreeMap, get}
use Rattle.doc_model.specs.declared.item.Item.{Item}
use Rattle.doc_model.specs.declared.item.Mark.{Mark}
use Rattle.doc_model.specs.declared.document.Document.{Document}
use Rattle.doc_model.specs.Paragraphs.{IsParagraphEnd}
use Rattle.doc_model.specs.Stretches.{stretches}
use Rattle.doc_model.specs.Settings.{is_inside}
use Rattle.list_numbers.specs.declared.list_format.ListFormat.{ListFormat}
use Rattle.list_numbers.specs.declared.list_place.ListPlace.{ListPlace}
use Rattle.list_numbers.specs.declared.mark_values.MarkValues.{MarkValues}
use Rattle.list_numbers.specs.Lists.{list_formats_of, list_uses}
use Rattle.list_numbers.specs.MarkValues.{AreMarkValues}

-- the level that is named, and 0 where none is; a list has nine
abbrev pub named_level : Option ℕ → Option ℕ
named_level None = Some 0
named_level (Some level) = if nat_le level 8 then Some level else None

-- a simple list has one level, whatever is named
abbrev pub level_in : ListFormat → Option ℕ → Option ℕ
level_in list ilvl = if list.simple then Some 0 else named_level ilvl

abbrev pub list_place_at : ℕ → Option ℕ → Option ListPlace
list_place_at list None = None
list_place_at list (Some level) = Some (record { list = list; level = level })

abbrev pub place_in_entry : ℕ → Option ListFormat → Option ℕ → Option ListPlace
place_in_entry list None ilvl = None
place_in_entry list (Some format) ilvl = list_place_at list (level_in format ilvl)

abbrev pub list_place_in : List ListFormat → Option ℕ → Option ℕ → Option ListPlace
list_place_in lists None ilvl = None
list_place_in lists (Some list) ilvl = place_in_entry list (slice_get lists list) ilvl

-- the first list with the number of a use
abbrev pub first_list : List ListFormat → Option ℕ → Option ℕ
first_list lists None = None
first_list lists (Some number) = position_from (λ list. list.number == number) 0 lists

-- the tree has the first list of each number
abbrev pub AreFirstLists : List ListFormat → BTreeMap ℕ ℕ → Type 0
AreFirstLists lists firsts = (number : ℕ) → get nat_cmp firsts number ≡ first_list lists (Some number)

-- the number of a use, which are counted from 1
abbrev pub used_list : List ℕ → Option ℕ → Option ℕ
used_list uses None = None
used_list uses (Some ilfo) = if ilfo == 0 then None else slice_get uses (ilfo - 1)

-- the place that values name: the first list with the number of the use, and the level
abbrev pub list_place : List ListFormat → List ℕ → MarkValues → Option ListPlace
list_place lists uses values = list_place_in lists (first_list lists (used_list uses values.ilfo)) values.ilvl

-- the place that values name in a document
abbrev pub place_of_values : Document → MarkValues → Option ListPlace
place_of_values document values =
    list_place (list_formats_of document.carried.lst document.carried.levels) (list_uses document.carried.lfo) values

-- the paragraphs of a text
abbrev pub paragraphs : List Item → List (List Item)
paragraphs text = stretches is_inside text

-- a paragraph ends with this mark
pub record IsEndedByMark (paragraph : List Item) (mark : Mark) : Type 0 where
  pub item : Item
  pub last : slice_get paragraph (length paragraph - 1) ≡ Some item
  pub has : item.mark ≡ Some mark

-- the item there has this mark
pub record IsMarkAt (items : List Item) (at : ℕ) (mark : Mark) : Type 0 where
  pub item : Item
  pub here : slice_get items at ≡ Some item
  pub has : item.mark ≡ Some mark

-- the paragraph of an item ends before a place, with this mark
pub record ParagraphEndsBefore (items : List Item) (from end : ℕ) (mark : Mark) : Type 0 where
  pub is_end : IsParagraphEnd items from (end - 1)
  pub marked : IsMarkAt items (end - 1) mark

-- the values in effect of a paragraph's mark
pub record AreParagraphValues (document : Document) (paragraph : List Item) (values : MarkValues) : Type 0 where
  pub mark : Mark
  pub ends : IsEndedByMark paragraph mark
  pub are : AreMarkValues document.sheet mark values
