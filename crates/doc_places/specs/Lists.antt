-- The lists that are open at a paragraph, by those before it: at each level the list that the last item of the level is of,
-- as long as no paragraph of a lower level or outside of lists came behind it.
use Rattle.std.specs.Prelude.{ℕ, zero, suc, nat_lt, Bool, List, [], ◌∷◌, ◌++◌, length, Option, Some, None, slice_get}
use Rattle.std.specs.Prelude.{if◌then◌else◌}
use Rattle.view_places.specs.declared.element.Element.{Element}
use Rattle.view_places.specs.declared.element.Element.TheVariants.{List as AList, Item}
use Rattle.view_places.specs.Same.{equal}
use Rattle.doc_view.specs.Seen.{Paragraph, is_here}
use Rattle.doc_places.specs.declared.lists.Frame.{Frame}
use Rattle.doc_places.specs.declared.lists.ListItem.{ListItem}
use Rattle.doc_places.specs.declared.lists.Lists.{Lists}
use Rattle.doc_places.specs.Looks.{item_in}

-- a page has six levels of lists
abbrev pub six : (ℕ → Option Frame) → Lists
six at = record { frames = at 0 ∷ at 1 ∷ at 2 ∷ at 3 ∷ at 4 ∷ at 5 ∷ [] }

abbrev pub no_open_lists : Lists
no_open_lists = six (λ level. None)

-- the list that is open at a level
abbrev pub open_frame : Option (Option Frame) → Option Frame
open_frame None = None
open_frame (Some frame) = frame

abbrev pub frame_at : Lists → ℕ → Option Frame
frame_at lists level = open_frame (slice_get lists.frames level)

-- the first paragraph of an item's list: where the list that is open has no other order, it goes on
abbrev pub first_of_list : Option Frame → Bool → ℕ → ℕ
first_of_list None is_ordered number = number
first_of_list (Some frame) is_ordered number = if equal frame.is_ordered is_ordered then frame.first else number

abbrev pub item_frame : Option Frame → Bool → ℕ → Frame
item_frame frame is_ordered number = record {
  first = first_of_list frame is_ordered number;
  is_ordered = is_ordered;
  item = number;
}

-- at a level behind an item: lists of lower levels stay open, and those of higher ones end
abbrev pub level_frame : Lists → ℕ → ListItem → ℕ → Option Frame
level_frame lists level item number =
    if nat_lt item.level level then None else
    if nat_lt level item.level then frame_at lists level else Some (item_frame (frame_at lists level) item.is_ordered
    number)

abbrev pub with_item : Lists → ListItem → ℕ → Lists
with_item lists item number = six (λ level. level_frame lists level item number)

-- behind a paragraph that is an item or not: one that is here and no item ends all lists
abbrev pub lists_after : Lists → Option ListItem → ℕ → Bool → Lists
lists_after lists None number here = if here then no_open_lists else lists
lists_after lists (Some item) number here = with_item lists item number

-- the paragraphs, the nearest first
abbrev pub open_lists_of : List Paragraph → Lists
open_lists_of [] = no_open_lists
open_lists_of (paragraph ∷ before) = lists_after (open_lists_of before) (item_in paragraph) (length before) (is_here
    paragraph)

-- a list that is open, and its item
abbrev pub frame_elements : Option Frame → List Element
frame_elements None = []
frame_elements (Some frame) =
    AList (record { first = frame.first; is_ordered = frame.is_ordered }) ∷ Item frame.item ∷ []

-- the lists of so many levels, from outside
abbrev pub level_elements : Lists → ℕ → List Element
level_elements lists zero = []
level_elements lists (suc level) = level_elements lists level ++ frame_elements (frame_at lists level)

abbrev pub list_elements : Lists → List Element
list_elements lists = level_elements lists 6
