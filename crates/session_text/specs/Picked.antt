-- A whole text of which some pieces are picked: two texts, one behind the other, that are read once.
use Rattle.std.specs.Prelude.{◌≡◌, ℕ, ◌+◌, ◌-◌, ◌≤◌, List, ◌++◌, Option, Some, is_some, slice_get}
use Rattle.run_lists.specs.Spread.{expanded, total_len}
use Rattle.run_lists.specs.Places.{IsAtRunBegin}
use Rattle.piece_table.specs.Piece.{TextPiece}
use Rattle.doc_model.specs.declared.item.Item.{Item}
use Rattle.session_text.specs.declared.picked.WholeText.{WholeText}
use Rattle.session_text.specs.declared.picked.Stretch.{Stretch}
use Rattle.session_text.specs.declared.picked.TwoLists.{TwoLists}
use Rattle.session_text.specs.declared.picked.ReadTo.{ReadTo}

-- the items of both texts
abbrev pub whole_items : WholeText → List Item
whole_items whole = whole.main.now ++ whole.behind.now

-- the piece of a number, which begins at a CP
pub record IsNextStretch
    (places : List (Option ℕ)) (pieces : List TextPiece) (number begin : ℕ) (stretch : Stretch) : Type 0 where
  pub piece : TextPiece
  pub here : slice_get pieces number ≡ Some piece
  pub place : Option ℕ
  pub there : slice_get places number ≡ Some place
  pub begins : stretch.from ≡ begin
  pub ends : stretch.to ≡ begin + piece.len
  pub chosen : stretch.again ≡ is_some place

-- the values of both lists
abbrev pub values_of_both : {T : Type 0} → TwoLists T → List T
values_of_both lists = expanded lists.first.now ++ expanded lists.second.now

-- the first list has as many values as it says
abbrev pub HasFirstLen : {T : Type 0} → TwoLists T → Type 0
HasFirstLen lists = total_len lists.first.now ≡ lists.first_len

-- both are read as far as runs begin, and no further than a place of both
pub record AreReadTo {T : Type 0} (lists : TwoLists T) (read : ReadTo) (place : ℕ) : Type 0 where
  pub first : IsAtRunBegin lists.first.now read.first
  pub second : IsAtRunBegin lists.second.now read.second
  pub first_ahead : read.first.begin ≤ place
  pub second_ahead : read.second.begin ≤ place - lists.first_len
