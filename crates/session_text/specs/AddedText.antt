-- The text that a session has added since its last save: items, whose units are from a byte of WordDocument on. It
-- grows at its end alone, so what is in it stays.
use Rattle.std.specs.Prelude.{◌≡◌, ℕ, zero, suc, List, ◌++◌, map, replicate, true, Option, Some, None, ⊤}
use Rattle.piece_table.specs.declared.pieces.Piece.{Piece}
use Rattle.doc_model.specs.declared.item.Item.{Item}
use Rattle.full_save.specs.Text.{extra_mark}
use Rattle.save_laws.specs.Places.{given_of}
use Rattle.save_laws.specs.Plans.{Plan}
use Rattle.save_laws.specs.Slots.{Slot, shown, loose, last}
use Rattle.session_text.specs.declared.added.Added.{Added}

-- what the added units are to be given
abbrev pub plan_of : Added → Plan
plan_of added = record { base = added.base; added = map given_of added.items }

-- an item that is added for a slot: the item that it shows, or a mark
abbrev pub IsAddedFor : Item → Slot → Type 0
IsAddedFor item (shown other) = item ≡ other
IsAddedFor item loose = item ≡ extra_mark
IsAddedFor item last = ⊤

-- items, and marks behind them
abbrev pub marked_block : List Item → ℕ → List Item
marked_block items marks = items ++ replicate marks extra_mark

-- the piece of so many added units from a byte on, where there are some
abbrev pub added_piece : ℕ → ℕ → Option Piece
added_piece at zero = None
added_piece at (suc more) = Some (record { at = at; wide = true; len = suc more })
