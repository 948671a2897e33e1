-- Blocks of added text: the items of one command, with the marks behind a story that come with them.
use Rattle.std.specs.Prelude.{◌≡◌, ◌+◌, ◌*◌, List, ◌++◌, length}
use Rattle.doc_model.specs.declared.item.Item.{Item}
use Rattle.piece_table.specs.Changes.{fresh_places}
use Rattle.doc_bits.specs.Together.{AreTogether}
use Rattle.save_laws.specs.Places.{PagedStream}
use Rattle.save_laws.specs.Slots.{Slot}
use Rattle.save_laws.specs.Sessions.{StandInSession}
use Rattle.session_text.specs.declared.added.Added.{Added}
use Rattle.session_text.specs.AddedText.{plan_of, IsAddedFor, added_piece}

-- the piece of a block represents the slots that its items were added for
abbrev pub BlocksStand : Type 0
BlocksStand =
    (old : PagedStream) (added : Added) (before block behind : List Item) (slots : List Slot) →
    added.items ≡ before ++ (block ++ behind) → AreTogether IsAddedFor block slots →
    StandInSession old (plan_of added)
    (fresh_places (added_piece (added.base + 2 * length before) (length block))) slots
