-- The ledgers of a session: numbers that the file and the commands determine, with one function an event. A count that
-- would pass 64 bits is still.
use Rattle.std.specs.Prelude.{◌≡◌, ◌↔◌, ℕ, ◌+◌, ◌*◌, ◌/◌, ◌-◌, ◌^◌, ◌||◌, min, max, Bool, true, false, List, length}
use Rattle.std.specs.Prelude.{map, fold, All, if◌then◌else◌}
use Rattle.prop_map.specs.Modifiers.{no_modifier, printed_modifier}
use Rattle.prop_map.specs.Printing.{printed_list}
use Rattle.piece_table.specs.Piece.{TextPiece}
use Rattle.edit_script.specs.declared.commands.Command.{Command}
use Rattle.edit_script.specs.declared.commands.Command.TheVariants.{Insert, Erase, Char, Plain, Para, Style, Field}
use Rattle.edit_script.specs.declared.commands.Command.TheVariants.{Note, Split, Merge, Sect, Row, StyleChar}
use Rattle.edit_script.specs.declared.commands.Command.TheVariants.{StylePara, Bookmark, Unmark, Save}
use Rattle.edit_ops.specs.Runs.{reckoned_runs}
use Rattle.fast_save.specs.declared.ledgers.Counts.{Counts}
use Rattle.fast_save.specs.declared.ledgers.Ledgers.{Ledgers}

-- a count after some more
abbrev pub saturating_sum : ℕ → ℕ → ℕ
saturating_sum count more = min (count + more) (2 ^ 64 - 1)

-- the command composes the modifiers of pieces with another
abbrev pub is_formatting : Command → Bool
is_formatting (Insert story at text) = false
is_formatting (Erase story from to) = false
is_formatting (Char story from to set) = true
is_formatting (Plain story from to) = true
is_formatting (Para story at set) = true
is_formatting (Style story at istd) = true
is_formatting (Field story at type code result) = false
is_formatting (Note at text) = false
is_formatting (Split story at) = false
is_formatting (Merge story at) = false
is_formatting (Sect at new set) = false
is_formatting (Row story at width cells) = false
is_formatting (StyleChar istd set) = false
is_formatting (StylePara istd set) = false
is_formatting (Bookmark name from to) = false
is_formatting (Unmark name) = false
is_formatting (Save full) = false

-- the bytes by which a modifier grows that the command composes: its properties, sprmCPlain, or sprmPIstd
abbrev pub modifier_growth : Command → ℕ
modifier_growth (Insert story at text) = 0
modifier_growth (Erase story from to) = 0
modifier_growth (Char story from to set) = length (printed_list set)
modifier_growth (Plain story from to) = 3
modifier_growth (Para story at set) = length (printed_list set)
modifier_growth (Style story at istd) = 4
modifier_growth (Field story at type code result) = 0
modifier_growth (Note at text) = 0
modifier_growth (Split story at) = 0
modifier_growth (Merge story at) = 0
modifier_growth (Sect at new set) = 0
modifier_growth (Row story at width cells) = 0
modifier_growth (StyleChar istd set) = 0
modifier_growth (StylePara istd set) = 0
modifier_growth (Bookmark name from to) = 0
modifier_growth (Unmark name) = 0
modifier_growth (Save full) = 0

-- the Sepxes that the command may have written
abbrev pub sections_set : Command → ℕ
sections_set (Insert story at text) = 0
sections_set (Erase story from to) = 0
sections_set (Char story from to set) = 0
sections_set (Plain story from to) = 0
sections_set (Para story at set) = 0
sections_set (Style story at istd) = 0
sections_set (Field story at type code result) = 0
sections_set (Note at text) = 0
sections_set (Split story at) = 0
sections_set (Merge story at) = 0
sections_set (Sect at new set) = 1
sections_set (Row story at width cells) = 0
sections_set (StyleChar istd set) = 0
sections_set (StylePara istd set) = 0
sections_set (Bookmark name from to) = 0
sections_set (Unmark name) = 0
sections_set (Save full) = 0

-- Profile: the most pieces that one command adds
abbrev pub most_pieces_added : ℕ
most_pieces_added = 4

-- after an accepted edit that adds so many units
abbrev pub after_edit : Command → ℕ → Counts → Counts
after_edit command units counts = record counts {
  pieces = saturating_sum counts.pieces most_pieces_added;
  modified = counts.modified || is_formatting command;
  printed = saturating_sum counts.printed (modifier_growth command);
  units = saturating_sum counts.units units;
  sections = saturating_sum counts.sections (sections_set command);
  runs = saturating_sum counts.runs (reckoned_runs command);
}

-- after a fast save that is reckoned to have so many sectors: the pieces stay, and the bin tables have grown
abbrev pub after_fast : ℕ → Counts → Counts
after_fast sectors counts = record counts {
  sectors = sectors;
  bin_bytes = saturating_sum counts.bin_bytes (16 * counts.runs + 256);
  units = 0;
  sections = 0;
  runs = 0;
}

-- the bytes of the longest printed modifier of pieces
abbrev pub longest_modifier : List TextPiece → ℕ
longest_modifier pieces = fold max 0 (map (λ piece. length (printed_modifier piece.modifier)) pieces)

-- no piece has a modifier
abbrev pub AreUnmodified : List TextPiece → Type 0
AreUnmodified pieces = All (λ piece. piece.modifier ≡ no_modifier) pieces

-- the counts of a file of these pieces, of so many sectors, whose bin tables have so many bytes: nothing was added
-- since
pub record AreCountsOf (pieces : List TextPiece) (sectors bin_bytes : ℕ) (counts : Counts) : Type 0 where
  pub pieces_are : counts.pieces ≡ length pieces
  pub modified : counts.modified ≡ false ↔ AreUnmodified pieces
  pub printed : counts.printed ≡ longest_modifier pieces
  pub sectors_are : counts.sectors ≡ sectors
  pub bin_bytes_are : counts.bin_bytes ≡ bin_bytes
  pub units : counts.units ≡ 0
  pub sections : counts.sections ≡ 0
  pub runs : counts.runs ≡ 0

-- after a full save, which leaves a file of one piece without a modifier
abbrev pub after_full : ℕ → ℕ → Counts
after_full sectors bin_bytes = record {
  pieces = 1;
  modified = false;
  printed = 0;
  sectors = sectors;
  bin_bytes = bin_bytes;
  units = 0;
  sections = 0;
  runs = 0;
}

-- the bytes that the modifier of a piece may need: 742 for full properties, a style and a clear, and 46 beside them
abbrev pub modifier_bytes : Counts → ℕ
modifier_bytes counts = if counts.modified then min 788 (46 + counts.printed) else 0

-- the bytes that are reckoned for a fast save, where a full save has so many in its table stream
abbrev pub bytes_reckoned : Counts → ℕ → ℕ
bytes_reckoned counts table_bytes =
    2 * counts.units + 528 * counts.runs + 512 * counts.sections + (12 + modifier_bytes counts) * counts.pieces
    + table_bytes + counts.bin_bytes + 16384

-- the sectors of the file after a fast save are at most so many
abbrev pub sector_bound : Counts → ℕ → ℕ
sector_bound counts table_bytes =
    min (counts.sectors + (bytes_reckoned counts table_bytes + 499) / 500 + 8) (2 ^ 64 - 1)

-- the numbers that decide whether a fast save is refused
abbrev pub ledgers_of : Counts → ℕ → Ledgers
ledgers_of counts table_bytes = record {
  pieces = counts.pieces;
  modifier_bytes = modifier_bytes counts;
  sectors = counts.sectors;
  bin_bytes = counts.bin_bytes;
  units = counts.units;
  sections = counts.sections;
  runs = counts.runs;
  table_bytes = table_bytes;
}
