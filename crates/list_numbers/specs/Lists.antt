-- [MS-DOC] PlfLst, LSTF, LVL and PlfLfo, as far as numbers need them. Each list and each level is found by its number:
-- no bytes are walked over here.
use Rattle.std.specs.Prelude.{ℕ, ◌+◌, ◌-◌, ◌*◌, ◌/◌, ◌%◌, ◌<◌, ◌≤◌, ◌==◌, nat_lt, min, if◌then◌else◌, List, length}
use Rattle.std.specs.Prelude.{slice_index, slice_range}
use Rattle.std.specs.Int.{cast_signed, w32}
use Rattle.doc_bits.specs.Number.{u16_at, u32_at}
use Rattle.doc_parts.specs.Levels.{levels_before, levels_of_list, level_start}
use Rattle.list_numbers.specs.declared.level.Level.{Level}
use Rattle.list_numbers.specs.declared.list_format.ListFormat.{ListFormat}
use Rattle.list_numbers.specs.LevelFonts.{font_in}
use Rattle.list_numbers.specs.NumberKind.{kind_of_nfc}
use Rattle.doc_parts.specs.Tabulated.{tabulate}

-- [MS-DOC] LVL: the text is behind an LVLF of 28 bytes and two lists of properties, whose lengths are at 25 and 24
abbrev pub level_text_place : List ℕ → ℕ → ℕ
level_text_place bytes at = at + 28 + slice_index bytes (at + 25) + slice_index bytes (at + 24)

-- [MS-DOC] LVL: the properties of characters of its number, right before the text
abbrev pub level_characters : List ℕ → ℕ → List ℕ
level_characters bytes at = slice_range bytes (at + 28 + slice_index bytes (at + 25)) (level_text_place bytes at)

-- [MS-DOC] Xst: a 16-bit count and the units
abbrev pub counted_units : List ℕ → ℕ → List ℕ
counted_units bytes at = tabulate (λ i. u16_at bytes (at + 2 + 2 * i)) (u16_at bytes at)

-- [MS-DOC] LVLF: iStartAt at 0, which is signed, and nfc at 4
abbrev pub level_at : List ℕ → ℕ → Level
level_at bytes at = record {
  start = cast_signed w32 (u32_at bytes at);
  kind = kind_of_nfc (slice_index bytes (at + 4));
  text = counted_units bytes (level_text_place bytes at);
  font = font_in (level_characters bytes at);
}

-- so many levels from a place on
abbrev pub levels_from : List ℕ → ℕ → ℕ → List Level
levels_from bytes at count = tabulate (λ j. level_at bytes (level_start bytes at j)) count

-- so many levels from a place on are whole
abbrev pub HaveWholeLevels : List ℕ → ℕ → ℕ → Type 0
HaveWholeLevels bytes at count = (j : ℕ) → j < count → level_start bytes at (j + 1) ≤ length bytes

-- [MS-DOC] LSTF: lsid at 0, and fSimpleList in bit 0 of byte 26; the levels of a list are behind those of the lists
-- before it
abbrev pub list_format_at : List ℕ → List ℕ → ℕ → ListFormat
list_format_at lst levels k = record {
  number = u32_at lst (2 + 28 * k);
  simple = slice_index lst (2 + 28 * k + 26) % 2 == 1;
  levels = levels_from levels (level_start levels 0 (levels_before lst k)) (levels_of_list lst k);
}

-- the lists of PlfLst, whose levels these are
unfoldable pub list_formats_of : List ℕ → List ℕ → List ListFormat
list_formats_of lst levels = tabulate (list_format_at lst levels) (u16_at lst 0)

-- [MS-DOC] PlfLfo: a 32-bit count and LFOs of 16 bytes. Profile: those that do not fit are not there
abbrev pub use_count : List ℕ → ℕ
use_count lfo = if nat_lt (length lfo) 4 then 0 else min (u32_at lfo 0) ((length lfo - 4) / 16)

-- [MS-DOC] LFO.lsid: the numbers of the lists that are used, by use
unfoldable pub list_uses : List ℕ → List ℕ
list_uses lfo = tabulate (λ i. u32_at lfo (4 + 16 * i)) (use_count lfo)
