-- Items that are seen as their units, so that these are put together.
use Rattle.std.specs.Prelude.{◌≡◌, ℕ, Bool, true, not, ◌&&◌, ◌||◌, nat_le, is_some}
use Rattle.std.specs.Char.{IsScalar}
use Rattle.char_formats.specs.declared.format.CharFormat.{CharFormat}
use Rattle.doc_columns.specs.declared.attached.Attached.{Attached}
use Rattle.doc_view.specs.declared.reading.Front.{Front}
use Rattle.doc_view.specs.declared.reading.Manner.{Manner}
use Rattle.symbol_fonts.specs.Characters.{is_sign}
use Rattle.doc_view.specs.Glyphs.{is_windows}
use Rattle.doc_view.specs.Seen.{is_note, reference_kind}
use Rattle.text_codes.specs.Halves.{is_surrogate}

-- a unit that is visible as itself: no control, no byte of Windows-1252, no half of a character, no sign of a symbol font
abbrev pub is_itself : ℕ → Bool
is_itself unit = nat_le 0x20 unit && (not (is_windows unit) && (not (is_surrogate unit) && not (is_sign unit)))

-- so it is a character
pub record IsItself (unit : ℕ) : Type 0 where
  pub visible : is_itself unit ≡ true
  pub character : IsScalar unit

-- items of this format, with this beside them, are seen as such units behind such a front
abbrev pub shows_units : Manner → CharFormat → Front → Attached → Bool
shows_units manner format front attached =
    not (is_some attached.fld) && (not (is_some (reference_kind manner attached.note)) && (front.in_results
    && ((manner.hidden || not format.hidden) && (not (is_some format.symbol)
    && not (is_note manner.kind && front.behind_label)))))
