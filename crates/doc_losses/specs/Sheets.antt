-- [MS-DOC] STSH: the bytes of a style sheet that are not read.
use Rattle.std.specs.Prelude.{ℕ, ◌+◌, ◌-◌, ◌*◌, ◌==◌, List, [], ◌∷◌, length, nat_lt, if◌then◌else◌}
use Rattle.std.specs.List.{count_by}
use Rattle.doc_bits.specs.Number.{u16_at}
use Rattle.doc_parts.specs.Tabulated.{tabulate}
use Rattle.style_sheet.specs.Stsh.{cb_stshi, cstd, std_base, slot_place}
use Rattle.text_losses.specs.declared.features.TextFeature.{TextFeature}
use Rattle.text_losses.specs.declared.features.TextFeature.TheVariants as has

-- the number of styles
abbrev pub std_count : List ℕ → ℕ
std_count part = count_by (nat_lt 0) (tabulate (λ istd. u16_at part (slot_place part istd)) (cstd part))

-- [MS-DOC] StshiLsd and what follows it, StdfPost2000 of each style, and what is behind the last slot. The Stshif
-- has 18 bytes, and the Stdf that is read has 10
abbrev pub sheet_beyond : List ℕ → ℕ
sheet_beyond part =
    (cb_stshi part - 18)
    + ((std_base part - 10) * std_count part + (length part - slot_place part (cstd part)))

abbrev pub sheet_features : List ℕ → List TextFeature
sheet_features part = if sheet_beyond part == 0 then [] else has.SheetBeyond (sheet_beyond part) ∷ []
