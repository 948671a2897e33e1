-- The properties that a file means for a unit and for a paragraph mark, whatever rules it breaks: those of the run of its
-- byte place and then of the modifier of its piece; in a gap, where no run holds the place, those of the modifier alone.
use Rattle.std.specs.Prelude.{◌≡◌, ◌⊎◌, ℕ, List}
use Rattle.std.specs.FinMap.{empty}
use Rattle.prop_map.specs.declared.modifiers.Modifier.{Modifier}
use Rattle.prop_map.specs.Settings.{Properties}
use Rattle.prop_map.specs.Modifiers.{IsCharacterAfter, IsMarkAfter, mark_style}
use Rattle.fkp_pages.specs.declared.kind.PageKind.TheVariants.{Chpx, Papx}
use Rattle.direct_props.specs.Direct.{IsDirectCharacter, IsDirectMark}
use Rattle.fkp_gaps.specs.Gaps.{IsGap}

abbrev pub MeansCharacter : (wd bin : List ℕ) → ℕ → Modifier → Properties → Type 0
MeansCharacter wd bin fc modifier properties =
    IsDirectCharacter wd bin fc modifier properties
    ⊎ (IsGap Chpx bin wd fc × IsCharacterAfter modifier empty properties)

-- the style number in a gap is 0
abbrev pub MeansMark : (wd bin : List ℕ) → ℕ → Modifier → ℕ → Properties → Type 0
MeansMark wd bin fc modifier istd properties =
    IsDirectMark wd bin fc modifier istd properties
    ⊎ (IsGap Papx bin wd fc × ((istd ≡ mark_style modifier 0) × IsMarkAfter modifier empty properties))
