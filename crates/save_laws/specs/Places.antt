-- What a place of WordDocument gives a unit, by the bytes there and by the pages that its bin tables name; and what the
-- modifier of a piece makes of it. Each place represents itself: no page is gone through.
use Rattle.std.specs.Prelude.{◌≡◌, ℕ, ◌+◌, ◌≤◌, List, length, drop, Bool, Option, Some, None, ⊤}
use Rattle.std.specs.Option.{ForSome, unwrap_or}
use Rattle.doc_bits.specs.Number.{u16_at}
use Rattle.prop_map.specs.Settings.{Properties}
use Rattle.prop_map.specs.Formed.{character_groups, paragraph_groups}
use Rattle.prop_map.specs.declared.modifiers.Modifier.{Modifier}
use Rattle.prop_map.specs.Modifiers.{no_modifier, mark_style, IsCharacterAfter, IsMarkAfter}
use Rattle.fib_form.specs.Fib.{fib_size}
use Rattle.fkp_pages.specs.declared.kind.PageKind.TheVariants.{Chpx, Papx}
use Rattle.direct_props.specs.Direct.{MakesProperties}
use Rattle.direct_props.specs.RightLists.{HasValidListAt}
use Rattle.piece_table.specs.Piece.{unit_bytes}
use Rattle.doc_model.specs.declared.item.Mark.{Mark}
use Rattle.doc_model.specs.declared.item.Item.{Item}
use Rattle.file_rules.specs.Units.{unit_at}

-- WordDocument and its two bin tables
pub record PagedStream : Type 0 where
  pub wd : List ℕ
  pub characters : List ℕ
  pub paragraphs : List ℕ

-- the end of the FIB of a WordDocument: text may be behind it
abbrev pub fib_end : List ℕ → ℕ
fib_end wd = fib_size wd

-- what a place gives: the unit, its properties, and those of its mark, if it has one
pub record GivenUnit : Type 0 where
  pub unit : ℕ
  pub chp : Properties
  pub mark : Option Mark

-- what an item needs a place to give it, where no modifier acts
abbrev pub given_of : Item → GivenUnit
given_of item = record { unit = item.unit; chp = item.chp; mark = item.mark }

-- the page of the place answers a right list of characters, which makes the properties
pub record GivesCharacters (from : PagedStream) (at : ℕ) (chp : Properties) : Type 0 where
  pub list : List ℕ
  pub has : HasValidListAt Chpx from.wd from.characters at list
  pub style : Option ℕ
  pub makes : MakesProperties list character_groups chp style

-- the page of the place answers a right list of a paragraph, which makes the properties and names the style
pub record GivesMark (from : PagedStream) (at : ℕ) (mark : Mark) : Type 0 where
  pub list : List ℕ
  pub has : HasValidListAt Papx from.wd from.paragraphs at list
  pub style : Option ℕ
  pub makes : MakesProperties (drop 2 list) paragraph_groups mark.pap style
  pub style_is : mark.istd ≡ unwrap_or style (u16_at list 0)

-- a unit is there, behind the FIB and within the stream
pub record StandsInside (from : PagedStream) (at : ℕ) (wide : Bool) : Type 0 where
  pub behind_fib : fib_end from.wd ≤ at
  pub inside : at + unit_bytes wide ≤ length from.wd

-- the stream gives this at the place
pub record GivesAt (from : PagedStream) (at : ℕ) (wide : Bool) (given : GivenUnit) : Type 0 where
  pub stands : StandsInside from at wide
  pub unit : given.unit ≡ unit_at from.wd (record { at = at; wide = wide; modifier = no_modifier })
  pub characters : GivesCharacters from at given.chp
  pub mark : ForSome given.mark (GivesMark from at)

-- the style and the properties of a mark after a modifier; no mark comes and none goes
abbrev pub IsMarkedAfter : Modifier → Option Mark → Option Mark → Type 0
IsMarkedAfter modifier None None = ⊤
IsMarkedAfter modifier None (Some new) = ⊥
IsMarkedAfter modifier (Some old) None = ⊥
IsMarkedAfter modifier (Some old) (Some new) =
    (new.istd ≡ mark_style modifier old.istd) × IsMarkAfter modifier old.pap new.pap

-- what was given, after the modifier of its piece
pub record IsGivenAfter (modifier : Modifier) (old new : GivenUnit) : Type 0 where
  pub unit : new.unit ≡ old.unit
  pub characters : IsCharacterAfter modifier old.chp new.chp
  pub mark : IsMarkedAfter modifier old.mark new.mark
