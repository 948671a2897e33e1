-- What is kept of lists by the places where they are in a stream: that they have no fault, and what they make.
use Rattle.std.specs.Prelude.{◌≡◌, ℕ, ◌+◌, ◌<◌, ◌≤◌, ◌^◌, List, length, drop, slice_get, slice_range, Some, Option}
use Rattle.std.specs.Prelude.{MatchOption, ⊤}
use Rattle.std.specs.Option.{unwrap_or}
use Rattle.doc_bits.specs.Number.{u16_at}
use Rattle.doc_bits.specs.Rules.{Nowhere}
use Rattle.doc_bits.specs.Together.{AreTogether}
use Rattle.sprm_table.specs.Sprm.{HasSprmFaultAt}
use Rattle.prop_map.specs.Settings.{Properties}
use Rattle.prop_map.specs.declared.modifiers.Modifier.{Modifier}
use Rattle.prop_map.specs.Formed.{IsPropertyMap, character_groups, paragraph_groups}
use Rattle.prop_map.specs.Modifiers.{IsCharacterAfter, IsMarkAfter, IsFormedModifier, mark_style}
use Rattle.fkp_pages.specs.declared.kind.PageKind.{PageKind}
use Rattle.fkp_pages.specs.declared.kind.PageKind.TheVariants.{Chpx, Papx}
use Rattle.fkp_pages.specs.Fkp.{least_list}
use Rattle.fkp_pages.specs.Runs.{run_groups}
use Rattle.fkp_pages.specs.declared.kind.RunAnswer.{RunAnswer}
use Rattle.fkp_pages.specs.Bin.{IsBinTable}
use Rattle.fkp_pages.specs.Properties.{IsListAnswered, HasListAt, bare_list}
use Rattle.direct_props.specs.declared.grpprl_cache.Decoded.{Decoded}
use Rattle.direct_props.specs.declared.grpprl_cache.DecodedRun.{DecodedRun}
use Rattle.direct_props.specs.declared.grpprl_cache.GrpprlCache.{GrpprlCache}
use Rattle.direct_props.specs.declared.pages.PageCursor.{PageCursor}
use Rattle.direct_props.specs.Pages.{IsPageCursor}
use Rattle.direct_props.specs.Direct.{MakesProperties}
use Rattle.direct_props.specs.PageRules.{IsValidPlace}

-- the sprms of the list from one byte to before another have no fault
abbrev pub HasNoFault : PageKind → List ℕ → ℕ → ℕ → Type 0
HasNoFault kind wd from to = Nowhere (HasSprmFaultAt (slice_range wd (from + least_list kind) to) (run_groups kind))

-- each of these places has such a list
abbrev pub HaveNoFault : PageKind → List ℕ → List (ℕ × ℕ) → Type 0
HaveNoFault kind wd places = (k from to : ℕ) → slice_get places k ≡ Some (from, to) → HasNoFault kind wd from to

-- the properties that a list and then a modifier give to a character
pub record MakesCharacter (list : List ℕ) (modifier : Modifier) (properties : Properties) : Type 0 where
  pub made : Properties
  pub style : Option ℕ
  pub makes : MakesProperties list character_groups made style
  pub modified : IsCharacterAfter modifier made properties
  pub formed : IsFormedModifier modifier → IsPropertyMap character_groups properties

-- the style number and the properties that a list, which begins with a style number, and then a modifier give to a mark
pub record MakesMark (list : List ℕ) (modifier : Modifier) (istd : ℕ) (properties : Properties) : Type 0 where
  pub made : Properties
  pub style : Option ℕ
  pub makes : MakesProperties (drop 2 list) paragraph_groups made style
  pub style_is : istd ≡ mark_style modifier (unwrap_or style (u16_at list 0))
  pub modified : IsMarkAfter modifier made properties
  pub formed : IsFormedModifier modifier → IsPropertyMap paragraph_groups properties

-- what a list and then a modifier make
abbrev pub IsMadeOf : PageKind → List ℕ → Modifier → Decoded → Type 0
IsMadeOf Chpx list modifier made = MakesCharacter list modifier made.map
IsMadeOf Papx list modifier made = MakesMark list modifier made.istd made.map

-- the same of the list from one byte to before another
abbrev pub IsMadeIn : PageKind → List ℕ → Modifier → ℕ × ℕ → Decoded → Type 0
IsMadeIn kind wd modifier place made = IsMadeOf kind (slice_range wd place.0 place.1) modifier made

-- each of these places has such a list, and this is what it makes
abbrev pub AreMade : PageKind → List ℕ → Modifier → List (ℕ × ℕ) → List Decoded → Type 0
AreMade kind wd modifier places made = AreTogether (IsMadeIn kind wd modifier) places made

-- each of these places has such a list, without a fault, and this is what it makes
pub record AreKept (kind : PageKind) (wd : List ℕ) (modifier : Modifier) (places : List (ℕ × ℕ)) (made : List Decoded) :
    Type 0 where
  pub right : HaveNoFault kind wd places
  pub made_are : AreMade kind wd modifier places made

-- what a run without a list makes, where it is kept
abbrev pub IsBareMade : PageKind → Modifier → Option Decoded → Type 0
IsBareMade kind modifier bare = MatchOption bare ⊤ (IsMadeOf kind (bare_list kind) modifier)

-- what properties of places are read from: the pages of a kind, and the modifier of pieces
pub record PlaceSource : Type 0 where
  pub kind : PageKind
  pub wd : List ℕ
  pub bin : List ℕ
  pub modifier : Modifier

-- the place is right, its list, and that this is what it makes
pub record IsMadeAt (source : PlaceSource) (fc : ℕ) (made : Decoded) : Type 0 where
  pub right : IsValidPlace source.kind source.wd source.bin fc
  pub list : List ℕ
  pub has : HasListAt source.kind source.bin source.wd fc list
  pub makes : IsMadeOf source.kind list source.modifier made

-- the same of each place from the first to the last, and the place is among them
pub record HasMadeAround (source : PlaceSource) (fc : ℕ) (stretch : DecodedRun) : Type 0 where
  pub from : stretch.first ≤ fc
  pub to : fc ≤ stretch.last
  pub each : (other : ℕ) → stretch.first ≤ other → other ≤ stretch.last → IsMadeAt source other stretch.made

-- the list that a page answers, and that this is what it makes
pub record IsMadeByAnswer (kind : PageKind) (modifier : Modifier) (page : List ℕ) (answer : RunAnswer) (made : Decoded)
    :
    Type 0 where
  pub list : List ℕ
  pub answered : IsListAnswered kind page answer list
  pub makes : IsMadeOf kind list modifier made

-- a bin table and a stream whose places are read, and what is kept of them
pub record IsReader (source : PlaceSource) (cursor : PageCursor) (kept : GrpprlCache) : Type 0 where
  pub table : IsBinTable source.bin
  pub small : length source.wd < 2 ^ 32
  pub cursor_is : IsPageCursor source.wd source.bin cursor
  pub kept_are : AreKept source.kind source.wd source.modifier kept.places kept.made.items
  pub bare_is : IsBareMade source.kind source.modifier kept.bare
