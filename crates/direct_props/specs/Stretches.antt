-- How far around a place its list is the same.
use Rattle.std.specs.Prelude.{◌≡◌, ℕ, ◌+◌, ◌≤◌, List, length, slice_range, slice_get, slice_index, Some, ◌++◌, ⊤}
use Rattle.std.specs.List.{All}
use Rattle.doc_bits.specs.Rules.{Nowhere}
use Rattle.sprm_table.specs.Sprm.{HasSprmFaultAt}
use Rattle.fkp_pages.specs.declared.kind.PageKind.{PageKind}
use Rattle.fkp_pages.specs.declared.kind.PageKind.TheVariants.{Chpx}
use Rattle.fkp_pages.specs.declared.kind.RunAnswer.{RunAnswer}
use Rattle.fkp_pages.specs.declared.kind.RunAnswer.TheVariants.{Found, Empty, NoRun, BadCount, Leaves}
use Rattle.fkp_pages.specs.Fkp.{least_list}
use Rattle.fkp_pages.specs.Runs.{run_groups}
use Rattle.prop_map.specs.Settings.{Properties}
use Rattle.prop_map.specs.declared.modifiers.Modifier.{Modifier}
use Rattle.prop_map.specs.Formed.{IsPropertyMap, character_groups}
use Rattle.prop_map.specs.Modifiers.{IsFormedModifier}
use Rattle.direct_props.specs.Direct.{IsDirectCharacter}
use Rattle.direct_props.specs.PageRules.{IsValidBetween}

-- a list with room for itself before the last byte of a page, whose sprms have no fault
pub record IsValidPageList (kind : PageKind) (page : List ℕ) (from to : ℕ) : Type 0 where
  pub room : from + least_list kind ≤ to
  pub within : to ≤ 511
  pub sprms : Nowhere (HasSprmFaultAt (slice_range page (from + least_list kind) to) (run_groups kind))

-- the answer is a run without properties, or one with such a list
abbrev pub HasValidList : PageKind → List ℕ → RunAnswer → Type 0
HasValidList kind page (Found from to) = IsValidPageList kind page from to
HasValidList kind page Empty = ⊤
HasValidList kind page NoRun = ⊥
HasValidList kind page BadCount = ⊥
HasValidList kind page (Leaves entry) = ⊥

-- each place from the first to the last is right and has these direct properties, and the place is among them; they are
-- well formed where the modifier is
pub record HasPropertiesAround (wd bin : List ℕ) (modifier : Modifier) (fc first last : ℕ) (properties : Properties) :
    Type 0 where
  pub from : first ≤ fc
  pub to : fc ≤ last
  pub right : IsValidBetween Chpx wd bin first last
  pub each : (other : ℕ) → first ≤ other → other ≤ last → IsDirectCharacter wd bin other modifier properties
  pub formed : IsFormedModifier modifier → IsPropertyMap character_groups properties

-- the new list is the old one with others behind
pub record BeginsWith (old new : List Properties) : Type 0 where
  pub more : List Properties
  pub joined : new ≡ old ++ more

-- the new list is the old one with the direct properties of each place, which are well formed where the modifier is
pub record AddsCharacters (wd bin places : List ℕ) (modifier : Modifier) (old new : List Properties) : Type 0 where
  pub added : List Properties
  pub joined : new ≡ old ++ added
  pub len : length added ≡ length places
  pub each :
      (k : ℕ) (properties : Properties) → slice_get added k ≡ Some properties →
      IsDirectCharacter wd bin (slice_index places k) modifier properties
  pub formed : IsFormedModifier modifier → All (IsPropertyMap character_groups) added
