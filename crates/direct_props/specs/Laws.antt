-- What the definitions imply.
use Rattle.std.specs.Prelude.{◌≡◌, ℕ, ◌<◌, ◌≤◌, List}
use Rattle.std.specs.Option.{ForSome}
use Rattle.doc_bits.specs.Number.{AreBytes}
use Rattle.doc_bits.specs.Rules.{IsFirstOffset, Breaks, IsLeastOfAll}
use Rattle.prop_map.specs.Settings.{Properties}
use Rattle.prop_map.specs.declared.modifiers.Modifier.{Modifier}
use Rattle.prop_map.specs.Formed.{IsPropertyMap, character_groups, paragraph_groups}
use Rattle.prop_map.specs.Modifiers.{IsFormedModifier}
use Rattle.fkp_pages.specs.declared.kind.PageKind.{PageKind}
use Rattle.fkp_pages.specs.declared.kind.PageKind.TheVariants.{Chpx, Papx}
use Rattle.fkp_pages.specs.Bin.{IsBinTable}
use Rattle.direct_props.specs.Direct.{IsDirectCharacter, IsDirectMark}
use Rattle.direct_props.specs.PageRules.{page_rules, IsValidPlace}

-- a character has one map of direct properties
abbrev pub DirectCharacterIsOne : Type 0
DirectCharacterIsOne =
    (wd bin : List ℕ) (fc : ℕ) (modifier : Modifier) (one other : Properties) →
    IsBinTable bin → IsDirectCharacter wd bin fc modifier one → IsDirectCharacter wd bin fc modifier other → one ≡ other

-- a mark has one style number and one map of direct properties
abbrev pub DirectMarkIsOne : Type 0
DirectMarkIsOne =
    (wd bin : List ℕ) (fc : ℕ) (modifier : Modifier) (istd number : ℕ) (one other : Properties) →
    IsBinTable bin → IsDirectMark wd bin fc modifier istd one → IsDirectMark wd bin fc modifier number other →
    (istd ≡ number) × (one ≡ other)

-- the first broken rule on pages is the least of all broken ones, at its least place
abbrev pub FirstPageFaultIsLeast : Type 0
FirstPageFaultIsLeast =
    (kind : PageKind) (wd bin places : List ℕ) (r p : ℕ) →
    IsFirstOffset (page_rules kind wd bin places) r p → IsLeastOfAll (λ a b. a ≤ b) (Breaks (page_rules kind wd bin
    places))
    r p

-- a modifier that may be at a place: its maps are well formed, and its style number has 16 bits
pub record IsValidModifier (modifier : Modifier) : Type 0 where
  pub formed : IsFormedModifier modifier
  pub small : ForSome modifier.istd (λ n. n < 65536)

-- a character has direct properties, which are well formed
pub record HasDirectCharacter (wd bin : List ℕ) (fc : ℕ) (modifier : Modifier) : Type 0 where
  pub properties : Properties
  pub is : IsDirectCharacter wd bin fc modifier properties
  pub formed : IsPropertyMap character_groups properties

-- a mark has a style number of 16 bits and direct properties, which are well formed
pub record HasDirectMark (wd bin : List ℕ) (fc : ℕ) (modifier : Modifier) : Type 0 where
  pub istd : ℕ
  pub properties : Properties
  pub is : IsDirectMark wd bin fc modifier istd properties
  pub small : istd < 65536
  pub formed : IsPropertyMap paragraph_groups properties

-- in a stream of bytes, a place that breaks no rule has them
pub record HasPlaceProperties (wd bin : List ℕ) (fc : ℕ) (modifier : Modifier) : Type 0 where
  pub character : IsValidPlace Chpx wd bin fc → HasDirectCharacter wd bin fc modifier
  pub mark : IsValidPlace Papx wd bin fc → HasDirectMark wd bin fc modifier

abbrev pub RightPlacesHaveProperties : Type 0
RightPlacesHaveProperties =
    (wd bin : List ℕ) (fc : ℕ) (modifier : Modifier) → AreBytes wd → IsValidModifier modifier → HasPlaceProperties wd
    bin fc modifier
