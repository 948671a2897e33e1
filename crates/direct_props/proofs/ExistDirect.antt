-- A place that breaks no rule has direct properties, and they are well formed.
use Rattle.std.proofs.Common.{refl, sym, subst, ℕ, zero, suc, ◌+◌, ◌*◌, ◌<◌, List, [], ◌∷◌, drop, false, Option, Some}
use Rattle.std.proofs.Common.{None, arith}
use Rattle.std.specs.Option.{unwrap_or, ForSome}
use Rattle.std.specs.FinMap.{empty}
use Rattle.doc_bits.specs.Number.{u16_at, AreBytes}
use Rattle.doc_bits.proofs.Public.{number_at-bound, AreBytes-drop, AreBytes-range, no_bytes}
use Rattle.sprm_table.specs.Sprm.{IsAcceptedList}
use Rattle.prop_map.specs.declared.modifiers.Modifier.{Modifier}
use Rattle.prop_map.specs.Settings.{Properties}
use Rattle.prop_map.specs.Acting.{style_named}
use Rattle.prop_map.specs.Formed.{character_groups, paragraph_groups, IsPropertyMap}
use Rattle.prop_map.specs.Modifiers.{IsFormedModifier, mark_style}
use Rattle.prop_map.proofs.Public.{IsPropertyMap-after, IsPropertyMap-empty, list_bytes, style_small}
use Rattle.prop_map.proofs.Public.{IsPropertyMap-over, after_list, character_after, mark_after}
use Rattle.fkp_pages.specs.declared.kind.PageKind.{PageKind}
use Rattle.fkp_pages.specs.declared.kind.PageKind.TheVariants.{Chpx, Papx}
use Rattle.fkp_pages.specs.declared.kind.RunAnswer.{RunAnswer}
use Rattle.fkp_pages.specs.declared.kind.RunAnswer.TheVariants.{Found, Empty, NoRun, BadCount, Leaves}
use Rattle.fkp_pages.specs.Bin.{page_at}
use Rattle.fkp_pages.specs.Properties.{bare_list, IsListAnswered, HasListAt}
use Rattle.direct_props.specs.Direct.{MakesProperties, IsDirectCharacter}
use Rattle.direct_props.specs.Laws.{RightPlacesHaveProperties}
use Rattle.direct_props.proofs.ExistLists.{IsValid, right_at, list_there}
pub use Rattle.direct_props.specs.Laws.{IsValidModifier, HasDirectCharacter, HasDirectMark}

-- ---- what an accepted list makes

pub record HasProperties (list : List ℕ) (groups : ℕ) : Type 0 where
  pub made : Properties
  pub style : Option ℕ
  pub makes : MakesProperties list groups made style
  pub formed : IsPropertyMap groups made
  pub small : ForSome style (λ n. n < 65536)

pub properties_there : (list : List ℕ) (groups : ℕ) → AreBytes list → IsAcceptedList list groups → HasProperties list
    groups
properties_there list groups bytes accepted =
    let after = after_list accepted.list groups empty in
    let values = list_bytes list accepted.list bytes accepted.spelt in
    record {
      made = after.new;
      style = style_named accepted.list groups;
      makes = record { prls = accepted.list; spelt = accepted.spelt; map = after.after; style_is = refl };
      formed = IsPropertyMap-after accepted.list groups empty after.new accepted.spelt.entries values after.after
          (IsPropertyMap-empty groups);
      small = λ n e. style_small accepted.list groups n values e;
    }

-- what a list of bytes makes of no properties is well formed
pub made_formed : (list : List ℕ) (groups : ℕ) (made : Properties) (style : Option ℕ) → AreBytes list →
    MakesProperties list groups made style → IsPropertyMap groups made
made_formed list groups made style bytes makes =
    IsPropertyMap-after makes.prls groups empty made makes.spelt.entries (list_bytes list makes.prls bytes
    makes.spelt) makes.map (IsPropertyMap-empty groups)

-- ---- the list of a place is bytes

two_zeros : AreBytes (0 ∷ 0 ∷ [])
two_zeros zero = omega arith
two_zeros (suc zero) = omega arith
two_zeros (suc (suc i)) = omega arith

bare_bytes : (kind : PageKind) → AreBytes (bare_list kind)
bare_bytes Chpx = no_bytes
bare_bytes Papx = two_zeros

answered_bytes : (kind : PageKind) (page : List ℕ) (answer : RunAnswer) (list : List ℕ) → AreBytes page →
    IsListAnswered kind page answer list → AreBytes list
answered_bytes kind page (Found from to) list bytes is = subst AreBytes (sym is) (AreBytes-range page from to bytes)
answered_bytes kind page Empty list bytes is = subst AreBytes (sym is) (bare_bytes kind)
answered_bytes kind page NoRun list bytes is = absurd is
answered_bytes kind page BadCount list bytes is = absurd is
answered_bytes kind page (Leaves entry) list bytes is = absurd is

pub list_at_bytes : (kind : PageKind) (bin wd : List ℕ) (fc : ℕ) (list : List ℕ) → AreBytes wd → HasListAt kind bin wd
    fc list → AreBytes list
list_at_bytes kind bin wd fc list bytes has =
    answered_bytes kind (page_at wd has.number) has.answer list (AreBytes-range wd (512 * has.number)
    (512 * has.number + 512) bytes) has.answered

-- the direct properties of a character in a stream of bytes are well formed
pub character_formed : (wd bin : List ℕ) (fc : ℕ) (modifier : Modifier) (properties : Properties) → AreBytes wd →
    IsFormedModifier modifier → IsDirectCharacter wd bin fc modifier properties → IsPropertyMap character_groups
    properties
character_formed wd bin fc modifier properties bytes formed is =
    IsPropertyMap-over character_groups modifier.clear modifier.chp is.made properties is.modified formed.chp
    (made_formed is.list character_groups is.made is.style (list_at_bytes Chpx bin wd fc is.list bytes is.has) is.makes)

-- ---- characters and marks

pub character_there : (wd bin : List ℕ) (fc : ℕ) (modifier : Modifier) → AreBytes wd → IsValid Chpx wd bin fc →
    IsValidModifier modifier → HasDirectCharacter wd bin fc modifier
character_there wd bin fc modifier bytes right is =
    let has = list_there Chpx wd bin fc bytes right in
    let made = properties_there has.list character_groups has.bytes has.accepted in
    let after = character_after modifier made.made in
    record {
      properties = after.new;
      is = record {
        list = has.list;
        has = has.has;
        made = made.made;
        style = made.style;
        makes = made.makes;
        modified = after.after;
      };
      formed = IsPropertyMap-over character_groups modifier.clear modifier.chp made.made after.new after.after
          is.formed.chp made.formed;
    }

small_or : (o : Option ℕ) (n : ℕ) → ForSome o (λ k. k < 65536) → n < 65536 → unwrap_or o n < 65536
small_or None n some less = less
small_or (Some k) n some less = some k refl

pub mark_there : (wd bin : List ℕ) (fc : ℕ) (modifier : Modifier) → AreBytes wd → IsValid Papx wd bin fc →
    IsValidModifier modifier → HasDirectMark wd bin fc modifier
mark_there wd bin fc modifier bytes right is =
    let has = list_there Papx wd bin fc bytes right in
    let made = properties_there (drop 2 has.list) paragraph_groups (AreBytes-drop 2 has.list has.bytes) has.accepted in
    let after = mark_after modifier made.made in
    record {
      istd = mark_style modifier (unwrap_or made.style (u16_at has.list 0));
      properties = after.new;
      is = record {
        list = has.list;
        has = has.has;
        made = made.made;
        style = made.style;
        makes = made.makes;
        style_is = refl;
        modified = after.after;
      };
      small =
          small_or modifier.istd (unwrap_or made.style (u16_at has.list 0)) is.small
          (small_or made.style (u16_at has.list 0) made.small (number_at-bound has.list 0 2 has.bytes));
      formed = IsPropertyMap-over paragraph_groups false modifier.pap made.made after.new after.after is.formed.pap
          made.formed;
    }

pub direct_properties_there : RightPlacesHaveProperties
direct_properties_there wd bin fc modifier bytes is = record {
  character = λ right. character_there wd bin fc modifier bytes (right_at Chpx wd bin fc right) is;
  mark = λ right. mark_there wd bin fc modifier bytes (right_at Papx wd bin fc right) is;
}
