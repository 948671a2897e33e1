-- Maps made of maps: the functions are what the relations say, and stay well formed.
use Rattle.std.proofs.Common.{◌≡◌, ◌∙◌, refl, sym, ap, ℕ, Bool, true, false, cond, not, ◌&&◌, List, [], ◌∷◌, ◌++◌}
use Rattle.std.proofs.Common.{Option, Some, None}
use Rattle.std.specs.Ordering.{nat_cmp, eq_by_cmp}
use Rattle.std.specs.Cmp.{nat_cmp_total}
use Rattle.std.specs.Option.{option_or}
use Rattle.std.specs.FinMap.{get, empty, retain_keys, entries, find, get-empty}
use Rattle.std.specs.FinMap.{get-entries, get-from_entries, same_map, nat_cmp-IsAntisymmetric}
use Rattle.sprm_table.specs.Codes.{is_code_among}
use Rattle.prop_map.specs.declared.modifiers.Modifier.{Modifier}
use Rattle.prop_map.specs.Settings.{Properties}
use Rattle.prop_map.specs.Entries.{Entries}
use Rattle.prop_map.specs.Formed.{IsPropertyMap}
use Rattle.prop_map.specs.Acting.{is_kept_by_plain}
use Rattle.prop_map.specs.Modifiers.{IsOver, IsCharacterAfter, IsMarkAfter, IsComposed}
use Rattle.prop_map.specs.Overlay.{overlay, without, cleared_where, modified_characters, modified_paragraph}
use Rattle.prop_map.specs.Overlay.{composed}
use Rattle.doc_bits.proofs.Public.{either}
use Rattle.prop_map.proofs.ChangeLemmas.{get-retained, or_none}
use Rattle.prop_map.proofs.ModifierLemmas.{IsPropertyMap-over}

-- maps with the same values are one
pub same_properties : (one other : Properties) → ((code : ℕ) → get one code ≡ get other code) → one ≡ other
same_properties one other e = same_map nat_cmp_total nat_cmp-IsAntisymmetric one other e

-- ---- one map over another

find_both : (code : ℕ) (xs ys : Entries) → find nat_cmp code (xs ++ ys) ≡ option_or (find nat_cmp code xs)
    (find nat_cmp code ys)
find_both code [] ys = refl
find_both code (x ∷ xs) ys =
    ap (λ o. cond (eq_by_cmp nat_cmp code x.0) (Some x.1) o) (find_both code xs ys)
    ∙ either (eq_by_cmp nat_cmp code x.0) x.1 (find nat_cmp code xs) (find nat_cmp code ys)

pub get-overlay : (set base : Properties) (code : ℕ) → get (overlay set base) code ≡ option_or (get set code)
    (get base code)
get-overlay set base code =
    get-from_entries nat_cmp_total (entries set ++ entries base) code
    ∙ (find_both code (entries set) (entries base)
    ∙ (ap (λ o. option_or o (find nat_cmp code (entries base))) (sym (get-entries set code))
    ∙ ap (option_or (get set code)) (sym (get-entries base code))))

unless_kept : (kept : Bool) (o : Option (List ℕ)) → cond kept o None ≡ cond (true && not kept) None o
unless_kept true o = refl
unless_kept false o = refl

pub get-cleared_where : (clear : Bool) (base : Properties) (code : ℕ) → get (cleared_where clear base) code ≡ cond
    (clear && not (is_kept_by_plain code)) None (get base code)
get-cleared_where true base code = get-retained base is_kept_by_plain code ∙ unless_kept (is_kept_by_plain code) (get
    base code)
get-cleared_where false base code = refl

pub get-without : (codes : List ℕ) (map : Properties) (code : ℕ) → get (without codes map) code ≡ cond
    (not (is_code_among code codes)) (get map code) None
get-without codes map code = get-retained map (λ key. not (is_code_among key codes)) code

-- ---- the relations say the functions

pub is_over : (clear : Bool) (top base : Properties) → IsOver clear top base (overlay top (cleared_where clear base))
is_over clear top base code = get-overlay top (cleared_where clear base) code ∙ ap (option_or (get top code))
    (get-cleared_where clear base code)

pub over_one : (clear : Bool) (top base made : Properties) → IsOver clear top base made → made ≡ overlay top
    (cleared_where clear base)
over_one clear top base made is = same_properties made (overlay top (cleared_where clear base)) (λ code. is code ∙ sym
    (is_over clear top base code))

pub is_overlay : (top base made : Properties) → IsOver false top base made → made ≡ overlay top base
is_overlay top base made is = over_one false top base made is

-- a character and a mark after a modifier
pub characters_after : (modifier : Modifier) (chp made : Properties) → IsCharacterAfter modifier chp made →
    made ≡ modified_characters modifier chp
characters_after modifier chp made is = over_one modifier.clear modifier.chp chp made is

pub is_modified_characters : (modifier : Modifier) (chp : Properties) → IsCharacterAfter modifier chp
    (modified_characters modifier chp)
is_modified_characters modifier chp = is_over modifier.clear modifier.chp chp

pub paragraph_after : (modifier : Modifier) (pap made : Properties) → IsMarkAfter modifier pap made →
    made ≡ modified_paragraph modifier pap
paragraph_after modifier pap made is = over_one false modifier.pap pap made is

pub is_modified_paragraph : (modifier : Modifier) (pap : Properties) → IsMarkAfter modifier pap (modified_paragraph
    modifier pap)
is_modified_paragraph modifier pap = is_over false modifier.pap pap

-- one modifier after another
pub composed_one : (first next made : Modifier) → IsComposed first next made → made ≡ composed first next
composed_one first next made is =
    let istd = is.istd in
    let clear = is.clear in
    let chp = over_one next.clear next.chp first.chp made.chp is.chp in
    let pap = over_one false next.pap first.pap made.pap is.pap in
    λ i. record { istd = istd i; clear = clear i; chp = chp i; pap = pap i }

pub is_composed : (first next : Modifier) → IsComposed first next (composed first next)
is_composed first next = record {
  istd = refl;
  clear = refl;
  chp = is_over next.clear next.chp first.chp;
  pap = is_over false next.pap first.pap;
}

-- ---- nothing over a map, and a map over nothing

pub overlay-empty : (set : Properties) → overlay set empty ≡ set
overlay-empty set = same_properties (overlay set empty) set (λ code. get-overlay set empty code ∙
    (ap (option_or (get set code)) (get-empty nat_cmp code) ∙ or_none (get set code)))

pub empty-overlay : (base : Properties) → overlay empty base ≡ base
empty-overlay base = same_properties (overlay empty base) base (λ code. get-overlay empty base code ∙ ap (λ o. option_or
    o (get base code)) (get-empty nat_cmp code))

-- ---- acting with lists that do nothing else

-- ---- well formed

pub overlay_formed : (groups : ℕ) (set base : Properties) → IsPropertyMap groups set → IsPropertyMap groups base →
    IsPropertyMap groups (overlay set base)
overlay_formed groups set base later earlier = IsPropertyMap-over groups false set base (overlay set base)
    (is_over false set base) later earlier

where_kept : (b : Bool) (o : Option (List ℕ)) (value : List ℕ) → cond b o None ≡ Some value → o ≡ Some value
where_kept true o value e = e
where_kept false o value e = absurd (cc)

pub retained_formed : (groups : ℕ) (p : ℕ → Bool) (map : Properties) → IsPropertyMap groups map → IsPropertyMap groups
    (retain_keys map p)
retained_formed groups p map formed code value e = formed code value (where_kept (p code) (get map code) value
    (sym (get-retained map p code) ∙ e))

pub without_formed : (groups : ℕ) (codes : List ℕ) (map : Properties) → IsPropertyMap groups map → IsPropertyMap groups
    (without codes map)
without_formed groups codes map formed = retained_formed groups (λ code. not (is_code_among code codes)) map formed
