-- The properties of what is generated: none, or bold.
use Rattle.std.proofs.Common.{◌≡◌, ◌∙◌, refl, sym, ap, inl, inr, ℕ, Bool, true, false, cond, not, List, [], ◌∷◌}
use Rattle.std.proofs.Common.{Option, Some, None}
use Rattle.std.specs.Ordering.{nat_cmp, eq_by_cmp}
use Rattle.std.specs.Cmp.{nat_cmp_total, unsigned_tied}
use Rattle.std.specs.Option.{option_or}
use Rattle.std.specs.FinMap.{get, empty, retain_keys, get-empty, get-insert}
use Rattle.std.proofs.lemmas.Bool.{eqb-true}
use Rattle.sprm_table.specs.Codes.{is_code_among}
use Rattle.prop_map.specs.Settings.{Properties}
use Rattle.prop_map.specs.Overlay.{overlay, without, modified_characters}
use Rattle.prop_map.proofs.Public.{get-retained, same_properties, get-overlay, overlay-empty}
use Rattle.edit_ops.specs.Fresh.{special_codes}
use Rattle.edit_ops.specs.Edits.{property_characters}
use Rattle.edit_generator.specs.GeneratedDocuments.{bold, IsBoldOrNone}
use Rattle.edit_ops.proofs.Public.{nothing_kept}

-- ---- what a test of codes leaves

abbrev pub kept_by : (ℕ → Bool) → Properties → Properties
kept_by p map = retain_keys map p

pub none_kept : (p : ℕ → Bool) → kept_by p empty ≡ empty
none_kept p = same_properties (kept_by p empty) empty (λ code.
    get-retained empty p code
    ∙ (nothing_kept (p code) (get empty code) (get-empty nat_cmp code) ∙ sym (get-empty nat_cmp code)))

abbrev one_value : Bool → Option (List ℕ)
one_value here = cond here (Some (1 ∷ [])) None

value_at : (code : ℕ) → get bold code ≡ one_value (eq_by_cmp nat_cmp code 0x0835)
value_at code =
    get-insert nat_cmp_total empty 0x0835 (1 ∷ []) code
    ∙ ap (λ o. cond (eq_by_cmp nat_cmp code 0x0835) (Some (1 ∷ [])) o) (get-empty nat_cmp code)

passed : (b : Bool) (o : Option (List ℕ)) → b ≡ true → cond b o None ≡ o
passed b o e = ap (λ c. cond c o None) e

kept : (p : ℕ → Bool) (code : ℕ) (here : Bool) → eq_by_cmp nat_cmp code 0x0835 ≡ here → p 0x0835 ≡ true →
    cond (p code) (one_value here) None ≡ one_value here
kept p code true same keeps =
    let is : code ≡ 0x0835 = eqb-true code 0x0835 (sym (unsigned_tied code 0x0835) ∙ same) in
    passed (p code) (Some (1 ∷ [])) (ap p is ∙ keeps)
kept p code false same keeps = nothing_kept (p code) None refl

bold_kept : (p : ℕ → Bool) → p 0x0835 ≡ true → kept_by p bold ≡ bold
bold_kept p keeps = same_properties (kept_by p bold) bold (λ code.
    get-retained bold p code
    ∙ (ap (λ o. cond (p code) o None) (value_at code)
    ∙ (kept p code (eq_by_cmp nat_cmp code 0x0835) refl keeps ∙ sym (value_at code))))

-- none makes a unit special
pub plain : (chp : Properties) → IsBoldOrNone chp → without special_codes chp ≡ chp
plain chp (inl none) = ap (without special_codes) none
    ∙ (none_kept (λ code. not (is_code_among code special_codes)) ∙ sym none)
plain chp (inr is) = ap (without special_codes) is
    ∙ (bold_kept (λ code. not (is_code_among code special_codes)) refl ∙ sym is)

-- ---- bold put over them

same_or : (o : Option (List ℕ)) → option_or o o ≡ o
same_or None = refl
same_or (Some value) = refl

twice : (map : Properties) → overlay map map ≡ map
twice map = same_properties (overlay map map) map (λ code. get-overlay map map code ∙ same_or (get map code))

pub set_bold : (chp : Properties) → IsBoldOrNone chp → modified_characters (property_characters bold) chp ≡ bold
set_bold chp (inl none) = ap (overlay bold) none ∙ overlay-empty bold
set_bold chp (inr is) = ap (overlay bold) is ∙ twice bold
