-- One map put over another, which may be cleared first.
use Rattle.std.proofs.Common.{◌≡◌, ℕ, Bool, true, false, cond, not, ◌&&◌, List, Option, Some, None, refl, sym, ap, ◌∙◌}
use Rattle.std.specs.Ordering.{nat_cmp}
use Rattle.std.specs.Option.{option_or}
use Rattle.std.specs.FinMap.{get, empty, get-empty}
use Rattle.prop_map.specs.Settings.{Properties}
use Rattle.prop_map.specs.Acting.{is_kept_by_plain}
use Rattle.prop_map.specs.Modifiers.{value_over}
use Rattle.prop_map.proofs.ChangeLemmas.{or_none}

pub over_nothing : (clear : Bool) (code : ℕ) (top base : Properties) → base ≡ empty → get top code ≡ value_over clear
    code (get top code) (get base code)
over_nothing clear code top base e = sym (ap (λ o. value_over clear code (get top code) o) (ap (λ m. get m code) e ∙
    get-empty nat_cmp code) ∙ or_nothing (get top code) (clear && not (is_kept_by_plain code)))
  where
    or_nothing : (o : Option (List ℕ)) (b : Bool) → option_or o (cond b None None) ≡ o
    or_nothing (Some v) b = refl
    or_nothing None true = refl
    or_nothing None false = refl

pub nothing_over : (code : ℕ) (top base : Properties) → top ≡ empty → get base code ≡ value_over false code
    (get top code) (get base code)
nothing_over code top base e = sym (ap (λ o. value_over false code o (get base code)) (ap (λ m. get m code) e ∙
    get-empty nat_cmp code))

-- a map put into an empty draft
pub put_first : (draft fresh base : Properties) (code : ℕ) → get draft code ≡ option_or (get base code)
    (get fresh code) → fresh ≡ empty → get draft code ≡ get base code
put_first draft fresh base code put e = put ∙ (ap (option_or (get base code)) (ap (λ m. get m code) e ∙ get-empty
    nat_cmp code) ∙ or_none (get base code))

pub cleared : (kept : Bool) (o : Option (List ℕ)) → cond kept o None ≡ option_or None (cond (true && not kept) None o)
cleared true o = refl
cleared false o = refl
