-- A map without its codes that pass a test.
use Rattle.std.proofs.Common.{◌≡◌, ◌∙◌, refl, sym, ap, ℕ, Bool, true, false, cond, not, ◌==◌, ◌||◌, List, [], ◌∷◌}
use Rattle.std.proofs.Common.{map, Option, Some, None, arith}
use Rattle.std.specs.List.{filter}
use Rattle.std.specs.Ordering.{nat_cmp}
use Rattle.std.specs.Cmp.{unsigned_tied}
use Rattle.std.specs.FinMap.{get, retain_keys, entries, find, get-entries}
use Rattle.std.proofs.lemmas.Bool.{eqb-true}
use Rattle.sprm_table.specs.Codes.{is_code_among}
use Rattle.prop_map.specs.Settings.{Properties}
use Rattle.prop_map.specs.Entries.{Entries}
use Rattle.prop_map.specs.Overlay.{without}
use Rattle.prop_map.proofs.Public.{get-retained, same_properties, get-without}

abbrev pub keys : Entries → List ℕ
keys es = map (λ entry. entry.0) es

-- whether a code is among one more that may be kept
among_one : (p : ℕ → Bool) (code k : ℕ) (ks : List ℕ) (test same : Bool) → p code ≡ false → p k ≡ test →
    (code == k) ≡ same → is_code_among code ks ≡ false → is_code_among code (cond test (k ∷ ks) ks) ≡ false
among_one p code k ks false same fails passes is rest = rest
among_one p code k ks true false fails passes is rest = ap (λ b. b || is_code_among code ks) is ∙ rest
among_one p code k ks true true fails passes is rest = absurd (grind (
  arith,
  sym fails ∙ (ap p (eqb-true code k is) ∙
      passes),
))

-- a code that does not pass is not among those that do
among_none : (p : ℕ → Bool) (code : ℕ) (ks : List ℕ) → p code ≡ false → is_code_among code (filter p ks) ≡ false
among_none p code [] fails = refl
among_none p code (k ∷ ks) fails = among_one p code k (filter p ks) (p k) (code == k) fails refl refl (among_none p
    code ks fails)

first_found : (p : ℕ → Bool) (code k : ℕ) (ks : List ℕ) (test : Bool) → p code ≡ true → p k ≡ test →
    (code == k) ≡ true → is_code_among code (cond test (k ∷ ks) ks) ≡ true
first_found p code k ks true passes is same = ap (λ b. b || is_code_among code ks) same
first_found p code k ks false passes is same = absurd (grind (arith, sym passes ∙ (ap p (eqb-true code k same) ∙ is)))

later_found : (code k : ℕ) (ks : List ℕ) (test : Bool) → (code == k) ≡ false → is_code_among code ks ≡ true →
    is_code_among code (cond test (k ∷ ks) ks) ≡ true
later_found code k ks true other rest = ap (λ b. b || is_code_among code ks) other ∙ rest
later_found code k ks false other rest = rest

one_found : (p : ℕ → Bool) (code k : ℕ) (ks : List ℕ) (same : Bool) → p code ≡ true → (code == k) ≡ same →
    ((code == k) ≡ false → is_code_among code ks ≡ true) → is_code_among code (cond (p k) (k ∷ ks) ks) ≡ true
one_found p code k ks true passes is rest = first_found p code k ks (p k) passes refl is
one_found p code k ks false passes is rest = later_found code k ks (p k) is (rest is)

later_entry : (code : ℕ) (e : ℕ × List ℕ) (es : Entries) (value : List ℕ) → find nat_cmp code (e ∷ es) ≡ Some value →
    (code == e.0) ≡ false → find nat_cmp code es ≡ Some value
later_entry code e es value there other = sym (ap (λ b. cond b (Some e.1) (find nat_cmp code es)) (unsigned_tied code
    e.0 ∙ other)) ∙ there

-- one that passes is, where an entry has it
among_there : (p : ℕ → Bool) (code : ℕ) (es : Entries) (value : List ℕ) → p code ≡ true → find nat_cmp code es ≡ Some
    value → is_code_among code (filter p (keys es)) ≡ true
among_there p code [] value passes there = absurd (cc (there))
among_there p code (e ∷ es) value passes there =
    one_found p code e.0 (filter p (keys es)) (code == e.0) passes refl
    (λ other. among_there p code es value passes (later_entry code e es value there other))

pub nothing_kept : (b : Bool) (found : Option (List ℕ)) → found ≡ None → cond b found None ≡ None
nothing_kept true found is = is
nothing_kept false found is = refl

among_is : (p : ℕ → Bool) (properties : Properties) (code : ℕ) (value : List ℕ) (test : Bool) → p code ≡ test →
    find nat_cmp code (entries properties) ≡ Some value → is_code_among code (filter p (keys (entries properties))) ≡
    test
among_is p properties code value true passes there = among_there p code (entries properties) value passes there
among_is p properties code value false passes there = among_none p code (keys (entries properties)) passes

by_value : (p : ℕ → Bool) (properties : Properties) (code : ℕ) (o : Option (List ℕ)) → find nat_cmp code
    (entries properties) ≡ o → cond (not (is_code_among code (filter p (keys (entries properties))))) o None ≡ cond
    (not (p code)) o None
by_value p properties code None there = nothing_kept (not (is_code_among code (filter p (keys (entries properties)))))
    None
    refl ∙ sym (nothing_kept (not (p code)) None refl)
by_value p properties code (Some value) there = ap (λ b. cond (not b) (Some value) None) (among_is p properties code
    value
    (p code) refl there)

-- the map without its codes that pass
pub without_listed : (p : ℕ → Bool) (properties : Properties) → without (filter p (keys (entries properties)))
    properties ≡
    retain_keys properties (λ code. not (p code))
without_listed p properties =
    same_properties (without (filter p (keys (entries properties))) properties) (retain_keys properties (λ code. not
    (p code))) (λ code.
    get-without (filter p (keys (entries properties))) properties code
    ∙ (by_value p properties code (get properties code) (sym (get-entries properties code)) ∙ sym (get-retained
    properties
    (λ key. not (p key)) code)))
