-- Whether a code is one of several, code by code.
use Rattle.std.proofs.Common.{◌≡◌, ◌≢◌, ◌∙◌, refl, sym, ap, ℕ, zero, suc, ◌+◌, ◌<◌, ◌==◌, ◌||◌, Bool, true, false}
use Rattle.std.proofs.Common.{List, [], ◌∷◌, ◌++◌, map, length, take, get_or, arith}
use Rattle.std.proofs.lemmas.List.{take_more, map-append}
use Rattle.std.proofs.lemmas.Bool.{eq-eqb, eqb-true}
use Rattle.sprm_table.specs.declared.codes.Code.{Code}
use Rattle.sprm_table.specs.Codes.{is_code_among}

-- the numbers of these codes
abbrev pub numbers_of : List Code → List ℕ
numbers_of codes = map (λ c. c.0) codes

pub among_at : (code : ℕ) (codes : List Code) (i : ℕ) (d : Code) → i < length codes → (get_or codes i d).0 ≡ code →
    is_code_among code (numbers_of codes) ≡ true
among_at code [] i d within is = absurd (omega arith)
among_at code (c ∷ codes) zero d within is = ap (λ b. b || is_code_among code (numbers_of codes)) (eq-eqb code c.0 (sym
    is))
among_at code (c ∷ codes) (suc i) d within is = second_of (code == c.0) (is_code_among code (numbers_of codes))
    (among_at code codes i d (omega arith) is)
  where
    second_of : (a b : Bool) → b ≡ true → (a || b) ≡ true
    second_of true b e = refl
    second_of false b e = e

among-append : (code : ℕ) (xs : List ℕ) (x : ℕ) → is_code_among code xs ≡ false → code ≢ x → is_code_among code (xs ++ x
    ∷ []) ≡
    false
among-append code [] x none other = first_of (code == x) (λ e. other (eqb-true code x e))
  where
    first_of : (b : Bool) → (b ≡ true → ⊥) → (b || false) ≡ false
    first_of true = λ no. absurd (no refl)
    first_of false = λ no. refl
among-append code (y ∷ ys) x none other = elim (code == y) as (λ b. (b || is_code_among code ys) ≡ false →
    (b || is_code_among code (ys ++ x ∷ [])) ≡ false) [
      | true ↦ λ e. cc
      | false ↦ λ e. among-append code ys x e other
    ] none

pub among_more : (code : ℕ) (codes : List Code) (i : ℕ) (d : Code) → i < length codes → (get_or codes i d).0 ≢ code →
    is_code_among code (numbers_of (take i codes)) ≡ false → is_code_among code (numbers_of (take (i + 1) codes)) ≡
    false
among_more code codes i d within differ none =
    ap (λ cs. is_code_among code (numbers_of cs)) (take_more codes i d within)
    ∙ (ap (is_code_among code) (map-append (λ (c : Code). c.0) (take i codes) (get_or codes i d ∷ []))
    ∙ among-append code (numbers_of (take i codes)) (get_or codes i d).0 none (λ e. differ (sym e)))
