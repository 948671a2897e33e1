-- Tests, and what is not not so.
use Rattle.std.proofs.Common.{◌≡◌, inl, inr, ℕ, ◌≤◌, Bool, true, false, ◌&&◌, not, cond, Option, Some, refl, arith, ◌<◌}
use Rattle.std.specs.Option.{option_or}
use Rattle.std.proofs.lemmas.Bool.{cases_lt, cases_eq, eqb-true}
use Rattle.std.proofs.Common.{◌||◌, ◌==◌, None, is_some}
use Rattle.std.specs.Prelude.{nat_lt}
use Rattle.std.proofs.lemmas.Bool.Decides.{nat_tests}

-- both tests pass
pub both_true : (a b : Bool) → (a && b) ≡ true → (a ≡ true) × (b ≡ true)
both_true true b h = (refl, h)
both_true false b h = absurd (cc)

-- a test whose opposite fails passes
pub true_from_not : (b : Bool) → false ≡ not b → b ≡ true
true_from_not true e = refl
true_from_not false e = cc

-- what lies in front of a value and of what was there before
pub either : {A : Type 0} (b : Bool) (v : A) (o before : Option A) → cond b (Some v) (option_or o before) ≡ option_or
    (cond b (Some v) o) before
either true v o before = refl
either false v o before = refl

pub stable_le : (a b : ℕ) → ¬ ¬ (a ≤ b) → a ≤ b
stable_le a b twice = elim (cases_lt b a) [ inl over ↦ absurd (twice (λ le. omega arith)) | inr le ↦ le ]

pub stable_eq : (a b : ℕ) → ¬ ¬ (a ≡ b) → a ≡ b
stable_eq a b twice = elim (cases_eq a b) [ inl e ↦ e | inr differ ↦ absurd (twice differ) ]

pub and_true : (a b : Bool) → a ≡ true → b ≡ true → (a && b) ≡ true
and_true true b e f = f
and_true false b e f = absurd (cc (e))

pub and_first : (a b : Bool) → (a && b) ≡ true → a ≡ true
and_first true b e = refl
and_first false b e = e

pub and_second : (a b : Bool) → (a && b) ≡ true → b ≡ true
and_second true b e = e
and_second false b e = absurd (cc (e))

pub second_false : (low high : Bool) → (low && high) ≡ false → low ≡ true → high ≡ false
second_false true high e l = e
second_false false high e l = absurd (cc (l))

-- neither of two is there
pub neither : (a b : Bool) → (a || b) ≡ false → (a ≡ false) × (b ≡ false)
neither false false e = (refl, refl)
neither false true e = absurd (cc e)
neither true b e = absurd (cc e)

pub and_false : (x : Bool) → (x && false) ≡ false
and_false true = refl
and_false false = refl

pub or_first : (x y : Bool) → x ≡ true → (x || y) ≡ true
or_first true y is = refl
or_first false y is = absurd (cc is)

pub or_second : (a b : Bool) → b ≡ true → (a || b) ≡ true
or_second true b e = refl
or_second false b e = e

pub or_true : (b : Bool) → (b || true) ≡ true
or_true true = refl
or_true false = refl

pub or_false : (b : Bool) → (b || false) ≡ b
or_false true = refl
or_false false = refl

pub not_true : (a : Bool) → not a ≡ true → a ≡ false
not_true true e = absurd (cc (e))
not_true false e = refl

pub not_zero : (n : ℕ) → 0 < n → (n == 0) ≡ false
not_zero n some = elim (n == 0) as (λ b. (n == 0) ≡ b → b ≡ false) [
  | true ↦ λ e. let none = eqb-true n 0 e in absurd (omega arith)
  | false ↦ λ e. refl
] refl

pub both_are : (a b : Bool) → true ≡ (a && b) → (a ≡ true) × (b ≡ true)
both_are true true is = (refl, refl)
both_are true false is = absurd (cc)
both_are false b is = absurd (cc)

pub first_false : (held first : Bool) → held ≡ false → (held && first) ≡ false
first_false held first e = rw e refl

pub ltb_false : (a b : ℕ) → b ≤ a → nat_lt a b ≡ false
ltb_false a b h = grind (arith, nat_tests)

pub none_is : {A : Type 0} (o : Option A) → is_some o ≡ false → o ≡ None
none_is None e = refl
none_is (Some a) e = absurd (cc (e))
