-- The rules on the FIB of any program: their numbers ascend, and where they hold its numbers are bounded.
use Rattle.std.proofs.Common.{◌≡◌, ◌≢◌, ℕ, zero, suc, ◌+◌, ◌*◌, ◌<◌, ◌≤◌, ◌==◌, Bool, true, false, if◌then◌else◌, List}
use Rattle.std.proofs.Common.{length, refl, inl, inr, arith, rules}
use Rattle.std.proofs.Common.{lit<, lit≤}
use Rattle.std.proofs.lemmas.Bool.{cases_lt}
use Rattle.doc_bits.specs.Rules.{Hold, IsSingle, Ascends}
use Rattle.fib_form.specs.Fib.{WIdent, NFib, fib_number, fib_ccp_text}
use Rattle.fib_form.specs.FibFields.{fib_fields, AreFibCcps}
use Rattle.fib_versions.specs.Versions.{fib_pair_count, csw_new, version_size, further_ccp, further_ccps, all_ccp}
use Rattle.fib_versions.specs.VersionRules.{version_rules, IsOpenFib, oldest_fib}

pub version_rules-IsSingle : (wd : List ℕ) → IsSingle (version_rules wd)
version_rules-IsSingle wd = search rules

pub version_rules-Ascends : (wd : List ℕ) → Ascends (version_rules wd) 16 24
version_rules-Ascends wd = (
  17,
  (
    (lit≤ tt, lit< tt),
    (
      lit≤ tt,
      lit≤ tt,
      (
        18,
        (
          (lit≤ tt, lit< tt),
          (
            lit≤ tt,
            lit≤ tt,
            (
              19,
              (
                (lit≤ tt, lit< tt),
                (
                  lit≤ tt,
                  lit≤ tt,
                  (
                    20,
                    (
                      (lit≤ tt, lit< tt),
                      (
                        lit≤ tt,
                        lit≤ tt,
                        (
                          21,
                          (
                            (lit≤ tt, lit< tt),
                            (
                              lit≤ tt,
                              lit≤ tt,
                              (
                                22,
                                (
                                  (lit≤ tt, lit< tt),
                                  (lit≤ tt, lit≤ tt, (lit≤ tt, lit< tt)),
                                ),
                              ),
                            ),
                          ),
                        ),
                      ),
                    ),
                  ),
                ),
              ),
            ),
          ),
        ),
      ),
    ),
  ),
)

-- a number that cannot differ from another is equal to it
equal_from : (a b : ℕ) → ((a ≢ b) → ⊥) → a ≡ b
equal_from a b not_other = elim (cases_lt a b) [
  | inl low ↦ absurd (not_other (λ e. omega (arith, e, low)))
  | inr most ↦ elim (cases_lt b a) [
    | inl high ↦ absurd (not_other (λ e. omega (arith, e, high)))
    | inr least ↦ omega arith
  ]
]

-- where the rules hold the stream has the early form's bytes
pub long_enough : (wd : List ℕ) → Hold (version_rules wd) → 900 ≤ length wd
long_enough wd (size, _) = elim (cases_lt (length wd) 900) [
  | inl short ↦ absurd (size (length wd) (refl, inl short))
  | inr most ↦ most
]

-- its numbers are those of such a program
pub open_fib : (wd : List ℕ) → Hold (version_rules wd) → IsOpenFib wd
open_fib wd (_, (ident, (older, (hidden, _)))) = record {
  ident = equal_from (fib_number WIdent wd) 0xA5EC (λ other. ident 0 (refl, other));
  recent = elim (cases_lt (fib_number NFib wd) oldest_fib) [
    | inl low ↦ absurd (older 2 (refl, low))
    | inr most ↦ most
  ];
  encrypted = λ e. hidden 10 (refl, inl e);
  obfuscated = λ e. hidden 10 (refl, inr e);
}

-- all its pairs are in the stream, and what is behind them
pub all_there : (wd : List ℕ) → Hold (version_rules wd) → version_size wd ≤ length wd
all_there wd hold = elim (cases_lt (length wd) (version_size wd)) [
  | inl short ↦ absurd (hold.0 (length wd) (refl, inr (open_fib wd hold, short)))
  | inr most ↦ most
]

least_new : (early : Bool) → 2 ≤ (if early then 2 else 6)
least_new true = lit≤ tt
least_new false = lit≤ tt

pub pairs_there : (wd : List ℕ) → Hold (version_rules wd) → 154 + 8 * fib_pair_count wd + 2 ≤ length wd
pairs_there wd hold = omega (arith, all_there wd hold, least_new (csw_new wd == 0))

-- it has 93 pairs at least
pub enough_pairs : (wd : List ℕ) → Hold (version_rules wd) → 93 ≤ fib_pair_count wd
enough_pairs wd (_, (_, (_, (_, (_, (form, _)))))) = elim (cases_lt (fib_pair_count wd) 93) [
  | inl few ↦ absurd (form 152 (inr (inr (refl, few))))
  | inr most ↦ most
]

-- there is a main text, and all stories have at most 500,000 characters
pub some_text : (wd : List ℕ) → Hold (version_rules wd) → 1 ≤ fib_ccp_text wd
some_text wd (_, (_, (_, (_, (_, (_, lengths)))))) = elim (cases_lt 0 (fib_ccp_text wd)) [
  | inl some ↦ some
  | inr none ↦ absurd (lengths 76 (refl, inl (omega arith)))
]

pub few_characters : (wd : List ℕ) → Hold (version_rules wd) → all_ccp wd ≤ 500000
few_characters wd (_, (_, (_, (_, (_, (_, lengths)))))) = elim (cases_lt 500000 (all_ccp wd)) [
  | inl over ↦ absurd (lengths 76 (refl, inr over))
  | inr most ↦ most
]

-- one story more is within all of them
pub further-within : (wd : List ℕ) (k : ℕ) → k < 4 → further_ccps wd k + further_ccp wd k ≤ further_ccps wd 4
further-within wd zero h = omega arith
further-within wd (suc zero) h = omega arith
further-within wd (suc (suc zero)) h = omega arith
further-within wd (suc (suc (suc zero))) h = omega arith
further-within wd (suc (suc (suc (suc k)))) h = absurd (omega (arith, h))

-- the counts of the early FIB
pub early_counts : (wd : List ℕ) → Hold (version_rules wd) → AreFibCcps (fib_fields wd).ccps
early_counts wd hold = record {
  three = refl;
  main = some_text wd hold;
  all = omega (arith, few_characters wd hold);
}
