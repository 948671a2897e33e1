-- The rules on the FIB: their numbers ascend, and where they hold the fields are those of a FIB.
use Rattle.std.proofs.Common.{◌≡◌, ℕ, ◌+◌, ◌<◌, ◌≤◌, List, Option, slice_index, refl, sym, subst, inl, inr, arith}
use Rattle.std.proofs.Common.{rules, lit<, lit≤}
use Rattle.std.proofs.lemmas.Bool.{cases_lt}
use Rattle.std.proofs.lemmas.List.Elements.{All-from_get_or}
use Rattle.doc_bits.specs.Number.{u16_at}
use Rattle.doc_bits.specs.Rules.{Hold, IsSingle, Ascends, LeastOrNone}
use Rattle.doc_bits.proofs.Public.{least_same, number_at-bound}
use Rattle.fib_form.specs.Fib.{fib_pair, fib_pairs, fib_flags, fib_ccp_text, fib_ccp_ftn, fib_ccp_hdd, fib_pair_place}
use Rattle.fib_form.specs.FibFields.{fib_fields, listed_pair, IsWidePair, IsFib}
use Rattle.fib_form.specs.Fib.{form_pairs, fib_form, quick_saves_in}
use Rattle.fib_form.specs.FibRules.{fib_rules, IsWrongTail, IsWrongForm, IsWrongSize}
use Rattle.fib_form.specs.declared.form.Form.{Form}
use Rattle.fib_form.specs.declared.form.Form.TheVariants.{Early, Later}
use Rattle.fib_form.proofs.FibLemmas.{fib_form-by_pairs, not_other_form}
use Rattle.fib_form.proofs.FlagLemmas.{kept_flags-kept}
use Rattle.fib_form.proofs.PairLemmas.{length-fib_pairs, pair_at-fib_pairs}

pub fib_rules-IsSingle : (wd : List ℕ) → IsSingle (fib_rules wd)
fib_rules-IsSingle wd = search rules

pub fib_rules-Ascends : (wd : List ℕ) → Ascends (fib_rules wd) 16 25
fib_rules-Ascends wd = (
  17,
  (
    (lit≤ tt, lit< tt),
    (
      lit≤ tt,
      lit≤ tt,
      (
        18,
        (
          (lit≤ tt, lit< tt),
          (
            lit≤ tt,
            lit≤ tt,
            (
              19,
              (
                (lit≤ tt, lit< tt),
                (
                  lit≤ tt,
                  lit≤ tt,
                  (
                    20,
                    (
                      (lit≤ tt, lit< tt),
                      (
                        lit≤ tt,
                        lit≤ tt,
                        (
                          21,
                          (
                            (lit≤ tt, lit< tt),
                            (
                              lit≤ tt,
                              lit≤ tt,
                              (
                                22,
                                (
                                  (lit≤ tt, lit< tt),
                                  (
                                    lit≤ tt,
                                    lit≤ tt,
                                    (
                                      23,
                                      (
                                        (lit≤ tt, lit< tt),
                                        (
                                          lit≤ tt,
                                          lit≤ tt,
                                          (
                                            24,
                                            (
                                              (lit≤ tt, lit< tt),
                                              (
                                                lit≤ tt,
                                                lit≤ tt,
                                                (lit≤ tt, lit< tt),
                                              ),
                                            ),
                                          ),
                                        ),
                                      ),
                                    ),
                                  ),
                                ),
                              ),
                            ),
                          ),
                        ),
                      ),
                    ),
                  ),
                ),
              ),
            ),
          ),
        ),
      ),
    ),
  ),
)

-- with the form's number of pairs, the least break is that behind the pairs
pub wrong_form-tail : (form : Form) (wd : List ℕ) (found : Option ℕ) → u16_at wd 152 ≡ form_pairs form →
    LeastOrNone (IsWrongTail form wd) found → LeastOrNone (IsWrongForm wd) found
wrong_form-tail form wd found e least =
    let same : fib_form wd ≡ form = fib_form-by_pairs form wd e in
    least_same (IsWrongTail form wd) (IsWrongForm wd) found (λ p h. inr (subst (λ f. IsWrongTail f wd p) (sym same) h))
    (λ p h. elim h [
      | inl x ↦ absurd (not_other_form form wd p e x)
      | inr x ↦ subst (λ f. IsWrongTail f wd p) same x
    ]) least

-- with the right csw and cslw, the least break is one of the form
pub wrong_size-form : (wd : List ℕ) (found : Option ℕ) → u16_at wd 32 ≡ 14 → u16_at wd 62 ≡ 22 → LeastOrNone
    (IsWrongForm wd) found → LeastOrNone (IsWrongSize wd) found
wrong_size-form wd found csw cslw least = least_same (IsWrongForm wd) (IsWrongSize wd) found (λ p h. inr (inr h))
    (λ p h. elim h [
      | inl x ↦ absurd (x.1 csw)
      | inr y ↦ elim y [ inl x ↦ absurd (x.1 cslw) | inr x ↦ x ]
    ]) least

-- where what is behind the pairs is that of the form, the number of quick saves is below 16
quick_saves_in-bound : (form : Form) (wd : List ℕ) → ((p : ℕ) → IsWrongTail form wd p → ⊥) → quick_saves_in form wd <
    16
quick_saves_in-bound Early wd right = omega arith
quick_saves_in-bound Later wd right = elim (cases_lt 15 (quick_saves_in Later wd)) [
  | inl over ↦ absurd (right 1022 (inr (inr (refl, over))))
  | inr most ↦ omega arith
]

-- the fields of a stream that breaks no rule are those of a FIB
pub is_fib : (wd : List ℕ) → ((i : ℕ) → slice_index wd i < 256) → Hold (fib_rules wd) → IsFib (fib_fields wd)
is_fib wd bytes (_, (_, (_, (_, (_, (sizes, (_, (lengths, parts)))))))) =
    let pair : (n : ℕ) → n < 93 → listed_pair (fib_pairs wd) n ≡ fib_pair wd n = λ n h. pair_at-fib_pairs wd n h in
    let most : (n limit : ℕ) → n < 93 → (limit < (fib_pair wd n).1 → ⊥) → (listed_pair (fib_pairs wd) n).1 ≤ limit =
    λ n limit h not_over. rw (pair n h) (elim (cases_lt limit (fib_pair wd n).1) [
      | inl over ↦ absurd (not_over over)
      | inr at_most ↦ at_most
    ]) in
    record {
      languages = (number_at-bound wd 6 2 bytes, number_at-bound wd 60 2 bytes);
      flags = kept_flags-kept (fib_flags wd);
      quick_saves = quick_saves_in-bound (fib_form wd) wd (λ p h. sizes p (inr (inr (inr h))));
      which_table = omega arith;
      cb_mac = number_at-bound wd 64 4 bytes;
      counts = record {
        three = refl;
        main = elim (cases_lt 0 (fib_ccp_text wd)) [
          | inl some ↦ some
          | inr none ↦ absurd (lengths 76 (
            refl,
            inl (omega arith),
          ))
        ];
        all = elim (cases_lt 500000 (fib_ccp_text wd + fib_ccp_ftn wd + fib_ccp_hdd wd)) [
          | inl over ↦ absurd (lengths
              76 (refl, inr over))
          | inr most ↦ omega arith
        ];
      };
      pairs = record {
        count = length-fib_pairs wd;
        main_drawings = most 40 4 (lit< tt) (λ over. parts (fib_pair_place 40) (inl (refl, over)));
        header_drawings = most 41 4 (lit< tt) (λ over. parts (fib_pair_place 41) (inr (inl (refl, over))));
        endnotes = most 46 4 (lit< tt) (λ over. parts (fib_pair_place 46) (inr (inr (refl, over))));
      };
      wide = All-from_get_or IsWidePair (fib_pairs wd) (0, 0) (λ n h. let low : n < 93 = omega (
        arith,
        length-fib_pairs wd,
      ) in rw (pair n low) (
        number_at-bound wd (fib_pair_place n) 4 bytes,
        number_at-bound wd
            (fib_pair_place n + 4) 4 bytes,
      ));
    }
