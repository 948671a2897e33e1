-- The early FIB: its pairs, and that it is a FIB.
use Rattle.std.proofs.Common.{◌≡◌, ◌∙◌, ℕ, ◌+◌, ◌<◌, ◌^◌, List, length, drop, ap, inl, inr, zero-add, arith, lit<}
use Rattle.std.proofs.Common.{Bool, true, false, if◌then◌else◌, ◌==◌}
use Rattle.std.specs.Prelude.{slice_set}
use Rattle.std.specs.List.{list_any}
use Rattle.std.proofs.lemmas.Bool.{cases_lt}
use Rattle.std.proofs.lemmas.List.{get_or-set_other, get_or-set_same}
use Rattle.std.proofs.lemmas.List.Elements.{All-from_get_or}
use Rattle.std.proofs.lemmas.List.FromFn.{fill_by_all, get_or-map-range_with_len, length-map-range_with_len}
use Rattle.doc_bits.specs.Number.{AreBytes}
use Rattle.doc_bits.specs.Rules.{Hold}
use Rattle.doc_bits.proofs.Public.{number_at-bound}
use Rattle.fib_form.specs.declared.form.Form.TheVariants.{Early}
use Rattle.fib_form.specs.Fib.{kept_pairs, form_size, fib_flags, fib_pair, fib_pair_place}
use Rattle.fib_form.specs.FibFields.{listed_pair, fib_fields, ArePairs, IsWidePair, IsFib}
use Rattle.fib_form.proofs.Public.{read_back, kept_flags-kept}
use Rattle.fib_versions.specs.Early.{part_pairs, early_pair, early_pairs, early_fields, early_wd}
use Rattle.fib_versions.specs.VersionRules.{version_rules}
use Rattle.fib_versions.proofs.VersionLemmas.{early_counts}

-- pairs that are all those of the early FIB
pub early_pairs-by_place : (wd : List ℕ) (pairs : List (ℕ × ℕ)) → length pairs ≡ kept_pairs →
    ((n : ℕ) → n < kept_pairs → listed_pair pairs n ≡ early_pair wd n) → pairs ≡ early_pairs wd
unfolding early_pairs
early_pairs-by_place wd pairs count same = fill_by_all (early_pair wd) pairs kept_pairs (0, 0) count same

pub length-early_pairs : (wd : List ℕ) → length (early_pairs wd) ≡ kept_pairs
unfolding early_pairs
length-early_pairs wd = length-map-range_with_len (early_pair wd) 0 kept_pairs

pub pair_at-early_pairs : (wd : List ℕ) (n : ℕ) → n < kept_pairs → listed_pair (early_pairs wd) n ≡ early_pair wd n
unfolding early_pairs
pair_at-early_pairs wd n h = get_or-map-range_with_len (early_pair wd) 0 kept_pairs n n (0, 0) h (zero-add n)

-- they are pairs that a FIB may have: drawings and endnotes are no part of it
pub early-ArePairs : (wd : List ℕ) → ArePairs (early_pairs wd)
early-ArePairs wd = record {
  count = length-early_pairs wd;
  main_drawings = omega (arith, ap (λ pair. pair.1) (pair_at-early_pairs wd 40 (lit< tt)));
  header_drawings = omega (arith, ap (λ pair. pair.1) (pair_at-early_pairs wd 41 (lit< tt)));
  endnotes = omega (arith, ap (λ pair. pair.1) (pair_at-early_pairs wd 46 (lit< tt)));
}

-- one pair more is put
pub pairs_step : (wd : List ℕ) (pairs : List (ℕ × ℕ)) (n : ℕ) (pair : ℕ × ℕ) → n < length pairs →
    ((k : ℕ) → k < n → listed_pair pairs k ≡ early_pair wd k) → pair ≡ early_pair wd n → (k : ℕ) → k < n + 1 →
    listed_pair (slice_set pairs n pair) k ≡ early_pair wd k
pairs_step wd pairs n pair there before here k below = elim (cases_lt k n) [
  | inl low ↦ get_or-set_other pairs n k pair (0, 0) (λ e. omega (arith, e, low)) ∙ before k low
  | inr high ↦
      let e : k ≡ n = omega arith in
      rw e (get_or-set_same pairs n pair (0, 0) there ∙ here)
]

-- its pairs have 32-bit numbers
wide_if : (kept : Bool) (pair : ℕ × ℕ) → IsWidePair pair → IsWidePair (if kept then pair else (0, 0))
wide_if true pair wide = wide
wide_if false pair wide = (lit< tt, lit< tt)

early_wide : (wd : List ℕ) (n : ℕ) → AreBytes wd → IsWidePair (early_pair wd n)
early_wide wd n bytes =
    wide_if (list_any (λ part. part == n) part_pairs) (fib_pair wd n)
    (number_at-bound wd (fib_pair_place n) 4 bytes, number_at-bound wd (fib_pair_place n + 4) 4 bytes)

-- that of a stream which breaks none of the rules is a FIB
pub early-IsFib : (wd : List ℕ) → AreBytes wd → length wd < 2 ^ 32 → Hold (version_rules wd) →
    IsFib (early_fields wd (early_pairs wd))
early-IsFib wd bytes small hold = record {
  languages = (number_at-bound wd 6 2 bytes, number_at-bound wd 60 2 bytes);
  flags = kept_flags-kept (fib_flags wd);
  quick_saves = lit< tt;
  which_table = lit< tt;
  cb_mac = small;
  counts = early_counts wd hold;
  pairs = early-ArePairs wd;
  wide = All-from_get_or IsWidePair (early_pairs wd) (0, 0) (λ n here.
      let below : n < kept_pairs = omega (arith, here, length-early_pairs wd) in
      rw (pair_at-early_pairs wd n below) (early_wide wd n bytes));
}

-- so it is read back
pub early-read_back : (wd : List ℕ) → AreBytes wd → length wd < 2 ^ 32 → Hold (version_rules wd) →
    fib_fields (early_wd wd (early_pairs wd)) ≡ early_fields wd (early_pairs wd)
early-read_back wd bytes small hold =
    (read_back (early_fields wd (early_pairs wd)) (drop (form_size Early) wd) (early-IsFib wd bytes small hold)).1
