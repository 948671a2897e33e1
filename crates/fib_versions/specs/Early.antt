-- The FIB of the early form that is in front of a WordDocument in place of its own, whatever version that has: the
-- same counts and kept fields, and the pairs of the parts that this profile has a meaning for.
use Rattle.std.specs.Prelude.{ℕ, ◌==◌, Bool, false, List, [], ◌∷◌, ◌++◌, length, map, drop, if◌then◌else◌}
use Rattle.std.specs.List.{list_any, range_with_len}
use Rattle.fib_form.specs.declared.form.Form.TheVariants.{Early}
use Rattle.fib_form.specs.Fib.{kept_pairs, form_size, fib_pair}
use Rattle.fib_form.specs.FibFields.{FibFields, fib_fields}
use Rattle.fib_form.specs.FibBytes.{written_fib}

-- the numbers of the pairs of these parts, in the order of fib_form's `pair_of`
abbrev pub part_pairs : List ℕ
part_pairs = 1 ∷ 2 ∷ 3 ∷ 6 ∷ 11 ∷ 12 ∷ 13 ∷ 15 ∷ 16 ∷ 17 ∷ 18 ∷ 21 ∷ 22 ∷ 23 ∷ 31 ∷ 32 ∷ 33 ∷ 73 ∷ 74 ∷ []

-- such a pair stays, another one is that of an empty part
abbrev pub early_pair : List ℕ → ℕ → ℕ × ℕ
early_pair wd n = if list_any (λ part. part == n) part_pairs then fib_pair wd n else (0, 0)

unfoldable pub early_pairs : List ℕ → List (ℕ × ℕ)
early_pairs wd = map (early_pair wd) (range_with_len 0 kept_pairs)

-- the fields, with these pairs
abbrev pub early_fields : List ℕ → List (ℕ × ℕ) → FibFields
early_fields wd pairs = record {
  form = Early;
  kept = (fib_fields wd).kept;
  quick_saves = 0;
  complex = false;
  which_table = 1;
  cb_mac = length wd;
  ccps = (fib_fields wd).ccps;
  pairs = pairs;
}

-- the stream with this FIB in front; all behind it stays
abbrev pub early_wd : List ℕ → List (ℕ × ℕ) → List ℕ
early_wd wd pairs = written_fib (early_fields wd pairs) ++ drop (form_size Early) wd
