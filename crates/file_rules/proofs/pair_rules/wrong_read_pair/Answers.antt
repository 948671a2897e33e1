use Rattle.std.proofs.Common.{◌≡◌, ◌<◌, ◌∙◌, refl, arith, slice_index, ℕ, zero, suc, List, [], ◌∷◌, lit<}
use Rattle.std.proofs.lemmas.Bool.{false≢true}
use Rattle.fib_form.specs.Fib.{fib_pair}
use Rattle.file_rules.specs.PairRules.{read_pairs}
use Rattle.file_rules.proofs.PartLemmas.{pair-read}
use Rattle.file_rules.proofs.pair_rules.wrong_read_pair.Goals as goal

-- all numbers are those of pairs
AreBelow : List ℕ → Type 0
AreBelow [] = Unit {0}
AreBelow (n ∷ ns) = (n < 93) × AreBelow ns

below_at : (ns : List ℕ) (k : ℕ) → AreBelow ns → slice_index ns k < 93
unfolding AreBelow
below_at [] k all = omega arith
below_at (n ∷ ns) zero all = all.0
below_at (n ∷ ns) (suc k) all = below_at ns k all.1

-- the numbers of the pairs that are read are those of pairs
read_pairs-below : (k : ℕ) → slice_index read_pairs k < 93
unfolding AreBelow
read_pairs-below k =
    below_at read_pairs k (
      lit< tt,
      (
        lit< tt,
        (
          lit< tt,
          (
            lit< tt,
            (
              lit< tt,
              (
                lit< tt,
                (
                  lit< tt,
                  (lit< tt, (lit< tt, (lit< tt, (lit< tt, (lit< tt, (lit< tt, (lit< tt, (lit< tt, (lit< tt, tt))))))))),
                ),
              ),
            ),
          ),
        ),
      ),
    )

pub returns-then-is_wrong_part : goal.returns-then-is_wrong_part
returns-then-is_wrong_part c = λ wd fields.
    let n = slice_index read_pairs c.args.k in
    let pair : c.pair.result ≡ fib_pair wd n = c.pair.ensures ∙ pair-read wd c.args.fib.now n (read_pairs-below
    c.args.k) fields in
    record {
      broken = (refl, rw pair at (c.if-is_wrong_part.ensures.0 refl));
      least = λ q b. let here = b.0 in omega arith;
    }

pub returns-else-is_wrong_part : goal.returns-else-is_wrong_part
returns-else-is_wrong_part c = λ wd fields q b.
    let n = slice_index read_pairs c.args.k in
    let pair : c.pair.result ≡ fib_pair wd n = c.pair.ensures ∙ pair-read wd c.args.fib.now n (read_pairs-below
    c.args.k) fields in
    false≢true (c.if-is_wrong_part.ensures.1 (rw pair b.1))
