use Rattle.std.specs.Prelude.{slice_range}
use Rattle.std.proofs.Common.{ℕ, ◌+◌, ◌++◌, [], ◌∷◌, drop, length, subst, arith, refl}
use Rattle.std.proofs.lemmas.List.{append-nil}
use Rattle.doc_bits.specs.Number.{AreBytes}
use Rattle.piece_table.specs.Front.{ArePrcs, IsPrcFront}
use Rattle.piece_table.proofs.Public.{prcs_more}
use Rattle.code_losses.proofs.PrcLemmas.{found_none, found_more}
use Rattle.code_losses.proofs.prcs.count_prcs.Goals as goal
use Rattle.doc_bits.proofs.Public.{rest_is}

pub loop-len-init : goal.loop-len-init
loop-len-init c = record {
  codes = record { first = c.in_ok-counts.ensures.first.codes; again = c.in_ok-counts.ensures.again.codes };
  seen = omega (arith, c.in_ok-counts.ensures.seen);
  within = omega arith;
  counted = record {
    prcs = [];
    are = record { sizes = λ k d low. absurd (omega (arith, low)); spelt = refl; within = omega arith };
    lists = [];
    found = found_none;
    counted = c.in_ok-counts.ensures;
  };
}

pub loop-len-preserved : goal.loop-len-preserved
loop-len-preserved c =
    let clx = c.args.clx.now in
    let at = c.loop-len.at in
    let len = c.in-Some.len in
    let inv = c.loop-len.invariant in
    let before = inv.counted in
    let bytes : AreBytes clx = λ i. omega (arith, c.type_inv.clx i) in
    let front : IsPrcFront (drop at clx) len =
    subst (λ rest. IsPrcFront rest len) (rest_is clx at) c.in-Some.ensures in
    let are = prcs_more clx before.prcs at len bytes before.are front in
    let part = c.count.ensures.counted before.lists before.counted in
    record {
      codes = c.count.ensures.codes;
      seen = omega (arith, c.count.ensures.seen, inv.seen);
      within = omega (arith, are.within);
      counted = record {
        prcs = before.prcs ++ slice_range clx (at + 3) (at + 3 + len) ∷ [];
        are = are;
        lists = before.lists ++ part.found;
        found = found_more before.prcs before.lists (slice_range clx (at + 3) (at + 3 + len)) part.found before.found
            part.is_found;
        counted = part.counted;
      };
    }

pub returns : goal.returns
returns c =
    let clx = c.args.clx.now in
    let at = c.loop-len.at in
    let all = c.loop-len.invariant.counted in (
      all.lists,
      (
        record {
          prcs = all.prcs;
          end = at;
          are = record {
            are = all.are;
            none = subst (λ rest. (size : ℕ) → ¬ (IsPrcFront rest size)) (rest_is clx at) c.in_default.ensures;
          };
          found = all.found;
        },
        all.counted,
      ),
    )
