use Rattle.std.proofs.Common.{◌≡◌, ◌∙◌, ◌+◌, ◌++◌, ◌∷◌, [], ap, sym, arith, ℕ, Bool, false, List, length, slice_get}
use Rattle.std.proofs.Common.{slice_index_or, length-append}
use Rattle.std.proofs.lemmas.Option.{slice_get-get_or}
use Rattle.doc_mends.specs.Cuts.{end_left}
use Rattle.doc_mends.proofs.CutLemmas.{count_more, counts_first, counts_more}
use Rattle.doc_mends.proofs.cutting.counts_left.Goals as goal

pub loop-k-init : goal.loop-k-init
loop-k-init c =
    let flags : List Bool = c.args.flags.now in
    let first : c.push.new.self.items ≡ 0 ∷ [] =
    c.in_ok-push.ensures.items ∙ ap (λ (l : List ℕ). l ++ 0 ∷ []) c.in_ok-counts.ensures.items in
    record {
      left = omega arith;
      few = omega arith;
      within = omega arith;
      len = ap length first;
      each = counts_first flags c.push.new.self.items first;
    }

pub loop-k-preserved : goal.loop-k-preserved
loop-k-preserved c =
    let flags : List Bool = c.args.flags.now in
    let k = c.loop-k.k in
    let before = c.loop-k.invariant in
    let low = c.loop-k-test.true in
    let one = c.one_left-left.ensures in
    let flag : Bool = slice_index_or flags k false in
    let more : end_left flags (k + 1) ≡ end_left flags k + c.one_left-left.result =
    count_more flags k flag (slice_get-get_or flags k false low)
    ∙ ap (λ (n : ℕ). end_left flags k + n) (sym one.count) in
    let left : c.loop-k.left + c.one_left-left.result ≡ end_left flags (k + 1) = omega (arith, more, before.left) in
    let items = c.in_ok-push-2.ensures.items in
    record {
      left = left;
      few = omega (arith, before.few, one.few);
      within = omega (arith, low);
      len = ap length items
          ∙ (length-append c.loop-k.counts.items ((c.loop-k.left + c.one_left-left.result) ∷ [])
          ∙ omega (arith, before.len));
      each = λ j within.
          ap (λ (l : List ℕ). slice_get l j) items
          ∙ counts_more flags c.loop-k.counts.items k (c.loop-k.left + c.one_left-left.result) before.len before.each left j
          within;
    }

pub returns : goal.returns
returns c =
    let kept = c.loop-k.invariant in
    record {
      len = omega (arith, kept.len, kept.within, c.loop-k-test.false);
      each = λ j within. kept.each j (omega (arith, within, kept.within, c.loop-k-test.false));
    }
