use Rattle.std.proofs.Common.{◌≡◌, ◌∙◌, ◌+◌, ap, sym, arith, ℕ, Bool, false, not, List, take, slice_index_or}
use Rattle.std.specs.List.{count_by}
use Rattle.std.proofs.lemmas.List.{take_all}
use Rattle.std.proofs.lemmas.Option.{slice_get-get_or}
use Rattle.doc_mends.proofs.CutLemmas.{count_more}
use Rattle.doc_mends.proofs.cutting.unflagged_count.Goals as goal

pub loop-k-preserved : goal.loop-k-preserved
loop-k-preserved c =
    let flags : List Bool = c.args.flags.now in
    let k = c.loop-k.k in
    let before = c.loop-k.invariant in
    let one = c.one_left-count.ensures in
    let more : count_by not (take (k + 1) flags) ≡ count_by not (take k flags) + c.one_left-count.result =
    count_more flags k (slice_index_or flags k false) (slice_get-get_or flags k false c.loop-k-test.true)
    ∙ ap (λ (n : ℕ). count_by not (take k flags) + n) (sym one.count) in
    record { count = omega (arith, more, before.count); few = omega (arith, before.few, one.few) }

pub returns : goal.returns
returns c =
    c.loop-k.invariant.count
    ∙ ap (count_by not) (take_all c.loop-k.k c.args.flags.now (omega (arith, c.loop-k-test.false)))
