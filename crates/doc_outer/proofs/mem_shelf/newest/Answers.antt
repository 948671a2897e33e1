use Rattle.std.proofs.Common.{◌≡◌, true, false, Some, ap, sym, ◌∙◌}
use Rattle.std.specs.Ordering.{nat_cmp}
use Rattle.std.specs.Cmp.Lexicographic.{slice_cmp}
use Rattle.std.specs.FinMap.{find, get-from_entries}
use Rattle.std.specs.Str.{bytes_eq}
use Rattle.std.proofs.lemmas.Cmp.{nat_list_cmp_total}
use Rattle.std.specs.VecDeque.Iter.{deque_iter_rest}
use Rattle.doc_outer.proofs.StoreLemmas.{find-cons}
use Rattle.doc_outer.proofs.mem_shelf.newest.Goals as goal

pub loop-key-init : goal.loop-key-init
loop-key-init c =
    get-from_entries nat_list_cmp_total _ _
    ∙ ap (find (slice_cmp nat_cmp) c.args.name.now) (sym c.into_iter-key-iterator.ensures.into_iter_gives.0)

pub returns-then-eq : goal.returns-then-eq
returns-then-eq c =
    let same : bytes_eq c.args.name.now c.in-Some.field-0.now.0 ≡ true = cc in
    ap (λ bytes. Some bytes) c.as_slice.ensures
    ∙ sym (c.loop-key.invariant ∙ ap (find (slice_cmp nat_cmp) c.args.name.now) c.in-Some.ensures.steps ∙ find-cons
    c.args.name.now c.in-Some.field-0.now (deque_iter_rest c.next.new.self) true same)

pub loop-key-preserved : goal.loop-key-preserved
loop-key-preserved c =
    let other : bytes_eq c.args.name.now c.in-Some.field-0.now.0 ≡ false = cc in
    c.loop-key.invariant ∙ ap (find (slice_cmp nat_cmp) c.args.name.now) c.in-Some.ensures.steps ∙ find-cons
    c.args.name.now c.in-Some.field-0.now (deque_iter_rest c.next.new.self) false other
