use Rattle.std.proofs.Common.{◌≡◌, ◌+◌, List, ℕ, length, slice_index, sym, subst, arith}
use Rattle.cfb_directory.specs.Order.{AreOrdered, IsNewName}
use Rattle.cfb_directory.proofs.SortedLemmas.{NamesFront, names_none, names_more, names_distinct}
use Rattle.cfb_directory.proofs.names.are_names_distinct.Goals as goal

pub loop-entry-init : goal.loop-entry-init
loop-entry-init c =
    subst (NamesFront c.args.file.now c.args.directory.now c.args.order.now 0) (sym c.new-sorted.ensures.items)
    (names_none c.args.file.now c.args.directory.now c.args.order.now)

pub loop-entry-preserved : goal.loop-entry-preserved
loop-entry-preserved c =
    let file : List ℕ = c.args.file.now in
    let directory : List ℕ = c.args.directory.now in
    let order : List ℕ = c.args.order.now in
    let count : ℕ = c.loop-entry.entry-index in
    subst (NamesFront file directory order (count + 1)) (sym {A = List ℕ} c.in_ok-insert.ensures.items)
    (names_more file directory order c.loop-entry.sorted.items count c.in-Some.place c.requires.lists
    c.loop-entry-test.true c.loop-entry.invariant
    (subst (λ (entries : List ℕ). IsNewName file directory entries (slice_index order count) c.in-Some.place)
    c.deref.ensures.value c.in-Some.ensures))

pub returns : goal.returns
returns c =
    let e : c.loop-entry.entry-index ≡ length c.args.order.now = omega arith in
    λ _. names_distinct c.args.file.now c.args.directory.now c.args.order.now c.loop-entry.sorted.items c.requires.lists
    (subst (λ n. NamesFront c.args.file.now c.args.directory.now c.args.order.now n c.loop-entry.sorted.items) e
    c.loop-entry.invariant)

pub new_place-requires-clause-order : goal.new_place-requires-clause-order
new_place-requires-clause-order c =
    subst (λ (entries : List ℕ). AreOrdered c.args.file.now c.args.directory.now entries) (sym c.deref.ensures.value)
    c.loop-entry.invariant.order
