use Rattle.std.proofs.Common.{refl, sym, subst}
use Rattle.std.specs.List.{All}
use Rattle.std.proofs.lemmas.List.Elements.{All-head, All-tail, All-cons}
use Rattle.prop_map.specs.Formed.{IsMapEntry}
use Rattle.prop_map.proofs.PrintLemmas.{entries_of, held_by_entries}
use Rattle.prop_map.proofs.BlockLemmas.{all_of_none}
use Rattle.prop_map.proofs.map.PropMap.is_held.Goals as goal

pub returns-then-not-may_hold : goal.returns-then-not-may_hold
returns-then-not-may_hold c =
    let P = IsMapEntry c.args.groups in (
      λ t. absurd (cc),
      λ formed.
          let left = subst (All P) c.in-Some.ensures (c.loop-code.invariant.0 (entries_of c.args.groups
          c.args.self.now formed)) in
          c.if-not-may_hold.ensures.1 (All-head P (c.in-Some.code.0, c.in-Some.value.now) c.next.new.self left),
    )

pub loop-code-preserved : goal.loop-code-preserved
loop-code-preserved c =
    let P = IsMapEntry c.args.groups in
    let entry = c.if-not-may_hold.ensures.0 refl in (
      λ all. All-tail P (c.in-Some.code.0, c.in-Some.value.now) c.next.new.self (subst (All P) c.in-Some.ensures
          (c.loop-code.invariant.0 all)),
      λ all. c.loop-code.invariant.1 (subst (All P) (sym c.in-Some.ensures) (All-cons P (
        c.in-Some.code.0,
        c.in-Some.value.now,
      ) c.next.new.self entry all)),
    )

pub returns : goal.returns
returns c = (
  λ t. held_by_entries c.args.groups c.args.self.now (c.loop-code.invariant.1 (subst (All (IsMapEntry c.args.groups))
      (sym c.in_default.ensures.0) (all_of_none (IsMapEntry c.args.groups)))),
  λ formed. refl,
)
