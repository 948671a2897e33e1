use Rattle.std.proofs.Common.{List, IsTrue, sym, ap, ◌∙◌, subst, arith}
use Rattle.std.specs.Ordering.{nat_cmp}
use Rattle.std.specs.FinMap.{is_sorted}
use Rattle.prop_map.specs.declared.values.SetValue.{SetValue}
use Rattle.prop_map.specs.Values.{set_value_entries, IsLesserCount}
use Rattle.prop_map.proofs.EntriesLemmas.{sorted-put}
use Rattle.prop_map.proofs.ValueLemmas.{set_found, set_between}
use Rattle.prop_map.proofs.values.put_value.Goals as goal
use Rattle.prop_map.proofs.values.put_value.Goals.{else-at-len-via-then-at-len+else-index-set}
use Rattle.prop_map.proofs.values.put_value.Goals.{else-at-len-via-else-at-len}

pub returns-then-index-set-clause-put : goal.returns-then-index-set-clause-put
returns-then-index-set-clause-put c =
    let items : List SetValue = c.args.values.now.items in
    let here = c.index.result.now in
    let count = subst (λ l. IsLesserCount l c.args.set.code.0 c.place_of-at.result) c.deref.ensures.value
    c.place_of-at.ensures in
    set_found items c.place_of-at.result c.args.set here count (omega (arith, c.if-at-len.true, c.len.ensures))
    (ap (λ (x : SetValue). x.code.0) (sym c.index.ensures) ∙ c.if-index-set.true)

pub returns-then-index-set-clause-order : goal.returns-then-index-set-clause-order
returns-then-index-set-clause-order c =
    let items : List SetValue = c.args.values.now.items in
    let here = c.index.result.now in
    let count = subst (λ l. IsLesserCount l c.args.set.code.0 c.place_of-at.result) c.deref.ensures.value
    c.place_of-at.ensures in
    let put = set_found items c.place_of-at.result c.args.set here count (omega (
      arith,
      c.if-at-len.true,
      c.len.ensures,
    )) (ap (λ (x : SetValue). x.code.0) (sym c.index.ensures) ∙ c.if-index-set.true) in
    subst (λ es. IsTrue (is_sorted nat_cmp es)) (sym put) (sorted-put (set_value_entries items) c.args.set.code.0
    c.args.set.value.now c.requires)

pub returns-clause-put : goal.returns-clause-put
returns-clause-put c =
    let items : List SetValue = c.args.values.now.items in
    let at = c.place_of-at.result in
    let set = c.args.set in
    let count = subst (λ l. IsLesserCount l set.code.0 at) c.deref.ensures.value c.place_of-at.ensures in
    ap set_value_entries c.in_ok-insert.ensures.items
    ∙ elim c.else-at-len.branch [
      | else-at-len-via-then-at-len+else-index-set w ↦ set_between items at set w.index.result.now count
          (λ _ same. w.if-index-set.false (ap (λ (x : SetValue). x.code.0) w.index.ensures ∙ same)) c.requires
      | else-at-len-via-else-at-len w ↦ set_between items at set set count (λ within. absurd (omega (
        arith,
        w.if-at-len.false,
        c.len.ensures,
      ))) c.requires
    ]

pub returns-clause-order : goal.returns-clause-order
returns-clause-order c = subst (λ es. IsTrue (is_sorted nat_cmp es)) (sym (returns-clause-put c)) (sorted-put
    (set_value_entries c.args.values.now.items) c.args.set.code.0 c.args.set.value.now c.requires)
