use Rattle.std.proofs.Common.{sym, ap, ◌∙◌, subst}
use Rattle.std.specs.Option.{option_or}
use Rattle.std.specs.FinMap.{get, insert, entries, entries_sorted, get-entries}
use Rattle.prop_map.proofs.EntriesLemmas.{true_of}
use Rattle.prop_map.proofs.ChangeLemmas.{HasPutUpTo, none_put, put_next, put_whole}
use Rattle.prop_map.proofs.draft.Draft.put_all.Goals as goal

pub loop-code-init : goal.loop-code-init
loop-code-init c = none_put (entries c.args.top.now) _ c.args.self.now (sym c.entries-left.ensures)

pub loop-code-preserved : goal.loop-code-preserved
loop-code-preserved c =
    let all = entries c.args.top.now in
    put_next all c.next.new.self c.args.self.now c.loop-code.self c.put.new.self c.in-Some.code.0 c.in-Some.value.now
    (true_of _ (entries_sorted c.args.top.now))
    (subst (λ es. HasPutUpTo all c.args.self.now es c.loop-code.self) c.in-Some.ensures c.loop-code.invariant)
    (c.in_ok-put.ensures.ok ∙ ap (λ v. insert c.loop-code.self c.in-Some.code.0 v) c.in_ok-from_slice.ensures)

pub returns : goal.returns
returns c = λ code.
    let all = entries c.args.top.now in
    put_whole all c.args.self.now c.loop-code.self (subst (λ es. HasPutUpTo all c.args.self.now es c.loop-code.self)
    c.in_default.ensures.0 c.loop-code.invariant) code
    ∙ ap (λ o. option_or o (get c.args.self.now code)) (sym (get-entries c.args.top.now code))
