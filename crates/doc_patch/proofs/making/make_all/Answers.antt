use Rattle.std.proofs.Common.{◌≡◌, ◌∙◌, [], ◌+◌, ap, sym, subst, drop, arith}
use Rattle.std.proofs.lemmas.List.{drop_all}
use Rattle.doc_patch.specs.Changes.{all_changed}
use Rattle.doc_patch.specs.Makes.{CanMakeAll}
use Rattle.doc_patch.proofs.making.make_all.Goals as goal
use Rattle.run_lists.proofs.Public.{run_and_rest}

pub make-requires : goal.make-requires
make-requires c =
    let at = c.loop-k in
    let step = run_and_rest c.args.changes.now at.k c.get.result.now c.get.ensures in
    (subst (λ changes. CanMakeAll changes at.made) step at.invariant.can).0

pub loop-k-preserved : goal.loop-k-preserved
loop-k-preserved c =
    let at = c.loop-k in
    let rest = drop (at.k + 1) c.args.changes.now in
    let step = run_and_rest c.args.changes.now at.k c.get.result.now c.get.ensures in
    let made = c.in_ok-made.ensures in
    record {
      can =
          subst (λ document. CanMakeAll rest document) (sym made)
          (subst (λ changes. CanMakeAll changes at.made) step at.invariant.can).1;
      gives =
          ap (λ document. all_changed rest document) made
          ∙ (sym (ap (λ changes. all_changed changes at.made) step) ∙ at.invariant.gives);
    }

pub returns : goal.returns
returns c =
    let at = c.loop-k in
    let len = c.len-k-end.ensures in
    let past = c.loop-k-test.false in
    let upto = at.auto.k-end in
    let none : drop at.k c.args.changes.now ≡ [] = drop_all at.k c.args.changes.now (omega (arith, len, past, upto)) in
    sym (ap (λ changes. all_changed changes at.made) none) ∙ at.invariant.gives
