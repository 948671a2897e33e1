-- An item is passed at each place of the run.
use Rattle.std.proofs.Common.{◌≡◌, ◌+◌, ◌<◌, ◌≤◌, ℕ, List, get_or, sym, subst, refl, arith}
use Rattle.std.proofs.lemmas.Option.{slice_get_within, get_or_from_slice_get}
use Rattle.doc_model.specs.declared.item.Item.{Item}
use Rattle.plain_doc.specs.TextWalk.{PassesItem}
use Rattle.plain_doc.proofs.Public.{one_passed}
use Rattle.doc_columns.specs.Judging.{IsPassedTo}
use Rattle.doc_columns.proofs.JudgeLemmas.{units_long, made_maps}
use Rattle.doc_columns.proofs.judge.pass_items.Goals as goal

pub pass_marked-requires-clause-maps : goal.pass_marked-requires-clause-maps
pass_marked-requires-clause-maps c =
    let item : Item = c.in_ok-item.item in
    made_maps c.args.judged.now c.loop-at.at item item c.requires.judged c.in_ok-item.ensures.item refl

pub loop-at-preserved : goal.loop-at-preserved
loop-at-preserved c =
    let judged = c.args.judged.now in
    let text : List Item = judged.text.now in
    let at : ℕ = c.loop-at.at in
    let item : Item = c.in_ok-item.item in
    let there = c.in_ok-item.ensures.item in
    let long = units_long judged c.requires.judged in
    let here : item ≡ get_or text at item = sym (get_or_from_slice_get text at item item there) in
    let passes = subst
    (λ (n : ℕ). PassesItem judged.sheet.now judged.part n at item c.loop-at.walk c.pass_marked.new.self)
    long (c.if-not-pass_marked.ensures refl) in
    record {
      at = c.in_ok-item.ensures.at;
      ahead = omega (arith, c.in_ok-item.ensures.ahead);
      passed =
          one_passed judged.sheet.now judged.part text at item c.loop-at.walk c.pass_marked.new.self
          (slice_get_within text at item there) here c.loop-at.invariant.passed passes;
    }

pub returns-clause-passed : goal.returns-clause-passed
returns-clause-passed c = λ _.
    let end : c.loop-at.at ≡ c.args.place + c.args.run.now.count = omega arith in
    subst (λ (n : ℕ). IsPassedTo c.args.judged.now n c.loop-at.walk) end c.loop-at.invariant.passed
