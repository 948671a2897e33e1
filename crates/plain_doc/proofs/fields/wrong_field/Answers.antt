use Rattle.std.proofs.Common.{◌≡◌, ◌∙◌, [], length, take, Some, refl, sym, ap, subst, arith}
use Rattle.std.proofs.lemmas.Bool.{false≢true}
use Rattle.plain_doc.specs.Nesting.{field_characters, most_open}
use Rattle.plain_doc.proofs.WalkLemmas.{after_all}
use Rattle.plain_doc.proofs.FieldLemmas.{open_after, open_still, stops_at, nothing_open, still_open}
use Rattle.plain_doc.proofs.fields.wrong_field.Goals as goal
use Rattle.plain_doc.proofs.fields.wrong_field.Goals.{then-is_some+else-not-pass, else-is_some}

pub returns-then-not-pass : goal.returns-then-not-pass
returns-then-not-pass c =
    let text = c.args.text.now in
    let item = c.index-text-i.result in
    stops_at text c.loop-i.i c.loop-i.open (omega arith) c.loop-i.invariant
    (open_after text c.loop-i.i item c.loop-i.open (omega arith) c.index-text-i.is
    (sym c.if-is_some.ensures) c.loop-i.invariant ∙ c.if-not-pass.ensures)

pub loop-i-preserved : goal.loop-i-preserved
loop-i-preserved c =
    let text = c.args.text.now in
    let item = c.index-text-i.result in
    elim c.if-is_some.branch [
      | then-is_some+else-not-pass w ↦
          open_after text c.loop-i.i item c.loop-i.open (omega arith) c.index-text-i.is
          (sym w.if-is_some.ensures) c.loop-i.invariant ∙ w.if-not-pass.ensures ∙ ap Some (sym w.open-is)
      | else-is_some w ↦
          open_still text c.loop-i.i item c.loop-i.open (omega arith) c.index-text-i.is
          (sym w.if-is_some.ensures) c.loop-i.invariant ∙ ap Some (sym w.open-is)
    ]

pub returns-then-is_empty : goal.returns-then-is_empty
returns-then-is_empty c =
    let text = c.args.text.now in
    let end : c.loop-i.i ≡ length text = omega arith in
    nothing_open text (subst (λ n. after_all most_open (field_characters (take n text)) (Some []) ≡ Some []) end
    (c.loop-i.invariant ∙ ap Some (c.if-is_empty.ensures.0 refl)))

pub returns-else-is_empty : goal.returns-else-is_empty
returns-else-is_empty c =
    let text = c.args.text.now in
    let end : c.loop-i.i ≡ length text = omega arith in
    still_open text c.loop-i.open (λ none. false≢true (c.if-is_empty.ensures.1 none))
    (subst (λ n. after_all most_open (field_characters (take n text)) (Some []) ≡ Some c.loop-i.open) end
    c.loop-i.invariant)
