use Rattle.std.proofs.Common.{◌≡◌, ◌∙◌, ◌∷◌, [], ◌+◌, ℕ, ap, sym, subst, List, arith}
use Rattle.std.specs.Prelude.{IfOk}
use Rattle.doc_model.specs.declared.item.Item.{Item}
use Rattle.doc_patch.specs.declared.changes.Change.TheVariants.{ModifyItems}
use Rattle.doc_patch.specs.Places.{items_at, mark_place}
use Rattle.edit_ops.specs.Ranges.{HasPlace}
use Rattle.doc_patch.proofs.Public.{items_are, any_text, such_text}
use Rattle.edit_ops.proofs.planning.at_mark.Goals as goal

pub text_of-requires : goal.text_of-requires
text_of-requires c = any_text c.args.document.now c.args.story (HasPlace c.args.at) c.requires

pub mark_place-mark-requires : goal.mark_place-mark-requires
mark_place-mark-requires c =
    let within = such_text c.args.document.now c.args.story (HasPlace c.args.at) c.text_of.result.now c.requires
    c.text_of.ensures in
    omega (arith, within)

pub returns : goal.returns
returns c =
    let text = items_are c.args.document.now c.args.story c.text_of.result.now c.text_of.ensures in
    let place : c.mark_place-mark.result ≡ mark_place (items_at c.args.document.now c.args.story) c.args.at =
    c.mark_place-mark.ensures.place ∙ ap (λ (t : List Item). mark_place t c.args.at) (sym text) in
    subst (λ (n : ℕ). IfOk c.one_change.result (λ made. made
    ≡ ModifyItems c.args.story n (n + 1) c.args.modifier ∷ [])) place c.one_change.ensures

pub overflow_add-mark : goal.overflow_add-mark
overflow_add-mark c = omega (arith, c.mark_place-mark.ensures.short)
