use Rattle.std.proofs.Common.{◌≡◌, ◌∙◌, ap, sym, List, false, slice_set}
use Rattle.std.proofs.lemmas.Option.{same_Some}
use Rattle.doc_model.specs.declared.item.Item.{Item}
use Rattle.doc_patch.proofs.Public.{changed_back}
use Rattle.doc_mends.specs.Ends.{is_ended, with_end}
use Rattle.doc_mends.proofs.EndLemmas.{stays_at, stays_ended, gets_end}
use Rattle.doc_mends.proofs.ending.end_at.Goals as goal

pub returns-then-is_ended : goal.returns-then-is_ended
returns-then-is_ended c =
    let is_head = c.args.is_head in
    let text : List Item = c.get.result.now in
    sym (stays_at (with_end is_head) c.args.texts.now c.args.k text c.get.ensures (stays_ended is_head text (sym
    c.is_ended.ensures ∙ c.if-is_ended.true)))

pub returns : goal.returns
returns c =
    let is_head = c.args.is_head in
    let text : List Item = c.replace-text.result in
    let made : List Item = c.in_ok-made.made in
    let same : c.get.result.now ≡ text =
    same_Some c.get.result.now text (sym c.get.ensures ∙ c.replace-text.ensures.old) in
    let open_text : is_ended is_head text ≡ false =
    ap (is_ended is_head) (sym same) ∙ (sym c.is_ended.ensures ∙ c.if-is_ended.false) in
    c.replace.ensures.new
    ∙ (ap (λ (l : List (List Item)). slice_set l c.args.k made) c.replace-text.ensures.new
    ∙ changed_back (with_end is_head) c.args.texts.now c.args.k c.new.result text made c.replace-text.ensures.old
    (c.in_ok-made.ensures ∙ sym (gets_end is_head text open_text)))
