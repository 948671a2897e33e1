use Rattle.std.proofs.Common.{◌∙◌, ◌<◌, ◌≤◌, ◌++◌, ◌∷◌, [], List, length, ap, arith}
use Rattle.std.specs.Prelude.{slice_range}
use Rattle.doc_model.specs.declared.item.Item.{Item}
use Rattle.doc_join.specs.declared.renumbering.Renumbering.{Renumbering}
use Rattle.doc_join.specs.Texts.{renumbered_text, renumbered_texts}
use Rattle.doc_join.proofs.TextLemmas.{texts_more}
use Rattle.doc_join.proofs.kept_maps.KeptMaps.add_texts.Goals as goal

pub loop-i-preserved : goal.loop-i-preserved
loop-i-preserved c =
    let text = c.get.result.now in
    let numbers = c.args.self.now.numbers in
    let texts = c.args.texts.now in
    let front = c.args.made.now in
    let same = c.loop-i.invariant.numbers in
    let low : c.args.from ≤ c.loop-i.i = omega arith in
    let within : c.loop-i.i < length texts = omega (arith, c.loop-i-test.true, c.len-i-end.ensures.len) in
    let put = c.in_ok-text.ensures.made ∙ ap (λ (n : Renumbering). renumbered_text n text) same in
    record {
      made =
          c.in_ok-add.ensures.ok
          ∙ (ap (λ (more : List (List Item)). more ++ c.in_ok-text.field-0 ∷ []) c.loop-i.invariant.made
          ∙ (ap (λ (t : List Item).
          (front ++ renumbered_texts numbers (slice_range texts c.args.from c.loop-i.i)) ++ t ∷ []) put
          ∙ texts_more numbers texts c.args.from c.loop-i.i text front c.get.ensures within low));
      numbers = c.in_ok-text.ensures.numbers ∙ same;
    }
