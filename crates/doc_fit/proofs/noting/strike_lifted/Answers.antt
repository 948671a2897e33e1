use Rattle.std.proofs.Common.{◌∙◌, refl}
use Rattle.doc_fit.proofs.MendLemmas.{struck_text}
use Rattle.doc_fit.proofs.noting.strike_lifted.Goals as goal

pub returns : goal.returns
returns c =
    let before = c.args.lifted.now in
    let has = c.requires.deletions in
    record {
      outer = refl;
      text = has.text;
      has_text = has.has_text;
      struck_is = struck_text before c.args.found.now c.strike_and_define.new.document c.deref.result.now
          c.deref-2.result.now c.in_ok-strikes.strikes.items has c.requires.found
          (c.deref.ensures.value ∙ (λ i. (c.replace-deleted.ensures.value i).items))
          (c.deref-2.ensures.value ∙ (λ i. (c.replace-offsets.ensures.value i).items)) c.in_ok-strikes.ensures;
    }
