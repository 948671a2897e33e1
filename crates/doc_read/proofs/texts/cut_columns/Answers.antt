-- A text more.
use Rattle.std.proofs.Common.{◌∙◌, refl, sym, subst, ◌+◌, List, length}
use Rattle.doc_model.specs.declared.item.Item.{Item}
use Rattle.doc_read.specs.Texts.{AreCutFrom, AreCutsWithin}
use Rattle.doc_read.proofs.SliceLemmas.{texts_none, texts_more}
use Rattle.doc_read.proofs.texts.cut_columns.Goals as goal

pub loop-k-init : goal.loop-k-init
loop-k-init c =
    let begin = c.args.begin in
    let cuts = c.args.cuts.now in
    record {
      same = refl;
      cut = subst (λ (texts : List (List Item)). AreCutFrom c.args.whole.now begin cuts 0 texts)
          (sym c.new-texts.ensures) (texts_none c.args.whole.now begin cuts);
    }

pub cut_text-requires-clause-cuts : goal.cut_text-requires-clause-cuts
cut_text-requires-clause-cuts c =
    subst (λ (items : List Item). AreCutsWithin c.args.begin c.args.cuts.now (length items))
    (sym c.loop-k.invariant.same) c.requires.cuts

pub loop-k-preserved : goal.loop-k-preserved
loop-k-preserved c =
    let items = c.loop-k.whole in
    let begin = c.args.begin in
    let cuts = c.args.cuts.now in
    let same = c.cut_text.ensures.same in
    let more = texts_more items begin cuts c.loop-k.k c.loop-k.texts c.in_ok-cut_text.field-0 c.loop-k.invariant.cut
    c.in_ok-cut_text.ensures.there c.in_ok-cut_text.ensures.missing in
    record {
      same = same ∙ c.loop-k.invariant.same;
      cut = subst (λ (text : List Item). AreCutFrom text begin cuts (c.loop-k.k + 1) c.add.new.self) (sym same)
          (subst (λ (texts : List (List Item)). AreCutFrom items begin cuts (c.loop-k.k + 1) texts)
          (sym c.in_ok-add.ensures.ok) more);
    }
