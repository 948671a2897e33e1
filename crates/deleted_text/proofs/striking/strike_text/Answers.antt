use Rattle.std.proofs.Common.{◌≡◌, ◌∙◌, ◌++◌, ap, sym, subst, List, map, length, arith}
use Rattle.doc_model.specs.declared.document.Document.{Document}
use Rattle.doc_mends.specs.declared.mends.DeletedRange.{DeletedRange}
use Rattle.doc_mends.specs.declared.mends.Mend.TheVariants.{KeepDeleted}
use Rattle.doc_mends.specs.Mends.{AreRanges, all_struck, struck_ranges, strikes, kept_ranges}
use Rattle.deleted_text.specs.Ranges.{document_ranges}
use Rattle.deleted_text.specs.Strikes.{IsStruck}
use Rattle.deleted_text.proofs.RangeLemmas.{ranges_there}
use Rattle.deleted_text.proofs.StrikeLemmas.{no_strikes}
use Rattle.deleted_text.proofs.striking.strike_text.Goals as goal

pub strike_deleted-requires : goal.strike_deleted-requires
strike_deleted-requires c =
    let document = c.args.document.now in
    let ranges = document_ranges c.args.begins c.args.flags.now document in
    subst (λ (l : List DeletedRange). AreRanges c.in_ok-copy.copy l)
    (sym (c.deref.ensures.value ∙ c.in_ok-ranges.ensures))
    (subst (λ (d : Document). AreRanges d ranges) (sym c.in_ok-copy.ensures)
    (ranges_there c.args.begins c.args.flags.now document))

pub returns-then-len-eq0 : goal.returns-then-len-eq0
returns-then-len-eq0 c =
    let document = c.args.document.now in
    let ranges = document_ranges c.args.begins c.args.flags.now document in
    let none : length ranges ≡ 0 =
    omega (arith, ap length c.in_ok-ranges.ensures, c.len.ensures, c.if-len-eq0.true) in
    subst (IsStruck ranges document document) (sym c.new.ensures.items) (no_strikes document ranges none)

pub returns : goal.returns
returns c =
    let document = c.args.document.now in
    let ranges = document_ranges c.args.begins c.args.flags.now document in
    let copy : c.in_ok-copy.copy ≡ document = c.in_ok-copy.ensures in
    let given = c.deref.result.now in
    let all : given ≡ ranges = c.deref.ensures.value ∙ c.in_ok-ranges.ensures in
    let struck : c.in_ok-struck.field-0.document ≡ all_struck (struck_ranges document ranges) document =
    c.in_ok-struck.ensures.document
    ∙ (ap (λ (d : Document). all_struck (struck_ranges d given) d) copy
    ∙ ap (λ (l : List DeletedRange). all_struck (struck_ranges document l) document) all) in
    let mends : c.in_ok-struck.field-0.mends.items ≡ strikes document ranges =
    c.in_ok-struck.ensures.mends ∙ (ap (λ (d : Document). strikes d given) copy ∙ ap (strikes document) all) in
    let kept : c.deref-2.result.now ≡ kept_ranges document ranges =
    c.deref-2.ensures.value
    ∙ (c.in_ok-struck.ensures.kept
    ∙ (ap (λ (d : Document). kept_ranges d given) copy ∙ ap (kept_ranges document) all)) in
    record {
      document_is = struck;
      mends_are = c.in_ok-push_kept.ensures ∙ (λ i. mends i ++ map KeepDeleted (kept i));
    }
