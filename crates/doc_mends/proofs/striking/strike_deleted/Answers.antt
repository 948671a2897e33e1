use Rattle.std.proofs.Common.{◌∙◌, ap, sym, subst}
use Rattle.std.proofs.Common.{List}
use Rattle.doc_mends.specs.declared.mends.DeletedRange.{DeletedRange}
use Rattle.doc_mends.specs.Mends.{AreRanges, all_struck, can_strike}
use Rattle.doc_mends.proofs.MendLemmas.{filtered}
use Rattle.doc_mends.proofs.striking.strike_deleted.Goals as goal

pub strike_ranges-requires : goal.strike_ranges-requires
strike_ranges-requires c =
    subst (λ (l : List DeletedRange). AreRanges c.args.document l)
    (sym (c.deref.ensures.value ∙ c.in-Ok.ensures.struck))
    (filtered (can_strike c.args.document) c.args.document c.args.ranges.now c.requires)

pub returns-clause-document : goal.returns-clause-document
returns-clause-document c =
    c.in_ok-document.ensures
    ∙ ap (λ (l : List DeletedRange). all_struck l c.args.document) (c.deref.ensures.value ∙ c.in-Ok.ensures.struck)
