use Rattle.std.proofs.Common.{inl, inr, refl, subst, arith}
use Rattle.part_skips.specs.Sheets.{PutsSheet}
use Rattle.doc_meaning.specs.Skipped.{sheet_from}
use Rattle.doc_lift.proofs.skipping.skip_first.Goals as goal

pub returns-then-not-is_sheet_first : goal.returns-then-not-is_sheet_first
returns-then-not-is_sheet_first c =
    inr ((λ first. absurd (cc (c.if-not-is_sheet_first.ensures.1 first))), refl)

pub skip_sheet_in-requires-clause-within : goal.skip_sheet_in-requires-clause-within
skip_sheet_in-requires-clause-within c =
    let within = (c.if-not-is_sheet_first.ensures.0 refl).within in omega (arith, within, c.sheet_end.ensures)

pub returns : goal.returns
returns c =
    let old = c.args.table.now in
    let new = c.skip_sheet_in.new.stream in
    inl (record {
      first = c.if-not-is_sheet_first.ensures.0 refl;
      puts = subst (λ to. PutsSheet (sheet_from c.args.early.now.pairs) to old new) c.sheet_end.ensures
          (subst (λ from. PutsSheet from c.sheet_end.result old new) c.sheet_start.ensures c.skip_sheet_in.ensures);
    })
