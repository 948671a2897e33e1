use Rattle.std.proofs.Common.{refl, sym, ap, subst, List, ℕ}
use Rattle.fib_form.specs.FibFields.{FibFields}
use Rattle.fib_form.specs.declared.table_parts.TablePart.TheVariants.{PlcfBteChpx, PlcfBtePapx}
use Rattle.fkp_pages.specs.declared.kind.PageKind.TheVariants.{Chpx, Papx}
use Rattle.fkp_pages.specs.Bin.{IsBinTable}
use Rattle.fkp_gaps.specs.Gaps.{ArePagesWithin}
use Rattle.doc_meaning.specs.Skipped.{bin_tables_of}
use Rattle.doc_meaning.specs.Filled.{ArePartsWithin}
use Rattle.doc_lift.proofs.StreamLemmas.{part_is, both_pages}
use Rattle.doc_lift.proofs.gap_filling.can_fill.Goals as goal

pub are_pages_within-requires : goal.are_pages_within-requires
are_pages_within-requires c =
    let part = part_is c.args.fib.now c.args.wd.now c.args.table.now c.part.result.now PlcfBteChpx c.requires.fields
    c.part.ensures in
    subst IsBinTable (sym part) (c.requires.bins Chpx)

pub returns-then-not-are_pages_within : goal.returns-then-not-are_pages_within
returns-then-not-are_pages_within c =
    let part = part_is c.args.fib.now c.args.wd.now c.args.table.now c.part.result.now PlcfBteChpx c.requires.fields
    c.part.ensures in (
      λ t. absurd (cc t),
      λ can. c.if-not-are_pages_within.ensures.1
          (subst (λ (b : List ℕ). ArePagesWithin b c.args.wd.now) (sym part) (can.pages Chpx)),
    )

pub are_pages_within-requires-2 : goal.are_pages_within-requires-2
are_pages_within-requires-2 c =
    let part = part_is c.args.fib.now c.args.wd.now c.args.table.now c.part-2.result.now PlcfBtePapx c.requires.fields
    c.part-2.ensures in
    subst IsBinTable (sym part) (c.requires.bins Papx)

pub returns-then-not-are_pages_within-2 : goal.returns-then-not-are_pages_within-2
returns-then-not-are_pages_within-2 c =
    let part = part_is c.args.fib.now c.args.wd.now c.args.table.now c.part-2.result.now PlcfBtePapx c.requires.fields
    c.part-2.ensures in (
      λ t. absurd (cc t),
      λ can. c.if-not-are_pages_within-2.ensures.1
          (subst (λ (b : List ℕ). ArePagesWithin b c.args.wd.now) (sym part) (can.pages Papx)),
    )

pub returns : goal.returns
returns c =
    let wd = c.args.wd.now in
    let table = c.args.table.now in
    let chars = part_is c.args.fib.now wd table c.part.result.now PlcfBteChpx c.requires.fields c.part.ensures in
    let pars = part_is c.args.fib.now wd table c.part-2.result.now PlcfBtePapx c.requires.fields c.part-2.ensures in
    let pairs = ap (λ (f : FibFields). f.pairs) c.early_fib-early.ensures in (
      λ t. record {
        pages = both_pages (bin_tables_of wd table) wd
            (subst (λ (b : List ℕ). ArePagesWithin b wd) chars (c.if-not-are_pages_within.ensures.0 refl))
            (subst (λ (b : List ℕ). ArePagesWithin b wd) pars (c.if-not-are_pages_within-2.ensures.0 refl));
        parts = subst (λ (ps : List (ℕ × ℕ)). ArePartsWithin ps table) pairs (c.are_parts_within.ensures.0 t);
      },
      λ can. c.are_parts_within.ensures.1
          (subst (λ (ps : List (ℕ × ℕ)). ArePartsWithin ps table) (sym pairs) can.parts),
    )
