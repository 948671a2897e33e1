use Rattle.std.proofs.Common.{◌<◌, ◌^◌, ap, sym, subst, length, List, ℕ, arith}
use Rattle.fib_form.specs.Fib.{form_size}
use Rattle.fib_form.specs.FibFields.{FibFields}
use Rattle.doc_meaning.specs.Skipped.{bin_tables_of}
use Rattle.page_copies.specs.Pages.{SkipsPages}
use Rattle.doc_lift.proofs.LiftLemmas.{early_long}
use Rattle.doc_lift.proofs.SkipLemmas.{front_skipped}
use Rattle.doc_lift.proofs.skipping.skipped_streams.Goals as goal

pub early_fib-early-requires : goal.early_fib-early-requires
early_fib-early-requires c = subst (λ (w : List ℕ). length w < 2 ^ 32) (sym c.requires.same) c.requires.small

pub with_fib-requires : goal.with_fib-requires
with_fib-requires c =
    omega (
      arith,
      ap (λ (f : FibFields). form_size f.form) c.early_fib-early.ensures,
      early_long c.args.wd.now c.requires.version,
      c.in_ok-pages.ensures.len,
      ap length c.deref.ensures.value,
    )

pub returns : goal.returns
returns c =
    let wd = c.args.wd.now in
    let table = c.args.table.now in
    front_skipped wd table c.args.fib.now c.deref.result.now c.in_ok-front.front.items c.in_ok-sheet.sheet.items
    c.early_fib-early.result c.requires.same c.early_fib-early.ensures
    (subst (SkipsPages (bin_tables_of wd table) wd) (sym c.deref.ensures.value) c.in_ok-pages.ensures)
    c.in_ok-front.ensures.bytes c.in_ok-front.ensures.fields c.in_ok-sheet.ensures
