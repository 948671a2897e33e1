use Rattle.std.proofs.Common.{ap, length, arith}
use Rattle.fib_form.specs.Fib.{form_size}
use Rattle.fib_form.specs.FibFields.{FibFields}
use Rattle.fkp_gaps.proofs.Public.{length-with_empty_run}
use Rattle.doc_lift.proofs.gap_filling.filled_wd.Goals as goal

pub with_fib-requires : goal.with_fib-requires
with_fib-requires c =
    omega (
      arith,
      ap (λ (f : FibFields). form_size f.form) c.early-early.ensures,
      ap length c.deref.ensures.value,
      ap length c.in_ok-push_empty_run.ensures,
      length-with_empty_run c.in_ok-behind.behind.items,
      ap length c.in_ok-behind.ensures,
      c.requires.long,
    )
