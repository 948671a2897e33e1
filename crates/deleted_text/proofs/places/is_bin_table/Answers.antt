use Rattle.std.proofs.Common.{refl, arith}
use Rattle.deleted_text.proofs.PlaceLemmas.{is_table}
use Rattle.deleted_text.proofs.places.is_bin_table.Goals as goal

pub returns : goal.returns
returns c = (
  λ t. is_table c.args.bin.now (omega arith) (omega arith)
      (λ k low. c.loop-k.invariant k (omega (arith, low, c.loop-k-test.false))),
  λ table. refl,
)
