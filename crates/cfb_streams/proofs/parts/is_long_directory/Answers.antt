use Rattle.std.proofs.Common.{arith}
use Rattle.std.proofs.lemmas.Bool.{ltb-true, lt-ltb}
use Rattle.cfb_streams.proofs.FoundLemmas.{long_directory, no_directory}
use Rattle.cfb_streams.proofs.parts.is_long_directory.Goals as goal

pub returns-clause-long : goal.returns-clause-long
returns-clause-long c =
    let is = long_directory c.args.file.now c.in_ok-path.path.items c.args.fat.now c.get32-start.result
    c.requires.is_fat c.get32-start.ensures c.in_ok-path.ensures.path in (
      (λ t. is.0 (let long = ltb-true 256 c.len.result t in omega (arith, c.len.ensures))),
      (λ l. let long = is.1 l in lt-ltb 256 c.len.result (omega (arith, c.len.ensures))),
    )

-- no path begins at a sector that is not there
pub returns-then-start-valid-clause-long : goal.returns-then-start-valid-clause-long
returns-then-start-valid-clause-long c = (
  (λ t. absurd (cc (t))),
  (λ l. absurd (no_directory c.args.file.now c.args.fat.now c.get32-start.result c.requires.is_fat
      c.get32-start.ensures (omega (arith, c.valid.ensures, c.if-start-valid.true)) l)),
)
