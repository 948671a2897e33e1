use Rattle.file_rules.specs.Units.{unmodified_piece}
use Rattle.file_rules.proofs.UnitLemmas.{units-wide, units-narrow}
use Rattle.file_rules.proofs.units.put_units.Goals as goal

pub returns-then-piece-clause-put : goal.returns-then-piece-clause-put
returns-then-piece-clause-put c = rw (units-wide c.args.wd.now (unmodified_piece c.args.piece) c.if-piece.true)
    c.put_wide.ensures.put

pub returns-else-piece-clause-put : goal.returns-else-piece-clause-put
returns-else-piece-clause-put c = rw (units-narrow c.args.wd.now (unmodified_piece c.args.piece) c.if-piece.false)
    c.put_narrow.ensures.put
