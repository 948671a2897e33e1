use Rattle.std.proofs.Common.{refl, subst, sym}
use Rattle.huge_papx.specs.Defined.{AreRowsOf}
use Rattle.huge_papx.proofs.NoneLemmas.{no_row_of}
use Rattle.huge_papx.proofs.defining.rows_in.Goals as goal

pub returns-then-not-names_some : goal.returns-then-not-names_some
returns-then-not-names_some c =
    subst (AreRowsOf c.args.begins c.args.offsets.now c.args.document.now) (sym c.new.ensures.items)
    (no_row_of c.args.begins c.args.offsets.now c.args.document.now
    (c.if-not-names_some.ensures refl))
