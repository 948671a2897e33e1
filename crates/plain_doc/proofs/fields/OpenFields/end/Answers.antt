use Rattle.std.proofs.Common.{arith}
use Rattle.plain_doc.proofs.FieldLemmas.{ended_last}
use Rattle.plain_doc.proofs.fields.OpenFields.end.Goals as goal

pub returns : goal.returns
returns c =
    rw (← c.self.view_is) (ended_last c.self.inside.separated c.self.inside.depth (omega arith)
    (omega (arith, c.self.told)))
