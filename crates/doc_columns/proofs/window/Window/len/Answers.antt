use Rattle.std.proofs.Common.{subst}
use Rattle.doc_model.specs.Document.{IsFormedText}
use Rattle.doc_columns.proofs.WindowLemmas.{window_long}
use Rattle.doc_columns.proofs.window.Window.len.Goals as goal

pub returns-clause-len : goal.returns-clause-len
returns-clause-len c =
    window_long c.self.inside.whole.value c.self.inside.spans c.args.self.now c.self.invariant c.self.view_is

pub returns-clause-formed : goal.returns-clause-formed
returns-clause-formed c = subst IsFormedText c.self.view_is c.self.invariant.are.formed
