use Rattle.std.proofs.Common.{◌∙◌, refl}
use Rattle.doc_columns.proofs.WindowLemmas.{whole_range}
use Rattle.doc_columns.proofs.window.Window.own.Goals as goal

pub returns : goal.returns
returns c = c.in_ok-own.ensures ∙ whole_range c.args.self.now 0 c.len.result refl c.len.ensures.len
