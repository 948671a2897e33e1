use Rattle.std.proofs.Common.{[], ◌∷◌, ◌++◌, ap, ◌∙◌, refl}
use Rattle.prop_map.specs.Settings.{Properties}
use Rattle.fast_save_layout.proofs.MarkSteps.{one_ended}
use Rattle.fast_save_layout.proofs.runs.ParagraphRuns.close.Goals as goal

pub returns-clause-now : goal.returns-clause-now
returns-clause-now c = λ at done item here marked so.
    let old = c.args.self.now in
    let mark = c.args.mark.now in
    let copied = ap
    (λ (pap : Properties).
    old.closed ++ (record { from = c.begin-begin.result; to = c.args.end; istd = mark.istd; map = pap }) ∷ [])
    c.in_ok-pap.ensures in
    one_ended at c.args.end c.begin-begin.result done item mark old
    (record { start = old.start; closed = c.add.new.self; from = c.args.end }) here marked c.begin-begin.ensures
    (c.in_ok-add.ensures.ok ∙ copied) refl refl so
