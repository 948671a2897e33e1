use Rattle.std.proofs.Common.{[], ◌∷◌, ◌++◌, ap, ◌∙◌, refl}
use Rattle.prop_map.specs.Settings.{Properties}
use Rattle.full_save.proofs.SoFarLemmas.{paragraphs_end}
use Rattle.full_save.proofs.runs.ParagraphRuns.close.Goals as goal

pub returns : goal.returns
returns c = λ at done item here has so.
    let old = c.args.self.now in
    let mark = c.args.mark.now in
    let copied = ap
    (λ (pap : Properties). old.closed ++ (record { from = old.from; to = c.args.end; istd = mark.istd; map = pap }) ∷
    [])
    c.in_ok-pap.ensures in
    paragraphs_end at c.args.end done item mark old (record { closed = c.add.new.self; from = c.args.end })
    here has (c.in_ok-add.ensures.ok ∙ copied) refl so
