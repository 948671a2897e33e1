-- One line more is put behind the text.
use Rattle.std.proofs.Common.{◌≡◌, ◌∙◌, ◌+◌, ◌∷◌, ◌++◌, ap, sym, drop, append_assoc}
use Rattle.std.specs.List.{flat_map}
use Rattle.loss_report.proofs.ReportLemmas.{texts-from}
use Rattle.loss_report.proofs.lines.LossLines.put_behind.Goals as goal

pub loop-i-preserved : goal.loop-i-preserved
loop-i-preserved c =
    let lines = c.args.self.now in
    let i = c.loop-i.i in
    let line = c.line-line.result.now in
    let rest = flat_map (λ line. line) (drop (i + 1) lines) in
    let here : drop i lines ≡ line ∷ drop (i + 1) lines = texts-from lines i line c.line-line.ensures in
    rw c.in_ok-push_all.ensures.ok
    (append_assoc c.loop-i.text line rest
    ∙ (ap (λ texts. c.loop-i.text ++ flat_map (λ line. line) texts) (sym here) ∙ c.loop-i.invariant))
