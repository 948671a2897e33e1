use Rattle.std.proofs.Common.{◌<◌, sym, ap, subst}
use Rattle.std.specs.List.{All}
use Rattle.std.proofs.lemmas.List.Elements.{All-from_get_or}
use Rattle.style_sheet.specs.Sheet.{Sheet}
use Rattle.style_sheet.proofs.slots.Slots.new.Goals as goal

pub returns-clause-words : goal.returns-clause-words
returns-clause-words c =
    subst (All (λ n. n < 65536)) (sym (ap Sheet.head c.in_ok-add.ensures.ok)) (All-from_get_or (λ n. n < 65536)
    c.args.head.now 0 (λ i below. c.fits-head i))
