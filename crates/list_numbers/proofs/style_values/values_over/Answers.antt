use Rattle.std.proofs.Common.{◌∙◌, ap, sym, subst, arith}
use Rattle.list_numbers.specs.MarkValues.{AreStyleValues, over}
use Rattle.list_numbers.proofs.KnownLemmas.{known_more}
use Rattle.list_numbers.proofs.MarkValueLemmas.{slot_said}
use Rattle.list_numbers.proofs.style_values.values_over.Goals as goal

pub returns-then-at-len-2-clause-known : goal.returns-then-at-len-2-clause-known
returns-then-at-len-2-clause-known c =
    let sheet = c.args.sheet.now in
    let own =
    slot_said sheet c.args.istd c.get.result c.values_of_slot-own.result c.get.ensures.style
    c.values_of_slot-own.ensures in
    let is = c.over-values.ensures ∙ ap (λ o. over o c.args.below) own in
    known_more sheet c.args.known.now.items c.args.istd c.over-values.result c.requires.known
    (subst (AreStyleValues sheet c.args.istd) (sym is) c.requires.below)
    (grind (arith, c.if-at-len-2.true, c.len-2.ensures))
