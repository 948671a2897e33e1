use Rattle.std.proofs.Common.{rules, false, Option, sym, subst}
use Rattle.std.specs.Prelude.{◌↔◌, IsTrue, IsSome}
use Rattle.doc_model.specs.declared.item.Mark.{Mark}
use Rattle.doc_columns.specs.declared.attached.Attached.{Attached}
use Rattle.doc_patch.proofs.PlaceLemmas.{part_there, part_past}
use Rattle.doc_patch.proofs.places.has_mark.Goals as goal

pub returns-in-None : goal.returns-in-None
returns-in-None c =
    subst (λ (o : Option Mark). IsTrue false ↔ IsSome o)
    (sym (part_past (λ (b : Attached). b.mark) c.args.text.now c.args.place c.in-None.ensures)) (search rules)

pub returns-in-Some : goal.returns-in-Some
returns-in-Some c =
    subst (λ (o : Option Mark). IsTrue c.is_some.result ↔ IsSome o)
    (sym (part_there (λ (b : Attached). b.mark) c.args.text.now c.args.place c.in-Some.attached.now c.in-Some.ensures))
    (search rules)
