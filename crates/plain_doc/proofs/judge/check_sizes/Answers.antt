use Rattle.std.proofs.Common.{inr, refl}
use Rattle.plain_doc.specs.declared.rules_sheet.StyleRule.TheVariants.{Written}
use Rattle.plain_doc.specs.StyleRules.{IsWrongStyle}
use Rattle.plain_doc.proofs.SheetLemmas.{first_style, no_style}
use Rattle.plain_doc.proofs.judge.check_sizes.Goals as goal

pub returns-in-None : goal.returns-in-None
returns-in-None c =
    (rw c.in_default.is at c.requires, no_style (IsWrongStyle Written c.args.document.now.sheet) c.in-None.ensures)

pub returns-in-Some-wrong_style : goal.returns-in-Some-wrong_style
returns-in-Some-wrong_style c =
    rw c.fault-in-Some-wrong_style.ensures
    (inr (
      rw c.in_default.is at c.requires,
      (
        refl,
        first_style
            (IsWrongStyle Written c.args.document.now.sheet) c.in-Some-wrong_style.istd c.in-Some-wrong_style.ensures,
      ),
    ))
