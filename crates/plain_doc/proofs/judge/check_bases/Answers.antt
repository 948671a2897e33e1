use Rattle.std.proofs.Common.{refl}
use Rattle.style_sheet.specs.Chain.{BreaksBases}
use Rattle.plain_doc.proofs.SheetLemmas.{first_style, no_style}
use Rattle.plain_doc.proofs.judge.check_bases.Goals as goal

pub returns-in-None : goal.returns-in-None
returns-in-None c = no_style (BreaksBases c.args.document.now.sheet) c.in-None.ensures.first

pub returns-in-Some : goal.returns-in-Some
returns-in-Some c =
    rw c.fault.ensures (
      refl,
      first_style (BreaksBases c.args.document.now.sheet) c.in-Some.istd
          c.in-Some.ensures.first,
    )
