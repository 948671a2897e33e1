use Rattle.std.proofs.Common.{sym, subst}
use Rattle.style_sheet.specs.Sheet.{style_at}
use Rattle.style_sheet.specs.Slots.{sheet_of}
use Rattle.style_sheet.specs.Formed.{IsFormedSheet}
use Rattle.style_sheet.proofs.ChangeLemmas.{slot_formed, found_formed}
use Rattle.style_sheet.proofs.sheet.StyleSheet.get.Goals as goal

pub returns-clause-formed : goal.returns-clause-formed
returns-clause-formed c =
    let sheet = sheet_of c.deref.result.now in
    let formed = subst (λ slots. IsFormedSheet (sheet_of slots)) (sym c.deref.ensures) c.self.invariant in
    found_formed _ (λ style. style.now) c.get.result (style_at sheet c.args.istd) (slot_formed sheet c.args.istd
    formed.styles) c.get.ensures
