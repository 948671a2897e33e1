use Rattle.std.proofs.Common.{refl, subst, MatchOption}
use Rattle.std.proofs.lemmas.Result.{IfOk-weaker}
use Rattle.file_mends.specs.declared.sheet_changes.SheetChange.{SheetChange}
use Rattle.style_sheet.specs.Stsh.{HasStshif}
use Rattle.file_mends.specs.SheetPlaces.{SheetPlace}
use Rattle.file_mends.specs.Slots.{IsSlotOf}
use Rattle.file_mends.specs.SheetChanges.{ChangesSheet, ChangesSlot}
use Rattle.file_mends.proofs.SlotLemmas.{slot_changed}
use Rattle.file_mends.proofs.sheet_changes.sheet_change.Goals as goal

pub returns : goal.returns
returns c =
    let sheet = c.args.sheet.now in
    let istd = c.in-Some.slot.istd in
    let view = c.sheet.view_is in
    IfOk-weaker c.slot_change.result
    (λ f. MatchOption f ((change : SheetChange) → ¬ ChangesSlot sheet istd change) (ChangesSlot sheet istd))
    (λ f. MatchOption f ((change : SheetChange) → ¬ ChangesSheet sheet c.args.rule c.args.offset change)
    (ChangesSheet sheet c.args.rule c.args.offset))
    (λ f how. slot_changed sheet c.args.rule c.args.offset istd f c.requires
    (subst (λ (s : SheetPlace). HasStshif s.part) view (c.if-not-has_stshif.ensures.0 refl))
    (subst (λ (s : SheetPlace). IsSlotOf s.part s.at c.args.offset istd) view c.in-Some.ensures.0) how)
    c.slot_change.ensures
