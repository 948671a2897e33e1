use Rattle.std.proofs.Common.{◌≡◌, sym, ap, ◌∙◌, subst}
use Rattle.style_sheet.specs.Counted.{even_up, counted_end, IsCountedPart}
use Rattle.style_sheet.specs.StyleDefinition.{upx_place}
use Rattle.part_skips.specs.Sheets.{SkipsCounted}
use Rattle.part_skips.proofs.StyleLemmas.{second_counted}
use Rattle.part_skips.proofs.sheets.skip_std.Goals as goal

pub skip_counted-requires-in-1-clause-counted : goal.skip_counted-requires-in-1-clause-counted
skip_counted-requires-in-1-clause-counted c =
    let std = c.args.std.now in
    let mid = c.skip_counted.new.bytes in
    let at = c.first_upx-at.ensures.place in
    let next : c.next_place-next.result ≡ upx_place std c.args.base 1 =
    c.next_place-next.ensures.next ∙ ap (λ p. even_up (counted_end std p)) at in
    subst (IsCountedPart mid) (sym next)
    (second_counted c.args.base std mid c.requires.std (sym c.kind_number.ensures ∙ c.in-1.is)
    (subst (λ p. SkipsCounted p 2 std mid) at c.skip_counted.ensures))
