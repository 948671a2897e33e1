use Rattle.std.proofs.Common.{◌≡◌, ◌<◌, length, sym, ◌∙◌, arith}
use Rattle.std.proofs.lemmas.List.{take_more_same, get_or_read}
use Rattle.std.proofs.lemmas.Slice.Eq.{bytes_eq-Decides}
use Rattle.doc_bits.proofs.Public.{true_from_not}
use Rattle.style_sheet.proofs.upxes.same_lists.Goals as goal

pub loop-i-preserved : goal.loop-i-preserved
loop-i-preserved c =
    let i = c.loop-i.i in
    let d = c.index-ours-i.result in
    let below : i < length c.args.ours.now = omega arith in
    let below_too : i < length c.args.theirs.now = omega arith in
    let same = (bytes_eq-Decides c.as_slice.result.now c.as_slice-in-loop-i.result.now).0 (true_from_not _
    c.if-ne.ensures) in
    let entries : c.index-ours-i.result ≡ c.index-theirs-i.result = sym c.as_slice.ensures ∙
    (same ∙ c.as_slice-in-loop-i.ensures) in
    take_more_same _ _ i d below below_too c.loop-i.invariant
    (sym (get_or_read _ i _ below c.index-ours-i.is d) ∙ (entries ∙ get_or_read _ i _ below_too c.index-theirs-i.is d))
