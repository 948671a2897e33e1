use Rattle.std.proofs.Common.{◌≡◌, ◌+◌, ◌-◌, ◌^◌, ◌<◌, min, [], ◌++◌, length, take, get_or, sym, ap, ◌∙◌, arith}
use Rattle.std.proofs.Common.{length-append}
use Rattle.std.specs.List.{flat_map}
use Rattle.std.proofs.lemmas.List.{flat_map_more, take_more}
use Rattle.style_sheet.specs.Counted.{written_counted}
use Rattle.style_sheet.proofs.WordLemmas.{length-written}
use Rattle.style_sheet.proofs.printing.list_len.Goals as goal

pub loop-upx-preserved : goal.loop-upx-preserved
loop-upx-preserved c =
    let upxes = c.args.upxes.now in
    let i = c.loop-upx.upx-index in
    let item = c.upx-item.result in
    let below : i < length upxes = omega arith in
    let more : flat_map written_counted (take (i + 1) upxes) ≡ flat_map written_counted (take i upxes) ++
    written_counted (get_or upxes i item) =
    ap (flat_map written_counted) (take_more upxes i item below) ∙ sym (flat_map_more written_counted []
    (take i upxes) (get_or upxes i item)) in
    let len = ap length more ∙ length-append (flat_map written_counted (take i upxes)) (written_counted (get_or upxes
    i item)) in
    let one = ap (λ x. length (written_counted x)) (sym c.upx-item.is) ∙ length-written item in
    let same = ap length c.as_slice.ensures in
    let inv = c.loop-upx.invariant in
    let made : c.saturating_add-len.result ≡ min (length (flat_map written_counted (take (i + 1) upxes)))
    (2 ^ 64 - 1) = omega arith in
    made
