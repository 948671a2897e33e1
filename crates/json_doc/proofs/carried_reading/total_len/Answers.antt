use Rattle.std.proofs.Common.{◌≡◌, ◌<◌, [], length, get_or, sym, ap, ◌∙◌, arith}
use Rattle.std.specs.Option.{option_map}
use Rattle.std.proofs.lemmas.List.Sums.{sum_by_more}
use Rattle.std.proofs.lemmas.Option.{slice_get-get_or, same_Some}
use Rattle.cfb_streams.specs.Contents.{NamedBytes}
use Rattle.json_doc.proofs.carried_reading.total_len.Goals as goal

pub loop-i-preserved : goal.loop-i-preserved
loop-i-preserved c =
    let streams = c.args.streams.now in
    let i = c.loop-i.i in
    let none : NamedBytes = record { name = []; bytes = [] } in
    let within : i < length streams = omega (arith, c.loop-i-test.true, c.count-i-end.ensures.len) in
    let here : (get_or streams i none).bytes ≡ c.bytes.result.now =
    same_Some _ _
    (ap (option_map (λ (stream : NamedBytes). stream.bytes)) (sym (slice_get-get_or streams i none within))
    ∙ c.bytes.ensures) in
    let size = ap length here in
    let more = sum_by_more (λ (stream : NamedBytes). length stream.bytes) streams i none within in
    let before = c.loop-i.invariant in
    record {
      sum = omega (arith, size, more, before.sum);
      few = omega (arith, before.few, c.bytes.type_inv.0);
    }
