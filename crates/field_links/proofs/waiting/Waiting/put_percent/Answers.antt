use Rattle.std.proofs.Common.{◌≡◌, ◌+◌, ◌-◌, ◌*◌, ◌<◌, ◌≤◌, drop, get_or, length, sym, ap, ◌∙◌, arith}
use Rattle.std.specs.List.{flat_map}
use Rattle.field_links.specs.Urls.{percent_byte}
use Rattle.field_links.proofs.WaitingLemmas.{byte_more, byte_room}
use Rattle.field_links.proofs.waiting.Waiting.put_percent.Goals as goal

pub loop-left-preserved : goal.loop-left-preserved
loop-left-preserved c =
    let bytes = c.as_bytes-bytes.result.now in
    let left = c.loop-left.left in
    let some = c.loop-left-test.true in
    let inside = c.loop-left.invariant.1.0 in
    let few = c.loop-left.invariant.1.1 in
    let more : left - 1 + 1 ≡ left = omega (arith, some) in
    let within : left - 1 < length bytes = omega (arith, some, inside) in
    let room : length c.loop-left.self + 3 * (left - 1 + 1) ≤ 12 = omega (arith, some, few) in (
      byte_more bytes c.loop-left.self c.put_byte.new.self (left - 1) within
          (c.loop-left.invariant.0 ∙ ap (λ n. flat_map percent_byte (drop n bytes)) (sym more)) c.put_byte.ensures,
      (
        omega (arith, within),
        byte_room (get_or bytes (left - 1) 0) (left - 1) c.loop-left.self c.put_byte.new.self room c.put_byte.ensures,
      ),
    )
