use Rattle.std.proofs.Common.{◌+◌, ◌-◌, ◌^◌, ◌<◌, ◌≤◌, List, length, arith, rules}
use Rattle.std.specs.List.{sum_by}
use Rattle.std.proofs.lemmas.Bool.{ltb-true, lt-ltb}
use Rattle.cfb_streams.specs.Contents.{NamedBytes, IsAfterLastName}
use Rattle.cfb_streams.proofs.AddLemmas.{push-AreStreams, last_total}
use Rattle.cfb_streams.proofs.list.Streams.can_add.Goals as goal

pub returns : goal.returns
returns c =
    let streams : List NamedBytes = c.args.self.now in
    let last : NamedBytes = record { name = c.args.name.now; bytes = c.args.bytes.now } in
    let sum = c.total.ensures.sum in
    let total = c.total.ensures.ordered.total in (
      λ t.
          let less : length c.args.bytes.now < 281474976710656 - c.total.result = ltb-true _ _ t in
          let some : 1 ≤ length last.name = omega arith in
          let short : length last.name ≤ 31 = omega arith in
          let ends : IsAfterLastName streams last.name = search rules in
          let room : sum_by (λ (stream : NamedBytes). length stream.bytes) streams + length last.bytes < 2 ^ 48 =
          omega (arith, less) in
          push-AreStreams streams last c.total.ensures.ordered some short ends room,
      λ are.
          let all = last_total streams last are in
          let less : length c.args.bytes.now < 281474976710656 - c.total.result = omega (arith, all) in
          lt-ltb _ _ less,
    )
