use Rattle.std.proofs.Common.{◌≡◌, ◌+◌, ◌*◌, ◌<◌, ◌∙◌, ap, length, slice_index, arith}
use Rattle.std.proofs.lemmas.List.{length-set}
use Rattle.text_codes.specs.Compressed.{compressed_unit}
use Rattle.file_rules.specs.Units.{narrow_unit}
use Rattle.file_rules.proofs.UnitLemmas.{run-put}
use Rattle.file_rules.proofs.narrow.put_plain.Goals as goal

pub loop-j-preserved : goal.loop-j-preserved
loop-j-preserved c =
    let wd = c.args.wd.now in
    let at = c.args.at in
    let j = c.loop-j.j in
    let so_far = c.loop-j.invariant in
    let len = so_far.len in
    let room = c.requires.room in
    let test = c.loop-j-test.true in
    let below : c.args.cp + j < length c.loop-j.units = omega arith in
    let place : at + j ≡ at + j * 1 = omega arith in
    let unit : c.plain_unit.result ≡ narrow_unit wd at j = c.plain_unit.ensures ∙ ap (λ n. compressed_unit (slice_index
    wd n))
    place in
    record {
      len = length-set c.loop-j.units (c.args.cp + j) c.plain_unit.result ∙ so_far.len;
      put = run-put (narrow_unit wd at) c.args.cp j c.plain_unit.result c.args.units.now c.loop-j.units below unit
          so_far.put;
    }
