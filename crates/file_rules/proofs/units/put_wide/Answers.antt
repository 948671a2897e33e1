use Rattle.std.proofs.Common.{◌≡◌, ◌+◌, ◌*◌, ◌<◌, ◌∙◌, ap, length, arith}
use Rattle.std.proofs.lemmas.List.{length-set}
use Rattle.doc_bits.specs.Number.{u16_at}
use Rattle.file_rules.specs.Units.{wide_unit}
use Rattle.file_rules.proofs.UnitLemmas.{run-put}
use Rattle.file_rules.proofs.units.put_wide.Goals as goal

pub loop-j-preserved : goal.loop-j-preserved
loop-j-preserved c =
    let wd = c.args.wd.now in
    let at = c.args.at in
    let j = c.loop-j.j in
    let so_far = c.loop-j.invariant in
    let len = so_far.len in
    let room = c.requires.room in
    let test = c.loop-j-test.true in
    let below : c.args.cp + j < length c.loop-j.units = omega arith in
    let place : at + 2 * j ≡ at + j * 2 = omega arith in
    let unit : c.get16.result ≡ wide_unit wd at j = c.get16.ensures ∙ ap (u16_at wd) place in
    record {
      len = length-set c.loop-j.units (c.args.cp + j) c.get16.result ∙ so_far.len;
      put = run-put (wide_unit wd at) c.args.cp j c.get16.result c.args.units.now c.loop-j.units below unit so_far.put;
    }
