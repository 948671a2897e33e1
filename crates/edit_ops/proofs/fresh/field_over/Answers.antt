use Rattle.std.proofs.Common.{refl, ap, length, Some, arith}
use Rattle.prop_map.specs.Settings.{Properties}
use Rattle.edit_ops.specs.Fresh.{unit_item}
use Rattle.edit_ops.proofs.FreshTextLemmas.{field_parts}
use Rattle.edit_ops.proofs.fresh.field_over.Goals as goal

pub with_mark-requires-clause-few : goal.with_mark-requires-clause-few
with_mark-requires-clause-few c =
    let none = ap length c.new.ensures in
    omega arith

pub with_units-requires-clause-few : goal.with_units-requires-clause-few
with_units-requires-clause-few c =
    let none = ap length c.new.ensures in
    let one = c.in_ok-begun.ensures.len in
    let few = c.requires.few in
    omega arith

pub with_mark-requires-2-clause-few : goal.with_mark-requires-2-clause-few
with_mark-requires-2-clause-few c =
    let none = ap length c.new.ensures in
    let one = c.in_ok-begun.ensures.len in
    let two = c.in_ok-coded.ensures.len in
    let few = c.requires.few in
    omega arith

pub with_units-requires-2-clause-few : goal.with_units-requires-2-clause-few
with_units-requires-2-clause-few c =
    let none = ap length c.new.ensures in
    let one = c.in_ok-begun.ensures.len in
    let two = c.in_ok-coded.ensures.len in
    let three = c.in_ok-parted.ensures.len in
    let few = c.requires.few in
    omega arith

pub with_mark-requires-3-clause-few : goal.with_mark-requires-3-clause-few
with_mark-requires-3-clause-few c =
    let none = ap length c.new.ensures in
    let one = c.in_ok-begun.ensures.len in
    let two = c.in_ok-coded.ensures.len in
    let three = c.in_ok-parted.ensures.len in
    let four = c.in_ok-both.ensures.len in
    let few = c.requires.few in
    omega arith

pub returns : goal.returns
returns c =
    let base = c.args.base.now in
    let special = c.args.special.now in
    let is = c.requires.special in
    field_parts base base base c.args.kind c.args.code.now c.args.shown.now c.new.result c.in_ok-begun.begun
    c.in_ok-coded.coded c.in_ok-parted.parted c.in_ok-both.both c.in_ok-made.made
    (record (unit_item special 0x13) { fld = Some c.args.kind }) (record (unit_item special 0x14) { fld = Some 0xFF })
    (record (unit_item special 0x15) { fld = Some 0x80 }) refl refl c.new.ensures
    (ap (λ (chp : Properties). record (unit_item chp 0x13) { fld = Some c.args.kind }) is) c.in_ok-begun.ensures.items
    c.in_ok-coded.ensures.items (ap (λ (chp : Properties). record (unit_item chp 0x14) { fld = Some 0xFF }) is)
    c.in_ok-parted.ensures.items c.in_ok-both.ensures.items
    (ap (λ (chp : Properties). record (unit_item chp 0x15) { fld = Some 0x80 }) is) c.in_ok-made.ensures.items
