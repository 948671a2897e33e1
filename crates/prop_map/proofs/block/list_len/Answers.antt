use Rattle.std.proofs.Common.{length, ap, arith}
use Rattle.std.specs.List.{flat_map}
use Rattle.sprm_table.specs.Sprm.{spelling}
use Rattle.prop_map.specs.Block.{block_bytes}
use Rattle.prop_map.proofs.LengthLemmas.{list-first, block-first}
use Rattle.prop_map.proofs.block.list_len.Goals as goal

pub loop-code-init : goal.loop-code-init
loop-code-init c =
    let bytes = ap length c.requires.is in
    record { len = omega arith; least = omega arith }

pub overflow_sub-len-in-Some : goal.overflow_sub-len-in-Some
overflow_sub-len-in-Some c =
    let list = list-first c.loop-code.left c.next.new.self c.in-Some.code.0 c.in-Some.field-0-1.now c.in-Some.ensures in
    let block = block-first c.loop-code.left c.next.new.self c.in-Some.code.0 c.in-Some.field-0-1.now
    c.in-Some.ensures in
    let len = c.loop-code.invariant.len in
    let least = c.loop-code.invariant.least in
    omega arith

pub loop-code-preserved : goal.loop-code-preserved
loop-code-preserved c =
    let list = list-first c.loop-code.left c.next.new.self c.in-Some.code.0 c.in-Some.field-0-1.now c.in-Some.ensures in
    let block = block-first c.loop-code.left c.next.new.self c.in-Some.code.0 c.in-Some.field-0-1.now
    c.in-Some.ensures in
    let head = c.head_len.ensures.len c.in-Some.field-0-1.now in
    let most = c.head_len.ensures.bound in
    let len = c.loop-code.invariant.len in
    let least = c.loop-code.invariant.least in
    record { len = omega arith; least = omega arith }

pub returns : goal.returns
returns c =
    let none = c.in_default.ensures.0 in
    let list = ap (λ es. length (flat_map spelling es)) none in
    let block = ap (λ es. length (block_bytes es)) none in
    let len = c.loop-code.invariant.len in
    omega arith
