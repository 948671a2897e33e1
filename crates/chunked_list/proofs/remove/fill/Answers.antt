-- The next block is joined, or gives items.
use Rattle.std.proofs.Common.{◌≡◌, ◌+◌, ◌-◌, ◌<◌, ℕ, ◌++◌, ◌∙◌, [], length, take, set, ap, arith}
use Rattle.std.specs.List.{splice}
use Rattle.chunked_list.specs.Blocks.{total_units, block_at}
use Rattle.chunked_list.proofs.JoinLemmas.{units_of_block}
use Rattle.chunked_list.proofs.FillLemmas.{joined_same, moved_same, joined_sized, moved_sized, lent_next}
use Rattle.chunked_list.proofs.remove.fill.Goals as goal

pub returns-then-len-rest-le-MAX_ITEMS-clause-same : goal.returns-then-len-rest-le-MAX_ITEMS-clause-same
returns-then-len-rest-le-MAX_ITEMS-clause-same g c =
    let old = c.args.row.now.blocks in
    let now = c.lend.new.row.blocks in
    let next = c.requires.next in
    let there : c.args.block + 1 < length old = omega (arith, next, c.requires.there) in
    joined_same old now c.take_out.new.self.blocks c.args.block c.len-rest.result there
    (c.len-rest.ensures.value ∙ ap (λ (n : ℕ). length (block_at old n)) next) c.lend.ensures.blocks
    (c.take_out.ensures.blocks ∙ ap (λ (n : ℕ). splice now n (n + 1) []) next)

pub returns-then-len-rest-le-MAX_ITEMS-clause-sized : goal.returns-then-len-rest-le-MAX_ITEMS-clause-sized
returns-then-len-rest-le-MAX_ITEMS-clause-sized g c = λ full from low is.
    let old = c.args.row.now.blocks in
    let now = c.lend.new.row.blocks in
    let next = c.requires.next in
    let there : c.args.block + 1 < length old = omega (arith, next, c.requires.there) in
    joined_sized old now c.take_out.new.self.blocks c.args.block c.len-rest.result full from is low there
    (c.len-rest.ensures.value ∙ ap (λ (n : ℕ). length (block_at old n)) next)
    (omega (arith, c.len-len.ensures.value, c.if-len-rest-le-MAX_ITEMS.true)) c.lend.ensures.blocks
    (c.take_out.ensures.blocks ∙ ap (λ (n : ℕ). splice now n (n + 1) []) next)

pub cut-requires-clause-units : goal.cut-requires-clause-units
cut-requires-clause-units g c =
    let units = g.T.Measured.units in
    let old = c.args.row.now.blocks in
    let now = c.lend-2.new.row.blocks in
    let b = c.args.block in
    let next = c.requires.next in
    let there : b + 1 < length old = omega (arith, next, c.requires.there) in
    let grown = block_at old b ++ take (64 - c.len-len.result) (block_at old (b + 1)) in
    omega (
      arith,
      ap (λ (n : ℕ). total_units units (block_at now n)) next,
      ap (total_units units) (lent_next old now b grown c.lend-2.ensures.blocks),
      units_of_block units old (b + 1) there,
      c.requires.units,
    )

pub returns-clause-same : goal.returns-clause-same
returns-clause-same g c =
    let old = c.args.row.now.blocks in
    let now = c.lend-2.new.row.blocks in
    let next = c.requires.next in
    let count = 64 - c.len-len.result in
    let there : c.args.block + 1 < length old = omega (arith, next, c.requires.there) in
    moved_same old now c.cut.new.self.blocks c.args.block count there c.lend-2.ensures.blocks
    (c.cut.ensures.blocks ∙ ap (λ (n : ℕ). set now n (splice (block_at now n) 0 count [])) next)

pub returns-clause-sized : goal.returns-clause-sized
returns-clause-sized g c = λ full from low is.
    let old = c.args.row.now.blocks in
    let now = c.lend-2.new.row.blocks in
    let next = c.requires.next in
    let count = 64 - c.len-len.result in
    let there : c.args.block + 1 < length old = omega (arith, next, c.requires.there) in
    let rest : c.len-rest.result ≡ length (block_at old (c.args.block + 1)) =
    c.len-rest.ensures.value ∙ ap (λ (n : ℕ). length (block_at old n)) next in
    moved_sized old now c.cut.new.self.blocks c.args.block count full from is low there
    (omega (arith, c.len-len.ensures.value, c.requires.short))
    (omega (arith, c.len-len.ensures.value, rest, c.if-len-rest-le-MAX_ITEMS.false))
    (omega (arith, rest, c.len-rest.ensures.most))
    (omega (arith, c.requires.short))
    c.lend-2.ensures.blocks
    (c.cut.ensures.blocks ∙ ap (λ (n : ℕ). set now n (splice (block_at now n) 0 count [])) next)
