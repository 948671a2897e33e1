use Rattle.std.proofs.Common.{◌≡◌, ◌++◌, OnOk, subst, arith}
use Rattle.prop_map.specs.Block.{block_entry_bytes, IsBlockEntry}
use Rattle.prop_map.proofs.BlockLemmas.{single}
use Rattle.prop_map.proofs.block.push_entry.Goals as goal

pub returns-then-value-eq1-clause-bytes : goal.returns-then-value-eq1-clause-bytes
returns-then-value-eq1-clause-bytes c = subst (λ v. OnOk c.push_small.result (c.push_small.new.bytes ≡
    c.args.bytes.now ++ block_entry_bytes (c.args.code.0, v))) (single c.args.value.now 0 (omega arith))
    c.push_small.ensures.bytes

pub returns-then-value-eq1-clause-entry : goal.returns-then-value-eq1-clause-entry
returns-then-value-eq1-clause-entry c = subst (λ v. OnOk c.push_small.result (IsBlockEntry (c.args.code.0, v)))
    (single c.args.value.now 0 (omega arith)) c.push_small.ensures.entry
