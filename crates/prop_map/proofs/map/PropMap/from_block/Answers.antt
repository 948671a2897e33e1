use Rattle.std.proofs.Common.{length, sym, ap, ◌∙◌}
use Rattle.std.proofs.lemmas.Bool.{eqb-true}
use Rattle.std.specs.FinMap.{empty_of_len, len-entries}
use Rattle.prop_map.proofs.map.PropMap.from_block.Goals as goal

pub returns-then-is_empty : goal.returns-then-is_empty
returns-then-is_empty c =
    let none = eqb-true (length c.entries.result) 0 (sym c.if-is_empty.ensures) in
    c.new.ensures ∙ sym (empty_of_len c.args.block (len-entries c.args.block ∙ (ap length (sym c.entries.ensures) ∙
    none)))
