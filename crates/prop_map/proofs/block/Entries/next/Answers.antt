use Rattle.std.proofs.Common.{◌∙◌, length, sym}
use Rattle.std.proofs.lemmas.Bool.{eqb-true}
use Rattle.prop_map.proofs.BlockLemmas.{some_byte, no_entries}
use Rattle.prop_map.proofs.block.Entries.next.Goals as goal

pub returns-then-is_empty : goal.returns-then-is_empty
returns-then-is_empty c =
    let left = c.self.inside.left.now in
    let none = sym c.self.view_is ∙ no_entries left (eqb-true (length left) 0 (sym c.if-is_empty.ensures)) in
    (none, none)

pub first_of-requires-clause-some : goal.first_of-requires-clause-some
first_of-requires-clause-some c = some_byte (length c.self.inside.left.now) c.if-is_empty.ensures
