use Rattle.std.proofs.Common.{◌<◌, arith}
use Rattle.std.proofs.lemmas.Option.{slice_get_within}
use Rattle.prop_map.specs.Modifiers.{no_modifier}
use Rattle.piece_table.proofs.RenumberLemmas.{here_put, others_put}
use Rattle.piece_table.proofs.renumber.Copies.add.Goals as goal

pub returns-clause-here : goal.returns-clause-here
returns-clause-here c = λ _.
    let first = slice_get_within c.args.self.now.modifiers.items 0 no_modifier c.requires.copied.first in
    let some : 0 < c.len-place.result = omega (arith, c.len-place.ensures, first) in
    here_put c.args.self.now.numbers.items c.args.number c.len-place.result c.requires.within some

pub returns-clause-others : goal.returns-clause-others
returns-clause-others c = λ other kept.
    let first = slice_get_within c.args.self.now.modifiers.items 0 no_modifier c.requires.copied.first in
    let some : 0 < c.len-place.result = omega (arith, c.len-place.ensures, first) in
    others_put c.args.self.now.numbers.items c.args.number c.len-place.result other c.requires.within some kept
