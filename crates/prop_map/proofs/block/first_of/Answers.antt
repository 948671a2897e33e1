use Rattle.prop_map.proofs.BlockLemmas.{has_first, next_is, rest_is}
use Rattle.prop_map.proofs.block.first_of.Goals as goal

pub returns-clause-first : goal.returns-clause-first
returns-clause-first c = next_is c.args.block.now c.get16.result c.get32.result (has_first c.args.block.now
    c.requires.block c.requires.some) c.get16.ensures c.get32.ensures

pub returns-clause-rest : goal.returns-clause-rest
returns-clause-rest c = rest_is c.args.block.now c.get32.result (has_first c.args.block.now c.requires.block
    c.requires.some) c.get32.ensures
