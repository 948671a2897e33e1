use Rattle.prop_map.proofs.ValueLemmas.{found_at}
use Rattle.prop_map.proofs.values.place_of.Goals as goal

pub returns-then-values-guess : goal.returns-then-values-guess
returns-then-values-guess c = found_at c.args.values.now c.args.code.0 c.args.guess _ c.requires
    c.if-guess-values.true c.if-values-guess.true
