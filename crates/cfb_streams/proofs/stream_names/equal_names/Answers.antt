use Rattle.cfb_streams.proofs.SameNameLemmas.{same_name-test}
use Rattle.cfb_streams.proofs.stream_names.equal_names.Goals as goal

pub returns-clause-test : goal.returns-clause-test
returns-clause-test c = same_name-test c.args.name.now c.args.other.now _ c.same_name.ensures
