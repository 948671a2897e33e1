use Rattle.direct_props.proofs.KeptLemmas.{one_kept}
use Rattle.direct_props.proofs.grpprl_cache.GrpprlCache.put.Goals as goal

pub returns-in-Ok-clause-ok : goal.returns-in-Ok-clause-ok
returns-in-Ok-clause-ok c = λ kind wd modifier none is are.
    rw (c.in-Ok.ensures.ok, c.in_ok-push.ensures.items)
    (one_kept kind wd modifier c.args.self.now.places c.args.self.now.made.items c.args.place.0 c.args.place.1
    c.args.made none is are)
