use Rattle.prop_map.proofs.BlockLemmas.{put_behind_old}
use Rattle.prop_map.proofs.block.push_below.Goals as goal

pub returns : goal.returns
returns c = put_behind_old c.args.entries c.split_at-rest.result.1 c.args.code.0 c.args.bytes.now
    c.split_at-rest.result.0.now c.push_all.new.self c.split_at-rest.ensures c.in_ok-push_all.ensures.ok
