use Rattle.cfb_layout.proofs.JoinLemmas.{padded_join}
use Rattle.cfb_layout.proofs.sectors.push_padded.Goals as goal

pub returns : goal.returns
returns c =
    padded_join c.args.unit c.rest_of.result c.args.out.now c.push_all.new.self c.push_zeros.new.out c.args.bytes.now
    c.in_ok-push_all.ensures.ok c.in_ok-push_zeros.ensures c.rest_of.ensures.is
