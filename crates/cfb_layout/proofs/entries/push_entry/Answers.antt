use Rattle.cfb_layout.proofs.JoinLemmas.{entry_join}
use Rattle.cfb_layout.proofs.entries.push_entry.Goals as goal

pub returns : goal.returns
returns c =
    entry_join c.args.out.now c.push_name.new.out c.push_fields.new.out c.push_all.new.self c.push_fields-2.new.out
    c.args.name.now c.args.clsid.now c.args.fields.now
    c.in_ok-push_name.ensures c.in_ok-push_fields.ensures c.in_ok-push_all.ensures.ok c.in_ok-push_fields-2.ensures
