use Rattle.json_values.proofs.SettingsLemmas.{one_put}
use Rattle.json_values.proofs.settings.write_properties.Goals as goal

pub loop-code-preserved : goal.loop-code-preserved
loop-code-preserved c =
    one_put c.args.out.now c.loop-code.out c.push_entry.new.out c.loop-code.later c.args.set.now
    (c.in-Some.code.0, c.in-Some.value.now) c.loop-code.left c.next.new.self c.in-Some.ensures
    c.in_ok-push_entry.ensures c.loop-code.invariant
