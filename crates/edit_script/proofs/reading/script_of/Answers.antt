use Rattle.std.proofs.Common.{arith}
use Rattle.edit_script.proofs.ScriptLemmas.{one_value}
use Rattle.edit_script.proofs.reading.script_of.Goals as goal

pub loop-member-preserved : goal.loop-member-preserved
loop-member-preserved c =
    one_value c.args.members.now c.loop-member.script c.add.new.self c.loop-member.member-index c.member-item.result
    c.in-Ok.command
    (omega (arith, c.loop-member-test.true)) c.member-item.is c.in-Ok.ensures c.in_ok-add-in-Ok.ensures.ok
    c.loop-member.invariant
