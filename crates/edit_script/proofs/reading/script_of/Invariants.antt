use Rattle.std.proofs.Common.{◌≡◌, map, take, length}
use Rattle.serde_json.specs.View.{view}
use Rattle.edit_script.specs.Scripts.{Spell}
use Rattle.edit_script.proofs.reading.script_of.Given as goal

abbrev pub invariant-loop-member : goal.invariant-loop-member
invariant-loop-member l = (length l.script ≡ l.member-index) × Spell (take l.member-index (map view l.members)) l.script
