use Rattle.std.proofs.Common.{◌≡◌, [], take, Some}
use Rattle.plain_doc.specs.Nesting.{field_characters, most_open}
use Rattle.plain_doc.proofs.WalkLemmas.{after_all}
use Rattle.plain_doc.proofs.fields.wrong_field.Given as goal

-- what is open after the items so far
abbrev pub invariant-loop-i : goal.invariant-loop-i
invariant-loop-i l = after_all most_open (field_characters (take l.i l.text)) (Some []) ≡ Some l.open
