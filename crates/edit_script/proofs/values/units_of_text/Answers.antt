use Rattle.std.specs.Str.Iter.{chars_rest}
use Rattle.edit_script.proofs.TextLemmas.{one_more, no_more}
use Rattle.edit_script.proofs.values.units_of_text.Goals as goal

pub loop-character-preserved : goal.loop-character-preserved
loop-character-preserved c =
    one_more c.args.text.now (chars_rest c.loop-character.character-iterator) (chars_rest c.next.new.self)
    c.loop-character.units c.push_character.new.units c.in-Some.character
    c.loop-character.invariant.0 c.in-Some.ensures.steps.0 c.in_ok-push_character.ensures c.loop-character.invariant.1

pub returns : goal.returns
returns c = no_more c.args.text.now (chars_rest c.loop-character.character-iterator) c.loop-character.units
    c.in-None.ensures.steps.0.0 c.loop-character.invariant.1
