use Rattle.std.proofs.Common.{◌∷◌, sym, ap, ◌∙◌, arith}
use Rattle.field_links.specs.Characters.{characters}
use Rattle.field_links.specs.Kept.{word_units}
use Rattle.field_links.proofs.CharacterLemmas.{characters-alone, characters-last, characters-pair}
use Rattle.field_links.proofs.word.FieldWord.next_character.Goals as goal

pub returns-in_default : goal.returns-in_default
returns-in_default c =
    let one = c.in_ok-first.ensures in
    let more = word_units c.in_ok-first.more in
    record {
      characters = characters-last (word_units c.args.self.now) more c.in_ok-first.first one.units c.in_default.ensures
          ∙ ap (λ code. code ∷ characters more) (sym c.character_alone.ensures);
      shorter = one.shorter;
    }

pub returns-then-is_pair : goal.returns-then-is_pair
returns-then-is_pair c =
    let one = c.in_ok-first.ensures in
    let next = c.in-Some.ensures in
    let last = word_units c.in-Some.last in
    let first = one.shorter in
    let second = next.shorter in
    record {
      characters = characters-pair (word_units c.args.self.now) (word_units c.in_ok-first.more) last c.in_ok-first.first
          c.in-Some.second one.units next.units (sym c.is_pair.ensures ∙ c.if-is_pair.true)
          ∙ ap (λ code. code ∷ characters last) (sym c.character_of_pair.ensures);
      shorter = omega (arith, first, second);
    }

pub returns : goal.returns
returns c =
    let one = c.in_ok-first.ensures in
    let next = c.in-Some.ensures in
    let more = word_units c.in_ok-first.more in
    record {
      characters = characters-alone (word_units c.args.self.now) more (word_units c.in-Some.last) c.in_ok-first.first
          c.in-Some.second one.units next.units (sym c.is_pair.ensures ∙ c.if-is_pair.false)
          ∙ ap (λ code. code ∷ characters more) (sym c.character_alone-2.ensures);
      shorter = one.shorter;
    }
