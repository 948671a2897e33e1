use Rattle.std.proofs.Common.{◌≡◌, Bool, true, false, ◌||◌, refl, sym, ap, ◌∙◌}
use Rattle.prop_map.specs.Modifiers.{clears_characters}
use Rattle.prop_map.proofs.modifiers.clears.Goals as goal

or_false : (a b : Bool) → a ≡ true → (a || b) ≡ true
or_false true b e = refl
or_false false b e = cc

first_of : (a b : Bool) → (a || false) ≡ true → (a || b) ≡ true
first_of true b e = refl
first_of false b e = cc

not_first : (a b : Bool) → (a || false) ≡ false → (a || b) ≡ b
not_first true b e = cc
not_first false b e = refl

pub loop-code-preserved : goal.loop-code-preserved
loop-code-preserved c = λ prls h.
    let before = c.loop-code.invariant prls h in
    let step = c.in-Some.ensures.taken before.others before.spelt in
    record {
      others = step.others;
      spelt = step.left;
      same = before.same ∙ (ap clears_characters step.is ∙ not_first _ (clears_characters step.others)
          (sym c.if-clears_character.ensures));
    }

pub returns-then-clears_character : goal.returns-then-clears_character
returns-then-clears_character c = λ prls h.
    let before = c.loop-code.invariant prls h in
    let step = c.in-Some.ensures.taken before.others before.spelt in
    sym (before.same ∙ (ap clears_characters step.is ∙ first_of _ (clears_characters step.others)
    (sym c.if-clears_character.ensures)))

pub returns : goal.returns
returns c = λ prls h.
    let before = c.loop-code.invariant prls h in
    let none = c.in_default.ensures.taken before.others before.spelt in
    sym (before.same ∙ ap clears_characters none)
