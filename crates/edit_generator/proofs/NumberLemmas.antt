-- The numbers of the generator, one after another.
use Rattle.std.proofs.Common.{◌≡◌, ◌∙◌, refl, sym, ap, ℕ, suc, ◌+◌, arith}
use Rattle.edit_generator.specs.Generated.{next_number, edit_number}

pub number_first : (seed : ℕ) → edit_number seed 0 ≡ seed
unfolding edit_number
number_first seed = refl

next : (seed edit : ℕ) → edit_number seed (suc edit) ≡ next_number (edit_number seed edit)
unfolding edit_number
next seed edit = refl

pub number_next : (seed edit number made : ℕ) → number ≡ edit_number seed edit → made ≡ next_number number →
    made ≡ edit_number seed (edit + 1)
number_next seed edit number made is then =
    let more : suc edit ≡ edit + 1 = omega arith in
    then ∙ (ap next_number is ∙ (sym (next seed edit) ∙ ap (edit_number seed) more))
