use Rattle.std.proofs.Common.{◌≡◌, ℕ, ◌-◌, ◌≤◌, List, ◌++◌, length, take, drop, arith, append_assoc, sym, ap, subst}
use Rattle.std.proofs.Common.{◌∙◌, length-drop}
use Rattle.std.proofs.lemmas.List.{take-append-drop, drop-drop, take_all}
use Rattle.text_codes.specs.Shown.{completed}
use Rattle.text_codes.proofs.showing.ShownText.push_all.Goals as goal

pub loop-done-preserved : goal.loop-done-preserved
loop-done-preserved c =
    let units : List ℕ = c.args.units.now in
    let done : ℕ = c.loop-done.done in
    let left : List ℕ = drop done units in
    let count : ℕ = c.in_ok-done.field-0 in
    let long : length left ≡ length units - done = length-drop done units in
    let whole : take (length units - done) left ≡ left = take_all (length units - done) left (omega (arith, long)) in
    let short : count ≤ length left = subst (λ (t : List ℕ). count ≤ length t) whole c.in_ok-done.ensures.inside in
    record {
      inside = omega (arith, short, long, c.loop-done.invariant.inside);
      text = λ after.
          let rest : List ℕ = drop count left ++ after in
          let parts : take count left ++ rest ≡ left ++ after = sym
          (append_assoc (take count left) (drop count left) after) ∙ ap (λ (t : List ℕ). t ++ after)
          (take-append-drop count left) in
          ap (λ (t : List ℕ). completed c.push_front.new.self (t ++ after)) (sym (drop-drop count done units))
          ∙ c.in_ok-done.ensures.text rest
          ∙ ap (λ (t : List ℕ). completed c.loop-done.self (take count t ++ rest)) whole
          ∙ ap (λ (t : List ℕ). completed c.loop-done.self t) parts
          ∙ c.loop-done.invariant.text after;
    }
