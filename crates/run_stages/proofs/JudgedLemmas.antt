-- What checking a file says of a run.
use Rattle.std.proofs.Common.{◌≡◌, ◌∙◌, inl, inr, ap, sym, ℕ, List, arith}
use Rattle.doc_bits.specs.Rules.{Rules, IsSingle}
use Rattle.doc_bits.specs.Places.{Place, Upto}
use Rattle.doc_bits.proofs.Public.{place_one, first_agrees}
use Rattle.run_stages.specs.Lines.{rule_line}
use Rattle.run_stages.specs.Outcomes.{Outcome, says, IsAfterReading}
use Rattle.run_stages.specs.Judged.{IsRuleRefusal, Judges}
use Rattle.run_stages.proofs.OutcomeLemmas.{said_inside}

-- one refusal
pub refused_one :
    (rules : Rules Place) (name : List ℕ) (a b : Outcome) → IsSingle rules → IsRuleRefusal rules name a →
    IsRuleRefusal rules name b → a ≡ b
refused_one rules name a b single x y =
    let xy = first_agrees Upto rules x.rule y.rule x.place y.place single x.first y.first in
    let yx = first_agrees Upto rules y.rule x.rule y.place x.place single y.first x.first in
    let places : x.place ≡ y.place = place_one x.place y.place xy.1 yx.1 in
    x.ends
    ∙ (ap (λ r. says 1 (rule_line name r x.place)) xy.0
    ∙ (ap (λ p. says 1 (rule_line name y.rule p)) places ∙ sym y.ends))

-- a run that ends by a refusal, or by what comes behind it, has a status of what comes after reading
pub judged_inside :
    (rules : Rules Place) (name : List ℕ) (next : Outcome → Type 0) (outcome : Outcome) →
    (next outcome → IsAfterReading outcome.status) → Judges rules name next outcome → IsAfterReading outcome.status
judged_inside rules name next outcome step (inl x) = said_inside 1 _ outcome x.ends (inl (omega arith))
judged_inside rules name next outcome step (inr x) = step x.1
