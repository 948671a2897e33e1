-- Which statuses endings have.
use Rattle.std.proofs.Common.{◌≡◌, ◌≢◌, inl, inr, ap, sym, subst, ℕ, List, arith}
use Rattle.run_stages.specs.Outcomes.{Outcome, says, IsAfterReading}

inside :
    (status : ℕ) (outcome : Outcome) → outcome.status ≡ status → IsAfterReading status →
    IsAfterReading outcome.status
inside status outcome e is = subst (λ n. IsAfterReading n) (sym e) is

pub status_said :
    (status : ℕ) (text : List ℕ) (outcome : Outcome) → outcome ≡ says status text → outcome.status ≡ status
status_said status text outcome e = ap (λ (o : Outcome). o.status) e

-- what prints alone after reading
pub said_inside :
    (status : ℕ) (text : List ℕ) (outcome : Outcome) → outcome ≡ says status text → IsAfterReading status →
    IsAfterReading outcome.status
said_inside status text outcome e is = inside status outcome (status_said status text outcome e) is

-- such a status is none of what happens outside
pub after_reading_inside : (status : ℕ) → IsAfterReading status → (status ≢ 5) × (status ≢ 6)
after_reading_inside status (inl e) = (λ s. omega (arith, e, s), λ s. omega (arith, e, s))
after_reading_inside status (inr e) = (λ s. omega (arith, e, s), λ s. omega (arith, e, s))
