-- Outcomes of one run: they are alike, and are the same but where something leaves the bytes open.
use Rattle.std.proofs.Common.{◌≡◌, ◌∙◌, sym, ap, ℕ, List}
use Rattle.run_stages.specs.Outcomes.{Outcome, puts, put_name, AreAlike}

abbrev pub IsOne : Type 0 → Outcome → Outcome → Type 0
IsOne free a b = AreAlike a b × (¬ free → a ≡ b)

alike_same : (a b : Outcome) → a ≡ b → AreAlike a b
alike_same a b e = record {
  status = ap (λ (o : Outcome). o.status) e;
  text = ap (λ (o : Outcome). o.text) e;
  name = ap put_name e;
}

pub one_same : (free : Type 0) (a b : Outcome) → a ≡ b → IsOne free a b
one_same free a b e = (alike_same a b e, λ closed. e)

-- what leaves the bytes open may be said in other words
pub one_when : (free other : Type 0) (a b : Outcome) → (free → other) → IsOne free a b → IsOne other a b
one_when free other a b up one = (one.0, λ closed. one.1 (λ f. closed (up f)))

-- outcomes that put under one name and print one text
pub puts_alike :
    (text name one other : List ℕ) (a b : Outcome) → a ≡ puts text name one → b ≡ puts text name other →
    AreAlike a b
puts_alike text name one other a b x y = record {
  status = ap (λ (o : Outcome). o.status) x ∙ sym (ap (λ (o : Outcome). o.status) y);
  text = ap (λ (o : Outcome). o.text) x ∙ sym (ap (λ (o : Outcome). o.text) y);
  name = ap put_name x ∙ sym (ap put_name y);
}
