-- Lines that are written one after the other.
use Rattle.std.proofs.Common.{◌≡◌, ◌∙◌, ap, refl, List, ℕ, [], ◌++◌, Result, OnOk, append_assoc}

pub three_written : {A E : Type 0} (r : Result A E) (start one two three p q s : List ℕ) → one ≡ start ++ p →
    two ≡ one ++ q →
    OnOk r (three ≡ two ++ s) → OnOk r (three ≡ start ++ (p ++ (q ++ s)))
three_written r start one two three p q s e f h =
    rw (← append_assoc start p (q ++ s), ← append_assoc (start ++ p) q s, ← e, ← f) h

pub two_written : (start one two p q : List ℕ) → start ≡ [] → one ≡ start ++ p → two ≡ one ++ q → two ≡ p ++ q
two_written start one two p q e f g = rw (g, f, e) refl

pub five_written : (start one two three four five a b c d e : List ℕ) → start ≡ [] → one ≡ start ++ a → two ≡ one ++ b →
    three ≡ two ++ c → four ≡ three ++ d → five ≡ four ++ e → five ≡ a ++ (b ++ (c ++ (d ++ e)))
five_written start one two three four five a b c d e none first second third fourth fifth =
    let more = λ (t : List ℕ) (put : List ℕ). put ++ t in
    fifth
    ∙ ap (more e) (fourth
    ∙ ap (more d) (third ∙ ap (more c) (second ∙ ap (more b) (first ∙ ap (more a) none))))
    ∙ append_assoc ((a ++ b) ++ c) d e
    ∙ append_assoc (a ++ b) c (d ++ e)
    ∙ append_assoc a b (c ++ (d ++ e))
