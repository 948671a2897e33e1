-- What is appended of the parts.
use Rattle.std.proofs.Common.{◌≡◌, ℕ, ◌+◌, ◌-◌, ◌≤◌, List, ◌++◌, length, drop, replicate, sym, ap, ◌∙◌, arith}
use Rattle.std.proofs.lemmas.List.{append_assoc, drop-append-le, drop-replicate}
use Rattle.std.proofs.Math.Seq.{drop-append-add}
use Rattle.cfb_in_place.specs.Sources.{rest_behind}

-- the stream ends within the old bytes
pub rest_within : (old mid new joined : List ℕ) (more : ℕ) → mid ≡ old ++ drop (length old) joined → new ≡ mid ++
    replicate more 0 → length old ≤ length joined → new ≡ old ++ rest_behind (length old) joined more
unfolding rest_behind
rest_within old mid new joined more a b h =
    b ∙ (ap (λ xs. xs ++ replicate more 0) a
    ∙ (append_assoc old (drop (length old) joined) (replicate more 0)
    ∙ ap (λ xs. old ++ xs) (sym (drop-append-le (length old) joined (replicate more 0) h))))

-- it ends behind them
pub rest_past : (old new joined : List ℕ) (more count : ℕ) → new ≡ old ++ replicate count 0 → length joined ≤ length old
    → count ≡ length joined + more - length old → new ≡ old ++ rest_behind (length old) joined more
unfolding rest_behind
rest_past old new joined more count a h is =
    let k = length old - length joined in
    let place : length old ≡ length joined + k = omega arith in
    let left : more - k ≡ count = omega arith in
    a ∙ ap (λ xs. old ++ xs) (sym (ap (λ n. drop n (joined ++ replicate more 0)) place
    ∙ (drop-append-add joined (replicate more 0) k
    ∙ (drop-replicate k more 0 ∙ ap (λ n. replicate n 0) left))))

-- five pieces in a row
pub five_join : (base a b c d e v w x y z : List ℕ) → a ≡ base ++ v → b ≡ a ++ w → c ≡ b ++ x → d ≡ c ++ y → e ≡ d ++
    z →
    e ≡ base ++ (v ++ (w ++ (x ++ (y ++ z))))
five_join base a b c d e v w x y z one two three four five =
    let second = two ∙ (ap (λ xs. xs ++ w) one ∙ append_assoc base v w) in
    let third = three ∙ (ap (λ xs. xs ++ x) second ∙ append_assoc base (v ++ w) x) in
    let fourth = four ∙ (ap (λ xs. xs ++ y) third ∙ append_assoc base ((v ++ w) ++ x) y) in
    let fifth = five ∙ (ap (λ xs. xs ++ z) fourth ∙ append_assoc base (((v ++ w) ++ x) ++ y) z) in
    fifth ∙ ap (λ xs. base ++ xs) (append_assoc ((v ++ w) ++ x) y z ∙ (append_assoc (v ++ w) x (y ++ z) ∙ append_assoc v
    w (x ++ (y ++ z))))
