-- The way from a path to another one, step by step: what is closed from the innermost, and what is opened.
use Rattle.std.proofs.Common.{◌≡◌, ℕ, ◌≤◌, Bool, List, [], ◌∷◌, ◌++◌, length, take, drop, ap, sym, ◌∙◌}
use Rattle.std.proofs.Common.{append_assoc, arith}
use Rattle.std.proofs.lemmas.List.{append-nil, take-append-le, drop-append-le, take-append-drop}
use Rattle.std.proofs.Math.Seq.{drop-append_seam}
use Rattle.std.proofs.Math.ListN.{drop_of_length-le}
use Rattle.view_paths.specs.Events.{Open, Close, opens, closes, transition}
use Rattle.view_paths.specs.Turns.{IsSharedFront, IsFront}

-- a transition, by how many elements are shared
pub transition-shared : {E : Type 0} (same : E → E → Bool) (from to : List E) (count : ℕ) → IsSharedFront same from to
    count →
    transition same from to ≡ closes (take count from) (drop count from) ++ opens (take count from) (drop count to)
unfolding transition
transition-shared same from to count h = rw (h.front, h.from_rest, h.to_rest)

-- the last of the elements is closed first
pub closes-last : {E : Type 0} (front rest : List E) (e : E) → closes front (rest ++ e ∷ []) ≡ Close (front ++ rest) e ∷
    closes front rest
closes-last front [] e = ap (λ path. Close path e ∷ []) (sym (append-nil front))
closes-last front (x ∷ rest) e =
    ap (λ tags. tags ++ Close front x ∷ []) (closes-last (front ++ x ∷ []) rest e) ∙ ap (λ path. Close path e ∷ (closes
    (front ++ x ∷ []) rest ++ Close front x ∷ [])) (append_assoc front (x ∷ []) rest)

-- one element is closed, and the rest is closed after it
pub closes-next : {E : Type 0} (old new : List E) (e : E) (count : ℕ) → old ≡ new ++ e ∷ [] → count ≤ length new →
    closes (take count old) (drop count old) ≡ Close new e ∷ closes (take count new) (drop count new)
closes-next old new e count is within =
    rw (is, take-append-le count new (e ∷ []) within, drop-append-le count new (e ∷ []) within) (closes-last (take count
    new) (drop count new) e ∙ ap (λ path. Close path e ∷ closes (take count new) (drop count new)) (take-append-drop
    count new))

-- what they share stays
pub take-closed : {E : Type 0} (old new : List E) (e : E) (count : ℕ) → old ≡ new ++ e ∷ [] → count ≤ length new → take
    count old ≡ take count new
take-closed old new e count is within = rw (is, take-append-le count new (e ∷ []) within)

-- nothing is left to be closed
pub closes-none : {E : Type 0} (path : List E) (count : ℕ) → length path ≤ count → closes (take count path) (drop count
    path) ≡ []
closes-none path count short = rw (drop_of_length-le path short)

-- one element is opened, and the rest is opened after it
pub opens-next : {E : Type 0} (old new to : List E) (e : E) → new ≡ old ++ e ∷ [] → IsFront new to →
    opens old (drop (length old) to) ≡ Open old e ∷ opens new (drop (length new) to)
opens-next old new to e is front =
    let all : old ++ (e ∷ drop (length new) to) ≡ to = sym (append_assoc old (e ∷ []) (drop (length new) to)) ∙ (ap (λ
    path. path ++ drop (length new) to) (sym is ∙ sym front) ∙ take-append-drop (length new) to) in
    let rest : drop (length old) to ≡ e ∷ drop (length new) to = ap (drop (length old)) (sym all) ∙ drop-append_seam old
    (e ∷ drop (length new) to) in
    rw (rest, is)

-- nothing is left to be opened
pub opens-none : {E : Type 0} (path to : List E) → path ≡ to → opens path (drop (length path) to) ≡ []
opens-none path to is = rw (is, drop_of_length-le to {i = length to} (omega arith))
