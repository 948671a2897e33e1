-- Parts that are carried are short.
use Rattle.std.proofs.Common.{◌≡◌, ℕ, ◌<◌, ◌^◌, List, ◌∷◌, length, nat_lt, subst, sym, arith, lt-ltb}
use Rattle.std.specs.List.{list_all}
use Rattle.std.proofs.lemmas.Bool.{and_from}
use Rattle.doc_model.specs.Carried.{ArePartsShort}

-- the copy of a short part before others
pub short-cons : (copy part : List ℕ) (parts : List (List ℕ)) → copy ≡ part → length part < 2 ^ 32 →
    ArePartsShort parts → ArePartsShort (copy ∷ parts)
short-cons copy part parts same short rest =
    let copy_short : length copy < 2 ^ 32 = subst (λ xs. length xs < 2 ^ 32) (sym same) short in
    and_from (nat_lt (length copy) (2 ^ 40)) (list_all (λ xs. nat_lt (length xs) (2 ^ 40)) parts)
    (lt-ltb (length copy) (2 ^ 40) (omega arith)) rest
