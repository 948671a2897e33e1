-- A short block gets items of the next one, or all of them.
use Rattle.std.proofs.Common.{◌≡◌, ◌≢◌, ℕ, refl, sym, ap, ◌∙◌, ◌+◌, ◌<◌, ◌≤◌, List, [], ◌∷◌, ◌++◌, length}
use Rattle.std.proofs.Common.{take, drop, set, get_or, arith, append_assoc, length-append, length-take-le, length-drop}
use Rattle.std.proofs.Common.{length-set}
use Rattle.std.specs.List.{splice}
use Rattle.std.proofs.lemmas.List.{take-append-drop, take_all}
use Rattle.std.proofs.lemmas.List.{drop_all, drop-set-lt, set-set}
use Rattle.std.proofs.lemmas.List.{get_or-set_same, get_or-set_other, take_more}
use Rattle.chunked_list.specs.Blocks.{joined, block_at, AreSizedBut}
use Rattle.chunked_list.proofs.UnitLemmas.{set_spliced}
use Rattle.chunked_list.proofs.JoinLemmas.{joined_at}
use Rattle.chunked_list.proofs.SizeLemmas.{splice_front}
use Rattle.chunked_list.proofs.ShortLemmas.{but_set, but_out, but_fine}
use Rattle.chunked_list.proofs.RemoveLemmas.{joined_set, joined_out, joined_drop, set_front, length_out}

-- ---- a block that gets the first items of the next one

-- an element put behind the last one
pub put_end : {A : Type 0} (xs : List A) (x : A) (end : ℕ) → end ≡ length xs → take end xs ++ (x ∷ drop end xs)
    ≡ xs ++ x ∷ []
put_end {A = A} xs x end is =
    let all : length xs ≤ end = omega arith in
    ap (λ (t : List A). t ++ (x ∷ drop end xs)) (take_all end xs all)
    ∙ ap (λ (t : List A). xs ++ (x ∷ t)) (drop_all end xs all)

-- elements of another list, one after the other
pub append_more : {A : Type 0} (old xs now new : List A) (x : A) (i end : ℕ) → now ≡ old ++ take i xs → end ≡ length now
    → new ≡ take end now ++ (x ∷ drop end now) → i < length xs → get_or xs i x ≡ x → new ≡ old ++ take (i + 1) xs
append_more {A = A} old xs now new x i end so_far is put within read =
    put
    ∙ put_end now x end is
    ∙ ap (λ (t : List A). t ++ x ∷ []) so_far
    ∙ append_assoc old (take i xs) (x ∷ [])
    ∙ ap (λ (y : A). old ++ (take i xs ++ y ∷ [])) (sym read)
    ∙ ap (λ (t : List A). old ++ t) (sym (take_more xs i x within))

-- the blocks with an item more behind the last one of a block
pub lent_more : {T : Type 0} (old now new : List (List T)) (b i end : ℕ) (x : T) → b + 1 < length old →
    now ≡ set old b (block_at old b ++ take i (block_at old (b + 1))) → end ≡ length (block_at now b)
    → get_or (block_at old (b + 1)) i x ≡ x → i < length (block_at old (b + 1))
    → new ≡ splice now b (b + 1) ((take end (block_at now b) ++ (x ∷ drop end (block_at now b))) ∷ [])
    → new ≡ set old b (block_at old b ++ take (i + 1) (block_at old (b + 1)))
lent_more {T = T} old now new b i end x there so_far is read within put =
    let block = block_at old b in
    let next = block_at old (b + 1) in
    let low : b < length old = omega arith in
    let still : b < length now = omega (arith, ap length so_far, length-set old b (block ++ take i next)) in
    let here : block_at now b ≡ block ++ take i next =
    ap (λ (t : List (List T)). block_at t b) so_far ∙ get_or-set_same old b (block ++ take i next) [] low in
    let grown = take end (block_at now b) ++ (x ∷ drop end (block_at now b)) in
    let more : grown ≡ block ++ take (i + 1) next =
    append_more block next (block_at now b) grown x i end here is refl within read in
    put
    ∙ sym (set_spliced now b grown still)
    ∙ ap (λ (t : List T). set now b t) more
    ∙ ap (λ (t : List (List T)). set t b (block ++ take (i + 1) next)) so_far
    ∙ set-set old b (block ++ take i next) (block ++ take (i + 1) next)

-- what is in the two blocks then
pub lent_here : {T : Type 0} (old now : List (List T)) (b : ℕ) (x : List T) → b + 1 < length old → now ≡ set old b x →
    block_at now b ≡ x
lent_here {T = T} old now b x there is =
    let low : b < length old = omega arith in
    ap (λ (t : List (List T)). block_at t b) is ∙ get_or-set_same old b x [] low

pub lent_next : {T : Type 0} (old now : List (List T)) (b : ℕ) (x : List T) → now ≡ set old b x →
    block_at now (b + 1) ≡ block_at old (b + 1)
lent_next {T = T} old now b x is =
    let other : b + 1 ≢ b = λ same. omega (arith, same) in
    ap (λ (t : List (List T)). block_at t (b + 1)) is ∙ get_or-set_other old b (b + 1) x [] other

-- the list behind the next block
lent_back : {T : Type 0} (old now : List (List T)) (b : ℕ) (x : List T) → now ≡ set old b x →
    joined (drop (b + 1 + 1) now) ≡ joined (drop (b + 1 + 1) old)
lent_back {T = T} old now b x is =
    let later : b < b + 1 + 1 = omega arith in
    ap (λ (t : List (List T)). joined (drop (b + 1 + 1) t)) is ∙ ap joined (drop-set-lt (b + 1 + 1) old b x later)

-- the list with the two blocks
two_joined : {T : Type 0} (old : List (List T)) (b : ℕ) → b + 1 < length old →
    joined old
    ≡ joined (take b old) ++ (block_at old b ++ (block_at old (b + 1) ++ joined (drop (b + 1 + 1) old)))
two_joined {T = T} old b there =
    let low : b < length old = omega arith in
    joined_at old b low
    ∙ ap (λ (t : List T). joined (take b old) ++ (block_at old b ++ t)) (joined_drop old (b + 1) there)

-- items go from the front of a list to the end of the one before it
moved : {A : Type 0} (front block next back : List A) (count : ℕ) →
    (front ++ (block ++ take count next)) ++ (drop count next ++ back) ≡ front ++ (block ++ (next ++ back))
moved {A = A} front block next back count =
    append_assoc front (block ++ take count next) (drop count next ++ back)
    ∙ ap (λ (t : List A). front ++ t) (append_assoc block (take count next) (drop count next ++ back))
    ∙ ap (λ (t : List A). front ++ (block ++ t)) (sym (append_assoc (take count next) (drop count next) back))
    ∙ ap (λ (t : List A). front ++ (block ++ (t ++ back))) (take-append-drop count next)

-- the next block joined
pub joined_same : {T : Type 0} (old now new : List (List T)) (b count : ℕ) → b + 1 < length old →
    count ≡ length (block_at old (b + 1)) → now ≡ set old b (block_at old b ++ take count (block_at old (b + 1)))
    → new ≡ splice now (b + 1) (b + 1 + 1) [] → joined new ≡ joined old
joined_same {T = T} old now new b count there all lent out =
    let block = block_at old b in
    let next = block_at old (b + 1) in
    let front = joined (take b old) in
    let back = joined (drop (b + 1 + 1) old) in
    let past : length next ≤ count = omega arith in
    let low : b < length old = omega arith in
    ap joined out
    ∙ joined_out now (b + 1)
    ∙ ap (λ (t : List T). t ++ joined (drop (b + 1 + 1) now)) (set_front old now b (block ++ take count next) low
    lent)
    ∙ ap (λ (t : List T). (front ++ (block ++ take count next)) ++ t) (lent_back old now b (block ++ take count next)
    lent)
    ∙ ap (λ (t : List T). (front ++ (block ++ take count next)) ++ (t ++ back)) (sym (drop_all count next past))
    ∙ moved front block next back count
    ∙ sym (two_joined old b there)

-- items moved from the next block
pub moved_same : {T : Type 0} (old now new : List (List T)) (b count : ℕ) → b + 1 < length old →
    now ≡ set old b (block_at old b ++ take count (block_at old (b + 1)))
    → new ≡ set now (b + 1) (splice (block_at now (b + 1)) 0 count []) → joined new ≡ joined old
moved_same {T = T} old now new b count there lent cut =
    let block = block_at old b in
    let next = block_at old (b + 1) in
    let front = joined (take b old) in
    let back = joined (drop (b + 1 + 1) old) in
    let still : b + 1 < length now = omega (arith, ap length lent, length-set old b (block ++ take count next)) in
    let low : b < length old = omega arith in
    ap joined cut
    ∙ joined_set now (b + 1) (splice (block_at now (b + 1)) 0 count []) still
    ∙ ap (λ (t : List T). t ++ (drop count (block_at now (b + 1)) ++ joined (drop (b + 1 + 1) now)))
    (set_front old now b (block ++ take count next) low lent)
    ∙ ap (λ (t : List T). (front ++ (block ++ take count next)) ++ (drop count t ++ joined (drop (b + 1 + 1) now)))
    (lent_next old now b (block ++ take count next) lent)
    ∙ ap (λ (t : List T). (front ++ (block ++ take count next)) ++ (drop count next ++ t))
    (lent_back old now b (block ++ take count next) lent)
    ∙ moved front block next back count
    ∙ sym (two_joined old b there)

-- ---- sizes of the two blocks

pub joined_sized : {T : Type 0} (old now new : List (List T)) (b count full from : ℕ) →
    AreSizedBut old full from (b + 1)
    → from ≤ b → b + 1 < length old → count ≡ length (block_at old (b + 1))
    → length (block_at old b) + count ≤ 128
    → now ≡ set old b (block_at old b ++ take count (block_at old (b + 1)))
    → new ≡ splice now (b + 1) (b + 1 + 1) [] → AreSizedBut new full from b
joined_sized {T = T} old now new b count full from is low there all room lent out =
    let block = block_at old b in
    let next = block_at old (b + 1) in
    let grown = block ++ take count next in
    let here : b < length old = omega arith in
    let few : count ≤ length next = omega arith in
    let long : length grown ≡ length block + count = omega (
      arith,
      length-append block (take count next),
      length-take-le count next few,
    ) in
    let most : length grown ≤ 128 = omega arith in
    let same : b + 1 ≤ b + 1 = omega arith in
    let mid : AreSizedBut now full from (b + 1) =
    but_set old now b grown full from (b + 1) (b + 1) is lent here most low same (λ more. absurd (omega arith)) in
    let count_now : length now ≡ length old = ap length lent ∙ length-set old b grown in
    let still : b + 1 < length now = omega arith in
    let from_next : from ≤ b + 1 = omega arith in
    let to_next : b + 1 ≤ b + 1 + 1 = omega arith in
    let less : AreSizedBut new full from (b + 1) =
    but_out now new (b + 1) full from (b + 1) (b + 1) mid out still from_next to_next (λ k high small. absurd (omega
    arith)) in
    let within : b + 1 ≤ length now = omega arith in
    let before : b < b + 1 = omega arith in
    let size : length (block_at new b) ≡ length grown =
    ap (λ (t : List (List T)). length (block_at t b)) out
    ∙ ap length (splice_front now [] (b + 1) (b + 1 + 1) b [] within before)
    ∙ ap length (lent_here old now b grown there lent) in
    let count_new : length new + 1 ≡ length now =
    omega (arith, ap length out, length_out now (b + 1) still) in
    but_fine new b full from less
    (λ inside. let some = is.some_back (b + 1) there same in omega arith)
    (λ inside. let least = is.least_back (b + 1) (omega arith) same in omega arith)

pub moved_sized : {T : Type 0} (old now new : List (List T)) (b count full from : ℕ) →
    AreSizedBut old full from (b + 1)
    → from ≤ b → b + 1 < length old → count + length (block_at old b) ≡ 64
    → 128 < length (block_at old b) + length (block_at old (b + 1))
    → length (block_at old (b + 1)) ≤ 128 → length (block_at old b) ≤ 64
    → now ≡ set old b (block_at old b ++ take count (block_at old (b + 1)))
    → new ≡ set now (b + 1) (splice (block_at now (b + 1)) 0 count []) → AreSizedBut new full from b
moved_sized {T = T} old now new b count full from is low there half much most few lent cut =
    let block = block_at old b in
    let next = block_at old (b + 1) in
    let grown = block ++ take count next in
    let rest = splice (block_at now (b + 1)) 0 count [] in
    let here : b < length old = omega arith in
    let enough : count ≤ length next = omega arith in
    let long : length grown ≡ 64 = omega (
      arith,
      length-append block (take count next),
      length-take-le count next enough,
    ) in
    let grown_most : length grown ≤ 128 = omega arith in
    let same : b + 1 ≤ b + 1 = omega arith in
    let mid : AreSizedBut now full from (b + 1) =
    but_set old now b grown full from (b + 1) (b + 1) is lent here grown_most low same (λ more. absurd (omega arith)) in
    let count_now : length now ≡ length old = ap length lent ∙ length-set old b grown in
    let still : b + 1 < length now = omega arith in
    let left : length rest + count ≡ length next =
    omega (
      arith,
      length-drop count (block_at now (b + 1)),
      ap length (lent_next old now b grown lent),
      enough,
    ) in
    let rest_most : length rest ≤ 128 = omega arith in
    let from_next : from ≤ b + 1 = omega arith in
    let less : AreSizedBut new full from (b + 1) =
    but_set now new (b + 1) rest full from (b + 1) (b + 1) mid cut still rest_most from_next same
    (λ more. omega arith) in
    let other : b ≢ b + 1 = λ equal. omega (arith, equal) in
    let size : length (block_at new b) ≡ 64 =
    ap (λ (t : List (List T)). length (block_at t b)) cut
    ∙ ap length (get_or-set_other now (b + 1) b rest [] other)
    ∙ ap length (lent_here old now b grown there lent)
    ∙ long in
    but_fine new b full from less (λ inside. omega arith) (λ inside. omega arith)
