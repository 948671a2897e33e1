-- How many items the blocks have.
use Rattle.std.proofs.Common.{◌≡◌, ℕ, zero, suc, refl, sym, ap, subst, ◌∙◌, ◌+◌, ◌*◌, ◌-◌, ◌<◌, ◌≤◌, List, [], ◌++◌}
use Rattle.std.proofs.Common.{length, inl, inr}
use Rattle.std.proofs.Common.{take, drop, get_or, arith, length-append, length-take-le, length-drop}
use Rattle.std.specs.List.{splice}
use Rattle.std.proofs.lemmas.Bool.{cases_lt}
use Rattle.std.proofs.lemmas.List.{get_or_append_left, get_or-append_right, get_or-take, get_or-drop}
use Rattle.chunked_list.specs.Blocks.{joined, block_at, AreSized}
use Rattle.chunked_list.proofs.JoinLemmas.{joined-nil, joined_more_length}

pub length-splice : {A : Type 0} (xs ys : List A) (b c : ℕ) → b ≤ c → c ≤ length xs →
    length (splice xs b c ys) + (c - b) ≡ length xs + length ys
length-splice xs ys b c order within =
    let le : b ≤ length xs = omega arith in
    omega (
      arith,
      length-append (take b xs) (ys ++ drop c xs),
      length-append ys (drop c xs),
      length-take-le b xs le,
      length-drop c xs,
    )

-- ---- what is at a place of a spliced list

pub splice_front : {A : Type 0} (xs ys : List A) (b c k : ℕ) (d : A) → b ≤ length xs → k < b →
    get_or (splice xs b c ys) k d ≡ get_or xs k d
splice_front xs ys b c k d within low =
    let short : k < length (take b xs) = omega (arith, length-take-le b xs within) in
    get_or_append_left (take b xs) (ys ++ drop c xs) d k short ∙ get_or-take b xs k d low

pub splice_mid : {A : Type 0} (xs ys : List A) (b c k : ℕ) (d : A) → b ≤ length xs → b ≤ k → k < b + length ys →
    get_or (splice xs b c ys) k d ≡ get_or ys (k - b) d
splice_mid xs ys b c k d within low high =
    let less : k - b < length ys = omega arith in
    get_or-append_right (take b xs) (ys ++ drop c xs) b k d (length-take-le b xs within) low
    ∙ get_or_append_left ys (drop c xs) d (k - b) less

pub splice_back : {A : Type 0} (xs ys : List A) (b c k : ℕ) (d : A) → b ≤ length xs → b + length ys ≤ k →
    get_or (splice xs b c ys) k d ≡ get_or xs (c + (k - b - length ys)) d
splice_back xs ys b c k d within high =
    let low : b ≤ k = omega arith in
    let more : length ys ≤ k - b = omega arith in
    get_or-append_right (take b xs) (ys ++ drop c xs) b k d (length-take-le b xs within) low
    ∙ get_or-append_right ys (drop c xs) (length ys) (k - b) d refl more
    ∙ get_or-drop c xs (k - b - length ys) d

-- ---- blocks that come in the place of others

-- fresh blocks may come in the place of those from `b` to before `c`
pub record AreFresh {T : Type 0} (fresh : List (List T)) (rest : ℕ) : Type 0 where
  pub some : (k : ℕ) → k < length fresh → 1 ≤ length (block_at fresh k)
  pub most : (k : ℕ) → k < length fresh → length (block_at fresh k) ≤ 128
  pub least : (k : ℕ) → k + 1 < length fresh + rest → k < length fresh → 32 ≤ length (block_at fresh k)

-- a property of each block that the property of the parts gives
pub by_parts : {T : Type 0} (P : List T → Type 0) (blocks fresh : List (List T)) (b c k : ℕ) → b ≤ c →
    c ≤ length blocks →
    (k < b → P (block_at blocks k)) → (b ≤ k → k < b + length fresh → P (block_at fresh (k - b)))
    → (b + length fresh ≤ k → P (block_at blocks (c + (k - b - length fresh)))) →
    P (block_at (splice blocks b c fresh) k)
by_parts P blocks fresh b c k order within front mid back =
    let le : b ≤ length blocks = omega arith in
    elim (cases_lt k b) [
      | inl low ↦ subst P (sym (splice_front blocks fresh b c k [] le low)) (front low)
      | inr high ↦ elim (cases_lt k (b + length fresh)) [
        | inl less ↦ subst P (sym (splice_mid blocks fresh b c k [] le high less)) (mid high less)
        | inr more ↦ subst P (sym (splice_back blocks fresh b c k [] le more)) (back more)
      ]
    ]

pub sized_spliced : {T : Type 0} (blocks fresh : List (List T)) (b c full : ℕ) → AreSized blocks full → b ≤ c →
    c ≤ length blocks → full ≤ b → b < length blocks → AreFresh fresh (length blocks - c)
    → AreSized (splice blocks b c fresh) full
sized_spliced {T = T} blocks fresh b c full sized order within low there new =
    let long = length-splice blocks fresh b c order within in
    record {
      most = λ k h. by_parts (λ (t : List T). length t ≤ 128) blocks fresh b c k order within
          (λ less. sized.most k (omega arith))
          (λ from less. new.most (k - b) (omega arith))
          (λ more. sized.most (c + (k - b - length fresh)) (omega (arith, long, h, more)));
      some = λ k h. by_parts (λ (t : List T). 1 ≤ length t) blocks fresh b c k order within
          (λ less. sized.some k (omega arith))
          (λ from less. new.some (k - b) (omega arith))
          (λ more. sized.some (c + (k - b - length fresh)) (omega (arith, long, h, more)));
      least = λ k h. by_parts (λ (t : List T). 32 ≤ length t) blocks fresh b c k order within
          (λ less. sized.least k (omega arith))
          (λ from less. new.least (k - b) (omega (arith, long, h)) (omega arith))
          (λ more. sized.least (c + (k - b - length fresh)) (omega (arith, long, h, more)));
      there = omega (arith, long);
      whole = λ k h. by_parts (λ (t : List T). length t ≡ 128) blocks fresh b c k order within
          (λ less. sized.whole k h)
          (λ from less. absurd (omega arith))
          (λ more. absurd (omega arith));
    }

-- fewer blocks are told to be full
pub sized_fewer : {T : Type 0} (blocks : List (List T)) (full fewer : ℕ) → AreSized blocks full → fewer ≤ full →
    AreSized blocks fewer
sized_fewer blocks full fewer sized le = record {
  most = sized.most;
  some = sized.some;
  least = sized.least;
  there = let t = sized.there in omega arith;
  whole = λ k h. sized.whole k (omega arith);
}

-- ---- blocks that are passed

-- so many blocks have 32 items each at least
pub blocks_pass : {T : Type 0} (blocks : List (List T)) (full b : ℕ) → AreSized blocks full → b < length blocks →
    32 * b ≤ length (joined (take b blocks))
blocks_pass blocks full zero sized there = omega arith
blocks_pass {T = T} blocks full (suc b) sized there =
    let le : b < length blocks = omega arith in
    let before = blocks_pass blocks full b sized le in
    let one : b + 1 ≡ suc b = omega arith in
    let least = sized.least b (omega arith) in
    subst (λ (n : ℕ). 32 * n ≤ length (joined (take n blocks))) one (omega (
      arith,
      before,
      joined_more_length blocks
          b le,
      least,
    ))

-- the full blocks have 128 items each
pub full_pass : {T : Type 0} (blocks : List (List T)) (full b : ℕ) → AreSized blocks full → b ≤ full →
    length (joined (take b blocks)) ≡ 128 * b
full_pass {T = T} blocks full zero sized low = ap length joined-nil
full_pass {T = T} blocks full (suc b) sized low =
    let less : b < full = omega arith in
    let there = sized.there in
    let within : b < length blocks = omega arith in
    let before = full_pass blocks full b sized (omega arith) in
    let one : b + 1 ≡ suc b = omega arith in
    let whole = sized.whole b less in
    subst (λ (n : ℕ). length (joined (take n blocks)) ≡ 128 * n) one
    (omega (arith, before, joined_more_length blocks b within, whole))
