-- Blocks that may be short for a while.
use Rattle.std.proofs.Common.{◌≡◌, ◌≢◌, ℕ, sym, ap, subst, ◌∙◌, ◌+◌, ◌-◌, ◌<◌, ◌≤◌, List, []}
use Rattle.std.proofs.Common.{length, inl, inr, set, arith, length-set}
use Rattle.std.specs.List.{splice}
use Rattle.std.proofs.lemmas.Bool.{cases_lt, cases_eq}
use Rattle.std.proofs.lemmas.List.{get_or-set_same, get_or-set_other}
use Rattle.chunked_list.specs.Blocks.{block_at, AreSized, AreSizedBut}
use Rattle.chunked_list.proofs.SizeLemmas.{by_parts, length-splice}

-- no block is short
pub but_none : {T : Type 0} (blocks : List (List T)) (full n : ℕ) → AreSizedBut blocks full n n → AreSized blocks full
but_none blocks full n is = record {
  most = is.most;
  some = λ k low. elim (cases_lt k n) [
    | inl less ↦ is.some_front k low less
    | inr more ↦ is.some_back k low more
  ];
  least = λ k low. elim (cases_lt k n) [
    | inl less ↦ is.least_front k low less
    | inr more ↦ is.least_back k low more
  ];
  there = let a = is.low in let b = is.there in omega arith;
  whole = is.whole;
}

pub sized_but : {T : Type 0} (blocks : List (List T)) (full n : ℕ) → AreSized blocks full → full ≤ n → n ≤ length blocks
    → AreSizedBut blocks full n n
sized_but blocks full n is low there = record {
  most = is.most;
  some_front = λ k within less. is.some k within;
  some_back = λ k within more. is.some k within;
  least_front = λ k within less. is.least k within;
  least_back = λ k within more. is.least k within;
  low = low;
  there = there;
  whole = is.whole;
}

-- more blocks may be short
pub but_wider : {T : Type 0} (blocks : List (List T)) (full from to wide : ℕ) → AreSizedBut blocks full from to →
    to ≤ wide → AreSizedBut blocks full from wide
but_wider blocks full from to wide is le = record {
  most = is.most;
  some_front = is.some_front;
  some_back = λ k within more. is.some_back k within (omega arith);
  least_front = is.least_front;
  least_back = λ k within more. is.least_back k within (omega arith);
  low = is.low;
  there = is.there;
  whole = is.whole;
}

-- ---- another block in the place of one

set_at_block : {T : Type 0} (P : List T → Type 0) (blocks : List (List T)) (b : ℕ) (x : List T) (k : ℕ) →
    b < length blocks → (k ≡ b → P x) → (k ≢ b → P (block_at blocks k)) → P (block_at (set blocks b x) k)
set_at_block P blocks b x k there here else = elim (cases_eq k b) [
  | inl same ↦ subst (λ (n : ℕ). P (block_at (set blocks b x) n)) (sym same)
      (subst P (sym (get_or-set_same blocks b x [] there)) (here same))
  | inr other ↦ subst P (sym (get_or-set_other blocks b k x [] other)) (else other)
]

-- the length of a block, where one has come in the place of another that is as long
pub same_size : {T : Type 0} (blocks old : List (List T)) (b : ℕ) (x : List T) (k : ℕ) → b < length blocks →
    length x ≡ length (block_at old b) → length (block_at blocks k) ≡ length (block_at old k)
    → length (block_at (set blocks b x) k) ≡ length (block_at old k)
same_size {T = T} blocks old b x k there here like =
    set_at_block (λ (t : List T). length t ≡ length (block_at old k)) blocks b x k there
    (λ same. here ∙ ap (λ (n : ℕ). length (block_at old n)) (sym same))
    (λ other. like)

pub but_set : {T : Type 0} (blocks new : List (List T)) (b : ℕ) (x : List T) (full from to wide : ℕ) →
    AreSizedBut blocks full from to → new ≡ set blocks b x → b < length blocks → length x ≤ 128 → from ≤ b → to ≤ wide
    → (wide ≤ b → 32 ≤ length x) → AreSizedBut new full from wide
but_set {T = T} blocks new b x full from to wide is put there most from_b le least =
    let long = length-set blocks b x in
    subst (λ (t : List (List T)). AreSizedBut t full from wide) (sym put) (record {
      most = λ k low. set_at_block (λ (t : List T). length t ≤ 128) blocks b x k there
          (λ same. most)
          (λ other. is.most k (omega (arith, long, low)));
      some_front = λ k low less. set_at_block (λ (t : List T). 1 ≤ length t) blocks b x k there
          (λ same. absurd (omega arith))
          (λ other. is.some_front k (omega (arith, long, low)) less);
      some_back = λ k low more. set_at_block (λ (t : List T). 1 ≤ length t) blocks b x k there
          (λ same. let enough = least (omega arith) in omega arith)
          (λ other. is.some_back k (omega (arith, long, low)) (omega arith));
      least_front = λ k low less. set_at_block (λ (t : List T). 32 ≤ length t) blocks b x k there
          (λ same. absurd (omega arith))
          (λ other. is.least_front k (omega (arith, long, low)) less);
      least_back = λ k low more. set_at_block (λ (t : List T). 32 ≤ length t) blocks b x k there
          (λ same. least (omega arith))
          (λ other. is.least_back k (omega (arith, long, low)) (omega arith));
      low = is.low;
      there = let t = is.there in omega (arith, long);
      whole = λ k low. set_at_block (λ (t : List T). length t ≡ 128) blocks b x k there
          (λ same. absurd (let l = is.low in omega arith))
          (λ other. is.whole k low);
    })

-- ---- a block less

out_at : {T : Type 0} (P : List T → Type 0) (blocks : List (List T)) (b k : ℕ) → b < length blocks →
    (k < b → P (block_at blocks k)) → (b ≤ k → P (block_at blocks (k + 1)))
    → P (block_at (splice blocks b (b + 1) []) k)
out_at {T = T} P blocks b k there front back =
    let order : b ≤ b + 1 = omega arith in
    let within : b + 1 ≤ length blocks = omega arith in
    by_parts P blocks [] b (b + 1) k order within front
    (λ from less. absurd (omega arith))
    (λ more.
    let high : b ≤ k = omega arith in
    let next : k + 1 ≡ b + 1 + (k - b - length {A = List T} []) = omega arith in
    subst (λ (n : ℕ). P (block_at blocks n)) next (back high))

pub but_out : {T : Type 0} (blocks new : List (List T)) (b full from to wide : ℕ) → AreSizedBut blocks full from to →
    new ≡ splice blocks b (b + 1) [] → b < length blocks → from ≤ b → to ≤ b + 1
    → ((k : ℕ) → wide ≤ k → k < b → to ≤ k) → AreSizedBut new full from wide
but_out {T = T} blocks new b full from to wide is out there from_b to_b before =
    let order : b ≤ b + 1 = omega arith in
    let within : b + 1 ≤ length blocks = omega arith in
    let cut : length (splice blocks b (b + 1) []) + (b + 1 - b) ≡ length blocks + length {A = List T} [] =
    length-splice blocks [] b (b + 1) order within in
    let long : length (splice blocks b (b + 1) []) + 1 ≡ length blocks = omega (arith, cut) in
    subst (λ (t : List (List T)). AreSizedBut t full from wide) (sym out) (record {
      most = λ k low. out_at (λ (t : List T). length t ≤ 128) blocks b k there
          (λ less. is.most k (omega arith))
          (λ more. is.most (k + 1) (omega (arith, long, low)));
      some_front = λ k low less. out_at (λ (t : List T). 1 ≤ length t) blocks b k there
          (λ small. is.some_front k (omega arith) less)
          (λ more. absurd (omega arith));
      some_back = λ k low high. out_at (λ (t : List T). 1 ≤ length t) blocks b k there
          (λ small. is.some_back k (omega arith) (before k high small))
          (λ more. is.some_back (k + 1) (omega (arith, long, low)) (omega arith));
      least_front = λ k low less. out_at (λ (t : List T). 32 ≤ length t) blocks b k there
          (λ small. is.least_front k (omega (arith, long, low)) less)
          (λ more. absurd (omega arith));
      least_back = λ k low high. out_at (λ (t : List T). 32 ≤ length t) blocks b k there
          (λ small. is.least_back k (omega (arith, long, low)) (before k high small))
          (λ more. is.least_back (k + 1) (omega (arith, long, low)) (omega arith));
      low = is.low;
      there = let t = is.there in omega (arith, long);
      whole = λ k low. out_at (λ (t : List T). length t ≡ 128) blocks b k there
          (λ less. is.whole k low)
          (λ more. absurd (let l = is.low in omega arith));
    })

-- ---- the last one that may be short is not

pub but_fine : {T : Type 0} (blocks : List (List T)) (b full from : ℕ) → AreSizedBut blocks full from (b + 1) →
    (b < length blocks → 1 ≤ length (block_at blocks b))
    → (b + 1 < length blocks → 32 ≤ length (block_at blocks b)) → AreSizedBut blocks full from b
but_fine {T = T} blocks b full from is some least = record {
  most = is.most;
  some_front = is.some_front;
  some_back = λ k low more. elim (cases_lt b k) [
    | inl less ↦ is.some_back k low (omega arith)
    | inr high ↦
        let same : b ≡ k = omega arith in
        subst (λ (n : ℕ). 1 ≤ length (block_at blocks n)) same (some (omega arith))
  ];
  least_front = is.least_front;
  least_back = λ k low more. elim (cases_lt b k) [
    | inl less ↦ is.least_back k low (omega arith)
    | inr high ↦
        let same : b ≡ k = omega arith in
        subst (λ (n : ℕ). 32 ≤ length (block_at blocks n)) same (least (omega arith))
  ];
  low = is.low;
  there = is.there;
  whole = is.whole;
}
