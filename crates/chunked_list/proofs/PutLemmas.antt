-- An item put into blocks.
use Rattle.std.proofs.Common.{◌≡◌, ℕ, zero, suc, refl, sym, ap, subst, ◌∙◌, ◌+◌, ◌-◌, ◌^◌, ◌<◌, ◌≤◌, List, [], ◌∷◌}
use Rattle.std.proofs.Common.{◌++◌}
use Rattle.std.proofs.Common.{length, take, drop, get_or, arith, length-append, length-take-le, length-drop}
use Rattle.std.specs.List.{All, splice}
use Rattle.std.proofs.lemmas.List.Elements.{All-nil, All-take}
use Rattle.std.proofs.lemmas.List.{take_at, take-append-drop, get_or_push}
use Rattle.chunked_list.specs.declared.places.Place.{Place}
use Rattle.chunked_list.specs.Blocks.{joined, total_units, block_at, number_of, AreSized, IsMadeRoom, IsInserted}
use Rattle.chunked_list.specs.Blocks.{BlockRow, AreInBlocks}
use Rattle.chunked_list.proofs.UnitLemmas.{length_put, units-nil, units-append, units-cons}
use Rattle.chunked_list.proofs.JoinLemmas.{joined-nil, put_joined, divided_joined, joined_more_length}
use Rattle.chunked_list.proofs.SizeLemmas.{AreFresh, sized_spliced, splice_mid, length-splice}

-- ---- fresh blocks

one_some : {T : Type 0} (P : List T → Type 0) (block : List T) (k : ℕ) → k < 1 → P block → P (block_at (block ∷ []) k)
one_some P block zero low is = is
one_some P block (suc k) low is = absurd (omega arith)

one_fresh : {T : Type 0} (block : List T) (rest : ℕ) → 1 ≤ length block → length block ≤ 128 →
    (0 < rest → 32 ≤ length block) → AreFresh (block ∷ []) rest
one_fresh {T = T} block rest some most least = record {
  some = λ k low. one_some (λ (t : List T). 1 ≤ length t) block k low some;
  most = λ k low. one_some (λ (t : List T). length t ≤ 128) block k low most;
  least = λ k more low. one_some (λ (t : List T). 32 ≤ length t) block k low (least (omega arith));
}

-- each fresh block has 64 items
halves : {T : Type 0} (first second : List T) (k : ℕ) → length first ≡ 64 → length second ≡ 64 → k < 2 →
    length (block_at (first ∷ second ∷ []) k) ≡ 64
halves first second zero one two low = one
halves first second (suc zero) one two low = two
halves first second (suc (suc k)) one two low = absurd (omega arith)

halves_fresh : {T : Type 0} (first second : List T) (rest : ℕ) → length first ≡ 64 → length second ≡ 64 →
    AreFresh (first ∷ second ∷ []) rest
halves_fresh first second rest one two = record {
  some = λ k low. omega (arith, halves first second k one two low);
  most = λ k low. omega (arith, halves first second k one two low);
  least = λ k more low. omega (arith, halves first second k one two low);
}

-- ---- a block that divides

-- the halves of a block, where they are
pub record AreHalves {T : Type 0} (old new : List (List T)) (b : ℕ) : Type 0 where
  pub same : joined new ≡ joined old
  pub front : take b new ≡ take b old
  pub there : b + 1 < length new
  pub first : length (block_at new b) ≡ 64
  pub second : length (block_at new (b + 1)) ≡ 64
  pub sized : (full : ℕ) → full ≤ b → AreSized old full → AreSized new full

pub divided : {T : Type 0} (old new : List (List T)) (b : ℕ) → b < length old → length (block_at old b) ≡ 128 →
    new ≡ splice old b (b + 1) (take 64 (block_at old b) ∷ drop 64 (block_at old b) ∷ []) → AreHalves old new b
divided {T = T} old new b there full is =
    let block = block_at old b in
    let fresh = take 64 block ∷ drop 64 block ∷ [] in
    let le : b ≤ length old = omega arith in
    let order : b ≤ b + 1 = omega arith in
    let within : b + 1 ≤ length old = omega arith in
    let few : 64 ≤ length block = omega arith in
    let one : length (take 64 block) ≡ 64 = length-take-le 64 block few in
    let two : length (drop 64 block) ≡ 64 = omega (arith, length-drop 64 block) in
    let nought : b - b ≡ 0 = omega arith in
    let next : b + 1 - b ≡ 1 = omega arith in
    let two_long : b < b + length fresh = omega arith in
    let more_long : b + 1 < b + length fresh = omega arith in
    let same_b : b ≤ b = omega arith in
    record {
      same = ap joined is ∙ divided_joined old b 64 there;
      front = ap (take b) is ∙ take_at (take b old) (fresh ++ drop (b + 1) old) b (length-take-le b old le);
      there = let e = ap length is in omega (arith, e, length-splice old fresh b (b + 1) order within);
      first = ap (λ (t : List (List T)). length (block_at t b)) is
          ∙ ap length (splice_mid old fresh b (b + 1) b [] le same_b two_long)
          ∙ ap (λ (n : ℕ). length (block_at fresh n)) nought
          ∙ one;
      second = ap (λ (t : List (List T)). length (block_at t (b + 1))) is
          ∙ ap length (splice_mid old fresh b (b + 1) (b + 1) [] le order more_long)
          ∙ ap (λ (n : ℕ). length (block_at fresh n)) next
          ∙ two;
      sized = λ full low sized. subst (λ (t : List (List T)). AreSized t full) (sym is)
          (sized_spliced old fresh b (b + 1) full sized order within low there
          (halves_fresh (take 64 block) (drop 64 block) (length old - (b + 1)) one two));
    }

-- the place is in the first half
pub made_first : {T : Type 0} (old new : List (List T)) (place : Place) → AreHalves old new place.block →
    place.within ≤ 64 → IsMadeRoom old new place place
made_first {T = T} old new place halves within = record {
  same = halves.same;
  in_block = record {
    there = let h = halves.there in omega arith;
    inside = let h = halves.first in omega arith;
  };
  room = let h = halves.first in omega arith;
  here = ap (λ (t : List (List T)). length (joined t) + place.within) halves.front;
  behind = omega arith;
  sized = halves.sized;
}

-- the place is in the second half
pub made_second : {T : Type 0} (old new : List (List T)) (place : Place) → AreHalves old new place.block →
    64 < place.within → place.within ≤ 128
    → IsMadeRoom old new place (record { block = place.block + 1; within = place.within - 64 })
made_second {T = T} old new place halves beyond within =
    let there : place.block < length new = let h = halves.there in omega arith in
    let first = joined_more_length new place.block there in
    let front : length (joined (take place.block new)) ≡ length (joined (take place.block old)) =
    ap (λ (t : List (List T)). length (joined t)) halves.front in
    record {
      same = halves.same;
      in_block = record {
        there = halves.there;
        inside = let h = halves.second in omega arith;
      };
      room = let h = halves.second in omega arith;
      here = let h = halves.first in omega (arith, first, front, h);
      behind = omega arith;
      sized = halves.sized;
    }

-- ---- the item

pub put_in : {T : Type 0} (old mid new : List (List T)) (place seat : Place) (x : T) → IsMadeRoom old mid place seat →
    new ≡ splice mid seat.block (seat.block + 1)
    ((take seat.within (block_at mid seat.block) ++ (x ∷ drop seat.within (block_at mid seat.block))) ∷ [])
    → IsInserted old new place x
put_in {T = T} old mid new place seat x made is =
    let block = block_at mid seat.block in
    let grown = take seat.within block ++ (x ∷ drop seat.within block) in
    let count : length grown ≡ length block + 1 = length_put block grown x seat.within made.in_block.inside refl in
    let there : seat.block < length mid = made.in_block.there in
    let order : seat.block ≤ seat.block + 1 = omega arith in
    let within : seat.block + 1 ≤ length mid = omega arith in
    let room = made.room in
    let behind = made.behind in
    record {
      items = ap joined is
          ∙ put_joined mid seat.block seat.within x there made.in_block.inside
          ∙ ap (λ (n : ℕ). take n (joined mid) ++ (x ∷ drop n (joined mid))) made.here
          ∙ ap (λ (t : List T). take (number_of old place) t ++ (x ∷ drop (number_of old place) t)) made.same;
      sized = λ full low sized.
          let now = made.sized full low sized in
          let lower : full ≤ seat.block = omega arith in
          let some : 1 ≤ length grown = omega arith in
          let most : length grown ≤ 128 = omega arith in
          subst (λ (t : List (List T)). AreSized t full) (sym is)
          (sized_spliced mid (grown ∷ []) seat.block (seat.block + 1) full now order within lower there
          (one_fresh grown (length mid - (seat.block + 1)) some most
          (λ more. let least = now.least seat.block (omega arith) in omega arith)));
    }

-- ---- lists in blocks

-- a list of no items
pub no_blocks : {T : Type 0} (units : T → ℕ) (row : BlockRow T) (ready : List (List T)) → row.blocks ≡ [] → ready ≡ [] →
    AreInBlocks units row ready 0 0
no_blocks {T = T} units row ready none empty =
    let count = ap length none in
    let nothing : joined row.blocks ≡ [] = ap joined none ∙ joined-nil in
    let items = ap length nothing in
    let total = ap (total_units units) nothing in
    record {
      sized = record {
        most = λ k low. absurd (omega (arith, count, low));
        some = λ k low. absurd (omega (arith, count, low));
        least = λ k low. absurd (omega (arith, count, low));
        there = omega arith;
        whole = λ k low. absurd (omega (arith, low));
      };
      counted = sym items;
      room = let e = ap length empty in omega (arith, e);
      empty = subst (λ (t : List (List T)). All (λ (block : List T). block ≡ []) t) (sym empty)
          (All-nil (λ (block : List T). block ≡ []));
      few = omega (arith, items);
      total = omega (arith, total, units-nil units);
    }

-- one item in one block
pub one_block : {T : Type 0} (x : T) → AreSized ((x ∷ []) ∷ []) 0
one_block {T = T} x = record {
  most = λ k low. one_some (λ (t : List T). length t ≤ 128) (x ∷ []) k low (omega arith);
  some = λ k low. one_some (λ (t : List T). 1 ≤ length t) (x ∷ []) k low (omega arith);
  least = λ k low. absurd (omega (arith, low));
  there = omega arith;
  whole = λ k low. absurd (omega (arith, low));
}

-- the same with other items and counts
pub in_blocks : {T : Type 0} (units : T → ℕ) (row : BlockRow T) (ready : List (List T)) (old : List T) (x : T) (i
    count full : ℕ) →
    AreSized row.blocks full → joined row.blocks ≡ take i old ++ (x ∷ drop i old) → i ≤ length old
    → count ≡ length old + 1 → length ready ≤ row.spare → All (λ (block : List T). block ≡ []) ready
    → length old + 1 < 2 ^ 32 → total_units units old + units x < 2 ^ 32 → AreInBlocks units row ready count full
in_blocks {T = T} units row ready old x i count full sized items within counted room empty few total =
    let long = length_put old (joined row.blocks) x i within items in
    let e = ap (total_units units) items in
    record {
      sized = sized;
      counted = omega (arith, long);
      room = room;
      empty = empty;
      few = omega (arith, long);
      total = omega (
        arith,
        e,
        units-append units (take i old) (x ∷ drop i old),
        units-cons units x (drop i old),
        units-append units (take i old) (drop i old),
        ap (total_units units) (take-append-drop i old),
      );
    }

-- those before the last one are empty still
pub rest_empty : {T : Type 0} (ready rest : List (List T)) (n : ℕ) → rest ≡ take n ready
    → All (λ (block : List T). block ≡ []) ready → All (λ (block : List T). block ≡ []) rest
rest_empty {T = T} ready rest n is empty =
    subst (λ (t : List (List T)). All (λ (block : List T). block ≡ []) t) (sym is)
    (All-take (λ (block : List T). block ≡ []) n ready empty)

-- the last one of empty blocks is empty
pub last_empty : {T : Type 0} (ready rest : List (List T)) (last : List T) → ready ≡ rest ++ last ∷ []
    → All (λ (block : List T). block ≡ []) ready → last ≡ []
last_empty {T = T} ready rest last is empty =
    let long = ap length is in
    let low : length rest < length ready = omega (arith, long, length-append rest (last ∷ [])) in
    sym (get_or_push rest last [] (length rest) refl)
    ∙ sym (ap (λ (t : List (List T)). get_or t (length rest) []) is)
    ∙ empty (length rest) [] low
