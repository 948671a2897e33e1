-- On a block of bytes before a sink.
use Rattle.std.proofs.Common.{◌≡◌, ℕ, ◌+◌, ◌≤◌, List, [], ◌++◌, length, take, drop, sym, ap, ◌∙◌, arith, refl, subst}
use Rattle.std.proofs.Common.{append_assoc, length-append, length-drop, take-append-drop}
use Rattle.std.specs.Prelude.{Option}
use Rattle.std.proofs.Math.Seq.{take-add, take-length, drop-length, drop-drop, take-append_seam, drop-append_seam}
use Rattle.std.proofs.Math.Seq.{take-append-add}
use Rattle.std.proofs.lemmas.List.{take-append-le, drop-append-le}
use Rattle.doc_outer.specs.Written.{Appends, AppendsPrefix, Sends}
use Rattle.doc_outer.proofs.WrittenLemmas.{Appends-nil, Appends-append}

-- the sink takes nothing
pub Sends-waits : (told : Option (List ℕ)) (block bytes : List ℕ) → Sends told told block bytes (block ++ bytes)
Sends-waits told block bytes = record { count = 0; within = omega arith; sent = Appends-nil told; waits = refl }

-- the sink takes what waited, and the bytes wait
pub Sends-flushed :
    (old new : Option (List ℕ)) (block bytes : List ℕ) → Appends old new block → Sends old new block bytes bytes
Sends-flushed old new block bytes taken = record {
  count = length block;
  within = omega (arith, length-append block bytes);
  sent = subst (λ front. Appends old new front) (sym (take-append_seam block bytes)) taken;
  waits = sym (drop-append_seam block bytes);
}

-- it takes all
pub Sends-past :
    (old mid new : Option (List ℕ)) (block bytes : List ℕ) → Appends old mid block → Appends mid new bytes →
    Sends old new block bytes []
Sends-past old mid new block bytes first next =
    let all = block ++ bytes in
    record {
      count = length all;
      within = omega arith;
      sent = subst (λ front. Appends old new front) (sym (take-length all))
          (Appends-append old mid new block bytes first next);
      waits = sym (drop-length all);
    }

-- it takes what waited and a part of the bytes
pub AppendsPrefix-past :
    (old mid new : Option (List ℕ)) (block bytes : List ℕ) → Appends old mid block → AppendsPrefix mid new bytes →
    AppendsPrefix old new (block ++ bytes)
AppendsPrefix-past old mid new block bytes first next =
    let count = next.count in
    record {
      count = length block + count;
      within = omega (arith, next.within, length-append block bytes);
      appended = subst (λ front. Appends old new front) (sym (take-append-add block bytes count))
          (Appends-append old mid new block (take count bytes) first next.appended);
    }

-- it takes a part of what waited
pub AppendsPrefix-more :
    (old new : Option (List ℕ)) (block bytes : List ℕ) → AppendsPrefix old new block →
    AppendsPrefix old new (block ++ bytes)
AppendsPrefix-more old new block bytes taken = record {
  count = taken.count;
  within = omega (arith, taken.within, length-append block bytes);
  appended = subst (λ front. Appends old new front) (sym (take-append-le taken.count block bytes taken.within))
      taken.appended;
}

-- what is behind the front that was taken
behind :
    (block first next waits : List ℕ) (count : ℕ) → count ≤ length (block ++ first) →
    waits ≡ drop count (block ++ first) → drop count (block ++ (first ++ next)) ≡ waits ++ next
behind block first next waits count within is =
    ap (drop count) (sym (append_assoc block first next))
    ∙ (drop-append-le count (block ++ first) next within ∙ ap (λ xs. xs ++ next) (sym is))

-- that front, and one of what is behind it
both_fronts :
    (block first next waits : List ℕ) (count more : ℕ) → count ≤ length (block ++ first) →
    waits ≡ drop count (block ++ first) →
    take (count + more) (block ++ (first ++ next)) ≡ take count (block ++ first) ++ take more (waits ++ next)
both_fronts block first next waits count more within is =
    let all = block ++ (first ++ next) in
    let front : take count all ≡ take count (block ++ first) = ap (take count) (sym (append_assoc block first next))
    ∙ take-append-le count (block ++ first) next within in
    take-add count more all
    ∙ (ap (λ xs. xs ++ take more (drop count all)) front
    ∙ ap (λ xs. take count (block ++ first) ++ take more xs) (behind block first next waits count within is))

both_within :
    (block first next waits : List ℕ) (count more : ℕ) → count ≤ length (block ++ first) →
    waits ≡ drop count (block ++ first) → more ≤ length (waits ++ next) →
    count + more ≤ length (block ++ (first ++ next))
both_within block first next waits count more within is fits =
    let left = ap length is ∙ length-drop count (block ++ first) in
    omega (
      arith,
      within,
      fits,
      left,
      length-append waits next,
      length-append block first,
      length-append first next,
      length-append block (first ++ next),
    )

-- one piece was put behind what waits, and then another
pub Sends-append :
    (old mid new : Option (List ℕ)) (block first waits next left : List ℕ) → Sends old mid block first waits →
    Sends mid new waits next left → Sends old new block (first ++ next) left
Sends-append old mid new block first waits next left one other =
    let count = one.count in let more = other.count in
    record {
      count = count + more;
      within = both_within block first next waits count more one.within one.waits other.within;
      sent = subst (λ front. Appends old new front)
          (sym (both_fronts block first next waits count more one.within one.waits))
          (Appends-append old mid new (take count (block ++ first)) (take more (waits ++ next)) one.sent other.sent);
      waits = other.waits
          ∙ (ap (drop more) (sym (behind block first next waits count one.within one.waits))
          ∙ drop-drop more count (block ++ (first ++ next)));
    }

-- one piece was put, and then the sink failed
pub Sends-fails :
    (old mid new : Option (List ℕ)) (block first waits next : List ℕ) → Sends old mid block first waits →
    AppendsPrefix mid new (waits ++ next) → AppendsPrefix old new (block ++ (first ++ next))
Sends-fails old mid new block first waits next one failed =
    let count = one.count in let more = failed.count in
    record {
      count = count + more;
      within = both_within block first next waits count more one.within one.waits failed.within;
      appended = subst (λ front. Appends old new front)
          (sym (both_fronts block first next waits count more one.within one.waits))
          (Appends-append old mid new (take count (block ++ first)) (take more (waits ++ next)) one.sent
          failed.appended);
    }

-- what was put is taken to its end
pub Sends-ends :
    (old mid new : Option (List ℕ)) (block bytes waits : List ℕ) → Sends old mid block bytes waits →
    Appends mid new waits → Appends old new (block ++ bytes)
Sends-ends old mid new block bytes waits one taken =
    subst (λ all. Appends old new all)
    (ap (λ rest. take one.count (block ++ bytes) ++ rest) one.waits ∙ take-append-drop one.count (block ++ bytes))
    (Appends-append old mid new (take one.count (block ++ bytes)) waits one.sent taken)
