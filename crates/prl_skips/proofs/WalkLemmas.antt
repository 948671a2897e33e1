-- Going through a list whose codes are skipped in place.
use Rattle.std.proofs.Common.{◌≡◌, ℕ, ◌+◌, List, [], ◌∷◌, ◌++◌, length, take, drop}
use Rattle.std.proofs.Common.{map, refl, sym, ap, ◌∙◌}
use Rattle.std.proofs.Common.{subst, slice_range, arith, append_assoc, length-append, length-drop}
use Rattle.std.specs.List.{All, flat_map}
use Rattle.std.proofs.lemmas.List.{append-nil, drop-drop, map-append}
use Rattle.std.proofs.lemmas.List.Elements.{All-nil, All-cons, All-append}
use Rattle.std.proofs.lemmas.Grind.{flat_map-append}
use Rattle.std.proofs.Math.Seq.{drop-append_seam, take-append_seam}
use Rattle.doc_bits.specs.Number.{number_bytes}
use Rattle.doc_bits.proofs.Public.{length-number_bytes}
use Rattle.sprm_table.specs.Operands.{size_of, operand_bytes}
use Rattle.sprm_table.specs.Sprm.{Prl, IsPrl, spelling, EndsSprmList, SpellsSprmList, IsAcceptedList}
use Rattle.sprm_table.proofs.Public.{drop-spelling}
use Rattle.sprm_table.specs.Cursor.{SprmCursor, GivesPrl, TakesFirstPrl}
use Rattle.prl_skips.specs.Skips.{skipped_code, skipped, SkipsRefused}
use Rattle.prl_skips.specs.Fronts.{HasFirst}
use Rattle.prl_skips.proofs.SkipLemmas.{size_stays, entries_stay}

-- what is given first is the first entry of the list
first_at : (list : List ℕ) (new : SprmCursor) (code from to : ℕ) (prls : List Prl) →
    GivesPrl (record { bytes = list; at = 0 }) new code from to → TakesFirstPrl (record { bytes = list; at = 0 }) new
    prls
    code from to →
    HasFirst list prls code to
first_at list new code from to prls given taken =
    let entry = given.entry in
    let spelt : list ≡ spelling (code, slice_range list from to) ++ drop to list = entry.spelt in
    let len = ap length spelt ∙ length-append (spelling (code, slice_range list from to)) (drop to list) in
    let rest = length-drop to list in
    let within = entry.within in
    record {
      value = slice_range list from to;
      others = taken.others;
      is = taken.is;
      entry = entry.entry;
      len = omega arith;
      spelt = spelt;
      left = subst (λ b. SpellsSprmList (drop to b) taken.others) given.bytes
          (subst (λ k. SpellsSprmList (drop k new.bytes) taken.others) given.at taken.left);
    }

pub first_given : (list : List ℕ) (old new : SprmCursor) (code from to : ℕ) (prls : List Prl) →
    old ≡ record { bytes = list; at = 0 } → GivesPrl old new code from to → TakesFirstPrl old new prls code from to →
    HasFirst list prls code to
first_given list old new code from to prls e =
    subst (λ o. GivesPrl o new code from to → TakesFirstPrl o new prls code from to → HasFirst list prls code to) (sym
    e)
    (first_at list new code from to prls)

-- whole entries come before the place, with their refused codes skipped, and the bytes from there on are as they were
pub record SkipsFront (old now : List ℕ) (at : ℕ) : Type 0 where
  pub done : List Prl
  pub others : List Prl
  pub rest : List ℕ
  pub entries : All IsPrl done
  pub was : old ≡ flat_map spelling done ++ rest
  pub is : now ≡ flat_map spelling (map skipped done) ++ rest
  pub place : at ≡ length (flat_map spelling (map skipped done))
  pub left : SpellsSprmList rest others

pub front_none : (old : List ℕ) → IsAcceptedList old 0 → SkipsFront old old 0
front_none old list = record {
  done = [];
  others = list.list;
  rest = old;
  entries = All-nil IsPrl;
  was = refl;
  is = refl;
  place = refl;
  left = list.spelt;
}

-- what is at the place, and before it
pub rest_there : (old now : List ℕ) (at : ℕ) (front : SkipsFront old now at) → drop at now ≡ front.rest
rest_there old now at front =
    let done = flat_map spelling (map skipped front.done) in
    ap (drop at) front.is ∙ (ap (λ k. drop k (done ++ front.rest)) front.place ∙ drop-append_seam done front.rest)

done_there : (old now : List ℕ) (at : ℕ) (front : SkipsFront old now at) →
    take at now ≡ flat_map spelling (map skipped front.done)
done_there old now at front =
    let done = flat_map spelling (map skipped front.done) in
    ap (take at) front.is ∙ (ap (λ k. take k (done ++ front.rest)) front.place ∙ take-append_seam done front.rest)

-- entries, and one more
joined : (prls : List Prl) (prl : Prl) (rest : List ℕ) →
    flat_map spelling prls ++ (spelling prl ++ rest) ≡ flat_map spelling (prls ++ prl ∷ []) ++ rest
joined prls prl rest =
    sym (append_assoc (flat_map spelling prls) (spelling prl) rest)
    ∙ ap (λ xs. xs ++ rest)
    (ap (λ s. flat_map spelling prls ++ s) (sym (append-nil (spelling prl)))
    ∙ sym (flat_map-append spelling prls (prl ∷ [])))

-- the bytes of a skipped entry are as many as those of the entry
length-skipped : (prl : Prl) → length (spelling (skipped prl)) ≡ length (spelling prl)
length-skipped prl =
    let same = ap (λ s. length (operand_bytes s prl.1)) (size_stays prl.0) in
    let a = length-append (number_bytes 2 (skipped_code prl.0)) (operand_bytes (size_of (skipped_code prl.0)) prl.1) in
    let b = length-append (number_bytes 2 prl.0) (operand_bytes (size_of prl.0) prl.1) in
    let c = length-number_bytes 2 (skipped_code prl.0) in
    let d = length-number_bytes 2 prl.0 in
    a ∙ (ap (λ n. n + length (operand_bytes (size_of (skipped_code prl.0)) prl.1)) (c ∙ sym d)
    ∙ (ap (λ n. length (number_bytes 2 prl.0) + n) same ∙ sym b))

-- a code that is written anew before its operand makes the skipped entry
written : (prl : Prl) (rest : List ℕ) →
    number_bytes 2 (skipped_code prl.0) ++ drop 2 (spelling prl ++ rest) ≡ spelling (skipped prl) ++ rest
written prl rest =
    let code = number_bytes 2 (skipped_code prl.0) in
    ap (λ xs. code ++ xs) (drop-spelling prl rest)
    ∙ (ap (λ s. code ++ (operand_bytes s prl.1 ++ rest)) (sym (size_stays prl.0))
    ∙ sym (append_assoc code (operand_bytes (size_of (skipped_code prl.0)) prl.1) rest))

-- one entry more
pub front_more : (old now new : List ℕ) (at code end : ℕ) (front : SkipsFront old now at) →
    HasFirst front.rest front.others code end →
    new ≡ take at now ++ (number_bytes 2 (skipped_code code) ++ drop (at + 2) now) → SkipsFront old new (at + end)
front_more old now new at code end front first e =
    let prl : Prl = (code, first.value) in
    let rest = drop end front.rest in
    let done = flat_map spelling (map skipped front.done) in
    let both = length-append done (spelling (skipped prl)) in
    let one = ap length (append-nil (spelling (skipped prl))) in
    let spelt : drop (at + 2) now ≡ drop 2 (spelling prl ++ rest) =
    sym (drop-drop 2 at now) ∙ ap (drop 2) (rest_there old now at front ∙ first.spelt) in
    let more : map skipped (front.done ++ prl ∷ []) ≡ map skipped front.done ++ skipped prl ∷ [] =
    map-append skipped front.done (prl ∷ []) in
    let now_is : new ≡ done ++ (spelling (skipped prl) ++ rest) =
    e ∙ (ap (λ xs. xs ++ (number_bytes 2 (skipped_code code) ++ drop (at + 2) now)) (done_there old now at front)
    ∙ ap (λ xs. done ++ xs) (ap (λ xs. number_bytes 2 (skipped_code code) ++ xs) spelt ∙ written prl rest)) in
    let length_is : length (flat_map spelling (map skipped front.done ++ skipped prl ∷ [])) ≡ length done + length
    (spelling (skipped prl)) =
    ap length (flat_map-append spelling (map skipped front.done) (skipped prl ∷ []))
    ∙ (length-append done (spelling (skipped prl) ++ []) ∙ ap (λ n. length done + n) one) in
    record {
      done = front.done ++ prl ∷ [];
      others = first.others;
      rest = rest;
      entries = All-append IsPrl front.done (prl ∷ []) front.entries (All-cons IsPrl prl [] first.entry (All-nil
          IsPrl));
      was = front.was ∙ (ap (λ xs. flat_map spelling front.done ++ xs) first.spelt ∙ joined front.done prl rest);
      is = now_is ∙ (joined (map skipped front.done) (skipped prl) rest
          ∙ ap (λ l. flat_map spelling l ++ rest) (sym more));
      place = ap (λ n. n + end) front.place ∙ (ap (λ n. length done + n) (first.len ∙ sym (length-skipped prl))
          ∙ (sym length_is ∙ ap (λ l. length (flat_map spelling l)) (sym more)));
      left = first.left;
    }

-- a code that is written anew as it was changes nothing
pub front_same : (old now new : List ℕ) (at code end : ℕ) (front : SkipsFront old now at) →
    HasFirst front.rest front.others code end →
    new ≡ take at now ++ (number_bytes 2 (skipped_code code) ++ drop (at + 2) now) → skipped_code code ≡ code →
    new ≡ now
front_same old now new at code end front first e same =
    let prl : Prl = (code, first.value) in
    let rest = drop end front.rest in
    let done = flat_map spelling (map skipped front.done) in
    let spelt : drop (at + 2) now ≡ drop 2 (spelling prl ++ rest) =
    sym (drop-drop 2 at now) ∙ ap (drop 2) (rest_there old now at front ∙ first.spelt) in
    e ∙ (ap (λ xs. xs ++ (number_bytes 2 (skipped_code code) ++ drop (at + 2) now)) (done_there old now at front)
    ∙ (ap (λ xs. done ++ xs)
    (ap (λ xs. number_bytes 2 (skipped_code code) ++ xs) spelt
    ∙ (written prl rest ∙ (ap (λ k. spelling (k, first.value) ++ rest) same ∙ sym first.spelt))) ∙ sym front.is))

-- where no entry is left all are skipped
pub front_all : (old now : List ℕ) (at : ℕ) (front : SkipsFront old now at) → front.others ≡ [] → SkipsRefused old now
front_all old now at front none =
    let left = subst (SpellsSprmList front.rest) none front.left in
    let ends = subst EndsSprmList (sym left.spelt) left.ends in
    record {
      prls = front.done;
      spelt = record { rest = front.rest; entries = front.entries; spelt = front.was; ends = ends };
      skips = record {
        rest = front.rest;
        entries = entries_stay front.done front.entries;
        spelt = front.is;
        ends = ends;
      };
      rest = refl;
    }

-- the same of what is looked at from the place on
pub first_there : (old now : List ℕ) (at : ℕ) (front : SkipsFront old now at) (list : List ℕ) (code end : ℕ) →
    list ≡ drop at now → ((prls : List Prl) → SpellsSprmList list prls → HasFirst list prls code end) →
    HasFirst front.rest front.others code end
first_there old now at front list code end e first =
    let same = e ∙ rest_there old now at front in
    subst (λ l. HasFirst l front.others code end) same
    (first front.others (subst (λ l. SpellsSprmList l front.others) (sym same) front.left))

pub all_there : (old now : List ℕ) (at : ℕ) (front : SkipsFront old now at) (list : List ℕ) →
    list ≡ drop at now → ((prls : List Prl) → SpellsSprmList list prls → prls ≡ []) → SkipsRefused old now
all_there old now at front list e none =
    let same = e ∙ rest_there old now at front in
    front_all old now at front (none front.others (subst (λ l. SpellsSprmList l front.others) (sym same) front.left))
