-- The Prcs of a Clx, skipped one after the other.
use Rattle.std.proofs.Common.{◌≡◌, ◌↔◌, inl, inr, ℕ, ◌+◌, ◌-◌, ◌<◌, ◌≤◌, List, [], ◌∷◌, ◌++◌, length, take, drop, All}
use Rattle.std.proofs.Common.{Some, slice_get, slice_range, refl, sym, ap, ◌∙◌, subst, arith, flat_map, map}
use Rattle.std.proofs.Common.{append_assoc, length-append, length-drop}
use Rattle.std.proofs.lemmas.Bool.{cases_lt}
use Rattle.std.proofs.lemmas.List.{append-nil, drop-drop, take-take}
use Rattle.std.proofs.lemmas.List.Elements.{All-nil, All-cons, All-append}
use Rattle.std.proofs.lemmas.Grind.{flat_map-append}
use Rattle.std.proofs.lemmas.Option.{slice_get_within}
use Rattle.std.proofs.Math.Seq.{take-append_seam, drop-append_seam}
use borrow.Rule.Slice.PartMut.{put_mid}
use Rattle.doc_bits.specs.Number.{AreBytes, number_bytes}
use Rattle.doc_bits.proofs.Public.{back_bytes, length-number_bytes, there_is, slice_get_push, slice_get_before}
use Rattle.doc_bits.proofs.Public.{All-from_slice_get, All_at}
use Rattle.sprm_table.specs.Sprm.{Prl, SpellsSprmList}
use Rattle.sprm_table.proofs.Public.{spelt_unique}
use Rattle.prop_map.specs.declared.modifiers.Modifier.{Modifier}
use Rattle.prop_map.specs.Modifiers.{IsModifierOf, IsSpeltModifier}
use Rattle.prl_skips.specs.Skips.{skipped, SkipsRefused, SkipsOrStays}
use Rattle.prl_skips.proofs.Public.{modify_skips}
use Rattle.piece_table.specs.Piece.{TextPiece}
use Rattle.piece_table.specs.declared.pcd.Prm.{Prm}
use Rattle.piece_table.specs.declared.pcd.Prm.TheVariants.{Nothing, Sprm, Prc}
use Rattle.piece_table.specs.PrmLists.{NamesSprms, IsPrmModifier}
use Rattle.piece_table.specs.Clx.{IsGrpprl, IsClx, SpellsClx, BeginsPrc, ClxParts, prc_bytes, pcdt_bytes, pcd_prm}
use Rattle.piece_table.specs.Front.{IsPrcFront}
use Rattle.piece_table.proofs.Public.{prcs_unique, pcdt_no_prc, prc_of_front, front_of_prc}
use Rattle.part_skips.specs.Prcs.{IsListSkipped, AreListsSkipped, SkipsPrcs}

-- ---- what the pieces' modifiers are

-- bytes that spell a list are the modifier of this list
spelt_modifier : (bytes : List ℕ) (prls : List Prl) (modifier : Modifier) → SpellsSprmList bytes prls →
    IsModifierOf prls modifier → IsSpeltModifier bytes modifier
spelt_modifier bytes prls modifier spelt does =
    λ others also. subst (λ l. IsModifierOf l modifier) (spelt_unique bytes prls others spelt also) does

-- the modifier of a Prc before its codes are skipped
pub prc_before : (prcs made : List (List ℕ)) (number : ℕ) (modifier : Modifier) → AreListsSkipped prcs made →
    IsPrmModifier made (Prc number) modifier → IsPrmModifier prcs (Prc number) modifier
prc_before prcs made number modifier are is =
    let list = is.named.0 in
    let there = is.named.1.0 in
    let spelt = is.named.1.1 in
    let low = slice_get_within made number list there in
    let count = are.count in
    let old = there_is prcs number (omega arith) in
    elim ((are.each number old.0 list old.1 there).skips) [
      | inl skips ↦ record {
        sprms = skips.prls;
        named = (old.0, (old.1, skips.spelt));
        does = (modify_skips old.0 list modifier skips).0 (spelt_modifier list is.sprms modifier spelt is.does)
            skips.prls skips.spelt;
      }
      | inr stays ↦ record {
        sprms = is.sprms;
        named = (old.0, (old.1, subst (λ l. SpellsSprmList l is.sprms) stays.1 spelt));
        does = is.does;
      }
    ]

-- and after
prc_after : (prcs made : List (List ℕ)) (number : ℕ) (modifier : Modifier) → AreListsSkipped prcs made →
    IsPrmModifier prcs (Prc number) modifier → IsPrmModifier made (Prc number) modifier
prc_after prcs made number modifier are is =
    let list = is.named.0 in
    let there = is.named.1.0 in
    let spelt = is.named.1.1 in
    let low = slice_get_within prcs number list there in
    let count = are.count in
    let new = there_is made number (omega arith) in
    elim ((are.each number list new.0 there new.1).skips) [
      | inl skips ↦ record {
        sprms = map skipped skips.prls;
        named = (new.0, (new.1, skips.skips));
        does = (modify_skips list new.0 modifier skips).1 (spelt_modifier list is.sprms modifier spelt is.does)
            (map skipped skips.prls) skips.skips;
      }
      | inr stays ↦ record {
        sprms = is.sprms;
        named = (new.0, (new.1, subst (λ l. SpellsSprmList l is.sprms) (sym stays.1) spelt));
        does = is.does;
      }
    ]

modifier_before : (prcs made : List (List ℕ)) (prm : Prm) (modifier : Modifier) → AreListsSkipped prcs made →
    IsPrmModifier made prm modifier → IsPrmModifier prcs prm modifier
modifier_before prcs made Nothing modifier are is = record { sprms = is.sprms; named = is.named; does = is.does }
modifier_before prcs made (Sprm isprm operand) modifier are is =
    record { sprms = is.sprms; named = is.named; does = is.does }
modifier_before prcs made (Prc number) modifier are is = prc_before prcs made number modifier are is

modifier_after : (prcs made : List (List ℕ)) (prm : Prm) (modifier : Modifier) → AreListsSkipped prcs made →
    IsPrmModifier prcs prm modifier → IsPrmModifier made prm modifier
modifier_after prcs made Nothing modifier are is = record { sprms = is.sprms; named = is.named; does = is.does }
modifier_after prcs made (Sprm isprm operand) modifier are is =
    record { sprms = is.sprms; named = is.named; does = is.does }
modifier_after prcs made (Prc number) modifier are is = prc_after prcs made number modifier are is

-- ---- a Clx with other Prcs

made_size : (prcs made : List (List ℕ)) (k : ℕ) (list : List ℕ) → All IsGrpprl prcs → AreListsSkipped prcs made →
    slice_get made k ≡ Some list → IsGrpprl list
made_size prcs made k list sizes are there =
    let low = slice_get_within made k list there in
    let count = are.count in
    let old = there_is prcs k (omega arith) in
    let short = All_at IsGrpprl prcs k old.0 sizes old.1 in
    let len = (are.each k old.0 list old.1 there).len in
    omega arith

pub made_sizes : (prcs made : List (List ℕ)) → All IsGrpprl prcs → AreListsSkipped prcs made → All IsGrpprl made
made_sizes prcs made sizes are = All-from_slice_get IsGrpprl made (λ k list there. made_size prcs made k list sizes are
    there)

clx_before : (old new : List ℕ) (pieces : List TextPiece) → SkipsPrcs old new → IsClx new pieces → IsClx old pieces
clx_before old new pieces s is =
    let spelt = is.spelt in
    let prcs = is.parts.prcs in
    let pcdt = pcdt_bytes is.parts.plc.bytes ++ spelt.more in
    let same = prcs_unique prcs s.made pcdt s.rest spelt.sizes (made_sizes s.prcs s.made s.sizes s.skips)
    (sym spelt.spelt ∙ s.is) (pcdt_no_prc is.parts.plc.bytes spelt.more) s.no_more in
    record {
      parts = record { prcs = s.prcs; plc = is.parts.plc };
      spelt = record {
        more = spelt.more;
        sizes = s.sizes;
        table = spelt.table;
        spelt = s.was ∙ ap (λ l. flat_map prc_bytes s.prcs ++ l) (sym same.1);
      };
      pieces_are = is.pieces_are;
      modifiers = λ k piece there. modifier_before s.prcs s.made (pcd_prm is.parts.plc k) piece.modifier s.skips
          (subst (λ l. IsPrmModifier l (pcd_prm is.parts.plc k) piece.modifier) same.0 (is.modifiers k piece there));
    }

clx_after : (old new : List ℕ) (pieces : List TextPiece) → SkipsPrcs old new → IsClx old pieces → IsClx new pieces
clx_after old new pieces s is =
    let spelt = is.spelt in
    let prcs = is.parts.prcs in
    let pcdt = pcdt_bytes is.parts.plc.bytes ++ spelt.more in
    let same = prcs_unique prcs s.prcs pcdt s.rest spelt.sizes s.sizes
    (sym spelt.spelt ∙ s.was) (pcdt_no_prc is.parts.plc.bytes spelt.more) s.no_more in
    record {
      parts = record { prcs = s.made; plc = is.parts.plc };
      spelt = record {
        more = spelt.more;
        sizes = made_sizes s.prcs s.made s.sizes s.skips;
        table = spelt.table;
        spelt = s.is ∙ ap (λ l. flat_map prc_bytes s.made ++ l) (sym same.1);
      };
      pieces_are = is.pieces_are;
      modifiers = λ k piece there. modifier_after s.prcs s.made (pcd_prm is.parts.plc k) piece.modifier s.skips
          (subst (λ l. IsPrmModifier l (pcd_prm is.parts.plc k) piece.modifier) same.0 (is.modifiers k piece there));
    }

pub clx_skips : (old new : List ℕ) (pieces : List TextPiece) → SkipsPrcs old new →
    (IsClx new pieces ↔ IsClx old pieces)
clx_skips old new pieces s = (clx_before old new pieces s, clx_after old new pieces s)

-- ---- one Prc after the other

-- whole Prcs are before the place, skipped, and the bytes from there on are as they were
pub record SkipsFront (old now : List ℕ) (at : ℕ) : Type 0 where
  pub prcs : List (List ℕ)
  pub made : List (List ℕ)
  pub rest : List ℕ
  pub sizes : All IsGrpprl prcs
  pub was : old ≡ flat_map prc_bytes prcs ++ rest
  pub is : now ≡ flat_map prc_bytes made ++ rest
  pub skips : AreListsSkipped prcs made
  pub place : at ≡ length (flat_map prc_bytes made)
  pub within : at ≤ length now
  pub len : length now ≡ length old

pub front_none : (old : List ℕ) → SkipsFront old old 0
front_none old = record {
  prcs = [];
  made = [];
  rest = old;
  sizes = All-nil IsGrpprl;
  was = refl;
  is = refl;
  skips = record { count = refl; each = λ k list made there. absurd (cc there) };
  place = refl;
  within = omega arith;
  len = refl;
}

rest_there : (old now : List ℕ) (at : ℕ) (front : SkipsFront old now at) → drop at now ≡ front.rest
rest_there old now at front =
    let done = flat_map prc_bytes front.made in
    ap (drop at) front.is ∙ (ap (λ k. drop k (done ++ front.rest)) front.place ∙ drop-append_seam done front.rest)

-- lists, and one more
pushed : (old new : List (List ℕ)) (list made : List ℕ) → AreListsSkipped old new → IsListSkipped list made →
    AreListsSkipped (old ++ list ∷ []) (new ++ made ∷ [])
pushed old new list made are is =
    let count = are.count in
    let a = length-append old (list ∷ []) in
    let b = length-append new (made ∷ []) in
    record {
      count = omega arith;
      each = λ k one other there here.
          let low = slice_get_within (old ++ list ∷ []) k one there in
          elim (cases_lt k (length old)) [
            | inl lo ↦ are.each k one other (sym (slice_get_before old (list ∷ []) k lo) ∙ there)
                (sym (slice_get_before new (made ∷ []) k (omega arith)) ∙ here)
            | inr hi ↦
                let at_old : k ≡ length old = omega arith in
                let at_new : k ≡ length new = omega arith in
                let one_is : list ≡ one = cc (sym (slice_get_push old list) ∙ (ap (slice_get (old ++ list ∷ []))
                (sym at_old) ∙ there)) in
                let other_is : made ≡ other = cc (sym (slice_get_push new made) ∙ (ap (slice_get (new ++ made ∷ []))
                (sym at_new) ∙ here)) in
                subst (λ l. IsListSkipped one l) other_is (subst (λ l. IsListSkipped l made) one_is is)
          ];
    }

joined : (prcs : List (List ℕ)) (list rest : List ℕ) →
    flat_map prc_bytes prcs ++ (prc_bytes list ++ rest) ≡ flat_map prc_bytes (prcs ++ list ∷ []) ++ rest
joined prcs list rest =
    sym (append_assoc (flat_map prc_bytes prcs) (prc_bytes list) rest)
    ∙ ap (λ xs. xs ++ rest)
    (ap (λ s. flat_map prc_bytes prcs ++ s) (sym (append-nil (prc_bytes list)))
    ∙ sym (flat_map-append prc_bytes prcs (list ∷ [])))

-- the three bytes before a list
abbrev head : List ℕ → List ℕ
head list = 1 ∷ number_bytes 2 (length list)

length-head : (list : List ℕ) → length (head list) ≡ 3
length-head list = let a = length-number_bytes 2 (length list) in omega arith

prc_split : (list more : List ℕ) → prc_bytes list ++ more ≡ head list ++ (list ++ more)
prc_split list more = append_assoc (head list) list more

pub length-prc : (list : List ℕ) → length (prc_bytes list) ≡ 3 + length list
length-prc list = length-append (head list) list ∙ ap (λ n. n + length list) (length-head list)

-- what is written over a list
rewritten : (done list mid more : List ℕ) → length mid ≡ length list →
    put_mid (length done + 3) (length list) (done ++ (prc_bytes list ++ more)) mid ≡ done ++ (prc_bytes mid ++ more)
rewritten done list mid more len =
    let front = done ++ head list in
    let now = done ++ (prc_bytes list ++ more) in
    let a = length-append done (head list) in
    let b = length-head list in
    let size : length done + 3 ≡ length front = omega arith in
    let whole : now ≡ front ++ (list ++ more) =
    ap (λ l. done ++ l) (prc_split list more) ∙ sym (append_assoc done (head list) (list ++ more)) in
    let taken : take (length done + 3) now ≡ front =
    ap (take (length done + 3)) whole ∙ (ap (λ k. take k (front ++ (list ++ more))) size
    ∙ take-append_seam front (list ++ more)) in
    let left : drop (length done + 3) now ≡ list ++ more =
    ap (drop (length done + 3)) whole ∙ (ap (λ k. drop k (front ++ (list ++ more))) size
    ∙ drop-append_seam front (list ++ more)) in
    let behind : drop (length list) (drop (length done + 3) now) ≡ more =
    ap (drop (length list)) left ∙ drop-append_seam list more in
    let heads : head list ≡ head mid = ap (λ n. 1 ∷ number_bytes 2 n) (sym len) in
    let made : front ++ (mid ++ more) ≡ done ++ (prc_bytes mid ++ more) =
    append_assoc done (head list) (mid ++ more)
    ∙ (ap (λ h. done ++ (h ++ (mid ++ more))) heads ∙ ap (λ l. done ++ l) (sym (prc_split mid more))) in
    ap (λ l. l ++ (mid ++ drop (length list) (drop (length done + 3) now))) taken
    ∙ (ap (λ l. front ++ (mid ++ l)) behind ∙ made)

-- one Prc more, once it is known what is at the place
one_more : (old now list mid more : List ℕ) (at : ℕ) (front : SkipsFront old now at) →
    front.rest ≡ prc_bytes list ++ more → IsGrpprl list → IsListSkipped list mid →
    SkipsFront old (put_mid (at + 3) (length list) now mid) (at + 3 + length list)
one_more old now list mid more at front rest short skipped =
    let done = flat_map prc_bytes front.made in
    let len = skipped.len in
    let now_is : now ≡ done ++ (prc_bytes list ++ more) = front.is ∙ ap (λ l. done ++ l) rest in
    let new_is : put_mid (at + 3) (length list) now mid ≡ done ++ (prc_bytes mid ++ more) =
    ap (λ n. put_mid (n + 3) (length list) now mid) front.place
    ∙ (ap (λ l. put_mid (length done + 3) (length list) l mid) now_is ∙ rewritten done list mid more len) in
    let all : length (put_mid (at + 3) (length list) now mid) ≡ length done + length (prc_bytes mid ++ more) =
    ap length new_is ∙ length-append done (prc_bytes mid ++ more) in
    let was : length now ≡ length done + length (prc_bytes list ++ more) =
    ap length now_is ∙ length-append done (prc_bytes list ++ more) in
    let part = length-append (prc_bytes mid) more in
    let old_part = length-append (prc_bytes list) more in
    let size = length-prc mid in
    let old_size = length-prc list in
    let place = front.place in
    let grown : length (flat_map prc_bytes (front.made ++ mid ∷ [])) ≡ length done + length (prc_bytes mid) =
    ap length (flat_map-append prc_bytes front.made (mid ∷ []))
    ∙ (length-append done (prc_bytes mid ++ []) ∙ ap (λ l. length done + length l) (append-nil (prc_bytes mid))) in
    let same = front.len in
    record {
      prcs = front.prcs ++ list ∷ [];
      made = front.made ++ mid ∷ [];
      rest = more;
      sizes = All-append IsGrpprl front.prcs (list ∷ []) front.sizes (All-cons IsGrpprl list [] short (All-nil
          IsGrpprl));
      was = front.was ∙ (ap (λ l. flat_map prc_bytes front.prcs ++ l) rest ∙ joined front.prcs list more);
      is = new_is ∙ joined front.made mid more;
      skips = pushed front.prcs front.made list mid front.skips skipped;
      place = omega arith;
      within = omega arith;
      len = omega arith;
    }

pub front_more : (old now mid : List ℕ) (at size : ℕ) → AreBytes old → SkipsFront old now at →
    IsPrcFront (drop at now) size → SkipsOrStays (slice_range now (at + 3) (at + 3 + size)) mid →
    length mid ≡ length (slice_range now (at + 3) (at + 3 + size)) →
    SkipsFront old (put_mid (at + 3) (at + 3 + size - (at + 3)) now mid) (at + 3 + size)
front_more old now mid at size are front here skips len =
    let list = take size (drop 3 (drop at now)) in
    let more = drop size (drop 3 (drop at now)) in
    let bytes = back_bytes (flat_map prc_bytes front.prcs) front.rest (subst AreBytes front.was are) in
    let read = prc_of_front (drop at now) size (subst AreBytes (sym (rest_there old now at front)) bytes) here in
    let width : at + 3 + size - (at + 3) ≡ size = omega arith in
    let range : slice_range now (at + 3) (at + 3 + size) ≡ list =
    ap (λ n. take n (drop (at + 3) now)) width ∙ ap (take size) (sym (drop-drop 3 at now)) in
    let most = here.most in
    let long = read.0 in
    let same = len ∙ ap length range in
    subst (λ n. SkipsFront old (put_mid (at + 3) n now mid) (at + 3 + size)) (sym width)
    (subst (λ n. SkipsFront old (put_mid (at + 3) n now mid) (at + 3 + n)) long
    (one_more old now list mid more at front (sym (rest_there old now at front) ∙ read.1) (omega arith)
    (record { skips = subst (λ l. SkipsOrStays l mid) range skips; len = same })))

-- where no Prc follows all are skipped
pub front_all : (old now : List ℕ) (at : ℕ) → SkipsFront old now at →
    ((size : ℕ) → ¬ (IsPrcFront (drop at now) size)) → SkipsPrcs old now
front_all old now at front none = record {
  prcs = front.prcs;
  made = front.made;
  rest = front.rest;
  sizes = front.sizes;
  was = front.was;
  is = front.is;
  skips = front.skips;
  no_more = subst (λ l. ¬ BeginsPrc l) (rest_there old now at front) (front_of_prc (drop at now) none);
}
