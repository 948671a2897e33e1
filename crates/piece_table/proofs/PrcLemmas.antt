-- The Prcs that pieces name: their places, and their first fault.
use Rattle.std.proofs.Common.{◌≡◌, ℕ, zero, suc, ◌+◌, ◌*◌, ◌<◌, ◌≤◌, List, [], ◌∷◌, ◌++◌, length, take, flat_map}
use Rattle.std.proofs.Common.{slice_get, Some, refl, inl, inr, ap, subst, ◌∙◌, arith, length-append, length-drop}
use Rattle.std.proofs.lemmas.List.{take_more, append-nil, take_all}
use Rattle.std.proofs.lemmas.Bool.{cases_lt}
use Rattle.std.proofs.lemmas.Grind.{flat_map-append}
use Rattle.std.proofs.lemmas.Option.{slice_get_within, get_or_from_slice_get}
use Rattle.doc_bits.specs.Number.{number_bytes}
use Rattle.doc_bits.specs.Rules.{IsLeast, Among, Nowhere}
use Rattle.doc_bits.proofs.Public.{length-number_bytes, first_among, none_among, same_entry}
use Rattle.sprm_table.specs.Sprm.{HasSprmFaultAt, IsAcceptedList, spelling}
use Rattle.sprm_table.proofs.Public.{length-spelling, accepted_no_fault}
use Rattle.prop_map.specs.Formed.{prc_groups}
use Rattle.prop_map.specs.declared.modifiers.Modifier.{Modifier}
use Rattle.prop_map.specs.Modifiers.{IsSpeltModifier}
use Rattle.piece_table.specs.declared.pcd.Prm.TheVariants.{Prc}
use Rattle.piece_table.specs.Clx.{ClxParts, prc_bytes, prc_place}
use Rattle.piece_table.specs.PrmLists.{IsPrmModifier}
use Rattle.piece_table.specs.ClxRules.{IsNamedPrc, IsFaultyPrc, IsLongPrc, FitsPages}
use Rattle.piece_table.specs.Numbering.{AreAccepted}

-- ---- where Prcs begin

pub place_more : (prcs : List (List ℕ)) (i : ℕ) (grpprl : List ℕ) → slice_get prcs i ≡ Some grpprl →
    prc_place prcs (i + 1) ≡ prc_place prcs i + (3 + length grpprl)
place_more prcs i grpprl there =
    let within = slice_get_within prcs i grpprl there in
    let front = take i prcs in
    let more : take (i + 1) prcs ≡ front ++ grpprl ∷ [] = take_more prcs i grpprl within ∙ ap (λ g. front ++ g ∷ [])
    (get_or_from_slice_get prcs i grpprl grpprl there) in
    let joined : flat_map prc_bytes (take (i + 1) prcs) ≡ flat_map prc_bytes front ++ prc_bytes grpprl =
    ap (flat_map prc_bytes) more ∙ (flat_map-append prc_bytes front (grpprl ∷ []) ∙ ap (λ l. flat_map prc_bytes front
    ++ l) (append-nil (prc_bytes grpprl))) in
    omega (
      arith,
      ap length joined,
      length-append (flat_map prc_bytes front) (prc_bytes grpprl),
      length-append (number_bytes 2 (length grpprl)) grpprl,
      length-number_bytes 2 (length grpprl),
    )

-- the Prcs from one on
place_front : (prcs : List (List ℕ)) (i j : ℕ) → i ≤ j → prc_place prcs i ≤ prc_place prcs j
place_front [] zero j low = omega arith
place_front [] (suc i) zero low = absurd (omega arith)
place_front [] (suc i) (suc j) low = omega arith
place_front (g ∷ prcs) zero j low = omega arith
place_front (g ∷ prcs) (suc i) zero low = absurd (omega arith)
place_front (g ∷ prcs) (suc i) (suc j) low =
    omega (
      arith,
      place_front prcs i j (omega arith),
      length-append (prc_bytes g) (flat_map prc_bytes (take i prcs)),
      length-append (prc_bytes g) (flat_map prc_bytes (take j prcs)),
    )

pub place_within : (prcs : List (List ℕ)) (i : ℕ) → i ≤ length prcs → prc_place prcs i ≤ length (flat_map prc_bytes
    prcs)
place_within prcs i low =
    let all : prc_place prcs (length prcs) ≡ length (flat_map prc_bytes prcs) = ap (λ l. length (flat_map prc_bytes
    l)) (take_all (length prcs) prcs (omega arith)) in
    omega (arith, place_front prcs i (length prcs) low)

-- each Prc has three bytes at least
pub place_least : (prcs : List (List ℕ)) (i : ℕ) → i ≤ length prcs → 3 * i ≤ prc_place prcs i
place_least prcs zero low = omega arith
place_least [] (suc i) low = absurd (omega arith)
place_least (g ∷ prcs) (suc i) low =
    omega (
      arith,
      place_least prcs i (omega arith),
      length-append (prc_bytes g) (flat_map prc_bytes (take i prcs)),
      length-append (number_bytes 2 (length g)) g,
      length-number_bytes 2 (length g),
    )

-- one Prc ends within them all
pub prc_ends : (prcs : List (List ℕ)) (i : ℕ) (grpprl : List ℕ) → slice_get prcs i ≡ Some grpprl → prc_place prcs i +
    (3 + length grpprl) ≤ length (flat_map prc_bytes prcs)
prc_ends prcs i grpprl there =
    let within = slice_get_within prcs i grpprl there in
    omega (arith, place_more prcs i grpprl there, place_within prcs (i + 1) (omega arith))

-- ---- rule 31

-- a fault is within its list
pub fault_within : (grpprl : List ℕ) (groups at : ℕ) → HasSprmFaultAt grpprl groups at → at < length grpprl
fault_within grpprl groups at (inl cut) = let word = cut.here.word in omega (arith, length-drop at grpprl)
fault_within grpprl groups at (inr refused) =
    let spelt = refused.here.spelt in
    omega (
      arith,
      length-drop at grpprl,
      ap length spelt,
      length-append (spelling refused.here.prl) refused.here.more,
      length-spelling refused.here.prl,
    )

-- the faults of a Prc come before those of later ones
faults_rise : (parts : ClxParts) (at j k a b : ℕ) → j < k → IsFaultyPrc parts at j a → IsFaultyPrc parts at k b → a ≤ b
faults_rise parts at j k a b low x y =
    let inside = fault_within x.grpprl prc_groups x.fault.offset x.fault.broken in
    let here = x.fault.here in
    let there = y.fault.here in
    omega (arith, place_more parts.prcs j x.grpprl x.there, place_front parts.prcs (j + 1) k (omega arith))

-- the rule holds at Prcs that have no fault
pub none_faulty : (parts : ClxParts) (at n : ℕ) → AreAccepted parts n → (j : ℕ) → j < n →
    Nowhere (IsFaultyPrc parts at j)
none_faulty parts at n accepted j low = λ p faulty. accepted_no_fault faulty.grpprl prc_groups faulty.fault.offset
    (accepted j faulty.grpprl low faulty.named faulty.there) faulty.fault.broken

pub all_accepted : (parts : ClxParts) (at n : ℕ) → n ≡ length parts.prcs → AreAccepted parts n →
    Nowhere (Among (length parts.prcs) (IsFaultyPrc parts at))
all_accepted parts at n all accepted = none_among (IsFaultyPrc parts at) (length parts.prcs) (λ j low. none_faulty
    parts at n accepted j (omega arith))

-- the first fault of the first faulty Prc
pub first_faulty : (parts : ClxParts) (at i offset : ℕ) (grpprl : List ℕ) → AreAccepted parts i → slice_get parts.prcs
    i ≡ Some grpprl → IsNamedPrc parts.plc i → IsLeast (λ a b. a ≤ b) (HasSprmFaultAt grpprl prc_groups) offset →
    IsLeast (λ a b. a ≤ b) (Among (length parts.prcs) (IsFaultyPrc parts at)) (at + (prc_place parts.prcs i + 3) +
    offset)
first_faulty parts at i offset grpprl before there named first =
    let one : IsLeast (λ a b. a ≤ b) (IsFaultyPrc parts at i) (at + (prc_place parts.prcs i + 3) + offset) = record {
      broken = record {
        named = named;
        grpprl = grpprl;
        there = there;
        fault = record {
          offset = offset;
          here = refl;
          broken = first.broken;
        };
      };
      least = λ p other.
          let same = same_entry parts.prcs i other.grpprl grpprl other.there there in
          let low = first.least other.fault.offset (subst (λ g. HasSprmFaultAt g prc_groups other.fault.offset) same
          other.fault.broken) in
          let here = other.fault.here in
          omega arith;
    } in
    first_among (IsFaultyPrc parts at) (length parts.prcs) i (at + (prc_place parts.prcs i + 3) + offset) (faults_rise
    parts at) (slice_get_within parts.prcs i grpprl there) (none_faulty parts at i before) one

abbrev pub IsAcceptedPrc : List ℕ → Type 0
IsAcceptedPrc grpprl = IsAcceptedList grpprl prc_groups

-- one Prc more is accepted
pub accepted_more : (parts : ClxParts) (i : ℕ) (grpprl : List ℕ) → AreAccepted parts i → slice_get parts.prcs i ≡ Some
    grpprl → (IsNamedPrc parts.plc i → IsAcceptedPrc grpprl) → AreAccepted parts (i + 1)
accepted_more parts i grpprl before there here = λ number other low named is.
    elim (cases_lt number i) [
      | inl less ↦ before number other less named is
      | inr more ↦
          let e : number ≡ i = omega arith in
          let at_i : slice_get parts.prcs i ≡ Some other = subst (λ n. slice_get parts.prcs n ≡ Some other) e is in
          subst IsAcceptedPrc (same_entry parts.prcs i grpprl other there at_i) (here (subst (IsNamedPrc parts.plc) e
          named))
    ]

-- ---- rule 32

longs_rise : (parts : ClxParts) (at j k a b : ℕ) → j < k → IsLongPrc parts at j a → IsLongPrc parts at k b → a ≤ b
longs_rise parts at j k a b low x y =
    let here = x.here in
    let there = y.here in
    omega (arith, place_front parts.prcs j k (omega arith))

-- the first Prc whose modifier is too long
pub first_long : (parts : ClxParts) (at i : ℕ) (modifier : Modifier) → i < length parts.prcs → ((j : ℕ) → j < i →
    Nowhere (IsLongPrc parts at j)) → IsNamedPrc parts.plc i → IsPrmModifier parts.prcs (Prc i) modifier →
    ¬ (FitsPages modifier) → IsLeast (λ a b. a ≤ b) (Among (length parts.prcs) (IsLongPrc parts at)) (at + prc_place
    parts.prcs i)
first_long parts at i modifier within before named does long =
    let one : IsLeast (λ a b. a ≤ b) (IsLongPrc parts at i) (at + prc_place parts.prcs i) = record {
      broken = record { named = named; modifier = modifier; does = does; long = long; here = refl };
      least = λ p other. let here = other.here in omega arith;
    } in
    first_among (IsLongPrc parts at) (length parts.prcs) i (at + prc_place parts.prcs i) (longs_rise parts at) within
    before one

-- the modifier that was read is that of the Prc
pub prc_does : (parts : ClxParts) (i : ℕ) (grpprl : List ℕ) (modifier : Modifier) → IsAcceptedPrc grpprl →
    slice_get parts.prcs i ≡ Some grpprl → IsSpeltModifier grpprl modifier → IsPrmModifier parts.prcs (Prc i) modifier
prc_does parts i grpprl modifier accepted there read = record {
  sprms = accepted.list;
  named = (
    grpprl,
    (there, accepted.spelt),
  );
  does = read accepted.list accepted.spelt;
}
