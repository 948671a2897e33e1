-- Lists of sprms: what their bytes begin with, and that bytes spell one list at most.
use Rattle.std.proofs.Common.{◌≡◌, inl, inr, ℕ, ◌+◌, ◌<◌, ◌≤◌, List, [], ◌∷◌, ◌++◌, length, drop, take, refl, sym, ap}
use Rattle.std.proofs.Common.{◌∙◌, subst, arith, append_assoc, length-append, length-drop}
use Rattle.std.specs.List.{All, flat_map}
use Rattle.std.proofs.lemmas.List.{append-nil, drop_at, drop-drop, take-append-drop}
use Rattle.std.specs.Prelude.{slice_range}
use Rattle.std.proofs.lemmas.List.Elements.{All-nil, All-head, All-tail}
use Rattle.doc_bits.specs.Number.{u16_at, number_bytes}
use Rattle.doc_bits.proofs.Public.{number_at-number_bytes, length-number_bytes}
use Rattle.sprm_table.specs.Operands.{size_of, IsSizeOf, operand_bytes, IsOperandAt}
use Rattle.sprm_table.specs.Sprm.{Prl, IsPrl, spelling, EndsSprmList, SpellsSprmList, IsShortPrl}
use Rattle.sprm_table.specs.Cursor.{SprmCursor, left, IsPrlAt, GivesPrl, TakesFirstPrl}
use Rattle.sprm_table.proofs.OperandLemmas.{AreBytes, operand_unique, number_bytes-u16_at, length-range, range_moved}

-- the code and the operand apart
pub spelling_split : (prl : Prl) (more : List ℕ) → spelling prl ++ more ≡ number_bytes 2 prl.0 ++ (operand_bytes
    (size_of prl.0) prl.1 ++ more)
spelling_split prl more = append_assoc (number_bytes 2 prl.0) (operand_bytes (size_of prl.0) prl.1) more

-- the word at the front is the code
pub u16_at-spelling : (prl : Prl) (more : List ℕ) → IsPrl prl → u16_at (spelling prl ++ more) 0 ≡ prl.0
u16_at-spelling prl more is =
    let word = is.word in
    rw (spelling_split prl more) (number_at-number_bytes 2 prl.0 (operand_bytes (size_of prl.0) prl.1 ++ more)
    (omega arith))

-- after the word comes the operand
pub drop-spelling : (prl : Prl) (more : List ℕ) → drop 2 (spelling prl ++ more) ≡ operand_bytes (size_of prl.0) prl.1
    ++ more
drop-spelling prl more =
    rw (spelling_split prl more) (drop_at (number_bytes 2 prl.0) (operand_bytes (size_of prl.0) prl.1 ++ more) 2
    (length-number_bytes 2 prl.0))

-- an entry has two bytes at least
pub length-spelling : (prl : Prl) → 2 ≤ length (spelling prl)
length-spelling prl = omega (
  arith,
  length-append (number_bytes 2 prl.0) (operand_bytes (size_of prl.0) prl.1),
  length-number_bytes 2 prl.0,
)

-- an entry at the front, and the bytes after it, are the only ones
pub spelling_unique : (a b : Prl) (x y : List ℕ) → IsPrl a → IsPrl b → spelling a ++ x ≡ spelling b ++ y →
    (a ≡ b) × (x ≡ y)
spelling_unique (code, v) (other, w) x y first second e =
    let same : code ≡ other = sym (u16_at-spelling (code, v) x first) ∙ ap (λ bytes. u16_at bytes 0) e ∙
    u16_at-spelling (other, w) y second in
    let rest : operand_bytes (size_of code) v ++ x ≡ operand_bytes (size_of other) w ++ y =
    sym (drop-spelling (code, v) x) ∙ ap (drop 2) e ∙ drop-spelling (other, w) y in
    let fits = second.size in
    let values = operand_unique (size_of code) v w x y first.size (rw (← same) at fits) (rw (← same) at rest) in
    (cc (same, values.0), values.1)

-- where an entry is the list goes on
pub entry_goes_on : (prl : Prl) (more : List ℕ) → IsPrl prl → EndsSprmList (spelling prl ++ more) → ⊥
entry_goes_on prl more is ends = elim ends [
  | inl short ↦ omega (arith, length-append (spelling prl) more, length-spelling prl)
  | inr none ↦ let code = u16_at-spelling prl more is in let some = is.some in omega arith
]

-- an entry's operand doesn't leave its list
pub entry_not_short : (prl : Prl) (more : List ℕ) → IsPrl prl → IsShortPrl (spelling prl ++ more) → ⊥
entry_not_short prl more is short =
    let code = u16_at-spelling prl more is in
    let leaves = short.leaves in
    (rw (code, drop-spelling prl more) at leaves) prl.1 more is.size refl

-- where the list ends no operand leaves it
pub end_not_short : (bytes : List ℕ) → EndsSprmList bytes → IsShortPrl bytes → ⊥
end_not_short bytes ends short = elim ends [
  | inl h ↦ let word = short.word in omega arith
  | inr none ↦ let some = short.some in omega arith
]

-- the entries before two ends are the same
ended_same : (a b : List Prl) (x y : List ℕ) → All IsPrl a → All IsPrl b → EndsSprmList x → EndsSprmList y →
    flat_map spelling a ++ x ≡ flat_map spelling b ++ y → a ≡ b
ended_same [] [] x y first second xe ye e = refl
ended_same [] (q ∷ b) x y first second xe ye e =
    absurd (entry_goes_on q (flat_map spelling b ++ y) (All-head IsPrl q b second) (subst EndsSprmList
    (e ∙ append_assoc (spelling q) (flat_map spelling b) y) xe))
ended_same (p ∷ a) [] x y first second xe ye e =
    absurd (entry_goes_on p (flat_map spelling a ++ x) (All-head IsPrl p a first) (subst EndsSprmList
    (sym e ∙ append_assoc (spelling p) (flat_map spelling a) x) ye))
ended_same (p ∷ a) (q ∷ b) x y first second xe ye e =
    let apart = sym (append_assoc (spelling p) (flat_map spelling a) x) ∙ e ∙ append_assoc (spelling q)
    (flat_map spelling b) y in
    let front = spelling_unique p q (flat_map spelling a ++ x) (flat_map spelling b ++ y) (All-head IsPrl p a first)
    (All-head IsPrl q b second) apart in
    let rest = ended_same a b x y (All-tail IsPrl p a first) (All-tail IsPrl q b second) xe ye front.1 in
    cc (front.0, rest)

-- bytes spell one list at most
pub spelt_unique : (bytes : List ℕ) (a b : List Prl) → SpellsSprmList bytes a → SpellsSprmList bytes b → a ≡ b
spelt_unique bytes a b first second =
    ended_same a b first.rest second.rest first.entries second.entries first.ends second.ends (sym first.spelt ∙
    second.spelt)

-- entries written one after the other spell their list
pub spells_joined : (list : List Prl) → All IsPrl list → SpellsSprmList (flat_map spelling list) list
spells_joined list entries = record {
  rest = [];
  entries = entries;
  spelt = sym (append-nil (flat_map spelling list));
  ends = inl (omega arith);
}

-- bytes that end a list spell the empty one
pub spells_end : (bytes : List ℕ) → EndsSprmList bytes → SpellsSprmList bytes []
spells_end bytes ends = record { rest = bytes; entries = All-nil IsPrl; spelt = refl; ends = ends }

-- and no other
pub spells_nothing : (bytes : List ℕ) (list : List Prl) → EndsSprmList bytes → SpellsSprmList bytes list → list ≡ []
spells_nothing bytes list ends spelt = spelt_unique bytes list [] spelt (spells_end bytes ends)

-- the list without its first entry
pub record Follows (list : List Prl) (prl : Prl) (more : List ℕ) : Type 0 where
  pub others : List Prl
  pub is : list ≡ prl ∷ others
  pub left : SpellsSprmList more others

-- an entry that is at the front is the first of the list
pub spells_entry : (bytes : List ℕ) (list : List Prl) (prl : Prl) (more : List ℕ) → IsPrl prl → bytes ≡ spelling prl
    ++ more → SpellsSprmList bytes list → Follows list prl more
spells_entry bytes [] prl more is e spelt =
    absurd (entry_goes_on prl more is (subst EndsSprmList (sym spelt.spelt ∙ e) spelt.ends))
spells_entry bytes (q ∷ others) prl more is e spelt =
    let apart = sym e ∙ spelt.spelt ∙ append_assoc (spelling q) (flat_map spelling others) spelt.rest in
    let front = spelling_unique prl q more (flat_map spelling others ++ spelt.rest) is (All-head IsPrl q others
    spelt.entries) apart in
    record {
      others = others;
      is = cc (front.0);
      left = record {
        rest = spelt.rest;
        entries = All-tail IsPrl q others spelt.entries;
        spelt = front.1;
        ends = spelt.ends;
      };
    }

-- no list has an operand that leaves it
pub spells_no_short : (bytes : List ℕ) (list : List Prl) → IsShortPrl bytes → SpellsSprmList bytes list → ⊥
spells_no_short bytes [] short spelt = end_not_short spelt.rest spelt.ends (subst IsShortPrl spelt.spelt short)
spells_no_short bytes (q ∷ others) short spelt =
    entry_not_short q (flat_map spelling others ++ spelt.rest) (All-head IsPrl q others spelt.entries)
    (subst IsShortPrl (spelt.spelt ∙ append_assoc (spelling q) (flat_map spelling others) spelt.rest) short)

-- an entry from what is known of its parts
prl_of_parts : (bytes value more : List ℕ) (at code from to : ℕ) → at + 2 ≤ from → from ≤ to → to ≤ length bytes →
    slice_range bytes from to ≡ value → drop to bytes ≡ more → IsPrl (code, value) → drop at bytes ≡ spelling (
      code,
      value,
    ) ++ more → IsPrlAt bytes at code from to
prl_of_parts bytes value more at code from to later order within part end is spelt = record {
  later = later;
  order = order;
  within = within;
  entry = subst (λ (v : List ℕ). IsPrl (code, v)) (sym part) is;
  spelt = subst (λ (v : List ℕ). drop at bytes ≡ spelling (code, v) ++ drop to bytes) (sym part)
      (spelt ∙ ap (λ last. spelling (code, value) ++ last) (sym end));
}

-- a code and an operand after it are an entry
pub prl_at : (bytes rest : List ℕ) (code from to : ℕ) → AreBytes bytes → 2 ≤ length bytes → code ≡ u16_at bytes 0 →
    0 < code → code < 65536 → rest ≡ drop 2 bytes → IsOperandAt (size_of code) rest from to → IsPrlAt bytes 0 code
    (2 + from) (2 + to)
prl_at bytes rest code from to are long read some word e here =
    let order = here.order in
    let within = here.within in
    let value = slice_range rest from to in
    let end : drop (2 + to) bytes ≡ drop to rest = sym (ap (drop to) e ∙ drop-drop to 2 bytes) in
    let front : take 2 bytes ≡ number_bytes 2 code = sym (ap (number_bytes 2) read ∙ number_bytes-u16_at bytes are
    long) in
    let whole : bytes ≡ spelling (code, value) ++ drop to rest =
    sym (take-append-drop 2 bytes) ∙ ap (λ first. first ++ drop 2 bytes) front ∙ ap (λ last. number_bytes 2 code ++
    last) (sym e ∙ here.spelt) ∙ sym (spelling_split (code, value) (drop to rest)) in
    let size = subst (IsSizeOf (size_of code)) (sym (length-range rest from to within)) here.fits in
    prl_of_parts bytes value (drop to rest) 0 code (2 + from) (2 + to) (omega arith) (omega arith) (omega (
      arith,
      ap length e,
      length-drop 2 bytes,
    ))
    (range_moved bytes rest 2 from to e) end (record { some = some; word = word; size = size }) whole

-- an entry at the front of what is left, at its place in the list
pub prl_moved : (bytes rest : List ℕ) (at code from to : ℕ) → rest ≡ drop at bytes → IsPrlAt rest 0 code from to →
    IsPrlAt bytes at code (at + from) (at + to)
prl_moved bytes rest at code from to e here =
    let later = here.later in
    let order = here.order in
    let within = here.within in
    let end : drop (at + to) bytes ≡ drop to rest = sym (ap (drop to) e ∙ drop-drop to at bytes) in
    prl_of_parts bytes (slice_range rest from to) (drop to rest) at code (at + from) (at + to) (omega arith)
    (omega arith) (omega (arith, ap length e, length-drop at bytes))
    (range_moved bytes rest at from to e) end here.entry (sym e ∙ here.spelt)

-- what is given is the first of the list that was left
pub gives_takes : (old new : SprmCursor) (code from to : ℕ) (list : List Prl) → GivesPrl old new code from to →
    SpellsSprmList (left old) list → TakesFirstPrl old new list code from to
gives_takes old new code from to list given spelt =
    let follows = spells_entry (left old) list (code, slice_range old.bytes from to) (drop to old.bytes)
    given.entry.entry given.entry.spelt spelt in
    let rest : drop to old.bytes ≡ left new = cc (given.bytes, given.at) in
    record {
      others = follows.others;
      is = follows.is;
      left = subst (λ bytes. SpellsSprmList bytes follows.others)
          rest follows.left;
    }

-- an entry at the front of what is left is given
pub gives : (old : SprmCursor) (bytes rest : List ℕ) (at code from to : ℕ) → record { bytes = bytes; at = at } ≡ old →
    rest ≡ drop at bytes → IsPrlAt rest 0 code from to → GivesPrl old (record { bytes = bytes; at = at + to }) code
    (at + from) (at + to)
gives old bytes rest at code from to is e here =
    subst (λ (cursor : SprmCursor). GivesPrl cursor (record { bytes = bytes; at = at + to }) code (at + from) (at + to))
    is
    (record { entry = prl_moved bytes rest at code from to e here; bytes = refl; at = refl })
