-- The bytes of entries spell these entries and no others.
use Rattle.std.proofs.Common.{◌≡◌, ◌∙◌, inl, inr, refl, sym, ap, subst, ℕ, zero, suc, ◌+◌, ◌-◌, ◌<◌, ◌≤◌, ◌==◌}
use Rattle.std.proofs.Common.{false, List, [], ◌∷◌, ◌++◌, length, take, drop, arith, IsTrue, Some, length-append}
use Rattle.std.proofs.Common.{append_assoc, get_or}
use Rattle.std.specs.Prelude.{slice_range}
use Rattle.std.specs.List.{All}
use Rattle.std.specs.Ordering.{nat_cmp}
use Rattle.std.specs.FinMap.{is_sorted, put, find}
use Rattle.std.proofs.lemmas.Bool.{cases_lt}
use Rattle.std.proofs.lemmas.List.{drop_at, take_at, take_rest, append-nil, nil_from_length, get_or_append_left}
use Rattle.std.proofs.lemmas.List.Elements.{All-head, All-tail, All-push, All-cons, All-append}
use Rattle.doc_bits.specs.Number.{number_bytes, u16_at, u32_at}
use Rattle.doc_bits.proofs.Public.{length-number_bytes, number_at-number_bytes, number_at-read_back, not_zero}
use Rattle.prop_map.specs.Entries.{Entries}
use Rattle.prop_map.specs.Block.{block_entry_bytes, block_bytes, IsBlockEntry, AreBlockEntries, first_end, first_entry}
use Rattle.prop_map.specs.Block.{entries_upto, entries_in, IsPropertyBlock, IsSortedBlock, IsPutBetween}
use Rattle.prop_map.proofs.EntriesLemmas.{cmp_less, cmp_equal, cmp_greater, sorted-put}
use Rattle.std.specs.declared.cmp.Ordering.TheVariants.{Equal}
use Rattle.std.specs.Cmp.Lexicographic.{slice_cmp}

-- ---- one entry

pub length-entry : (code : ℕ) (value : List ℕ) → length (block_entry_bytes (code, value)) ≡ 6 + length value
length-entry code value =
    let two = length-number_bytes 2 code in
    let four = length-number_bytes 4 (length value) in
    simp (length-append) (omega arith)

module _ (code : ℕ) (value rest : List ℕ) (is : IsBlockEntry (code, value)) where
  -- what is behind the code
  abbrev behind : List ℕ
  behind = number_bytes 4 (length value) ++ (value ++ rest)

  whole : block_entry_bytes (code, value) ++ rest ≡ number_bytes 2 code ++ behind
  whole =
      append_assoc (number_bytes 2 code) (number_bytes 4 (length value) ++ value) rest
      ∙ ap (λ l. number_bytes 2 code ++ l) (append_assoc (number_bytes 4 (length value)) value rest)

  code_at : u16_at (block_entry_bytes (code, value) ++ rest) 0 ≡ code
  code_at = ap (λ l. u16_at l 0) whole ∙ number_at-number_bytes 2 code behind is.code

  len_at : u32_at (block_entry_bytes (code, value) ++ rest) 2 ≡ length value
  len_at =
      ap (λ l. u32_at l 2) whole
      ∙ (ap (λ n. u32_at (number_bytes 2 code ++ behind) n) (sym (length-number_bytes 2 code))
      ∙ number_at-read_back 4 (length value) (number_bytes 2 code) (value ++ rest) is.len)

  pub end_at : first_end (block_entry_bytes (code, value) ++ rest) ≡ 6 + length value
  end_at = ap (λ n. 6 + n) len_at

  pub rest_at : drop (first_end (block_entry_bytes (code, value) ++ rest)) (block_entry_bytes (code, value) ++ rest) ≡
      rest
  rest_at = drop_at (block_entry_bytes (code, value)) rest (first_end (block_entry_bytes (code, value) ++ rest))
      (length-entry
      code value ∙ sym end_at)

  value_at : slice_range (block_entry_bytes (code, value) ++ rest) 6 (first_end (block_entry_bytes (code, value) ++
      rest)) ≡ value
  value_at =
      let head : List ℕ = number_bytes 2 code ++ number_bytes 4 (length value) in
      let two = length-number_bytes 2 code in
      let four = length-number_bytes 4 (length value) in
      let six : length head ≡ 6 = simp (length-append) (omega arith) in
      let joined : block_entry_bytes (code, value) ++ rest ≡ head ++ (value ++ rest) = whole ∙ sym (append_assoc
      (number_bytes 2 code) (number_bytes 4 (length value)) (value ++ rest)) in
      let dropped : drop 6 (block_entry_bytes (code, value) ++ rest) ≡ value ++ rest = ap (drop 6) joined ∙ drop_at head
      (value ++ rest) 6 six in
      let width : first_end (block_entry_bytes (code, value) ++ rest) - 6 ≡ length value = let e = end_at in omega arith
      in
      ap (λ n. take n (drop 6 (block_entry_bytes (code, value) ++ rest))) width
      ∙ (ap (take (length value)) dropped ∙ take_at value rest (length value) refl)

  pub entry_at : first_entry (block_entry_bytes (code, value) ++ rest) ≡ (code, value)
  entry_at =
      let c = code_at in
      let v = value_at in
      λ i. (c i, v i)

-- the bytes of one entry more
pub block_more : (es : Entries) (code : ℕ) (value : List ℕ) → block_bytes (es ++ (code, value) ∷ []) ≡ block_bytes es ++
    block_entry_bytes (code, value)
block_more [] code value = append-nil (block_entry_bytes (code, value))
block_more (e ∷ es) code value = ap (λ l. block_entry_bytes e ++ l) (block_more es code value) ∙ sym (append_assoc
    (block_entry_bytes e) (block_bytes es) (block_entry_bytes (code, value)))

pub blocks_joined : (xs ys : Entries) → block_bytes (xs ++ ys) ≡ block_bytes xs ++ block_bytes ys
blocks_joined [] ys = refl
blocks_joined (e ∷ xs) ys = ap (λ l. block_entry_bytes e ++ l) (blocks_joined xs ys) ∙ sym (append_assoc
    (block_entry_bytes e)
    (block_bytes xs) (block_bytes ys))

-- ---- the entries of a block

some_upto : (n : ℕ) (block : List ℕ) → 0 < length block → entries_upto (suc n) block ≡ first_entry block ∷
    entries_upto n (drop (first_end block) block)
unfolding entries_upto
some_upto n [] h = absurd (omega arith)
some_upto n (byte ∷ bytes) h = refl

none_upto : (n : ℕ) → entries_upto n [] ≡ []
unfolding entries_upto
none_upto zero = refl
none_upto (suc n) = refl

upto_block : (n : ℕ) (es : Entries) → AreBlockEntries es → length (block_bytes es) ≤ n → entries_upto n (block_bytes
    es) ≡ es
upto_block n [] all h = none_upto n
upto_block zero (e ∷ es) all h =
    let is = All-head IsBlockEntry e es all in
    let long = length-entry e.0 e.1 in
    let both = length-append (block_entry_bytes e) (block_bytes es) in
    absurd (omega arith)
upto_block (suc n) (e ∷ es) all h =
    let is = All-head IsBlockEntry e es all in
    let rest = block_bytes es in
    let long = length-entry e.0 e.1 in
    let both = length-append (block_entry_bytes e) rest in
    some_upto n (block_entry_bytes e ++ rest) (omega arith)
    ∙ (ap (λ x. x ∷ entries_upto n (drop (first_end (block_entry_bytes e ++ rest)) (block_entry_bytes e ++ rest)))
    (entry_at e.0
    e.1 rest is)
    ∙ ap (λ l. e ∷ l) (ap (entries_upto n) (rest_at e.0 e.1 rest is) ∙ upto_block n es (All-tail IsBlockEntry e es
    all) (omega arith)))

pub entries_in-block : (es : Entries) → AreBlockEntries es → entries_in (block_bytes es) ≡ es
entries_in-block es all = upto_block (length (block_bytes es)) es all (omega arith)

pub entries_in-none : entries_in [] ≡ []
entries_in-none = none_upto 0

pub block_of : (block : List ℕ) (es : Entries) → AreBlockEntries es → block ≡ block_bytes es → IsPropertyBlock block
block_of block es all e =
    let same : entries_in block ≡ es = ap entries_in e ∙ entries_in-block es all in
    record { entries = subst AreBlockEntries (sym same) all; is = e ∙ ap block_bytes (sym same) }

pub sorted_block : (block : List ℕ) (es : Entries) → AreBlockEntries es → block ≡ block_bytes es →
    IsTrue (is_sorted nat_cmp es) → IsSortedBlock block
sorted_block block es all e sorted =
    let same : entries_in block ≡ es = ap entries_in e ∙ entries_in-block es all in
    record { block_is = block_of block es all e; sorted = subst (λ l. IsTrue (is_sorted nat_cmp l)) (sym same) sorted }

-- a block that has a byte has a first entry, and a block behind it
pub record HasFirst (block : List ℕ) : Type 0 where
  pub head : 6 ≤ length block
  pub within : first_end block ≤ length block
  pub is : entries_in block ≡ first_entry block ∷ entries_in (drop (first_end block) block)
  pub rest : IsPropertyBlock (drop (first_end block) block)

has_first_of : (block : List ℕ) (es : Entries) → AreBlockEntries es → block ≡ block_bytes es → 0 < length block →
    HasFirst block
has_first_of block [] all e some = let none : length block ≡ 0 = ap length e in absurd (omega arith)
has_first_of block (x ∷ es) all e some =
    let is = All-head IsBlockEntry x es all in
    let others = All-tail IsBlockEntry x es all in
    let rest = block_bytes es in
    let P : List ℕ → Type 0 = HasFirst in
    let long = length-entry x.0 x.1 in
    let both = length-append (block_entry_bytes x) rest in
    let end = end_at x.0 x.1 rest is in
    let behind_is = rest_at x.0 x.1 rest is in
    let first = entry_at x.0 x.1 rest is in
    let there : P (block_entry_bytes x ++ rest) = record {
      head = omega arith;
      within = omega arith;
      is = entries_in-block (x ∷ es) all ∙ (ap (λ y. y ∷ es) (sym first) ∙ ap (λ l. first_entry (block_entry_bytes x ++
          rest) ∷ l) (sym (ap entries_in behind_is ∙ entries_in-block es others)));
      rest = subst IsPropertyBlock (sym behind_is) (block_of rest es others refl);
    } in
    subst P (sym e) there

pub has_first : (block : List ℕ) → IsPropertyBlock block → 0 < length block → HasFirst block
has_first block is some = has_first_of block (entries_in block) is.entries is.is some

-- a length that is not 0
pub some_byte : (n : ℕ) → false ≡ (n == 0) → 0 < n
some_byte zero e = absurd (cc)
some_byte (suc n) e = omega arith

-- no byte, no entry
pub no_entries : (block : List ℕ) → length block ≡ 0 → entries_in block ≡ []
no_entries block e = ap entries_in (nil_from_length block e) ∙ entries_in-none

-- the first entry and the others, as they are cut off, and that bytes and entries are missing together
pub next_is : (block : List ℕ) (code len : ℕ) → HasFirst block → code ≡ u16_at block 0 → len ≡ u32_at block 2 →
    entries_in block ≡ (code, take (6 + len - 6) (drop 6 block)) ∷ entries_in (take (length block - (6 + len))
    (drop (6 + len) block))
next_is block code len h c l =
    let end : 6 + len ≡ first_end block = ap (λ n. 6 + n) l in
    let first : first_entry block ≡ (code, take (6 + len - 6) (drop 6 block)) = λ i. (
      sym c i,
      take (sym end i - 6)
          (drop 6 block),
    ) in
    h.is
    ∙ (ap (λ e. e ∷ entries_in (drop (first_end block) block)) first
    ∙ ap (λ l. (code, take (6 + len - 6) (drop 6 block)) ∷ entries_in l) (sym (take_rest block (6 + len) ∙ ap
    (λ n. drop n block) end)))

pub rest_is : (block : List ℕ) (len : ℕ) → HasFirst block → len ≡ u32_at block 2 →
    IsPropertyBlock (take (length block - (6 + len)) (drop (6 + len) block))
rest_is block len h l = subst IsPropertyBlock (sym (take_rest block (6 + len) ∙ ap (λ n. drop (6 + n) block) l)) h.rest

pub empty_alike : (block : List ℕ) → IsPropertyBlock block → (length block == 0) ≡ (length (entries_in block) == 0)
empty_alike block is = elim (cases_lt 0 (length block)) [
  | inl some ↦
      let long = ap length (has_first block is some).is in
      not_zero (length block) some ∙ sym (not_zero (length (entries_in block)) (omega (arith, long)))
  | inr none ↦
      let zero_is : length block ≡ 0 = omega arith in
      let nothing = ap length (no_entries block zero_is) in
      ap (λ n. n == 0) (zero_is ∙ sym nothing)
]

pub no_block_entries : AreBlockEntries []
no_block_entries = λ k d within. absurd (omega arith)

-- a code put into a block
pub put_block : (entries rest : Entries) (code : ℕ) (value start bytes : List ℕ) → IsPutBetween entries code [] start
    rest → AreBlockEntries rest → IsBlockEntry (code, value) → IsTrue (is_sorted nat_cmp entries) →
    bytes ≡ (start ++ block_entry_bytes (code, value)) ++ block_bytes rest →
    IsSortedBlock bytes × (entries_in bytes ≡ put nat_cmp code value entries)
put_block entries rest code value start bytes h formed is sorted e =
    let all : Entries = h.below ++ (code, value) ∷ rest in
    let put_is : put nat_cmp code value entries ≡ all = h.between value in
    let spelt : bytes ≡ block_bytes all =
    e ∙ (ap (λ l. (l ++ block_entry_bytes (code, value)) ++ block_bytes rest) h.bytes
    ∙ (append_assoc (block_bytes h.below) (block_entry_bytes (code, value)) (block_bytes rest) ∙ sym (blocks_joined
    h.below
    ((code, value) ∷ rest)))) in
    let formed_all : AreBlockEntries all = All-append IsBlockEntry h.below ((code, value) ∷ rest) h.formed
    (All-cons IsBlockEntry (code, value) rest is formed) in
    let up = subst (λ l. IsTrue (is_sorted nat_cmp l)) put_is (sorted-put entries code value sorted) in
    (sorted_block bytes all formed_all spelt up, ap entries_in spelt ∙ (entries_in-block all formed_all ∙ sym put_is))

-- blocks with the same entries are the same
pub same_blocks : (one other : Entries) → AreBlockEntries one → AreBlockEntries other → block_bytes one ≡ block_bytes
    other → one ≡ other
same_blocks one other a b e = sym (entries_in-block one a) ∙ (ap entries_in e ∙ entries_in-block other b)

-- ---- a code put between entries

-- how far the entries below the code were passed
pub record HasPassedBelow (entries : Entries) (code : ℕ) (left : Entries) : Type 0 where
  pub below : Entries
  pub joined : entries ≡ below ++ left
  pub past : (value : List ℕ) → put nat_cmp code value entries ≡ below ++ put nat_cmp code value left

pub none_passed : (entries left : Entries) (code : ℕ) → entries ≡ left → HasPassedBelow entries code left
none_passed entries left code e = record { below = []; joined = e; past = λ value. ap (put nat_cmp code value) e }

-- what is known of the bytes before some entries
abbrev pub AreBytesBefore : Entries → Entries → List ℕ → Type 0
AreBytesBefore entries rest bytes =
    (below : Entries) → entries ≡ below ++ rest → (bytes ≡ block_bytes below) × AreBlockEntries below

-- the code is before what is left, in place of its first entry, or behind all
pub put_before : (entries rest : Entries) (code other : ℕ) (here bytes : List ℕ) → HasPassedBelow entries code
    ((other, here) ∷ rest) → AreBytesBefore entries ((other, here) ∷ rest) bytes → code < other →
    IsPutBetween entries code [] bytes ((other, here) ∷ rest)
put_before entries rest code other here bytes h are lt =
    let front = are h.below h.joined in
    record {
      below = h.below;
      bytes = front.0;
      formed = front.1;
      between = λ value. h.past value ∙ ap (λ l. h.below ++ l) (rw (cmp_less code other lt) refl);
    }

pub put_at : (entries rest : Entries) (code other : ℕ) (here bytes : List ℕ) → HasPassedBelow entries code
    ((other, here) ∷ rest) → AreBytesBefore entries ((other, here) ∷ rest) bytes → code ≡ other →
    IsPutBetween entries code [] bytes rest
put_at entries rest code other here bytes h are e =
    let front = are h.below h.joined in
    record {
      below = h.below;
      bytes = front.0;
      formed = front.1;
      between = λ value. h.past value ∙ ap (λ l. h.below ++ l) (rw (sym e, cmp_equal code) refl);
    }

pub put_last : (entries : Entries) (code : ℕ) (bytes : List ℕ) → HasPassedBelow entries code [] → AreBytesBefore
    entries [] bytes → IsPutBetween entries code [] bytes []
put_last entries code bytes h are =
    let front = are h.below h.joined in
    record { below = h.below; bytes = front.0; formed = front.1; between = h.past }

-- the bytes of these entries were appended
pub put_behind_old : (entries rest : Entries) (code : ℕ) (old bytes new : List ℕ) → IsPutBetween entries code [] bytes
    rest → new ≡ old ++ bytes → IsPutBetween entries code old new rest
put_behind_old entries rest code old bytes new h e = record {
  below = h.below;
  bytes = e ∙ ap (λ b. old ++ b) h.bytes;
  formed = h.formed;
  between = h.between;
}

-- the bytes of the first entries of a block
pub bytes_before : (block rest : List ℕ) (n : ℕ) (below : Entries) → IsPropertyBlock block → IsPropertyBlock rest →
    entries_in block ≡
    below ++ entries_in rest → n ≡ length block - length rest → (take n block ≡ block_bytes below) × AreBlockEntries
    below
bytes_before block rest n below is last e len =
    let spelt : block ≡ block_bytes below ++ rest =
    is.is ∙ (ap block_bytes e ∙ (blocks_joined below (entries_in rest) ∙ ap (λ b. block_bytes below ++ b)
    (sym last.is))) in
    let long = ap length spelt in
    let both = length-append (block_bytes below) rest in
    let width : length (block_bytes below) ≡ n = omega arith in (
      ap (take n) spelt ∙ take_at (block_bytes below) rest n width,
      All-front IsBlockEntry below (entries_in rest) (subst AreBlockEntries e is.entries),
    )
  where
    All-front : (P : ℕ × List ℕ → Type 0) (xs ys : Entries) → All P (xs ++ ys) → All P xs
    All-front P xs ys h k d within =
        let long = length-append xs ys in
        subst P (get_or_append_left xs ys d k within) (h k d (omega arith))

-- ---- entries appended one after the other

-- how far the entries were appended
pub record HasAppended (all left : Entries) (bytes : List ℕ) : Type 0 where
  pub done : Entries
  pub joined : all ≡ done ++ left
  pub spelt : bytes ≡ block_bytes done
  pub formed : AreBlockEntries done

pub none_appended : (all : Entries) (bytes : List ℕ) → bytes ≡ [] → HasAppended all all bytes
none_appended all bytes e = record { done = []; joined = refl; spelt = e; formed = no_block_entries }

pub one_appended : (all left : Entries) (code : ℕ) (value old new : List ℕ) → HasAppended all ((code, value) ∷ left)
    old → new ≡ old ++ block_entry_bytes (code, value) → IsBlockEntry (code, value) → HasAppended all left new
one_appended all left code value old new h e is = record {
  done = h.done ++ (code, value) ∷ [];
  joined = h.joined ∙ sym (append_assoc h.done ((code, value) ∷ []) left);
  spelt = e ∙ (ap (λ b. b ++ block_entry_bytes (code, value)) h.spelt ∙ sym (block_more h.done code value));
  formed = All-push IsBlockEntry h.done (code, value) h.formed is;
}

-- all of them
pub all_appended : (all : Entries) (bytes : List ℕ) → HasAppended all [] bytes → IsTrue (is_sorted nat_cmp all) →
    IsSortedBlock bytes × (entries_in bytes ≡ all)
all_appended all bytes h sorted =
    let whole : all ≡ h.done = h.joined ∙ append-nil h.done in (
      sorted_block bytes h.done h.formed h.spelt (subst (λ l. IsTrue (is_sorted nat_cmp l)) whole sorted),
      ap entries_in h.spelt ∙ (entries_in-block h.done h.formed ∙ sym whole),
    )

-- a code that another is neither above nor equal to
pub below_from : (code other : ℕ) → other ≤ code → ¬ (code ≡ other) → other < code
below_from code other least same = elim (cases_lt other code) [
  | inl lt ↦ lt
  | inr ge ↦ let e : code ≡ other = omega arith in absurd (same e)
]

-- an entry below the code more
pub below_more : (entries left : Entries) (code other : ℕ) (value : List ℕ) → HasPassedBelow entries code
    ((other, value) ∷ left) → other < code → HasPassedBelow entries code left
below_more entries left code other value h lt = record {
  below = h.below ++ (other, value) ∷ [];
  joined = h.joined ∙ sym (append_assoc h.below ((other, value) ∷ []) left);
  past = λ v. h.past v ∙ (ap (λ l. h.below ++ l) (rw (cmp_greater code other lt) refl) ∙ sym (append_assoc h.below
      ((other, value) ∷ []) (put nat_cmp code v left)));
}

-- ---- looking for a code

-- the first entry has the code
pub found_first : (code other : ℕ) (value : List ℕ) (rest : Entries) → code ≡ other → find nat_cmp code
    ((other, value) ∷ rest) ≡ Some value
found_first code other value rest e = rw (sym e, cmp_equal code) refl

-- it has not
pub not_first : (code other : ℕ) (value : List ℕ) (rest : Entries) → ¬ (code ≡ other) → find nat_cmp code
    ((other, value) ∷ rest) ≡ find nat_cmp code rest
not_first code other value rest apart = elim (cases_lt code other) [
  | inl less ↦ rw (cmp_less code other less) refl
  | inr least ↦ elim (cases_lt other code) [
    | inl more ↦ rw (cmp_greater code other more) refl
    | inr most ↦ let same : code ≡ other = omega arith in absurd (apart same)
  ]
]

pub all_of_none : {X : Type 0} (P : X → Type 0) → All P []
all_of_none P k d within = absurd (omega arith)

-- a value of one byte is its first
pub single : (value : List ℕ) (d : ℕ) → length value ≡ 1 → get_or value 0 d ∷ [] ≡ value
single [] d e = absurd (omega arith)
single (byte ∷ []) d e = refl
single (byte ∷ other ∷ value) d e = absurd (omega arith)

pub same_bytes : (list : List ℕ) → slice_cmp nat_cmp list list ≡ Equal
same_bytes [] = refl
same_bytes (x ∷ xs) = rw (cmp_equal x) (same_bytes xs)
