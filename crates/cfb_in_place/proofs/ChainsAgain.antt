-- Chains that stay, and those that grow.
use Rattle.std.proofs.Common.{◌≡◌, ◌≢◌, inl, inr, ℕ, ◌+◌, ◌-◌, ◌*◌, ◌<◌, ◌≤◌, List, [], ◌∷◌, ◌++◌, length, slice_index}
use Rattle.std.proofs.Common.{refl, sym, ap, ◌∙◌, subst, arith, length-append, append-nil}
use Rattle.std.specs.List.{range_with_len}
use Rattle.std.proofs.lemmas.Bool.{cases_lt}
use Rattle.std.proofs.lemmas.List.{get_or_append_left, get_or-append_right}
use Rattle.std.proofs.lemmas.List.FromFn.{length-range_with_len, get_or-range_with_len}
use Rattle.cfb_sectors.specs.Header.{valid_below}
use Rattle.cfb_sectors.specs.SectorChain.{HasSector, IsSectorPath, IsSectorChain, last_of}
use Rattle.cfb_sectors.specs.Chain.{Table, ChainHead, fat_table, HoldsChain}
use Rattle.cfb_directory.specs.Directory.{entry_start}
use Rattle.cfb_directory.specs.Reach.{entry_place, IsDirectory, directory_head}
use Rattle.cfb_directory.specs.StreamEntries.{stream_head}
use Rattle.cfb_streams.specs.StreamRules.{Owner, of_directory, of_stream, Owns}
use Rattle.cfb_layout.specs.Sectors.{chain_start}
use Rattle.cfb_layout.proofs.Public.{chains_chain, owners_apart}
use Rattle.cfb_in_place.specs.Change.{fresh_from}
use Rattle.cfb_in_place.specs.Appended.{chain_after}
use Rattle.cfb_in_place.specs.Save.{LeavesSectors, nothing, mini_sectors, sectors}
use Rattle.cfb_in_place.proofs.Saved.{Save, save_accepted, counts_of, sectors_of_save, middle_number}

-- nobody has a sector of no sectors
pub no_sector : (xs : List ℕ) (x : ℕ) → xs ≡ [] → ¬ HasSector xs x
no_sector xs x none has =
    let empty = subst (λ ys. HasSector ys x) none has in
    let inside = empty.inside in
    omega arith

-- the same path by another table
pub path_again : (old new : ℕ → ℕ) (valid more start : ℕ) (xs : List ℕ) → valid ≤ more → ((i : ℕ) → i + 1 < length xs
    → new (slice_index xs i) ≡ old (slice_index xs i)) → IsSectorPath old valid start xs →
    IsSectorPath new more start xs
path_again old new valid more start xs room kept path = record {
  some = path.some;
  first = path.first;
  within = λ i h. let below = path.within i h in omega arith;
  distinct = path.distinct;
  links = λ i h. kept i h ∙ path.links i h;
}

pub chain_again : (old new : ℕ → ℕ) (valid more start : ℕ) (xs : List ℕ) → valid ≤ more → ((i : ℕ) → i < length xs
    → new (slice_index xs i) ≡ old (slice_index xs i)) → IsSectorChain old valid start xs →
    IsSectorChain new more start xs
chain_again old new valid more start xs room kept chain =
    let some = chain.path.some in record {
      path = path_again old new valid more start xs room (λ i h. kept i (omega arith)) chain.path;
      ends = kept (length xs - 1) (omega arith) ∙ chain.ends;
    }

-- a path that goes on with a chain
pub chain_join : (entry : ℕ → ℕ) (valid start next : ℕ) (xs ys : List ℕ) → IsSectorPath entry valid start xs →
    IsSectorChain entry valid next ys → entry (last_of xs) ≡ next → ((i j : ℕ) → i < length xs → j < length ys →
    slice_index xs i ≢ slice_index ys j) → IsSectorChain entry valid start (xs ++ ys)
chain_join entry valid start next xs ys path chain joins apart =
    let all = length-append xs ys in
    let some = path.some in
    let more = chain.path.some in
    let left : (i : ℕ) → i < length xs → slice_index (xs ++ ys) i ≡ slice_index xs i = λ i h. get_or_append_left xs ys
    0 i h in
    let right : (i : ℕ) → length xs ≤ i → slice_index (xs ++ ys) i ≡ slice_index ys (i - length xs) = λ i h.
    get_or-append_right xs ys (length xs) i 0 refl h in
    record {
      path = record {
        some = omega arith;
        first = left 0 some ∙ path.first;
        within = λ i h. elim (cases_lt i (length xs)) [
          | inl low ↦ let e = left i low in let w = path.within i low in omega arith
          | inr high ↦ let e = right i high in let w = chain.path.within (i - length xs) (omega arith) in omega arith
        ];
        distinct = λ i j less h e. elim (cases_lt j (length xs)) [
          | inl low ↦ path.distinct i j less low (sym (left i (omega arith)) ∙ (e ∙ left j low))
          | inr high ↦ elim (cases_lt i (length xs)) [
            | inl low ↦ apart i (j - length xs) low (omega arith) (sym (left i low) ∙ (e ∙ right j high))
            | inr both ↦ chain.path.distinct (i - length xs) (j - length xs) (omega arith) (omega arith)
                (sym (right i both) ∙ (e ∙ right j high))
          ]
        ];
        links = λ i h. elim (cases_lt (i + 1) (length xs)) [
          | inl low ↦ ap entry (left i (omega arith)) ∙ (path.links i low ∙ sym (left (i + 1) low))
          | inr high ↦ elim (cases_lt i (length xs)) [
            | inl last ↦
                let here : i ≡ length xs - 1 = omega arith in
                let zero_th : i + 1 - length xs ≡ 0 = omega arith in
                ap entry (left i last ∙ ap (λ k. slice_index xs k) here)
                ∙ (joins ∙ (sym chain.path.first ∙ (sym (ap (λ k. slice_index ys k) zero_th) ∙ sym (right (i + 1)
                (omega arith)))))
            | inr both ↦
                let place : i - length xs + 1 ≡ i + 1 - length xs = omega arith in
                ap entry (right i both)
                ∙ (chain.path.links (i - length xs) (omega arith)
                ∙ (ap (λ k. slice_index ys k) place ∙ sym (right (i + 1) (omega arith))))
          ]
        ];
      };
      ends =
          let place : length (xs ++ ys) - 1 - length xs ≡ length ys - 1 = omega arith in
          ap entry (right (length (xs ++ ys) - 1) (omega arith) ∙ ap (λ k. slice_index ys k) place) ∙ chain.ends;
    }

-- a head that says the same
pub head_again : (table : Table) (head other : ChainHead) (xs : List ℕ) → other.start ≡ head.start → other.size ≡
    head.size
    → other.unit ≡ head.unit → HoldsChain table head xs → HoldsChain table other xs
head_again table head other xs start size unit holds =
    let same = ap (λ u. length xs * u) unit in
    let enough = holds.enough in
    record {
      range = holds.range;
      chain = subst (λ k. IsSectorChain table.entry table.valid k xs) (sym start) holds.chain;
      enough = omega arith;
    }

-- whose the changed sectors are
pub owns_grown : (s : Save) (x : ℕ) → HasSector s.chains.grown x → Owns s.old s.has.parts (of_stream
    s.chains.grown_entry) x
owns_grown s x has = record {
  is_large = s.are.grown.is_large;
  sectors = s.chains.grown;
  holds = s.are.grown.holds;
  has = has;
}

freed_of : (s : Save) (x : ℕ) → LeavesSectors s.old s.has.parts s.chains → HasSector s.chains.freed x →
    Owns s.old s.has.parts (of_stream s.chains.table_entry) x
freed_of s x (nothing empty none minis) has = absurd (no_sector s.chains.freed x none has)
freed_of s x (mini_sectors small holds none) has = absurd (no_sector s.chains.freed x none has)
freed_of s x (sectors large holds none) has = record {
  is_large = large;
  sectors = s.chains.freed;
  holds = holds;
  has = has;
}

pub owns_freed : (s : Save) (x : ℕ) → HasSector s.chains.freed x → Owns s.old s.has.parts (of_stream
    s.chains.table_entry) x
owns_freed s x has = freed_of s x s.are.leaves has

pub last_grown : (s : Save) → HasSector s.chains.grown (last_of s.chains.grown)
last_grown s =
    let some = s.are.grown.holds.chain.path.some in record
    { index = length s.chains.grown - 1; inside = omega arith; here = refl }

pub streams_apart : (a b : ℕ) → a ≢ b → of_stream a ≢ of_stream b
streams_apart a b apart e = let inner : a ≡ b = cc in apart inner

-- the entry of another owner's sector stays
pub entry_again : (s : Save) (owner : Owner) (x : ℕ) → owner ≢ of_stream s.chains.grown_entry →
    owner ≢ of_stream s.chains.table_entry → Owns s.old s.has.parts owner x → x < valid_below s.old →
    (fat_table s.new).entry x ≡ (fat_table s.old).entry x
entry_again s owner x other another own low =
    let ok = save_accepted s in
    let from = (counts_of s).from in
    s.saved.tables.fat.kept x (omega arith)
    (λ some e. owners_apart s.old s.has.parts owner (of_stream s.chains.grown_entry) x ok other own
    (owns_grown s x (subst (λ y. HasSector s.chains.grown y) (sym e) (last_grown s))))
    (λ free. owners_apart s.old s.has.parts owner (of_stream s.chains.table_entry) x ok another own (owns_freed s x
    free))

-- so its chain stays
pub holds_again : (s : Save) (owner : Owner) (head other : ChainHead) (xs : List ℕ) → owner ≢ of_stream
    s.chains.grown_entry
    → owner ≢ of_stream s.chains.table_entry → ((x : ℕ) → HasSector xs x → Owns s.old s.has.parts owner x) →
    other.start ≡ head.start → other.size ≡ head.size → other.unit ≡ head.unit → HoldsChain (fat_table s.old) head xs
    → HoldsChain (fat_table s.new) other xs
holds_again s owner head other xs one another own start size unit holds =
    let r = sectors_of_save s in
    head_again (fat_table s.new) head other xs start size unit (record {
      range = r.range;
      chain = chain_again (fat_table s.old).entry (fat_table s.new).entry (valid_below s.old) (valid_below s.new)
          head.start xs r.more (λ i h. entry_again s owner (slice_index xs i) one another (own (slice_index xs i)
          (record { index = i; inside = h; here = refl })) (holds.chain.path.within i h)) holds.chain;
      enough = holds.enough;
    })

-- rule 6: the directory
pub directory_again : (s : Save) → IsDirectory s.new s.has.parts.directory
directory_again s = record {
  holds = holds_again s of_directory (directory_head s.old) (directory_head s.new) s.has.parts.directory (λ e. cc)
      (λ e. cc) (λ x h. h) (middle_number s 48 (omega arith) (omega arith)) refl refl s.has.directory.holds;
  short = s.has.directory.short;
}

-- the added chains
added_run : (s : Save) (i start count : ℕ) → i < 2 → start ≡ s.added.from + chain_start (s.added.grown ∷ (s.added.fresh
    ∷
    [])) i → count ≡ slice_index (s.added.grown ∷ (s.added.fresh ∷ [])) i → 0 < count →
    IsSectorChain (fat_table s.new).entry (valid_below s.new) start (range_with_len start count)
added_run s i start count low at is some =
    let counts = s.added.grown ∷ (s.added.fresh ∷ []) in
    let r = sectors_of_save s in
    let room = r.added in
    subst (λ n. IsSectorChain (fat_table s.new).entry (valid_below s.new) start (range_with_len start n)) (sym is)
    (chains_chain (fat_table s.new).entry (valid_below s.new) s.added.from start counts i (λ x t h e.
    s.saved.tables.fat.chained x t (omega arith) e) (omega arith) low (omega arith) at)

-- the stream that is written anew
pub table_again : (s : Save) → HoldsChain (fat_table s.new) (stream_head s.new 512 (entry_place s.has.parts.directory
    s.chains.table_entry)) (range_with_len (fresh_from s.added) s.added.fresh)
table_again s =
    let r = sectors_of_save s in
    let c = counts_of s in
    let fresh = c.fresh in
    let long = s.put.table in
    let start = s.saved.directory.table.start_is in
    let size = s.saved.directory.table.size_is in
    let run = length-range_with_len (fresh_from s.added) s.added.fresh in
    let chain = added_run s 1 (fresh_from s.added) s.added.fresh (omega arith) (omega arith) refl (omega arith) in
    record {
      range = r.range;
      chain = subst (λ k. IsSectorChain (fat_table s.new).entry (valid_below s.new) k (range_with_len (fresh_from
          s.added) s.added.fresh)) (sym start) chain;
      enough = omega arith;
    }

-- the entry of a sector of the stream that grows stays, but for the last one's
grown_entry_again : (s : Save) (i : ℕ) → i < length s.chains.grown → (0 < s.added.grown → i + 1 < length s.chains.grown)
    → (fat_table s.new).entry (slice_index s.chains.grown i) ≡ (fat_table s.old).entry (slice_index s.chains.grown i)
grown_entry_again s i h before =
    let ok = save_accepted s in
    let from = (counts_of s).from in
    let path = s.are.grown.holds.chain.path in
    let low = path.within i h in
    let x = slice_index s.chains.grown i in
    s.saved.tables.fat.kept x (omega arith)
    (λ some e. path.distinct i (length s.chains.grown - 1) (let b = before some in omega arith) (omega arith) e)
    (λ free. owners_apart s.old s.has.parts (of_stream s.chains.grown_entry) (of_stream s.chains.table_entry) x ok
    (streams_apart s.chains.grown_entry s.chains.table_entry s.are.apart) (owns_grown s x
    (record { index = i; inside = h; here = refl })) (owns_freed s x free))

-- its chain: the old one and the added sectors
grown_chain : (s : Save) → IsSectorChain (fat_table s.new).entry (valid_below s.new) (entry_start s.old (entry_place
    s.has.parts.directory s.chains.grown_entry)) (chain_after s.chains s.added)
grown_chain s =
    let r = sectors_of_save s in
    let old = (fat_table s.old).entry in
    let new = (fat_table s.new).entry in
    let start = entry_start s.old (entry_place s.has.parts.directory s.chains.grown_entry) in
    let chain = s.are.grown.holds.chain in
    let from = (counts_of s).from in
    elim (cases_lt 0 s.added.grown) [
      | inl some ↦
          let run = length-range_with_len s.added.from s.added.grown in
          chain_join new (valid_below s.new) start s.added.from s.chains.grown (range_with_len s.added.from
          s.added.grown) (path_again old new (valid_below s.old) (valid_below s.new) start s.chains.grown r.more
          (λ i h. grown_entry_again s i (omega arith) (λ more. h)) chain.path)
          (added_run s 0 s.added.from s.added.grown (omega arith) (omega arith) refl some)
          (s.saved.tables.fat.joined some)
          (λ i j h k e.
          let low = chain.path.within i h in
          let there = get_or-range_with_len s.added.from s.added.grown j 0 (omega arith) in
          omega arith)
      | inr none ↦
          let zero_of : 0 ≡ s.added.grown = omega arith in
          let same : s.chains.grown ≡ chain_after s.chains s.added =
          sym (append-nil s.chains.grown) ∙ ap (λ n. s.chains.grown ++ range_with_len s.added.from n) zero_of in
          subst (λ xs. IsSectorChain new (valid_below s.new) start xs) same
          (chain_again old new (valid_below s.old) (valid_below s.new) start s.chains.grown r.more (λ i h.
          grown_entry_again s i h (λ more. absurd (omega arith))) chain)
    ]

pub grown_again : (s : Save) → HoldsChain (fat_table s.new) (stream_head s.new 512 (entry_place s.has.parts.directory
    s.chains.grown_entry)) (chain_after s.chains s.added)
grown_again s =
    let r = sectors_of_save s in
    let c = counts_of s in
    let grown = c.grown in
    let start = s.saved.directory.grown.start_is in
    let size = s.saved.directory.grown.size_is in
    let all = length-append s.chains.grown (range_with_len s.added.from s.added.grown) in
    let run = length-range_with_len s.added.from s.added.grown in
    record {
      range = r.range;
      chain = subst (λ k. IsSectorChain (fat_table s.new).entry (valid_below s.new) k (chain_after s.chains s.added))
          (sym start) (grown_chain s);
      enough = omega arith;
    }
