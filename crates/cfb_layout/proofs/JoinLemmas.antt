-- The parts of the canonical container, joined from the pieces that are written.
use Rattle.std.proofs.Common.{◌≡◌, ◌≢◌, inl, inr, ℕ, suc, ◌+◌, ◌-◌, ◌*◌, ◌<◌, ◌≤◌, ltb, List, [], ◌∷◌, ◌++◌, length}
use Rattle.std.proofs.Common.{map, take, slice_index, replicate, sum, nat_lt, if◌then◌else◌, refl, sym, ap, ◌∙◌}
use Rattle.std.proofs.Common.{subst, arith}
use Rattle.std.specs.List.{flat_map, range_with_len}
use Rattle.std.proofs.lemmas.Bool.{cases_lt, lt-ltb, le-ltb, cond-true, cond-false}
use Rattle.std.proofs.lemmas.List.{append-nil, append_assoc}
use Rattle.std.proofs.lemmas.List.Concat.{flat_map-append}
use Rattle.std.proofs.lemmas.List.Folds.{flat_map-map}
use Rattle.std.proofs.lemmas.List.Sums.{sum-map, sum_by_more}
use Rattle.std.proofs.lemmas.List.FromFn.{length-range_with_len}
use Rattle.doc_bits.specs.Number.{number_bytes}
use Rattle.cfb_streams.specs.Contents.{NamedBytes}
use Rattle.cfb_sectors.specs.Opening.{signature}
use Rattle.cfb_sectors.specs.SectorChain.{end_of_chain}
use Rattle.cfb_layout.specs.declared.fields.Field.{Field}
use Rattle.cfb_layout.specs.declared.fields.Field.TheVariants.{Long, Word}
use Rattle.cfb_layout.specs.declared.tree.Span.{Span}
use Rattle.cfb_layout.specs.declared.entries.EntryFields.{EntryFields}
use Rattle.cfb_layout.specs.Sectors.{units_for, filled, padded_to_unit, chains_from, table_bytes, free_sector}
use Rattle.cfb_layout.specs.Sectors.{fat_sector_mark}
use Rattle.cfb_layout.specs.Fields.{fields_bytes}
use Rattle.cfb_layout.specs.Tree.{middle, lower, upper, span_of_entry}
use Rattle.cfb_layout.specs.Counts.{large_len, small_len, mini_counts, large_counts, sector_counts, fat_count}
use Rattle.cfb_layout.specs.Counts.{first_sector}
use Rattle.cfb_layout.specs.Entries.{link_fields, place_fields, entry_name_bytes, entry_bytes}
use Rattle.cfb_layout.specs.Layout.{lengths_of, large_part, small_part, mini_stream, fat, directory_bytes, parts}
use Rattle.cfb_layout.specs.Layout.{header_fields, fat_numbers, header_bytes, compound_file}
use Rattle.cfb_layout.proofs.BytesLemmas.{length-table}
use Rattle.cfb_layout.proofs.TreeLemmas.{IsWithin, part_low, part_up, part_same, within_low, within_up}
use Rattle.cfb_layout.proofs.PartLemmas.{length-mini_stream}
use Rattle.cfb_layout.proofs.FileLemmas.{length-fat, parts_behind}
use Rattle.cfb_layout.proofs.WritingLemmas.{table_join}

pub byte_bytes : (value : ℕ) → value < 256 → number_bytes 1 value ≡ value ∷ []
unfolding number_bytes
byte_bytes value h = ap (λ b. b ∷ []) (omega arith)

pub two_join : (base a b x y : List ℕ) → a ≡ base ++ x → b ≡ a ++ y → b ≡ base ++ (x ++ y)
two_join base a b x y h k = k ∙ (ap (λ zs. zs ++ y) h ∙ append_assoc base x y)

pub four_join : (base a b c d w x y z : List ℕ) → a ≡ base ++ w → b ≡ a ++ x → c ≡ b ++ y → d ≡ c ++ z →
    d ≡ base ++ (w ++ (x ++ (y ++ z)))
four_join base a b c d w x y z ha hb hc hd =
    let last : d ≡ b ++ (y ++ z) = two_join b c d y z hc hd in
    let more : d ≡ a ++ (x ++ (y ++ z)) = two_join a b d x (y ++ z) hb last in
    two_join base a d w (x ++ (y ++ z)) ha more

-- a name, filled up
pub name_join : (base a b name : List ℕ) → a ≡ base ++ flat_map (number_bytes 2) name → b ≡ a ++ replicate
    (64 - 2 * length name) 0 → b ≡ base ++ entry_name_bytes name
unfolding entry_name_bytes filled
name_join base a b name h k =
    two_join base a b (flat_map (number_bytes 2) name) (replicate (64 - 2 * length name) 0) h k
    ∙ ap (λ n. base ++ (flat_map (number_bytes 2) name ++ replicate (64 - n) 0)) (sym (length-table 2 name))

pub entry_join : (base a b c d name clsid : List ℕ) (fields : EntryFields) → a ≡ base ++ entry_name_bytes name →
    b ≡ a ++ fields_bytes (link_fields fields) → c ≡ b ++ clsid → d ≡ c ++ fields_bytes (place_fields fields) →
    d ≡ base ++ entry_bytes (record { name = name; clsid = clsid; fields = fields })
unfolding entry_bytes
entry_join base a b c d name clsid fields ha hb hc hd =
    four_join base a b c d (entry_name_bytes name) (fields_bytes (link_fields fields)) clsid (fields_bytes (place_fields
    fields)) ha hb hc hd

-- bytes, filled up to whole parts
pub padded_join : (unit rest : ℕ) (base a b bytes : List ℕ) → a ≡ base ++ bytes → b ≡ a ++ replicate rest 0 →
    rest ≡ units_for unit (length bytes) * unit - length bytes → b ≡ base ++ padded_to_unit unit 0 bytes
unfolding padded_to_unit
padded_join unit rest base a b bytes h k e =
    two_join base a b bytes (replicate rest 0) h k ∙ ap (λ n. base ++ (bytes ++ replicate n 0)) e

-- the mini stream, filled up to whole sectors
pub mini_stream_join : (streams : List NamedBytes) (rest : ℕ) (base a b : List ℕ) → a ≡ base ++ flat_map
    (λ stream. padded_to_unit 64 0 (small_part stream.bytes)) streams → b ≡ a ++ replicate rest 0 → rest ≡ units_for 512
    (64 * sum (mini_counts (lengths_of streams))) * 512 - 64 * sum (mini_counts (lengths_of streams)) →
    b ≡ base ++ padded_to_unit 512 0 (mini_stream streams)
unfolding mini_stream
mini_stream_join streams rest base a b h k e =
    let len = length-mini_stream streams in
    padded_join 512 rest base a b (mini_stream streams) h k (e ∙ ap (λ n. units_for 512 n * 512 - n) (sym len))

-- a table, filled up to whole sectors
pub table_padded : (base a b entries : List ℕ) (rest : ℕ) → a ≡ base ++ flat_map (number_bytes 4) entries →
    b ≡ a ++ flat_map (number_bytes 4) (replicate rest free_sector) → rest ≡ units_for 128 (length entries) * 128 -
    length entries → b ≡ base ++ table_bytes entries
unfolding padded_to_unit
table_padded base a b entries rest h k e =
    table_join base a b entries (replicate rest free_sector) h k ∙ ap (λ n. base ++ flat_map (number_bytes 4)
    (entries ++ replicate n free_sector)) e

pub fat_join : (lengths : List ℕ) (rest : ℕ) (base a b c : List ℕ) → a ≡ base ++ flat_map (number_bytes 4)
    (chains_from 0 (sector_counts lengths)) → b ≡ a ++ flat_map (number_bytes 4) (replicate (fat_count lengths)
    fat_sector_mark) → c ≡ b ++ flat_map (number_bytes 4) (replicate rest free_sector) → rest ≡ units_for 128
    (sum (sector_counts lengths) + fat_count lengths) * 128 - (sum (sector_counts lengths) + fat_count lengths) →
    c ≡ base ++ table_bytes (fat lengths)
unfolding fat
fat_join lengths rest base a b c ha hb hc e =
    let len = length-fat lengths in
    let both = table_join base a b (chains_from 0 (sector_counts lengths)) (replicate (fat_count lengths)
    fat_sector_mark) ha hb in
    table_padded base b c (fat lengths) rest both hc (e ∙ ap (λ n. units_for 128 n * 128 - n) (sym len))

-- the header
pub header_join : (lengths base a b c d : List ℕ) (rest : ℕ) → a ≡ base ++ signature → b ≡ a ++ fields_bytes
    (header_fields lengths) → c ≡ b ++ flat_map (number_bytes 4) (range_with_len (sum (sector_counts lengths))
    (fat_count lengths)) → d ≡ c ++ flat_map (number_bytes 4) (replicate rest free_sector) → rest ≡ 109 - fat_count
    lengths → d ≡ base ++ header_bytes lengths
unfolding header_bytes fat_numbers filled
header_join lengths base a b c d rest ha hb hc hd e =
    let run = range_with_len (sum (sector_counts lengths)) (fat_count lengths) in
    let len = length-range_with_len (sum (sector_counts lengths)) (fat_count lengths) in
    let numbers = table_join b c d run (replicate rest free_sector) hc hd in
    let both = two_join a b d (fields_bytes (header_fields lengths)) (flat_map (number_bytes 4) (run ++ replicate rest
    free_sector)) hb numbers in
    two_join base a d signature (fields_bytes (header_fields lengths) ++ flat_map (number_bytes 4) (run ++ replicate
    rest free_sector)) ha both
    ∙ ap (λ n. base ++ (signature ++ (fields_bytes (header_fields lengths) ++ flat_map (number_bytes 4)
    (run ++ replicate n free_sector)))) (e ∙ ap (λ n. 109 - n) (sym len))

-- all parts
parts_join : (streams : List NamedBytes) (clsid : List ℕ) → flat_map (λ part. part) (parts streams clsid) ≡ flat_map
    (λ stream. padded_to_unit 512 0 (large_part stream.bytes)) streams ++ (padded_to_unit 512 0 (mini_stream streams) ++
    (table_bytes
    (chains_from 0 (mini_counts (lengths_of streams))) ++ (directory_bytes streams clsid ++ table_bytes
    (fat (lengths_of streams)))))
unfolding parts
parts_join streams clsid =
    flat_map-append (λ part. part) (map (λ stream. padded_to_unit 512 0 (large_part stream.bytes)) streams)
    (parts_behind
    streams clsid)
    ∙ (ap (λ xs. xs ++ flat_map (λ part. part) (parts_behind streams clsid)) (flat_map-map (λ part. part)
    (λ stream. padded_to_unit 512 0 (large_part stream.bytes)) streams)
    ∙ ap (λ xs. flat_map (λ stream. padded_to_unit 512 0 (large_part stream.bytes)) streams ++ (padded_to_unit 512 0
    (mini_stream
    streams) ++ (table_bytes (chains_from 0 (mini_counts (lengths_of streams))) ++ (directory_bytes streams clsid
    ++ xs)))) (append-nil (table_bytes (fat (lengths_of streams)))))

pub file_join : (streams : List NamedBytes) (clsid a b c d e f : List ℕ) → a ≡ [] ++ header_bytes
    (lengths_of streams) → b ≡ a ++ flat_map (λ stream. padded_to_unit 512 0 (large_part stream.bytes)) streams →
    c ≡ b ++ padded_to_unit 512 0 (mini_stream streams) → d ≡ c ++ table_bytes (chains_from 0 (mini_counts
    (lengths_of streams))) → e ≡ d ++ directory_bytes streams clsid → f ≡ e ++ table_bytes
    (fat (lengths_of streams)) → f ≡ compound_file streams clsid
unfolding compound_file
file_join streams clsid a b c d e f ha hb hc hd he hf =
    let large = flat_map (λ stream. padded_to_unit 512 0 (large_part stream.bytes)) streams in
    let stored = padded_to_unit 512 0 (mini_stream streams) in
    let minis = table_bytes (chains_from 0 (mini_counts (lengths_of streams))) in
    let entries = directory_bytes streams clsid in
    let table = table_bytes (fat (lengths_of streams)) in
    let tail : f ≡ d ++ (entries ++ table) = two_join d e f entries table he hf in
    let more : f ≡ c ++ (minis ++ (entries ++ table)) = two_join c d f minis (entries ++ table) hd tail in
    let most : f ≡ b ++ (stored ++ (minis ++ (entries ++ table))) = two_join b c f stored
    (minis ++ (entries ++ table)) hc more in
    let body : f ≡ a ++ (large ++ (stored ++ (minis ++ (entries ++ table)))) = two_join a b f large
    (stored ++ (minis ++ (entries ++ table))) hb most in
    body ∙ (ap (λ xs. xs ++ (large ++ (stored ++ (minis ++ (entries ++ table))))) ha ∙ ap (λ xs. header_bytes
    (lengths_of streams) ++ xs) (sym (parts_join streams clsid)))

-- the sums of sectors and of mini sectors, one stream more
pub large_more : (lengths : List ℕ) (i : ℕ) → i < length lengths → sum (large_counts (take (i + 1) lengths)) ≡ sum
    (large_counts (take i lengths)) + units_for 512 (large_len (slice_index lengths i))
unfolding large_counts
large_more lengths i h =
    let f : ℕ → ℕ = λ len. units_for 512 (large_len len) in
    sum-map f (take (i + 1) lengths) ∙ (sum_by_more f lengths i 0 h ∙ ap (λ n. n + f (slice_index lengths i))
    (sym (sum-map f (take i lengths))))

pub mini_more : (lengths : List ℕ) (i : ℕ) → i < length lengths → sum (mini_counts (take (i + 1) lengths)) ≡ sum
    (mini_counts (take i lengths)) + units_for 64 (small_len (slice_index lengths i))
unfolding mini_counts
mini_more lengths i h =
    let f : ℕ → ℕ = λ len. units_for 64 (small_len len) in
    sum-map f (take (i + 1) lengths) ∙ (sum_by_more f lengths i 0 h ∙ ap (λ n. n + f (slice_index lengths i))
    (sym (sum-map f (take i lengths))))

pub large_first : (lengths : List ℕ) → sum (large_counts (take 0 lengths)) ≡ 0
unfolding large_counts
large_first lengths = refl

pub mini_first : (lengths : List ℕ) → sum (mini_counts (take 0 lengths)) ≡ 0
unfolding mini_counts
mini_first lengths = refl

-- the half of a span with an entry that is not in the middle
pub record IsHalf (span next : Span) (entry : ℕ) : Type 0 where
  pub within : IsWithin next entry
  pub less : next.count < span.count
  pub room : next.low + next.count ≤ span.low + span.count
  pub same : span_of_entry span.count entry span ≡ span_of_entry next.count entry next

half_low : (span : Span) (entry : ℕ) → IsWithin span entry → entry < middle span → IsHalf span (lower span) entry
half_low span entry w h =
    let a = w.from in
    let b = w.below in
    let some : span.count ≡ suc (span.count - 1) = omega arith in
    let inner = within_low span entry w h in
    record {
      within = inner;
      less = omega arith;
      room = omega arith;
      same = ap (λ n. span_of_entry n entry span) some ∙ (part_low (span.count - 1) entry span h ∙ part_same (span.count
          -
          1) (lower span).count entry (lower span) (omega arith) (omega arith) inner);
    }

half_up : (span : Span) (entry : ℕ) → IsWithin span entry → middle span < entry → IsHalf span (upper span) entry
half_up span entry w h =
    let a = w.from in
    let b = w.below in
    let some : span.count ≡ suc (span.count - 1) = omega arith in
    let inner = within_up span entry w h in
    record {
      within = inner;
      less = omega arith;
      room = omega arith;
      same = ap (λ n. span_of_entry n entry span) some ∙ (part_up (span.count - 1) entry span h ∙ part_same (span.count
          - 1)
          (upper span).count entry (upper span) (omega arith) (omega arith) inner);
    }

pub half_is : (span next : Span) (entry : ℕ) → IsWithin span entry → entry ≢ middle span →
    next ≡ (if nat_lt entry (middle span) then lower span else upper span) → IsHalf span next entry
half_is span next entry w apart e = elim (cases_lt entry (middle span)) [
  | inl low ↦ subst (λ s. IsHalf span s entry) (sym (e ∙ cond-true (ltb entry (middle span)) (lower span) (upper span)
      (lt-ltb entry (middle span) low))) (half_low span entry w low)
  | inr high ↦ subst (λ s. IsHalf span s entry) (sym (e ∙ cond-false (ltb entry (middle span)) (lower span)
      (upper span) (le-ltb entry (middle span) high))) (half_up span entry w (omega arith))
]

-- the fields of the header, by the four that differ
abbrev pub header_row : ℕ → ℕ → ℕ → ℕ → List Field
header_row fats directory mini_fat mini_fats =
    Long 0 ∷ (Long 0 ∷ (Long 0 ∷ (Long 0
    ∷ (Word 0x003E ∷ (Word 3 ∷ (Word 0xFFFE ∷ (Word 9 ∷ (Word 6 ∷ (Word 0
    ∷ (Long 0 ∷ (Long 0 ∷ (Long fats ∷ (Long directory ∷ (Long 0 ∷ (Long 4096 ∷ (Long mini_fat ∷ (Long mini_fats ∷
    (Long end_of_chain ∷ (Long 0 ∷ [])))))))))))))))))))

pub header_same : (lengths : List ℕ) (fats directory mini_fat mini_fats : ℕ) → fats ≡ fat_count lengths →
    directory ≡ first_sector (sector_counts lengths) (length lengths + 2) → mini_fat ≡ first_sector (sector_counts
    lengths) (length lengths + 1) → mini_fats ≡ slice_index (sector_counts lengths) (length lengths + 1) →
    header_row fats directory mini_fat mini_fats ≡ header_fields lengths
header_same lengths fats directory mini_fat mini_fats a b c d =
    let counts = sector_counts lengths in
    let n = length lengths in
    ap (λ x. header_row x directory mini_fat mini_fats) a
    ∙ (ap (λ x. header_row (fat_count lengths) x mini_fat mini_fats) b
    ∙ (ap (λ x. header_row (fat_count lengths) (first_sector counts (n + 2)) x mini_fats) c
    ∙ ap (λ x. header_row (fat_count lengths) (first_sector counts (n + 2)) (first_sector counts (n + 1)) x) d))
