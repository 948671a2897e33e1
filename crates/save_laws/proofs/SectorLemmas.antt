-- Sectors of a container of which two streams have grown: a stream takes its length, and less than a sector more.
use Rattle.std.specs.Prelude.{slice_get}
use Rattle.std.proofs.Common.{◌≡◌, ◌∙◌, inl, inr, sym, ap, ℕ, ◌+◌, ◌*◌, ◌<◌, ◌≤◌, List, length, set, get_or, sum}
use Rattle.std.proofs.Common.{sum_by, Some, arith}
use Rattle.std.proofs.lemmas.Bool.{cases_lt, cases_eq}
use Rattle.std.proofs.lemmas.List.{length-set, same_lists, get_or-set_same, get_or-set_other}
use Rattle.std.proofs.lemmas.List.Sums.{sum-map, sum_by-set}
use Rattle.std.proofs.lemmas.Option.{slice_get_within, slice_get-get_or, get_or_from_slice_get}
use Rattle.cfb_layout.specs.Sectors.{units_for}
use Rattle.cfb_layout.specs.Counts.{large_len, small_len, mini_counts, large_counts, sector_counts, sectors_needed}
use Rattle.cfb_layout.proofs.Public.{sectors-needed, large_is, large_none, small_is, small_none, sum_counts}
use Rattle.save_laws.specs.SectorCounts.{TwoLengths, AreRenewed, LongerStreamsFit}

-- ---- one stream

-- the sectors of its own, and its mini sectors
abbrev large : ℕ → ℕ
large len = units_for 512 (large_len len)

abbrev small : ℕ → ℕ
small len = units_for 64 (small_len len)

record HasSize (len : ℕ) : Type 0 where
  least : len ≤ 512 * large len + 64 * small len
  most : 512 * large len + 64 * small len ≤ len + 511
  minis : small len ≤ 64

has_size : (len : ℕ) → HasSize len
has_size len = elim (cases_lt len 4096) [
  | inl low ↦
      let a = large_none len low in
      let b = small_is len low in
      record { least = omega (arith, a, b); most = omega (arith, a, b); minis = omega (arith, a, b, low) }
  | inr high ↦
      let a = large_is len high in
      let b = small_none len high in
      record { least = omega (arith, a, b); most = omega (arith, a, b); minis = omega (arith, a, b) }
]

-- ---- all streams

large_sum : (lengths : List ℕ) → sum (large_counts lengths) ≡ sum_by large lengths
unfolding large_counts
large_sum lengths = sum-map large lengths

small_sum : (lengths : List ℕ) → sum (mini_counts lengths) ≡ sum_by small lengths
unfolding mini_counts
small_sum lengths = sum-map small lengths

-- the sectors of all parts but the FAT, where the streams have so many sectors and mini sectors of their own, and the
-- directory so many
abbrev part_sectors : ℕ → ℕ → ℕ → ℕ
part_sectors sectors minis directory = sectors + units_for 512 (64 * minis) + units_for 128 minis + directory

needed_is : (lengths : List ℕ) →
    sectors_needed lengths
    ≡ part_sectors (sum_by large lengths) (sum_by small lengths) (units_for 4 (length lengths + 1))
    + units_for 127 (part_sectors (sum_by large lengths) (sum_by small lengths) (units_for 4 (length lengths + 1)))
needed_is lengths =
    let parts : sum (sector_counts lengths)
    ≡ part_sectors (sum_by large lengths) (sum_by small lengths) (units_for 4 (length lengths + 1)) =
    omega (arith, sum_counts lengths, large_sum lengths, small_sum lengths) in
    sectors-needed lengths ∙ ap (λ (n : ℕ). n + units_for 127 n) parts

-- ---- numbers alone

more_parts : (sectors minis more_sectors more_minis directory added : ℕ) →
    512 * more_sectors + 64 * more_minis ≤ 512 * sectors + 64 * minis + added + 1022 →
    more_minis ≤ minis + 128 →
    512 * part_sectors more_sectors more_minis directory ≤ 512 * part_sectors sectors minis directory + added + 1982
more_parts sectors minis more_sectors more_minis directory added both few = omega (arith, both, few)

with_fat : (parts more added : ℕ) → 512 * more ≤ 512 * parts + added + 1982 →
    more + units_for 127 more ≤ parts + units_for 127 parts + units_for 500 added + 8
with_fat parts more added grown = omega (arith, grown)

-- ---- two lengths are others

-- what is summed of lengths of which two are others
two_sums : (f : ℕ → ℕ) (old new : List ℕ) (before after : TwoLengths) → AreRenewed old new before after →
    sum_by f new + (f before.wd + f before.table) ≡ sum_by f old + (f after.wd + f after.table)
two_sums f old new before after are =
    let i = are.wd_at in
    let j = are.table_at in
    let once : List ℕ = set old i after.wd in
    let twice : List ℕ = set once j after.table in
    let i_in : i < length old = slice_get_within old i before.wd are.old_two.wd_is in
    let j_in : j < length old = slice_get_within old j before.table are.old_two.table_is in
    let len_once = length-set old i after.wd in
    let len_twice = length-set once j after.table in
    let len = are.len in
    let new_is : new ≡ twice = same_lists new twice (omega (arith, len, len_once, len_twice)) (λ k d low.
    elim (cases_eq k j) [
      | inl here ↦
          ap (λ n. get_or new n d) here
          ∙ (get_or_from_slice_get new j after.table d are.new_two.table_is
          ∙ (sym (get_or-set_same once j after.table d (omega (arith, j_in, len_once)))
          ∙ ap (λ n. get_or twice n d) (sym here)))
      | inr other ↦ elim (cases_eq k i) [
        | inl here ↦
            ap (λ n. get_or new n d) here
            ∙ (get_or_from_slice_get new i after.wd d are.new_two.wd_is
            ∙ (sym (get_or-set_same old i after.wd d i_in)
            ∙ (sym (get_or-set_other once j i after.table d are.apart)
            ∙ ap (λ n. get_or twice n d) (sym here))))
        | inr neither ↦
            let old_k : slice_get old k ≡ Some (get_or old k d) =
            slice_get-get_or old k d (omega (arith, low, len)) in
            get_or_from_slice_get new k (get_or old k d) d (are.others k neither other ∙ old_k)
            ∙ (sym (get_or-set_other old i k after.wd d neither)
            ∙ sym (get_or-set_other once j k after.table d other))
      ]
    ]) in
    let first = sum_by-set f old i after.wd 0 i_in in
    let second = sum_by-set f once j after.table 0 (omega (arith, j_in, len_once)) in
    let old_wd : get_or old i 0 ≡ before.wd = get_or_from_slice_get old i before.wd 0 are.old_two.wd_is in
    let old_table : get_or once j 0 ≡ before.table =
    get_or-set_other old i j after.wd 0 (λ e. are.apart (sym e))
    ∙ get_or_from_slice_get old j before.table 0 are.old_two.table_is in
    omega (arith, first, second, ap f old_wd, ap f old_table, ap (sum_by f) new_is)

pub longer_streams_fit : LongerStreamsFit
longer_streams_fit old new before after added are grown =
    let sectors = sum_by large old in
    let minis = sum_by small old in
    let more_sectors = sum_by large new in
    let more_minis = sum_by small new in
    let directory = units_for 4 (length old + 1) in
    let size_wd = has_size before.wd in
    let size_table = has_size before.table in
    let size_new_wd = has_size after.wd in
    let size_new_table = has_size after.table in
    let larges = two_sums large old new before after are in
    let smalls = two_sums small old new before after are in
    let both : 512 * more_sectors + 64 * more_minis ≤ 512 * sectors + 64 * minis + added + 1022 =
    omega (
      arith,
      larges,
      smalls,
      grown,
      size_wd.least,
      size_table.least,
      size_new_wd.most,
      size_new_table.most,
    ) in
    let few : more_minis ≤ minis + 128 = omega (arith, smalls, size_new_wd.minis, size_new_table.minis) in
    let parts = more_parts sectors minis more_sectors more_minis directory added both few in
    let first = part_sectors sectors minis directory in
    let next = part_sectors more_sectors more_minis directory in
    let whole = with_fat first next added parts in
    let new_is : sectors_needed new ≡ next + units_for 127 next =
    needed_is new
    ∙ ap
    (λ (len : ℕ).
    part_sectors more_sectors more_minis (units_for 4 (len + 1))
    + units_for 127 (part_sectors more_sectors more_minis (units_for 4 (len + 1))))
    are.len in
    omega (arith, whole, new_is, needed_is old)
