-- The table stream: its parts, and zeros behind them where it has sectors of its own.
use Rattle.std.specs.Prelude.{slice_range, replicate}
use Rattle.std.proofs.Common.{◌≡◌, ◌∙◌, ap, inl, inr, cond, ℕ, ◌+◌, ◌-◌, ◌<◌, ◌≤◌, List, ◌++◌, length, take, drop}
use Rattle.std.proofs.Common.{append-nil, length-append, arith, max}
use Rattle.std.proofs.lemmas.Bool.{lt-ltb, le-ltb, cases_lt}
use Rattle.std.proofs.lemmas.List.{take-append-le, drop-append-le, length-drop, length-replicate}
use Rattle.cfb_layout.specs.Sectors.{filled}
use Rattle.fib_form.specs.TableEntries.{TableEntry, IsPartAt}
use Rattle.full_save.specs.TableStream.{entries_bytes}
use Rattle.fast_save_layout.specs.Saves.{FastSave}
use Rattle.fast_save_layout.specs.Appended.{old_wd, least_beside, fast_entries, fast_table}

-- its parts
abbrev pub table_parts : FastSave → List ℕ → List ℕ
table_parts save clx = entries_bytes (fast_entries save clx)

-- ---- what is behind a table changes no part

range_front : (xs ys : List ℕ) (from to : ℕ) → from ≤ to → to ≤ length xs →
    slice_range (xs ++ ys) from to ≡ slice_range xs from to
range_front xs ys from to up within =
    let rest = length-drop from xs in
    ap (λ (zs : List ℕ). take (to - from) zs) (drop-append-le from xs ys (omega (arith, up, within)))
    ∙ take-append-le (to - from) (drop from xs) ys (omega (arith, rest, within))

part_stays : (table more : List ℕ) (pair : ℕ × ℕ) (part : TableEntry) → IsPartAt table pair part →
    IsPartAt (table ++ more) pair part
part_stays table more pair part is =
    let within = is.within in
    record {
      len = is.len;
      bytes = range_front table more pair.0 (pair.0 + pair.1) (omega arith) (omega (arith, within)) ∙ is.bytes;
      within = omega (arith, within, length-append table more);
      behind = range_front table more (pair.0 + pair.1) (pair.0 + pair.1 + length part.behind) (omega arith)
          (omega (arith, within)) ∙ is.behind;
    }

pub part_in_table : (save : FastSave) (clx : List ℕ) (pair : ℕ × ℕ) (part : TableEntry) →
    IsPartAt (table_parts save clx) pair part → IsPartAt (fast_table save clx) pair part
unfolding fast_table filled
part_in_table save clx pair part is = part_stays (table_parts save clx) _ pair part is

-- ---- how long it is

length_filled : (len : ℕ) (xs : List ℕ) → length (filled len 0 xs) ≡ max len (length xs)
unfolding filled
length_filled len xs =
    let more = length-replicate {A = ℕ} (len - length xs) 0 in
    omega (arith, length-append xs (replicate (len - length xs) 0), more)

pub least_short : (len : ℕ) → len < 4096 → least_beside len ≡ 0
least_short len short = ap (λ b. cond b 0 4096) (lt-ltb len 4096 short)

pub least_long : (len : ℕ) → 4096 ≤ len → least_beside len ≡ 4096
least_long len long = ap (λ b. cond b 0 4096) (le-ltb len 4096 long)

least_most : (len : ℕ) → least_beside len ≤ 4096
least_most len = elim (cases_lt len 4096) [
  | inl short ↦ omega (arith, least_short len short)
  | inr long ↦ omega (arith, least_long len long)
]

table_length : (save : FastSave) (clx : List ℕ) →
    length (fast_table save clx) ≡ max (least_beside (length (old_wd save))) (length (table_parts save clx))
unfolding fast_table
table_length save clx = length_filled (least_beside (length (old_wd save))) (table_parts save clx)

pub parts_within : (save : FastSave) (clx : List ℕ) → length (table_parts save clx) ≤ length (fast_table save clx)
parts_within save clx = omega (arith, table_length save clx)

pub table_within : (save : FastSave) (clx : List ℕ) →
    length (fast_table save clx) ≤ max 4096 (length (table_parts save clx))
table_within save clx = omega (arith, table_length save clx, least_most (length (old_wd save)))

-- beside a WordDocument with sectors of its own it has some too; else it is its parts
pub table_long : (save : FastSave) (clx : List ℕ) → 4096 ≤ length (old_wd save) → 4096 ≤ length (fast_table save clx)
table_long save clx long = omega (arith, table_length save clx, least_long (length (old_wd save)) long)

pub table_bare : (save : FastSave) (clx : List ℕ) → length (old_wd save) < 4096 →
    fast_table save clx ≡ table_parts save clx
unfolding fast_table filled
table_bare save clx short =
    let parts = table_parts save clx in
    let none : least_beside (length (old_wd save)) - length parts ≡ 0 =
    omega (arith, least_short (length (old_wd save)) short) in
    ap (λ (n : ℕ). parts ++ replicate n 0) none ∙ append-nil parts
