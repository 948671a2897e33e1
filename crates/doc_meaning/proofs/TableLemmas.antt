-- A table stream in which a style sheet that is first is skipped has the other parts as they were.
use Rattle.std.specs.Prelude.{slice_range, slice_index}
use Rattle.std.proofs.Common.{◌≡◌, ◌∙◌, ◌+◌, ◌-◌, ◌*◌, ◌≤◌, refl, sym, ap, subst, inl, inr, ℕ, zero, suc}
use Rattle.std.proofs.Common.{List, [], ◌++◌, length, take, drop, arith}
use Rattle.std.proofs.lemmas.List.{append_assoc, length-append, length-take-le}
use Rattle.doc_bits.specs.Number.{u16_at}
use Rattle.doc_bits.proofs.Public.{length-range, range_mid}
use Rattle.fib_form.specs.Fib.{fib_pair, table_part}
use Rattle.fib_form.specs.FibFields.{listed_pair}
use Rattle.fib_form.specs.TableParts.{pair_number}
use Rattle.fib_form.specs.declared.table_parts.TablePart.{TablePart}
use Rattle.fib_form.specs.declared.table_parts.TablePart.TheVariants.{Stshf, PlfLst}
use Rattle.fib_form.proofs.Public.{drop_front}
use Rattle.fib_versions.specs.Early.{early_pairs}
use Rattle.style_sheet.specs.Sheet.{Sheet}
use Rattle.style_sheet.specs.Stsh.{HasStyleSheet}
use Rattle.part_skips.proofs.Public.{sheet_skips}
use Rattle.doc_parts.specs.Levels.{level_end, level_start, level_count, list_part, HaveLength}
use Rattle.file_rules.proofs.Public.{levels_empty}
use Rattle.doc_meaning.specs.Skipped.{sheet_from, sheet_to, StandsFrom, SkipsFirst}
use Rattle.doc_meaning.specs.Lifted.{IsOtherPart}
use Rattle.doc_meaning.proofs.BehindLemmas.{drop_behind, range_behind, byte_behind, number_behind}
use Rattle.doc_meaning.proofs.EarlyLemmas.{early_part, part_below}

-- ---- what is behind the sheet

-- a sheet that is put is as long as it was
sheet_len : (pairs : List (ℕ × ℕ)) (old new : List ℕ) (skips : SkipsFirst pairs old new) →
    length skips.puts.sheet ≡ sheet_to pairs - sheet_from pairs
sheet_len pairs old new skips =
    let puts = skips.puts in
    puts.len ∙ length-range old (sheet_from pairs) (sheet_to pairs) skips.first.within

pub behind_sheet : (pairs : List (ℕ × ℕ)) (old new : List ℕ) → SkipsFirst pairs old new →
    drop (sheet_to pairs) new ≡ drop (sheet_to pairs) old
behind_sheet pairs old new skips =
    let from = sheet_from pairs in
    let to = sheet_to pairs in
    let sheet = skips.puts.sheet in
    let within = skips.first.within in
    let front = take from old ++ sheet in
    let len : length front ≡ to =
    omega (
      arith,
      length-append (take from old) sheet,
      length-take-le from old (omega (arith, within)),
      sheet_len pairs old new skips,
    ) in
    ap (drop to) (skips.puts.put ∙ sym (append_assoc (take from old) sheet (drop to old)))
    ∙ drop_front front (drop to old) to len

-- the sheet itself
pub sheet_there : (pairs : List (ℕ × ℕ)) (old new : List ℕ) (skips : SkipsFirst pairs old new) →
    slice_range new (sheet_from pairs) (sheet_to pairs) ≡ skips.puts.sheet
sheet_there pairs old new skips =
    let from = sheet_from pairs in
    let to = sheet_to pairs in
    let sheet = skips.puts.sheet in
    let within = skips.first.within in
    let head = length-take-le from old (omega (arith, within)) in
    range_mid new (take from old) sheet (drop to old) from to skips.puts.put (sym head)
    (omega (arith, head, sheet_len pairs old new skips))

-- ---- parts

-- a range of no bytes
pub no_range : (xs : List ℕ) (from len : ℕ) → len ≡ 0 → slice_range xs from (from + len) ≡ []
no_range xs from len none =
    let width : from + len - from ≡ 0 = omega (arith, none) in
    ap (λ n. take n (drop from xs)) width

range_from : (old new : List ℕ) (place : ℕ) (pair : ℕ × ℕ) → drop place new ≡ drop place old → StandsFrom place pair →
    slice_range new pair.0 (pair.0 + pair.1) ≡ slice_range old pair.0 (pair.0 + pair.1)
range_from old new place pair behind (inl none) =
    no_range new pair.0 pair.1 none ∙ sym (no_range old pair.0 pair.1 none)
range_from old new place pair behind (inr low) = range_behind old new place pair.0 (pair.0 + pair.1) behind low

-- where a part is
pub other_stands : (wd old new : List ℕ) (part : TablePart) → SkipsFirst (early_pairs wd) old new → IsOtherPart part →
    StandsFrom (sheet_to (early_pairs wd)) (fib_pair wd (pair_number part))
other_stands wd old new part skips other =
    subst (StandsFrom (sheet_to (early_pairs wd))) (early_part wd part)
    (skips.first.others (pair_number part) (part_below part) other)

pub other_part : (wd old new : List ℕ) (part : TablePart) → SkipsFirst (early_pairs wd) old new → IsOtherPart part →
    table_part wd new (pair_number part) ≡ table_part wd old (pair_number part)
other_part wd old new part skips other =
    range_from old new (sheet_to (early_pairs wd)) (fib_pair wd (pair_number part))
    (behind_sheet (early_pairs wd) old new skips) (other_stands wd old new part skips other)

-- the style sheet
pub sheet_before : (wd old new : List ℕ) (sheet : Sheet) → SkipsFirst (early_pairs wd) old new →
    HasStyleSheet (table_part wd new (pair_number Stshf)) sheet → HasStyleSheet (table_part wd old (pair_number Stshf))
    sheet
sheet_before wd old new sheet skips has =
    let pairs = early_pairs wd in
    let pair : listed_pair pairs (pair_number Stshf) ≡ fib_pair wd (pair_number Stshf) = early_part wd Stshf in
    let there : HasStyleSheet (slice_range new (sheet_from pairs) (sheet_to pairs)) sheet =
    subst (λ (p : ℕ × ℕ). HasStyleSheet (slice_range new p.0 (p.0 + p.1)) sheet) (sym pair) has in
    let made : HasStyleSheet skips.puts.sheet sheet =
    subst (λ b. HasStyleSheet b sheet) (sheet_there pairs old new skips) there in
    subst (λ (p : ℕ × ℕ). HasStyleSheet (slice_range old p.0 (p.0 + p.1)) sheet) pair
    ((sheet_skips (slice_range old (sheet_from pairs) (sheet_to pairs)) skips.puts.sheet sheet skips.puts.skips).0 made)

-- ---- levels

-- the levels behind a place, in streams that are the same from there on
level_behind : (old new : List ℕ) (from at : ℕ) → drop from new ≡ drop from old → from ≤ at →
    level_end new at ≡ level_end old at
level_behind old new from at same low =
    let pap : slice_index new (at + 25) ≡ slice_index old (at + 25) =
    byte_behind old new from (at + 25) same (omega (arith, low)) in
    let chp : slice_index new (at + 24) ≡ slice_index old (at + 24) =
    byte_behind old new from (at + 24) same (omega (arith, low)) in
    let text : at + 28 + slice_index new (at + 25) + slice_index new (at + 24)
    ≡ at + 28 + slice_index old (at + 25) + slice_index old (at + 24) = omega (arith, pap, chp) in
    let place = at + 28 + slice_index old (at + 25) + slice_index old (at + 24) in
    ap (λ n. n + 2 + 2 * u16_at new n) text
    ∙ ap (λ n. place + 2 + 2 * n) (number_behind old new from place 2 same (omega (arith, low)))

level_up : (table : List ℕ) (from k : ℕ) → from ≤ level_start table from k
unfolding level_start
level_up table from zero = omega arith
level_up table from (suc k) = omega (arith, level_up table from k)

pub levels_behind : (old new : List ℕ) (from k : ℕ) → drop from new ≡ drop from old →
    level_start new from k ≡ level_start old from k
unfolding level_start
levels_behind old new from zero same = refl
levels_behind old new from (suc k) same =
    ap (level_end new) (levels_behind old new from k same)
    ∙ level_behind old new from (level_start old from k) same (level_up old from k)

-- a part of no bytes has no level
no_levels : (table : List ℕ) (at len : ℕ) → len ≡ 0 →
    level_start table (at + len) (level_count (list_part table at len)) ≡ at + len
no_levels table at len none = omega (arith, (levels_empty table at len none).1.0)

-- the levels are behind their part
abbrev pub StandBehindPart : List ℕ → ℕ → List ℕ → ℕ → List ℕ → Type 0
StandBehindPart table at part len bytes =
    HaveLength table at (length part) len
    × (bytes ≡ slice_range table (at + length part) (at + length part + len))

pub levels_from : (old new : List ℕ) (place : ℕ) (pair : ℕ × ℕ) (len : ℕ) (bytes : List ℕ) →
    drop place new ≡ drop place old → StandsFrom place pair →
    StandBehindPart new pair.0 (slice_range old pair.0 (pair.0 + pair.1)) len bytes →
    StandBehindPart old pair.0 (slice_range old pair.0 (pair.0 + pair.1)) len bytes
levels_from old new place pair len bytes same (inl none) have =
    let at = pair.0 in
    let lcb = length (slice_range old at (at + pair.1)) in
    let empty : lcb ≡ 0 = ap length (no_range old at pair.1 none) in
    let few : len ≡ 0 = omega (arith, have.0, no_levels new at lcb empty) in (
      omega (arith, have.0, no_levels new at lcb empty, no_levels old at lcb empty),
      have.1 ∙ (no_range new (at + lcb) len few ∙ sym (no_range old (at + lcb) len few)),
    )
levels_from old new place pair len bytes same (inr low) have =
    let at = pair.0 in
    let lcb = length (slice_range old at (at + pair.1)) in
    let from = at + lcb in
    let part : list_part new at lcb ≡ list_part old at lcb = range_behind old new place at from same low in
    let behind : drop from new ≡ drop from old = drop_behind old new place from same (omega (arith, low)) in (
      have.0
          ∙ (ap (λ p. level_start new from (level_count p)) part
          ∙ levels_behind old new from (level_count (list_part old at lcb)) behind),
      have.1 ∙ range_behind old new from from (from + len) behind (omega arith),
    )

pub levels_stand : (wd old new : List ℕ) (len : ℕ) (bytes : List ℕ) → SkipsFirst (early_pairs wd) old new →
    StandBehindPart new (fib_pair wd (pair_number PlfLst)).0 (table_part wd old (pair_number PlfLst)) len bytes →
    StandBehindPart old (fib_pair wd (pair_number PlfLst)).0 (table_part wd old (pair_number PlfLst)) len bytes
levels_stand wd old new len bytes skips =
    levels_from old new (sheet_to (early_pairs wd)) (fib_pair wd (pair_number PlfLst)) len bytes
    (behind_sheet (early_pairs wd) old new skips)
    (other_stands wd old new PlfLst skips (λ e. absurd (omega (arith, e))))
