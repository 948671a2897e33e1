-- A table stream in which the Prcs of a Clx are skipped that is apart has the other parts, and the levels, as they
-- were, and the same pieces.
use Rattle.std.specs.Prelude.{slice_range, slice_index}
use Rattle.std.proofs.Common.{◌≡◌, ◌≢◌, ◌⊎◌, ◌∙◌, ◌+◌, ◌-◌, ◌*◌, ◌≤◌, ◌<◌, refl, sym, ap, subst, inl, inr, ℕ, zero, suc}
use Rattle.std.proofs.Common.{List, ◌++◌, length, take, drop, arith}
use Rattle.std.proofs.lemmas.List.{append_assoc, length-append, length-take-le, take-take, drop-take, get_or-take}
use Rattle.doc_bits.specs.Number.{number_at, u16_at}
use Rattle.doc_bits.proofs.Public.{number_at-take, length-range, range_mid}
use Rattle.fib_form.specs.Fib.{fib_pair, table_part}
use Rattle.fib_form.specs.FibFields.{listed_pair}
use Rattle.fib_form.specs.TableParts.{pair_number}
use Rattle.fib_form.specs.declared.table_parts.TablePart.{TablePart}
use Rattle.fib_form.specs.declared.table_parts.TablePart.TheVariants.{Stshf, Clx, PlfLst, PlcfBteChpx, PlcfBtePapx}
use Rattle.fib_form.proofs.Public.{take_front, drop_front}
use Rattle.fib_versions.specs.Early.{early_pairs}
use Rattle.piece_table.specs.Piece.{TextPiece}
use Rattle.piece_table.specs.Clx.{IsClx}
use Rattle.prl_skips.proofs.Public.{put_length}
use Rattle.part_skips.proofs.Public.{clx_skips, puts_prcs_one}
use Rattle.doc_parts.specs.Levels.{level_end, level_start, level_count, list_part, HaveLength}
use Rattle.doc_parts.proofs.Public.{level_start-up, level_start-zero}
use Rattle.fib_form.specs.declared.stories.StoryKind.{StoryKind}
use Rattle.fib_form.specs.declared.stories.StoryKind.TheVariants.{Main, Notes, Heads}
use Rattle.fkp_pages.specs.declared.kind.PageKind.{PageKind}
use Rattle.fkp_pages.specs.declared.kind.PageKind.TheVariants.{Chpx, Papx}
use Rattle.fkp_pages.specs.Properties.{bare_list}
use Rattle.fkp_gaps.specs.Gaps.{IsGap}
use Rattle.page_copies.specs.Pages.{bin_table_of}
use Rattle.page_copies.specs.Laws.{HasListBefore}
use Rattle.style_sheet.specs.Stsh.{HasStyleSheet}
use Rattle.file_rules.specs.Source.{story_length}
use Rattle.file_rules.specs.FileRules.{FileText, doc_source_of, clx_of}
use Rattle.doc_meaning.specs.Skipped.{bin_tables_of}
use Rattle.doc_meaning.specs.Lifted.{ReadsTheSame}
use Rattle.doc_meaning.specs.Apart.{clx_from, clx_to, StandsApart, EndBefore, LevelsStandApart, SkipsClx, ReadsClx}
use Rattle.doc_meaning.proofs.BehindLemmas.{range_behind}
use Rattle.doc_meaning.proofs.EarlyLemmas.{early_part, part_below}
use Rattle.doc_meaning.proofs.TableLemmas.{no_range, levels_from, StandBehindPart}

-- ---- streams that are the same before a place

pub range_take : (xs : List ℕ) (place from to : ℕ) → from ≤ place → to ≤ place →
    slice_range (take place xs) from to ≡ slice_range xs from to
range_take xs place from to low within =
    let whole : from + (place - from) ≡ place = omega (arith, low) in
    let left : drop from (take place xs) ≡ take (place - from) (drop from xs) =
    ap (λ n. drop from (take n xs)) (sym whole) ∙ drop-take from (place - from) xs in
    ap (take (to - from)) left ∙ take-take (to - from) (place - from) (drop from xs) (omega (arith, within, low))

pub range_before : (old new : List ℕ) (place from to : ℕ) → take place new ≡ take place old → from ≤ place → to ≤ place →
    slice_range new from to ≡ slice_range old from to
range_before old new place from to same low within =
    sym (range_take new place from to low within)
    ∙ (ap (λ (xs : List ℕ). slice_range xs from to) same ∙ range_take old place from to low within)

pub byte_before : (old new : List ℕ) (place at : ℕ) → take place new ≡ take place old → at < place →
    slice_index new at ≡ slice_index old at
byte_before old new place at same low =
    sym (get_or-take place new at 0 low)
    ∙ (ap (λ (xs : List ℕ). slice_index xs at) same ∙ get_or-take place old at 0 low)

pub number_before : (old new : List ℕ) (place at width : ℕ) → take place new ≡ take place old → at + width ≤ place →
    number_at new at width ≡ number_at old at width
number_before old new place at width same low =
    sym (number_at-take place new at width low)
    ∙ (ap (λ (xs : List ℕ). number_at xs at width) same ∙ number_at-take place old at width low)

-- ---- the Clx that is put

-- it is as long as it was
clx_len : (pairs : List (ℕ × ℕ)) (old new : List ℕ) (skips : SkipsClx pairs old new) →
    length skips.puts.clx ≡ clx_to pairs - clx_from pairs
clx_len pairs old new skips =
    let puts = skips.puts in
    puts.len ∙ length-range old (clx_from pairs) (clx_to pairs) skips.apart.within

front_len : (pairs : List (ℕ × ℕ)) (old new : List ℕ) → SkipsClx pairs old new →
    length (take (clx_from pairs) old) ≡ clx_from pairs
front_len pairs old new skips =
    let within = skips.apart.within in length-take-le (clx_from pairs) old (omega (arith, within))

pub before_clx : (pairs : List (ℕ × ℕ)) (old new : List ℕ) → SkipsClx pairs old new →
    take (clx_from pairs) new ≡ take (clx_from pairs) old
before_clx pairs old new skips =
    let from = clx_from pairs in
    let front = take from old in
    let back = skips.puts.clx ++ drop (clx_to pairs) old in
    ap (take from) skips.puts.put ∙ take_front front back from (front_len pairs old new skips)

pub behind_clx : (pairs : List (ℕ × ℕ)) (old new : List ℕ) → SkipsClx pairs old new →
    drop (clx_to pairs) new ≡ drop (clx_to pairs) old
behind_clx pairs old new skips =
    let from = clx_from pairs in
    let to = clx_to pairs in
    let clx = skips.puts.clx in
    let front = take from old ++ clx in
    let len : length front ≡ to =
    omega (
      arith,
      length-append (take from old) clx,
      front_len pairs old new skips,
      clx_len pairs old new skips,
    ) in
    ap (drop to) (skips.puts.put ∙ sym (append_assoc (take from old) clx (drop to old)))
    ∙ drop_front front (drop to old) to len

-- the Clx itself
pub clx_there : (pairs : List (ℕ × ℕ)) (old new : List ℕ) (skips : SkipsClx pairs old new) →
    slice_range new (clx_from pairs) (clx_to pairs) ≡ skips.puts.clx
clx_there pairs old new skips =
    let from = clx_from pairs in
    let to = clx_to pairs in
    let clx = skips.puts.clx in
    let head = front_len pairs old new skips in
    range_mid new (take from old) clx (drop to old) from to skips.puts.put (sym head)
    (omega (arith, head, clx_len pairs old new skips))

-- the stream is as long as it was
pub clx_table_len : (pairs : List (ℕ × ℕ)) (old new : List ℕ) → ReadsClx pairs old new → length new ≡ length old
clx_table_len pairs old new (inr stays) = ap length stays.1
clx_table_len pairs old new (inl skips) =
    let from = clx_from pairs in
    let to = clx_to pairs in
    let within = skips.apart.within in
    put_length old new skips.puts.clx from to (omega arith) within (clx_len pairs old new skips) skips.puts.put

-- it is skipped in one way
pub clx_table_one : (pairs : List (ℕ × ℕ)) (old a b : List ℕ) → ReadsClx pairs old a → ReadsClx pairs old b → a ≡ b
clx_table_one pairs old a b (inl one) (inl other) =
    puts_prcs_one (clx_from pairs) (clx_to pairs) old a b one.puts other.puts
clx_table_one pairs old a b (inl one) (inr stays) = absurd (stays.0 one.apart)
clx_table_one pairs old a b (inr stays) (inl other) = absurd (stays.0 other.apart)
clx_table_one pairs old a b (inr one) (inr other) = one.1 ∙ sym other.1

-- ---- parts

range_apart : (old new : List ℕ) (from to : ℕ) (pair : ℕ × ℕ) → take from new ≡ take from old →
    drop to new ≡ drop to old → StandsApart from to pair →
    slice_range new pair.0 (pair.0 + pair.1) ≡ slice_range old pair.0 (pair.0 + pair.1)
range_apart old new from to pair before behind (inl none) =
    no_range new pair.0 pair.1 none ∙ sym (no_range old pair.0 pair.1 none)
range_apart old new from to pair before behind (inr (inl low)) =
    range_before old new from pair.0 (pair.0 + pair.1) before (omega (arith, low)) low
range_apart old new from to pair before behind (inr (inr high)) =
    range_behind old new to pair.0 (pair.0 + pair.1) behind high

-- where a part is
part_apart : (wd old new : List ℕ) (part : TablePart) → SkipsClx (early_pairs wd) old new →
    pair_number part ≢ pair_number Clx →
    StandsApart (clx_from (early_pairs wd)) (clx_to (early_pairs wd)) (fib_pair wd (pair_number part))
part_apart wd old new part skips other =
    let pairs = early_pairs wd in
    subst (StandsApart (clx_from pairs) (clx_to pairs)) (early_part wd part)
    (skips.apart.parts (pair_number part) (part_below part) other)

pub apart_part : (wd old new : List ℕ) (part : TablePart) → ReadsClx (early_pairs wd) old new →
    pair_number part ≢ pair_number Clx → table_part wd new (pair_number part) ≡ table_part wd old (pair_number part)
apart_part wd old new part (inl skips) other =
    let pairs = early_pairs wd in
    range_apart old new (clx_from pairs) (clx_to pairs) (fib_pair wd (pair_number part)) (before_clx pairs old new
    skips)
    (behind_clx pairs old new skips) (part_apart wd old new part skips other)
apart_part wd old new part (inr stays) other =
    ap (λ (t : List ℕ). table_part wd t (pair_number part)) stays.1

-- ---- levels

-- a level that ends before a place
level_before : (old new : List ℕ) (place at : ℕ) → take place new ≡ take place old → level_end old at ≤ place →
    level_end new at ≡ level_end old at
level_before old new place at same low =
    let text = at + 28 + slice_index old (at + 25) + slice_index old (at + 24) in
    let far : text + 2 + 2 * u16_at old text ≤ place = low in
    let pap : slice_index new (at + 25) ≡ slice_index old (at + 25) =
    byte_before old new place (at + 25) same (omega (arith, far)) in
    let chp : slice_index new (at + 24) ≡ slice_index old (at + 24) =
    byte_before old new place (at + 24) same (omega (arith, far)) in
    let there : at + 28 + slice_index new (at + 25) + slice_index new (at + 24) ≡ text = omega (arith, pap, chp) in
    ap (λ n. n + 2 + 2 * u16_at new n) there
    ∙ ap (λ n. text + 2 + 2 * n) (number_before old new place text 2 same (omega (arith, far)))

pub levels_before_place : (old new : List ℕ) (place from k : ℕ) → take place new ≡ take place old →
    level_start old from k ≤ place → level_start new from k ≡ level_start old from k
unfolding level_start
levels_before_place old new place from zero same low = refl
levels_before_place old new place from (suc k) same low =
    let up = level_start-up old from k (suc k) (omega arith) in
    ap (level_end new) (levels_before_place old new place from k same (omega (arith, low, up)))
    ∙ level_before old new place (level_start old from k) same low

pub levels_end_before : (old new : List ℕ) (place : ℕ) (pair : ℕ × ℕ) (len : ℕ) (bytes : List ℕ) →
    take place new ≡ take place old → EndBefore old pair place →
    StandBehindPart new pair.0 (slice_range old pair.0 (pair.0 + pair.1)) len bytes →
    StandBehindPart old pair.0 (slice_range old pair.0 (pair.0 + pair.1)) len bytes
levels_end_before old new place pair len bytes same ends have =
    let at = pair.0 in
    let from = at + pair.1 in
    let lcb : length (slice_range old at from) ≡ pair.1 =
    length-range old at from ends.within ∙ (let width : from - at ≡ pair.1 = omega arith in width) in
    let count = level_count (list_part old at pair.1) in
    let begins : from ≤ level_start old from count =
    omega (arith, level_start-up old from 0 count (omega arith), level_start-zero old from) in
    let low : from ≤ place = omega (arith, begins, ends.before) in
    let part : list_part new at pair.1 ≡ list_part old at pair.1 =
    range_before old new place at from same (omega (arith, low)) low in
    let stand : HaveLength new at pair.1 len = subst (λ n. HaveLength new at n len) lcb have.0 in
    let end : level_start new from (level_count (list_part new at pair.1)) ≡ level_start old from count =
    ap (λ (p : List ℕ). level_start new from (level_count p)) part
    ∙ levels_before_place old new place from count same ends.before in
    let old_stand : HaveLength old at pair.1 len = stand ∙ end in
    let reach : from + len ≤ place = omega (arith, old_stand, ends.before) in (
      subst (λ n. HaveLength old at n len) (sym lcb) old_stand,
      have.1
          ∙ (ap (λ n. slice_range new (at + n) (at + n + len)) lcb
          ∙ (range_before old new place from (from + len) same low reach
          ∙ ap (λ n. slice_range old (at + n) (at + n + len)) (sym lcb))),
    )

levels_apart : (old new : List ℕ) (from to : ℕ) (pair : ℕ × ℕ) (len : ℕ) (bytes : List ℕ) →
    take from new ≡ take from old → drop to new ≡ drop to old → LevelsStandApart from to old pair →
    StandBehindPart new pair.0 (slice_range old pair.0 (pair.0 + pair.1)) len bytes →
    StandBehindPart old pair.0 (slice_range old pair.0 (pair.0 + pair.1)) len bytes
levels_apart old new from to pair len bytes before behind (inl none) have =
    levels_from old new to pair len bytes behind (inl none) have
levels_apart old new from to pair len bytes before behind (inr (inl low)) have =
    levels_from old new to pair len bytes behind (inr low) have
levels_apart old new from to pair len bytes before behind (inr (inr ends)) have =
    levels_end_before old new from pair len bytes before ends have

apart_levels : (wd old new : List ℕ) (len : ℕ) (bytes : List ℕ) → ReadsClx (early_pairs wd) old new →
    StandBehindPart new (fib_pair wd (pair_number PlfLst)).0 (table_part wd old (pair_number PlfLst)) len bytes →
    StandBehindPart old (fib_pair wd (pair_number PlfLst)).0 (table_part wd old (pair_number PlfLst)) len bytes
apart_levels wd old new len bytes (inl skips) =
    let pairs = early_pairs wd in
    levels_apart old new (clx_from pairs) (clx_to pairs) (fib_pair wd (pair_number PlfLst)) len bytes
    (before_clx pairs old new skips) (behind_clx pairs old new skips)
    (subst (LevelsStandApart (clx_from pairs) (clx_to pairs) old) (early_part wd PlfLst) skips.apart.levels)
apart_levels wd old new len bytes (inr stays) =
    let at = (fib_pair wd (pair_number PlfLst)).0 in
    let part = table_part wd old (pair_number PlfLst) in
    subst (λ (t : List ℕ). StandBehindPart t at part len bytes) stays.1

-- ---- pieces

-- the pieces of the Clx are those that it had
pub apart_pieces : (wd old new : List ℕ) (pieces : List TextPiece) → ReadsClx (early_pairs wd) old new →
    IsClx (clx_of wd new) pieces → IsClx (clx_of wd old) pieces
apart_pieces wd old new pieces (inl skips) is =
    let pairs = early_pairs wd in
    let pair : listed_pair pairs (pair_number Clx) ≡ fib_pair wd (pair_number Clx) = early_part wd Clx in
    let there : IsClx (slice_range new (clx_from pairs) (clx_to pairs)) pieces =
    subst (λ (p : ℕ × ℕ). IsClx (slice_range new p.0 (p.0 + p.1)) pieces) (sym pair) is in
    let made : IsClx skips.puts.clx pieces =
    subst (λ (b : List ℕ). IsClx b pieces) (clx_there pairs old new skips) there in
    subst (λ (p : ℕ × ℕ). IsClx (slice_range old p.0 (p.0 + p.1)) pieces) pair
    ((clx_skips (slice_range old (clx_from pairs) (clx_to pairs)) skips.puts.clx pieces skips.puts.skips).0 made)
apart_pieces wd old new pieces (inr stays) is = subst (λ (t : List ℕ). IsClx (clx_of wd t) pieces) stays.1 is

-- ---- texts

-- the same text, with another table stream
abbrev pub other_table : FileText → List ℕ → FileText
other_table text table = record text { table = table }

pub count_same : (text : FileText) (table : List ℕ) (story : StoryKind) →
    story_length (doc_source_of (other_table text table)) story ≡ story_length (doc_source_of text) story
count_same text table Main = refl
count_same text table Notes = refl
count_same text table Heads = refl

pub bin_apart : (kind : PageKind) (wd old new : List ℕ) → ReadsClx (early_pairs wd) old new →
    bin_table_of kind (bin_tables_of wd new) ≡ bin_table_of kind (bin_tables_of wd old)
bin_apart Chpx wd old new clx = apart_part wd old new PlcfBteChpx clx (λ e. absurd (omega (arith, e)))
bin_apart Papx wd old new clx = apart_part wd old new PlcfBtePapx clx (λ e. absurd (omega (arith, e)))

-- what reads the same as a text of such a table stream reads the same as that of the stream as it was
pub reads_apart : (text : FileText) (table : List ℕ) (read : FileText) →
    ReadsClx (early_pairs text.wd) text.table table → ReadsTheSame (other_table text table) read →
    ReadsTheSame text read
reads_apart text table read clx same =
    let wd = text.wd in
    let old = text.table in
    let pair = fib_pair wd (pair_number PlfLst) in
    record {
      counts = λ story. same.counts story ∙ count_same text table story;
      kept = same.kept;
      pairs = same.pairs;
      parts = λ part plain. same.parts part plain ∙ apart_part wd old table part clx plain.reads.no_clx;
      sheet = λ sheet has.
          subst (λ (b : List ℕ). HasStyleSheet b sheet)
          (apart_part wd old table Stshf clx (λ e. absurd (omega (arith, e)))) (same.sheet sheet has);
      levels = λ bytes has.
          let mid = same.levels bytes has in
          let part = apart_part wd old table PlfLst clx (λ e. absurd (omega (arith, e))) in
          let next = apart_levels wd old table mid.len bytes clx
          (subst (λ (b : List ℕ). StandBehindPart table pair.0 b mid.len bytes) part (mid.have, mid.bytes_are)) in
          record { len = mid.len; have = next.0; bytes_are = next.1 };
      places = same.places;
      units = same.units;
      lists = λ kind fc made has low.
          subst (λ (bin : List ℕ). HasListBefore kind bin wd fc made ⊎ (IsGap kind bin wd fc × (made ≡ bare_list kind)))
          (bin_apart kind wd old table clx) (same.lists kind fc made has low);
      sections = same.sections;
    }
