-- The pages of a text are counted: texts that are joined have no more than both, and bare marks share one.
use Rattle.std.proofs.Common.{◌≡◌, refl, ap, ℕ, zero, suc, ◌+◌, ◌≤◌, Bool, true, false, cond}
use Rattle.std.proofs.Common.{List, [], ◌∷◌, ◌++◌, length, map, All, arith}
use Rattle.std.proofs.lemmas.List.{length-map, map-append}
use Rattle.std.proofs.lemmas.List.Elements.{All-head, All-tail}
use Rattle.fkp_pages.specs.declared.kind.PageKind.{PageKind}
use Rattle.fkp_pages.specs.declared.kind.PageKind.TheVariants.{Chpx, Papx}
use Rattle.fkp_pages.specs.declared.lists.Run.{Run}
use Rattle.fkp_pages.specs.Written.{is_bare_run}
use Rattle.fkp_pages.specs.Pages.{first_fc}
use Rattle.fkp_pages.specs.Packed.{fits_page, packed_from, packed}
use Rattle.doc_model.specs.declared.item.Mark.{Mark}
use Rattle.doc_model.specs.declared.item.Item.{Item}
use Rattle.doc_model.specs.Settings.{is_alike}
use Rattle.doc_model.specs.Stretches.{stretches}
use Rattle.full_save.specs.Runs.{text_runs}
use Rattle.full_save.proofs.Public.{length-runs_from}
use Rattle.save_laws.specs.SharedPages.{pages_begun, pages_taken, item_marks, is_bare_mark}
use Rattle.save_laws.specs.SharedPages.{PageBoundsAreFewer, PageBoundsAdd, TextPagesAreFew, BareMarksShare}
use Rattle.save_laws.proofs.RunLemmas.{joined_stretches}
use Rattle.save_laws.proofs.MarkRunLemmas.{length-marks, both_marks, mark_of_run, last_marks, text_marks}
use Rattle.save_laws.proofs.SharedLemmas.{bare_runs_share}

-- ---- pages that are begun

-- with less room no fewer are begun, and with any room one more at most
record AreNear (bare : List Bool) : Type 0 where
  fewer : (left less : ℕ) → less ≤ left → pages_begun left bare ≤ pages_begun less bare
  near : (left less : ℕ) → less ≤ 28 → pages_begun left bare ≤ 1 + pages_begun less bare

fewer_bare : (bare : List Bool) → AreNear bare → (left less : ℕ) → less ≤ left →
    pages_begun left (true ∷ bare) ≤ pages_begun less (true ∷ bare)
unfolding pages_begun
fewer_bare bare are zero zero low = omega arith
fewer_bare bare are zero (suc less) low = absurd (omega (arith, low))
fewer_bare bare are (suc left) zero low = are.near left 28 (omega arith)
fewer_bare bare are (suc left) (suc less) low = are.fewer left less (omega (arith, low))

near_bare : (bare : List Bool) → AreNear bare → (left less : ℕ) → less ≤ 28 →
    pages_begun left (true ∷ bare) ≤ 1 + pages_begun less (true ∷ bare)
unfolding pages_begun
near_bare bare are zero zero small = omega arith
near_bare bare are zero (suc less) small = let one = are.fewer 28 less (omega (arith, small)) in omega (arith, one)
near_bare bare are (suc left) zero small = let one = are.near left 28 (omega arith) in omega (arith, one)
near_bare bare are (suc left) (suc less) small = are.near left less (omega (arith, small))

are_near : (bare : List Bool) → AreNear bare
unfolding pages_begun
are_near [] = record { fewer = λ left less low. omega arith; near = λ left less small. omega arith }
are_near (false ∷ bare) = record { fewer = λ left less low. omega arith; near = λ left less small. omega arith }
are_near (true ∷ bare) =
    let rest = are_near bare in record { fewer = fewer_bare bare rest; near = near_bare bare rest }

begun-append : (left : ℕ) (one other : List Bool) →
    pages_begun left (one ++ other) ≤ pages_begun left one + pages_begun 0 other
unfolding pages_begun
begun-append left [] other = let fewer = (are_near other).fewer left 0 (omega arith) in omega (arith, fewer)
begun-append left (false ∷ one) other = let rest = begun-append 0 one other in omega (arith, rest)
begun-append zero (true ∷ one) other = let rest = begun-append 28 one other in omega (arith, rest)
begun-append (suc left) (true ∷ one) other = begun-append left one other

begun_upto : (left : ℕ) (bare : List Bool) → pages_begun left bare ≤ length bare
unfolding pages_begun
begun_upto left [] = omega arith
begun_upto left (false ∷ bare) = let rest = begun_upto 0 bare in omega (arith, rest)
begun_upto zero (true ∷ bare) = let rest = begun_upto 28 bare in omega (arith, rest)
begun_upto (suc left) (true ∷ bare) = let rest = begun_upto left bare in omega (arith, rest)

-- ---- bare marks

abbrev IsBareMark : Mark → Type 0
IsBareMark mark = is_bare_mark mark ≡ true

fit_open : (left : ℕ) (marks : List Mark) → All IsBareMark marks → length marks ≤ left →
    pages_begun left (map is_bare_mark marks) ≤ 0
unfolding pages_begun
fit_open left [] bare few = omega arith
fit_open zero (mark ∷ marks) bare few = absurd (omega (arith, few))
fit_open (suc left) (mark ∷ marks) bare few =
    let first = ap (λ b. pages_begun (suc left) (b ∷ map is_bare_mark marks)) (All-head IsBareMark mark marks bare) in
    let rest = fit_open left marks (All-tail IsBareMark mark marks bare) (omega (arith, few)) in
    omega (arith, first, rest)

pub bare_marks_share : BareMarksShare
unfolding pages_begun
bare_marks_share [] bare few = omega arith
bare_marks_share (mark ∷ marks) bare few =
    let first = ap (λ b. pages_begun 0 (b ∷ map is_bare_mark marks)) (All-head IsBareMark mark marks bare) in
    let rest = fit_open 28 marks (All-tail IsBareMark mark marks bare) (omega (arith, few)) in
    omega (arith, first, rest)

-- ---- a text

abbrev begun_by : List Mark → ℕ
begun_by marks = pages_begun 0 (map is_bare_mark marks)

begun_by-append : (one other : List Mark) → begun_by (one ++ other) ≤ begun_by one + begun_by other
begun_by-append one other =
    omega (
      arith,
      ap (pages_begun 0) (map-append is_bare_mark one other),
      begun-append 0 (map is_bare_mark one) (map is_bare_mark other),
    )

begun_by_upto : (marks : List Mark) → begun_by marks ≤ length marks
begun_by_upto marks =
    omega (arith, begun_upto 0 (map is_bare_mark marks), length-map marks is_bare_mark)

pub page_bounds_are_fewer : PageBoundsAreFewer
page_bounds_are_fewer text = omega (arith, begun_by_upto (item_marks text), length-marks text)

pub page_bounds_add : PageBoundsAdd
page_bounds_add one other =
    omega (
      arith,
      joined_stretches is_alike one other,
      ap begun_by (both_marks one other),
      begun_by-append (item_marks one) (item_marks other),
    )

-- ---- its runs

bare_runs : (runs : List Run) → map (is_bare_run Papx) runs ≡ map is_bare_mark (map mark_of_run runs)
bare_runs [] = refl
bare_runs (run ∷ runs) = ap (λ bare. is_bare_run Papx run ∷ bare) (bare_runs runs)

-- the runs of paragraphs begin no more pages than the marks, but for one behind the last mark
pub paragraphs_begin : (at : ℕ) (items : List Item) →
    pages_begun 0 (map (is_bare_run Papx) (text_runs Papx at items)) ≤ begun_by (item_marks items) + 1
paragraphs_begin at items =
    let lasts = last_marks items in
    let few = lasts.few in
    omega (
      arith,
      ap (pages_begun 0) (bare_runs (text_runs Papx at items)),
      ap begun_by (text_marks at items),
      begun_by-append (item_marks items) lasts.tail,
      begun_by_upto lasts.tail,
      few,
    )

few_packed : (kind : PageKind) (front runs : List Run) → length (packed_from kind front runs) ≤ suc (length runs)
unfolding packed_from
few_packed kind front [] = omega arith
few_packed kind front (run ∷ runs) =
    let stays = few_packed kind (front ++ run ∷ []) runs in
    let next = few_packed kind (run ∷ []) runs in
    elim (fits_page kind (front ++ run ∷ [])) as
    (λ b.
    length (cond b (packed_from kind (front ++ run ∷ []) runs) (front ∷ packed_from kind (run ∷ []) runs))
    ≤ suc (suc (length runs))) [
      | true ↦ omega (arith, stays)
      | false ↦ omega (arith, next)
    ]

few_parts : (kind : PageKind) (runs : List Run) → length (packed kind runs) ≤ length runs
few_parts kind [] = omega arith
few_parts kind (run ∷ runs) = let few = few_packed kind (run ∷ []) runs in omega (arith, few)

-- runs of any kind take no more pages than they are
pub pages_upto_runs : (kind : PageKind) (runs : List Run) → pages_taken kind runs ≤ length runs
pages_upto_runs kind runs = omega (arith, length-map (packed kind runs) first_fc, few_parts kind runs)

-- runs of characters take no more pages than there are stretches
pub characters_take : (at : ℕ) (items : List Item) →
    pages_taken Chpx (text_runs Chpx at items) ≤ length (stretches is_alike items)
characters_take at items =
    omega (
      arith,
      pages_upto_runs Chpx (text_runs Chpx at items),
      length-runs_from Chpx at (stretches is_alike items),
    )

pub text_pages_are_few : TextPagesAreFew
text_pages_are_few at text =
    omega (
      arith,
      characters_take at text,
      bare_runs_share (text_runs Papx at text),
      paragraphs_begin at text,
    )
