-- The page of one run of all places, and the stream with that page behind it.
use Rattle.std.specs.Prelude.{slice_index, slice_range}
use Rattle.std.proofs.Common.{◌≡◌, ◌∙◌, ◌++◌, ◌∷◌, [], inl, inr, ℕ, ◌+◌, ◌-◌, ◌*◌, ◌/◌, ◌<◌, ◌≤◌, List, length, take, drop}
use Rattle.std.proofs.Common.{refl, sym, ap, arith, replicate}
use Rattle.std.proofs.lemmas.List.{length-append, append_assoc, append-nil, length-take-le, take_all}
use Rattle.doc_bits.specs.Number.{zeros, number_at, u16_at}
use Rattle.doc_bits.proofs.Public.{range_mid, length-range, three_parts, length-zeros, number_at-before}
use Rattle.fkp_pages.specs.declared.kind.PageKind.{PageKind}
use Rattle.fkp_pages.specs.declared.kind.PageKind.TheVariants.{Chpx, Papx}
use Rattle.fkp_pages.specs.declared.kind.RunAnswer.TheVariants.{Empty}
use Rattle.fkp_pages.specs.Fkp.{page_run_count, page_fc, entry_byte, HasRunCount, HasRunAnswer}
use Rattle.fkp_pages.specs.Bin.{page_at}
use Rattle.fkp_gaps.specs.Filled.{empty_run_page, greatest_fc, next_page, with_empty_run}

-- ---- the page

count_one : page_run_count empty_run_page ≡ 1
unfolding empty_run_page zeros
count_one = refl

begins : page_fc empty_run_page 0 ≡ 0
unfolding empty_run_page zeros number_at
begins = refl

ends : page_fc empty_run_page 1 ≡ greatest_fc
unfolding empty_run_page zeros number_at
ends = refl

no_entry : slice_index empty_run_page 8 ≡ 0
unfolding empty_run_page zeros
no_entry = refl

pub page_len : length empty_run_page ≡ 512
unfolding empty_run_page zeros
page_len = refl

entry_none : (kind : PageKind) → entry_byte kind empty_run_page 0 ≡ 0
entry_none Chpx = let at : 4 * (page_run_count empty_run_page + 1) + 1 * 0 ≡ 8 = omega (arith, count_one) in
    ap (slice_index empty_run_page) at ∙ no_entry
entry_none Papx = let at : 4 * (page_run_count empty_run_page + 1) + 13 * 0 ≡ 8 = omega (arith, count_one) in
    ap (slice_index empty_run_page) at ∙ no_entry

counted : (kind : PageKind) → HasRunCount kind empty_run_page
counted Chpx = record { some = omega (arith, count_one); most = omega (arith, count_one) }
counted Papx = record { some = omega (arith, count_one); most = omega (arith, count_one) }

-- it answers at each place that the run has no properties
pub page_answers : (kind : PageKind) (fc : ℕ) → fc < greatest_fc → HasRunAnswer kind empty_run_page fc Empty
page_answers kind fc before = (
  counted kind,
  record {
    run = 0;
    first = record {
      below = omega (arith, count_one);
      holds = record { from = omega (arith, begins); to = omega (arith, before, ends) };
      first = λ other less. absurd (omega (arith, less));
    };
    answers = entry_none kind;
  },
)

-- ---- the stream

-- the page is behind it
pub page_behind : (wd : List ℕ) → page_at (with_empty_run wd) (next_page wd) ≡ empty_run_page
unfolding with_empty_run
page_behind wd =
    let number = next_page wd in
    let room = zeros (512 * number - length wd) in
    let front = wd ++ room in
    let len : length front ≡ 512 * number =
    omega (arith, length-append wd room, length-zeros (512 * number - length wd)) in
    let whole : wd ++ (room ++ empty_run_page) ≡ front ++ (empty_run_page ++ []) =
    sym (append_assoc wd room empty_run_page)
    ∙ ap (λ (l : List ℕ). front ++ l) (sym (append-nil empty_run_page)) in
    range_mid (wd ++ (room ++ empty_run_page)) front empty_run_page [] (512 * number) (512 * number + 512) whole
    (sym len) (omega (arith, len, page_len))

-- what is in the stream stays
pub range_before : (xs more : List ℕ) (from to : ℕ) → from ≤ to → to ≤ length xs →
    slice_range (xs ++ more) from to ≡ slice_range xs from to
range_before xs more from to order within =
    let mid = slice_range xs from to in
    let front = take from xs in
    let back = drop to xs in
    let cut : xs ≡ front ++ (mid ++ back) = three_parts xs from to order in
    let whole : xs ++ more ≡ front ++ (mid ++ (back ++ more)) =
    ap (λ (l : List ℕ). l ++ more) cut
    ∙ (append_assoc front (mid ++ back) more ∙ ap (λ (l : List ℕ). front ++ l) (append_assoc mid back more)) in
    let head : length front ≡ from = length-take-le from xs (omega (arith, order, within)) in
    let width : length mid ≡ to - from = length-range xs from to within in
    range_mid (xs ++ more) front mid (back ++ more) from to whole (sym head) (omega (arith, head, width, order))

pub stream_range : (wd : List ℕ) (from to : ℕ) → from ≤ to → to ≤ length wd →
    slice_range (with_empty_run wd) from to ≡ slice_range wd from to
unfolding with_empty_run
stream_range wd from to order within =
    range_before wd (zeros (512 * next_page wd - length wd) ++ empty_run_page) from to order within

pub stream_number : (wd : List ℕ) (at : ℕ) → at + 2 ≤ length wd → u16_at (with_empty_run wd) at ≡ u16_at wd at
unfolding with_empty_run
stream_number wd at within =
    number_at-before wd (zeros (512 * next_page wd - length wd) ++ empty_run_page) at 2 within

pub page_before : (wd : List ℕ) (number : ℕ) → 512 * number + 512 ≤ length wd →
    page_at (with_empty_run wd) number ≡ page_at wd number
page_before wd number within = stream_range wd (512 * number) (512 * number + 512) (omega arith) within

pub length-with_empty_run : (wd : List ℕ) → length (with_empty_run wd) ≡ 512 * next_page wd + 512
unfolding with_empty_run
length-with_empty_run wd =
    let pad = 512 * next_page wd - length wd in
    omega (
      arith,
      length-append wd (zeros pad ++ empty_run_page),
      length-append (zeros pad) empty_run_page,
      length-zeros pad,
      page_len,
    )

-- a list that is made longer by so many elements
grown_by : (old new : List ℕ) (len n more x : ℕ) → len ≡ length old → n ≡ length old + more →
    new ≡ take n old ++ replicate (n - len) x → new ≡ old ++ replicate more x
grown_by old new len n more x len_is longer is =
    let room : n - len ≡ more = omega (arith, len_is, longer) in
    is ∙ (λ i. take_all n old (omega (arith, longer)) i ++ replicate (room i) x)

-- the stream once it is made longer four times; the numbers are its lengths
pub record IsGrown (wd a b c d : List ℕ) (at : ℕ) : Type 0 where
  pub wd_len : ℕ
  pub a_len : ℕ
  pub b_len : ℕ
  pub c_len : ℕ
  pub wd_is : wd_len ≡ length wd
  pub a_is : a_len ≡ at
  pub b_is : b_len ≡ at + 4
  pub c_is : c_len ≡ at + 8
  pub first : a ≡ take at wd ++ replicate (at - wd_len) 0
  pub second : b ≡ take (at + 4) a ++ replicate (at + 4 - a_len) 0
  pub third : c ≡ take (at + 8) b ++ replicate (at + 8 - b_len) 255
  pub fourth : d ≡ take (at + 511) c ++ replicate (at + 511 - c_len) 0

pub pushed_page : (wd a b c d e : List ℕ) (at : ℕ) → at ≡ 512 * next_page wd → IsGrown wd a b c d at →
    e ≡ d ++ 1 ∷ [] → e ≡ with_empty_run wd
unfolding with_empty_run empty_run_page zeros
pushed_page wd a b c d e at at_is grows ee =
    let n = 512 * next_page wd - length wd in
    let pad = zeros n in
    let x = zeros 4 in
    let y : List ℕ = replicate 4 255 in
    let z = zeros 503 in
    let t = 1 ∷ [] in
    let ea : a ≡ wd ++ pad = grown_by wd a grows.wd_len at n 0 grows.wd_is (omega (arith, at_is)) grows.first in
    let la : length a ≡ at = omega (arith, ap length ea, length-append wd pad, length-zeros n, at_is) in
    let eb : b ≡ a ++ x = grown_by a b grows.a_len (at + 4) 4 0 (grows.a_is ∙ sym la) (omega (arith, la)) grows.second in
    let lb : length b ≡ at + 4 = omega (arith, ap length eb, length-append a x, la) in
    let ec : c ≡ b ++ y = grown_by b c grows.b_len (at + 8) 4 255 (grows.b_is ∙ sym lb) (omega (arith, lb)) grows.third in
    let lc : length c ≡ at + 8 = omega (arith, ap length ec, length-append b y, lb) in
    let ed : d ≡ c ++ z = grown_by c d grows.c_len (at + 511) 503 0 (grows.c_is ∙ sym lc) (omega (arith, lc)) grows.fourth in
    let all : e ≡ ((((wd ++ pad) ++ x) ++ y) ++ z) ++ t =
    ee ∙ ap (λ (l : List ℕ). l ++ t) (ed ∙ ap (λ (l : List ℕ). l ++ z) (ec ∙ ap (λ (l : List ℕ). l ++ y)
    (eb ∙ ap (λ (l : List ℕ). l ++ x) ea))) in
    all ∙ (append_assoc (((wd ++ pad) ++ x) ++ y) z t
    ∙ (append_assoc ((wd ++ pad) ++ x) y (z ++ t)
    ∙ (append_assoc (wd ++ pad) x (y ++ (z ++ t)) ∙ append_assoc wd pad (x ++ (y ++ (z ++ t))))))
