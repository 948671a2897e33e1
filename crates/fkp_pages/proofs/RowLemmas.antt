-- Pages one after the other, and the ranges that name them.
use Rattle.std.proofs.Common.{◌≡◌, ℕ, zero, suc, ◌+◌, ◌-◌, ◌*◌, ◌^◌, ◌<◌, ◌≤◌, List, [], ◌∷◌, ◌++◌, length, map, take}
use Rattle.std.proofs.Common.{drop, get_or, Some, refl, sym, ap, ◌∙◌, arith, append_assoc, length-append, zero-add}
use Rattle.std.proofs.Common.{length-drop, length-take}
use Rattle.std.specs.Prelude.{slice_index, slice_get}
use Rattle.std.proofs.lemmas.List.{get_or_append_left, get_or_at, take_more, drop-append-le, take-append-le, drop_at}
use Rattle.std.proofs.lemmas.List.{drop-drop, get_or-map}
use Rattle.std.proofs.lemmas.Option.{get_or_from_slice_get, slice_get_within}
use Rattle.fkp_pages.specs.declared.kind.PageKind.{PageKind}
use Rattle.fkp_pages.specs.declared.lists.Bin.{Bin}
use Rattle.fkp_pages.specs.declared.lists.Run.{Run}
use Rattle.fkp_pages.specs.declared.packing.Pages.{Pages}
use Rattle.fkp_pages.specs.Bin.{bin_fcs, page_at, ArePrintableBins}
use Rattle.fkp_pages.specs.Runs.{AreRuns}
use Rattle.fkp_pages.specs.PageBytes.{last_fc}
use Rattle.fkp_pages.specs.Pages.{ArePagesOf}
use Rattle.fkp_pages.specs.Found.{ArePlaced}
use Rattle.fkp_pages.specs.InARow.{numbered_bins, row_placement}
use Rattle.fkp_pages.proofs.WholePages.{pages_are_whole}

pub numbered_bins-none : (number : ℕ) → numbered_bins number [] ≡ []
unfolding numbered_bins
numbered_bins-none number = refl

-- one page more
pub numbered_bins-more : (number : ℕ) (starts : List ℕ) (start : ℕ) → numbered_bins number (starts ++ start ∷ []) ≡
    numbered_bins number starts ++ (record { first = start; page = number + length starts }) ∷ []
unfolding numbered_bins
numbered_bins-more number [] start = ap (λ n. (record { first = start; page = n }) ∷ []) (omega arith)
numbered_bins-more number (x ∷ starts) start =
    let next : number + 1 + length starts ≡ number + length (x ∷ starts) = omega arith in
    ap (λ l. (record { first = x; page = number }) ∷ l) (numbered_bins-more (number + 1) starts start ∙ ap
    (λ n. numbered_bins (number + 1) starts ++ (record { first = start; page = n }) ∷ []) next)

pub length-numbered_bins : (number : ℕ) (starts : List ℕ) → length (numbered_bins number starts) ≡ length starts
unfolding numbered_bins
length-numbered_bins number [] = refl
length-numbered_bins number (start ∷ starts) = ap suc (length-numbered_bins (number + 1) starts)

firsts_are : (number : ℕ) (starts : List ℕ) → map (λ (bin : Bin). bin.first) (numbered_bins number starts) ≡ starts
unfolding numbered_bins
firsts_are number [] = refl
firsts_are number (start ∷ starts) = ap (λ l. start ∷ l) (firsts_are (number + 1) starts)

pub page_is : (number : ℕ) (starts : List ℕ) (k : ℕ) → k < length starts → slice_index (map (λ (bin : Bin). bin.page)
    (numbered_bins number starts)) k ≡ number + k
unfolding numbered_bins
page_is number [] k up = absurd (omega arith)
page_is number (start ∷ starts) zero up = omega arith
page_is number (start ∷ starts) (suc k) up = page_is (number + 1) starts k (omega arith) ∙ omega arith

-- a page of bytes between others
page_between_others : (before bytes behind : List ℕ) (number k : ℕ) → length before ≡ 512 * number → 512 * k + 512 ≤
    length bytes → page_at (before ++ (bytes ++ behind)) (number + k) ≡ page_at bytes k
page_between_others before bytes behind number k b up =
    let n : 512 * (number + k) ≡ 512 * number + 512 * k = omega arith in
    let width : 512 * (number + k) + 512 - 512 * (number + k) ≡ 512 * k + 512 - 512 * k = omega arith in
    let skip : drop (512 * (number + k)) (before ++ (bytes ++ behind)) ≡ drop (512 * k) bytes ++ behind =
    ap (λ m. drop m (before ++ (bytes ++ behind))) n
    ∙ (sym (drop-drop (512 * k) (512 * number) (before ++ (bytes ++ behind)))
    ∙ (ap (drop (512 * k)) (drop_at before (bytes ++ behind) (512 * number) b) ∙ drop-append-le (512 * k) bytes behind
    (omega arith))) in
    let left = length-drop (512 * k) bytes in
    let cut : take (512 * k + 512 - 512 * k) (drop (512 * k) bytes ++ behind) ≡ take (512 * k + 512 - 512 * k)
    (drop (512 * k) bytes) =
    take-append-le (512 * k + 512 - 512 * k) (drop (512 * k) bytes) behind (omega arith) in
    ap (λ m. take m (drop (512 * (number + k)) (before ++ (bytes ++ behind)))) width ∙
    (ap (take (512 * k + 512 - 512 * k)) skip ∙ cut)

fcs_are : (number end : ℕ) (starts : List ℕ) → bin_fcs (numbered_bins number starts) end ≡ starts ++ end ∷ []
fcs_are number end starts = ap (λ l. l ++ end ∷ []) (firsts_are number starts)

pub pages_stand_in_a_row : (kind : PageKind) (runs : List Run) (pages : Pages) (number : ℕ) (before behind : List ℕ) →
    AreRuns kind runs → ArePagesOf kind runs pages → length before ≡ 512 * number → ArePlaced runs pages (row_placement
    runs
    pages number before behind)
pages_stand_in_a_row kind runs pages number before behind ordered are b =
    let whole = pages_are_whole kind runs pages ordered are in
    let size = whole.size in
    let starts = pages.starts in
    let len = length-numbered_bins number starts in
    let fcs = fcs_are number (last_fc runs) starts in
    let page : (k : ℕ) → k < length starts → slice_index (map (λ (bin : Bin). bin.page) (numbered_bins number starts))
    (0 + k) ≡ number + k =
    λ k up. ap (slice_index (map (λ (bin : Bin). bin.page) (numbered_bins number starts))) (zero-add k) ∙ page_is
    number starts k up in
    let a = length-append before (pages.bytes ++ behind) in
    let c = length-append pages.bytes behind in
    record {
      within = omega arith;
      starts = λ k up.
          ap (slice_index (bin_fcs (numbered_bins number starts) (last_fc runs))) (zero-add k)
          ∙ (ap (λ l. slice_index l k) fcs ∙ get_or_append_left starts (last_fc runs ∷ []) 0 k up);
      after =
          let end : slice_index (bin_fcs (numbered_bins number starts) (last_fc runs)) (0 + length starts) ≡ last_fc
          runs =
          ap (slice_index (bin_fcs (numbered_bins number starts) (last_fc runs))) (zero-add (length starts))
          ∙ (ap (λ l. slice_index l (length starts)) fcs ∙ get_or_at starts (last_fc runs) [] 0 (length starts) refl) in
          omega arith;
      inside = λ k up. let p = page k up in omega arith;
      bytes = λ k up.
          ap (page_at (before ++ (pages.bytes ++ behind))) (page k up) ∙ page_between_others before pages.bytes behind
          number k b (omega arith);
    }

pub row_is_printable : (kind : PageKind) (runs : List Run) (pages : Pages) (number : ℕ) → AreRuns kind runs →
    ArePagesOf kind runs pages → 0 < length runs → number + length pages.starts ≤ 2 ^ 22 → ArePrintableBins
    (numbered_bins number pages.starts) (last_fc runs)
row_is_printable kind runs pages number ordered are any small =
    let whole = pages_are_whole kind runs pages ordered are in
    let starts = pages.starts in
    let len = length-numbered_bins number starts in
    let fcs = fcs_are number (last_fc runs) starts in
    record {
      some = let some = whole.some any in omega arith;
      ascend = λ k up. let rises = whole.ascend k (omega arith) in rw fcs rises;
      pages = λ k d up.
          let here : k < length starts = omega arith in
          let p = page_is number starts k here in
          let own = get_or-map (λ (bin : Bin). bin.page) (numbered_bins number starts) k d 0 up in
          omega arith;
    }

-- the ranges so far, one more
pub next_range : (number i start : ℕ) (starts : List ℕ) (old bins bins2 : List Bin) → slice_get starts i ≡ Some
    start → bins ≡ old ++ numbered_bins number (take i starts) → bins2 ≡ bins ++ (record {
      first = start;
      page = number + i;
    }) ∷ [] → bins2 ≡ old ++ numbered_bins number (take (i + 1) starts)
next_range number i start starts old bins bins2 s b n =
    let up = slice_get_within starts i start s in
    let own : get_or starts i 0 ≡ start = get_or_from_slice_get starts i start 0 s in
    let len : length (take i starts) ≡ i = omega (arith, length-take i starts) in
    let more : take (i + 1) starts ≡ take i starts ++ start ∷ [] = take_more starts i 0 up ∙ ap (λ m. take i starts ++
    m ∷ []) own in
    let all : numbered_bins number (take (i + 1) starts) ≡ numbered_bins number (take i starts) ++
    (record { first = start; page = number + i }) ∷ [] =
    ap (numbered_bins number) more ∙ (numbered_bins-more number (take i starts) start ∙ ap (λ m. numbered_bins number
    (take i starts) ++ (record { first = start; page = number + m }) ∷ []) len) in
    n ∙ (ap (λ l. l ++ (record { first = start; page = number + i }) ∷ []) b ∙ (append_assoc old (numbered_bins number
    (take i starts)) ((record { first = start; page = number + i }) ∷ []) ∙ ap (λ l. old ++ l) (sym all)))
