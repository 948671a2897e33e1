-- The bin table that is printed.
use Rattle.std.proofs.Common.{◌≡◌, ℕ, zero, suc, ◌+◌, ◌-◌, ◌*◌, ◌^◌, ◌<◌, ◌≤◌, List, [], ◌∷◌, ◌++◌, length, map, take}
use Rattle.std.proofs.Common.{slice_index, refl, sym, ap, ◌∙◌, subst, arith, length-append, lit<}
use Rattle.std.proofs.lemmas.List.{append-nil, take_all}
use Rattle.std.proofs.lemmas.List.Elements.{All-head, All-tail}
use Rattle.std.specs.Prelude.{All}
use Rattle.doc_bits.specs.Number.{number_at, u32_list_bytes}
use Rattle.doc_bits.specs.Plc.{plc_cp}
use Rattle.doc_bits.proofs.Public.{number_at-after, length-numbers, number_at-numbers}
use Rattle.fkp_pages.specs.declared.lists.Bin.{Bin}
use Rattle.fkp_pages.specs.Bin.{bin_count, page_number, bin_fcs, printed_bin, ArePrintableBins, IsBinTableOf}

abbrev pub pages : List Bin → List ℕ
pages bins = map (λ bin. bin.page) bins

pub length-fcs : (bins : List Bin) (end : ℕ) → length (bin_fcs bins end) ≡ length bins + 1
length-fcs [] end = refl
length-fcs (bin ∷ bins) end = let ih = length-fcs bins end in omega arith

pub length-pages : (bins : List Bin) → length (pages bins) ≡ length bins
length-pages [] = refl
length-pages (bin ∷ bins) = let ih = length-pages bins in omega arith

-- the last fc is the end
pub last_fc : (bins : List Bin) (end : ℕ) → slice_index (bin_fcs bins end) (length bins) ≡ end
last_fc [] end = refl
last_fc (bin ∷ bins) end = last_fc bins end

-- no fc is beyond the end
pub fc_upto_end : (bins : List Bin) (end k n : ℕ) → ArePrintableBins bins end → k + n ≡ length bins →
    slice_index (bin_fcs bins end) k ≤ end
fc_upto_end bins end k zero are h =
    let place : k ≡ length bins = omega arith in
    rw place (omega (arith, last_fc bins end))
fc_upto_end bins end k (suc n) are h =
    let next = fc_upto_end bins end (k + 1) n are (omega arith) in
    omega (arith, are.ascend k (omega arith))

pub page_small : (bins : List Bin) (k : ℕ) → All (λ bin. bin.page < 2 ^ 22) bins → slice_index (pages bins) k < 2 ^ 22
page_small [] k small = lit< tt
page_small (bin ∷ bins) zero small = All-head (λ bin. bin.page < 2 ^ 22) bin bins small
page_small (bin ∷ bins) (suc k) small = page_small bins k (All-tail (λ bin. bin.page < 2 ^ 22) bin bins small)

pub length-printed_bin : (bins : List Bin) (end : ℕ) → length (printed_bin bins end) ≡ 4 + 8 * length bins
length-printed_bin bins end =
    let a = length-append (u32_list_bytes (bin_fcs bins end)) (u32_list_bytes (pages bins)) in
    let b = length-numbers (bin_fcs bins end) in
    let c = length-numbers (pages bins) in
    let d = length-fcs bins end in
    let e = length-pages bins in
    omega arith

pub printed_count : (bins : List Bin) (end : ℕ) → bin_count (printed_bin bins end) ≡ length bins
printed_count bins end =
    let e = length-printed_bin bins end in
    omega arith

pub printed_fc : (bins : List Bin) (end k : ℕ) → ArePrintableBins bins end → end < 2 ^ 32 → k ≤ length bins →
    plc_cp (printed_bin bins end) k ≡ slice_index (bin_fcs bins end) k
printed_fc bins end k are fits h =
    let small = fc_upto_end bins end k (length bins - k) are (omega arith) in
    number_at-numbers (bin_fcs bins end) (u32_list_bytes (pages bins)) k (omega (arith, length-fcs bins end)) (omega
    arith)

pub printed_page : (bins : List Bin) (end k : ℕ) → ArePrintableBins bins end → k < length bins →
    page_number (printed_bin bins end) k ≡ slice_index (pages bins) k
printed_page bins end k are h =
    let small = page_small bins k are.pages in
    let place : 4 * (bin_count (printed_bin bins end) + 1) + 4 * k ≡ length (u32_list_bytes (bin_fcs bins end)) + 4 * k
    =
    omega (arith, printed_count bins end, length-numbers (bin_fcs bins end), length-fcs bins end) in
    let stands : number_at (u32_list_bytes (pages bins) ++ []) (4 * k) 4 ≡ slice_index (pages bins) k =
    number_at-numbers (pages bins) [] k (omega (arith, length-pages bins)) (omega arith) in
    let here : number_at (u32_list_bytes (pages bins)) (4 * k) 4 ≡ slice_index (pages bins) k =
    subst (λ bytes. number_at bytes (4 * k) 4 ≡ slice_index (pages bins) k) (append-nil (u32_list_bytes (pages bins)))
    stands
    in
    let whole : number_at (printed_bin bins end) (4 * (bin_count (printed_bin bins end) + 1) + 4 * k) 4 ≡ slice_index
    (pages bins) k =
    rw place (number_at-after (u32_list_bytes (bin_fcs bins end)) (u32_list_bytes (pages bins)) (4 * k) 4 ∙ here) in
    rw whole (omega arith)

-- the printed table has the ranges and their pages
pub printed_table : (bins : List Bin) (end : ℕ) → ArePrintableBins bins end → end < 2 ^ 32 → IsBinTableOf bins end
    (printed_bin bins end)
printed_table bins end are fits =
    let count = printed_count bins end in
    record {
      table = record {
        table = omega (arith, length-printed_bin bins end);
        ascend = λ k h.
            rw (printed_fc bins end k are fits (omega arith), printed_fc bins end (k + 1) are fits (omega arith))
            (are.ascend k (omega arith));
      };
      count = count;
      fcs = λ k h. printed_fc bins end k are fits h;
      found = λ k fc h from to. record {
        entry = k;
        range = record {
          below = omega arith;
          from = rw (printed_fc bins end k are fits (omega arith)) from;
          to = rw (printed_fc bins end (k + 1) are fits (omega arith)) to;
        };
        page = sym (printed_page bins end k are h);
      };
    }

-- the bytes after the last page
pub printed_all : (bins items : List Bin) (end i : ℕ) (bytes : List ℕ) → items ≡ bins → length items ≤ i →
    bytes ≡ u32_list_bytes (bin_fcs bins end) ++ u32_list_bytes (pages (take i bins)) → bytes ≡ printed_bin bins end
printed_all bins items end i bytes same h so_far =
    let reach : length bins ≤ i = subst (λ list. length list ≤ i) same h in
    so_far ∙ ap (λ list. u32_list_bytes (bin_fcs bins end) ++ u32_list_bytes (pages list)) (take_all i bins reach)
