-- Runs that touch and ascend, and where a page says that they begin and end.
use Rattle.std.proofs.Common.{◌≡◌, inl, inr, ℕ, zero, suc, ◌+◌, ◌-◌, ◌*◌, ◌^◌, ◌<◌, ◌≤◌, List, [], ◌∷◌, ◌++◌, length}
use Rattle.std.proofs.Common.{map, get_or, sym, ap, ◌∙◌, subst, arith, length-append}
use Rattle.std.specs.Prelude.{All, slice_index}
use Rattle.std.specs.List.{flat_map}
use Rattle.std.proofs.lemmas.Bool.{cases_lt}
use Rattle.std.proofs.lemmas.List.{append-nil, get_or_append_left, get_or-append-add, get_or-map, get_or_at, length-map}
use Rattle.std.proofs.lemmas.List.Concat.{flat_map-append}
use Rattle.std.proofs.lemmas.List.Folds.{flat_map-map}
use Rattle.std.proofs.lemmas.Option.{slice_get-get_or}
use Rattle.doc_bits.specs.Number.{number_at, number_bytes}
use Rattle.fkp_pages.specs.declared.kind.PageKind.{PageKind}
use Rattle.fkp_pages.specs.declared.lists.Run.{Run}
use Rattle.fkp_pages.specs.Fkp.{page_run_count, page_fc, IsFirstRun}
use Rattle.fkp_pages.specs.Runs.{AreRuns}
use Rattle.fkp_pages.specs.PageBytes.{FitsPage, first_limit, last_fc, page_fcs, page_entries, page_lists, page_bytes}
use Rattle.fkp_pages.specs.PageBytes.{zeros}
use Rattle.fkp_pages.specs.Found.{HasRunNumbers}
use Rattle.doc_bits.specs.Number.{u32_list_bytes}
use Rattle.doc_bits.proofs.Public.{number_at-numbers}
use Rattle.fkp_pages.proofs.PageShape.{free_bytes, page_count-page}

-- each run ends after it begins, and where the next one begins
pub record AreInOrder (runs : List Run) : Type 0 where
  pub order : (k : ℕ) (d : Run) → k < length runs → (get_or runs k d).from < (get_or runs k d).to
  pub touch : (k : ℕ) (d : Run) → k + 1 < length runs → (get_or runs k d).to ≡ (get_or runs (k + 1) d).from

pub in_order : (kind : PageKind) (runs : List Run) → AreRuns kind runs → AreInOrder runs
in_order kind runs h = record {
  order = λ k d up. (h.writable k d up).order;
  touch = λ k d up.
      let here : k < length runs = omega arith in
      h.touch k (get_or runs k d) (get_or runs (k + 1) d) (slice_get-get_or runs k d here) (slice_get-get_or runs
      (k + 1) d up);
}

-- a run in the middle of others
pub inner_run : (front page back : List Run) (k : ℕ) (d : Run) → k < length page → get_or (front ++ (page ++ back))
    (length front + k) d ≡ get_or page k d
inner_run front page back k d up = get_or-append-add front (page ++ back) k d ∙ get_or_append_left page back d k up

-- some of them are in order too
pub inner_in_order : (front page back : List Run) → AreInOrder (front ++ (page ++ back)) → AreInOrder page
inner_in_order front page back h =
    let a = length-append page back in
    let b = length-append front (page ++ back) in
    record {
      order = λ k d up.
          subst (λ (x : Run). x.from < x.to) (inner_run front page back k d up) (h.order (length front + k) d
          (omega arith));
      touch = λ k d up.
          let here : k < length page = omega arith in
          let next : length front + k + 1 ≡ length front + (k + 1) = omega arith in
          ap (λ (x : Run). x.to) (sym (inner_run front page back k d here))
          ∙ (h.touch (length front + k) d (omega arith)
          ∙ ap (λ (x : Run). x.from) (ap (λ n. get_or (front ++ (page ++ back)) n d) next ∙ inner_run front page back
          (k + 1) d up));
    }

-- a run ends at or before the beginning of a later one
pub ends_before : (runs : List Run) (i n : ℕ) (d : Run) → AreInOrder runs → i + 1 + n < length runs →
    (get_or runs i d).to ≤ (get_or runs (i + 1 + n) d).from
ends_before runs i zero d h up =
    let same : i + 1 + 0 ≡ i + 1 = omega arith in
    let touch = h.touch i d (omega arith) in
    rw same (omega arith)
ends_before runs i (suc n) d h up =
    let same : i + 1 + suc n ≡ i + 1 + n + 1 = omega arith in
    let ih = ends_before runs i n d h (omega arith) in
    let order = h.order (i + 1 + n) d (omega arith) in
    let touch = h.touch (i + 1 + n) d (omega arith) in
    rw same (omega arith)

pub ends_upto : (runs : List Run) (i j : ℕ) (d : Run) → AreInOrder runs → i < j → j < length runs →
    (get_or runs i d).to ≤ (get_or runs j d).from
ends_upto runs i j d h less up =
    let same : i + 1 + (j - (i + 1)) ≡ j = omega arith in
    subst (λ n. (get_or runs i d).to ≤ (get_or runs n d).from) same (ends_before runs i (j - (i + 1)) d h (omega arith))

pub begins_upto : (runs : List Run) (i j : ℕ) (d : Run) → AreInOrder runs → i ≤ j → j < length runs →
    (get_or runs i d).from ≤ (get_or runs j d).from
begins_upto runs i j d h upto up = elim (cases_lt i j) [
  | inl less ↦ let order = h.order i d (omega arith) in let ends = ends_upto runs i j d h less up in omega arith
  | inr same ↦ let e : i ≡ j = omega arith in subst (λ n. (get_or runs i d).from ≤ (get_or runs n d).from) e
      (omega arith)
]

-- where the last run ends
pub last_fc_is : (runs : List Run) (d : Run) → 0 < length runs → last_fc runs ≡ (get_or runs (length runs - 1) d).to
last_fc_is runs d some = get_or-map (λ (x : Run). x.to) runs (length runs - 1) d 0 (omega arith)

pub ends_upto_last : (runs : List Run) (i : ℕ) (d : Run) → AreInOrder runs → i < length runs → (get_or runs i d).to ≤
    last_fc runs
ends_upto_last runs i d h up =
    let last = last_fc_is runs d (omega arith) in
    elim (cases_lt i (length runs - 1)) [
      | inl less ↦
          let order = h.order (length runs - 1) d (omega arith) in
          let ends = ends_upto runs i (length runs - 1) d h less (omega arith) in
          omega arith
      | inr same ↦
          let e : length runs - 1 ≡ i = omega arith in
          let own : last_fc runs ≡ (get_or runs i d).to = last ∙ ap (λ n. (get_or runs n d).to) e in
          omega arith
    ]

-- ---- the fcs of a page

-- as numbers
abbrev pub fcs_of : List Run → List ℕ
fcs_of runs = map (λ run. run.from) runs ++ last_fc runs ∷ []

pub page_fcs_are : (runs : List Run) → page_fcs runs ≡ u32_list_bytes (fcs_of runs)
page_fcs_are runs =
    sym (flat_map-append (number_bytes 4) (map (λ run. run.from) runs) (last_fc runs ∷ [])
    ∙ (ap (λ l. l ++ u32_list_bytes (last_fc runs ∷ [])) (flat_map-map (number_bytes 4) (λ (run : Run). run.from) runs)
    ∙ ap (λ l. flat_map (λ (run : Run). number_bytes 4 run.from) runs ++ l) (append-nil (number_bytes 4
    (last_fc runs)))))

pub length-fcs_of : (runs : List Run) → length (fcs_of runs) ≡ length runs + 1
length-fcs_of runs = length-append (map (λ run. run.from) runs) (last_fc runs ∷ []) ∙ ap (λ n. n + 1) (length-map runs
    (λ run. run.from))

-- where a run begins
pub fc_from : (runs : List Run) (k : ℕ) (d : Run) → k < length runs → slice_index (fcs_of runs) k ≡ (get_or runs k
    d).from
fc_from runs k d up =
    let len : length (map (λ (run : Run). run.from) runs) ≡ length runs = length-map runs (λ run. run.from) in
    get_or_append_left (map (λ run. run.from) runs) (last_fc runs ∷ []) 0 k (omega arith) ∙ get_or-map (λ (x : Run).
    x.from) runs k d 0 up

-- where it ends
pub fc_to : (runs : List Run) (k : ℕ) (d : Run) → AreInOrder runs → k < length runs → slice_index (fcs_of runs)
    (k + 1) ≡ (get_or runs k d).to
fc_to runs k d h up = elim (cases_lt (k + 1) (length runs)) [
  | inl more ↦ fc_from runs (k + 1) d more ∙ sym (h.touch k d more)
  | inr last ↦
      let e : length runs - 1 ≡ k = omega arith in
      let len : length (map (λ (run : Run). run.from) runs) ≡ k + 1 = length-map runs (λ run. run.from) ∙ omega arith in
      get_or_at (map (λ run. run.from) runs) (last_fc runs) [] 0 (k + 1) len ∙ (last_fc_is runs d (omega arith) ∙ ap
      (λ n. (get_or runs n d).to) e)
]

pub page_fc_is : (kind : PageKind) (runs : List Run) (k : ℕ) → k < length runs + 1 → slice_index (fcs_of runs) k < 2 ^
    32 → page_fc (page_bytes kind runs) k ≡ slice_index (fcs_of runs) k
page_fc_is kind runs k up small =
    let more = page_entries kind first_limit runs ++ (zeros (free_bytes kind runs) ++ (page_lists kind first_limit
    runs ++ length runs ∷ [])) in
    let len = length-fcs_of runs in
    ap (λ l. number_at (l ++ more) (4 * k) 4) (page_fcs_are runs) ∙ number_at-numbers (fcs_of runs) more k
    (omega arith) small

-- a page says where each of its runs begins and ends
pub record SaysFcs (page : List ℕ) (runs : List Run) : Type 0 where
  pub count : page_run_count page ≡ length runs
  pub from : (k : ℕ) (d : Run) → k < length runs → page_fc page k ≡ (get_or runs k d).from
  pub to : (k : ℕ) (d : Run) → k < length runs → page_fc page (k + 1) ≡ (get_or runs k d).to

pub says_fcs : (kind : PageKind) (runs : List Run) → FitsPage kind runs → AreInOrder runs → All HasRunNumbers runs →
    SaysFcs (page_bytes kind runs) runs
says_fcs kind runs fits h small = record {
  count = page_count-page kind runs fits;
  from = λ k d up.
      let is = fc_from runs k d up in
      let bits = (small k d up).from in
      page_fc_is kind runs k (omega arith) (omega arith) ∙ is;
  to = λ k d up.
      let is = fc_to runs k d h up in
      let bits = (small k d up).to in
      page_fc_is kind runs (k + 1) (omega arith) (omega arith) ∙ is;
}

-- so the first run that holds a place is the one that has it
pub first_run_is : (page : List ℕ) (runs : List Run) (j fc : ℕ) (d : Run) → SaysFcs page runs → AreInOrder runs →
    j < length runs → (get_or runs j d).from ≤ fc → fc < (get_or runs j d).to → IsFirstRun page fc j
first_run_is page runs j fc d says h up low high =
    let count = says.count in
    let from = says.from j d up in
    let to = says.to j d up in
    record {
      below = omega arith;
      holds = record { from = omega arith; to = omega arith };
      first = λ other less holds.
          let here : other < length runs = omega arith in
          let end = says.to other d here in
          let upto = ends_upto runs other j d h less up in
          let past = holds.to in
          omega arith;
    }
