-- Pages: where each run is, and what the bin table names.
use Rattle.std.proofs.Common.{◌≡◌, inl, inr, ℕ, zero, suc, ◌+◌, ◌-◌, ◌*◌, ◌<◌, ◌≤◌, List, [], ◌∷◌, ◌++◌, length, map}
use Rattle.std.proofs.Common.{take, drop, get_or, Some, refl, sym, ap, ◌∙◌, subst, arith, append_assoc, length-append}
use Rattle.std.specs.Prelude.{All, slice_index, slice_get}
use Rattle.std.specs.List.{flat_map}
use Rattle.std.proofs.lemmas.Bool.{cases_lt}
use Rattle.std.proofs.lemmas.List.{take_at, drop_at, get_or-map, length-map, drop-drop}
use Rattle.std.proofs.lemmas.Option.{get_or_from_slice_get, slice_get_within}
use Rattle.fkp_pages.specs.declared.kind.PageKind.{PageKind}
use Rattle.fkp_pages.specs.declared.lists.Run.{Run}
use Rattle.fkp_pages.specs.declared.packing.Pages.{Pages}
use Rattle.fkp_pages.specs.Bin.{bin_fcs, page_at, IsBinTableOf}
use Rattle.fkp_pages.specs.Properties.{HasListAt}
use Rattle.fkp_pages.specs.Runs.{run_list, AreRuns}
use Rattle.fkp_pages.specs.Packing.{page_items, joined_pages}
use Rattle.fkp_pages.specs.PageBytes.{FitsPage, last_fc, page_bytes}
use Rattle.fkp_pages.specs.Pages.{first_fc, ArePagesOf}
use Rattle.fkp_pages.specs.Found.{HasRunNumbers, FindsRun, IsRunFoundIn, Placement, range_fc, range_page, ArePlaced}
use Rattle.fkp_pages.proofs.PageShape.{length-page}
use Rattle.fkp_pages.proofs.OrderLemmas.{AreInOrder, in_order, inner_run, inner_in_order, ends_upto, begins_upto}
use Rattle.fkp_pages.proofs.OrderLemmas.{ends_upto_last}
use Rattle.fkp_pages.proofs.FoundLemmas.{page_finds}

-- ---- joined pages

-- the items of the pages before one
abbrev pub items_before : {A : Type 0} → List (List A) → ℕ → List A
items_before parts k = joined_pages (take k parts)

-- an item is the j-th of the page k
pub record IsOnPage {A : Type 0} (parts : List (List A)) (i : ℕ) : Type 0 where
  pub page : ℕ
  pub nth : ℕ
  pub within : page < length parts
  pub inside : nth < length (page_items parts page)
  pub place : i ≡ length (items_before parts page) + nth

pub on_page : {A : Type 0} (parts : List (List A)) (i : ℕ) → i < length (joined_pages parts) → IsOnPage parts i
on_page [] i up = absurd (omega arith)
on_page (part ∷ parts) i up =
    let len = length-append part (joined_pages parts) in
    elim (cases_lt i (length part)) [
      | inl here ↦ record { page = 0; nth = i; within = omega arith; inside = here; place = omega arith }
      | inr past ↦
          let rest = on_page parts (i - length part) (omega arith) in
          let within = rest.within in
          let place = rest.place in
          let before = length-append part (items_before parts rest.page) in
          record {
            page = suc rest.page;
            nth = rest.nth;
            within = omega arith;
            inside = rest.inside;
            place = omega arith;
          }
    ]

-- the pages before one, the page, and those after it
pub page_between : {A : Type 0} (parts : List (List A)) (k : ℕ) → k < length parts → joined_pages parts ≡ items_before
    parts k ++ (page_items parts k ++ joined_pages (drop (k + 1) parts))
page_between [] k up = absurd (omega arith)
page_between (part ∷ parts) zero up = refl
page_between (part ∷ parts) (suc k) up =
    let same : suc k + 1 ≡ suc (k + 1) = omega arith in
    ap (λ l. part ++ l) (page_between parts k (omega arith))
    ∙ (sym (append_assoc part (items_before parts k) (page_items parts k ++ joined_pages (drop (k + 1) parts)))
    ∙ ap (λ n. (part ++ items_before parts k) ++ (page_items parts k ++ joined_pages (drop n (part ∷ parts))))
    (sym same))

-- the items before the next page
pub items_before-next : {A : Type 0} (parts : List (List A)) (k : ℕ) → k < length parts →
    length (items_before parts (k + 1)) ≡ length (items_before parts k) + length (page_items parts k)
items_before-next [] k up = absurd (omega arith)
items_before-next (part ∷ parts) zero up = length-append part [] ∙ omega arith
items_before-next (part ∷ parts) (suc k) up =
    let same : suc k + 1 ≡ suc (k + 1) = omega arith in
    let ih = items_before-next parts k (omega arith) in
    let a = length-append part (items_before parts (k + 1)) in
    let b = length-append part (items_before parts k) in
    ap (λ n. length (items_before (part ∷ parts) n)) same ∙ omega arith

-- ---- the bytes of one page

pub page_of_bytes : (kind : PageKind) (parts : List (List Run)) (k : ℕ) → ((m : ℕ) → m < length parts →
    FitsPage kind (page_items parts m)) → k < length parts → page_at (flat_map (page_bytes kind) parts) k ≡ page_bytes
    kind (page_items parts k)
page_of_bytes kind [] k fits up = absurd (omega arith)
page_of_bytes kind (part ∷ parts) zero fits up =
    take_at (page_bytes kind part) (flat_map (page_bytes kind) parts) 512 (length-page kind part (fits 0 (omega arith)))
page_of_bytes kind (part ∷ parts) (suc k) fits up =
    let size = length-page kind part (fits 0 (omega arith)) in
    let rest = flat_map (page_bytes kind) parts in
    let from : 512 * suc k ≡ 512 + 512 * k = omega arith in
    let width : 512 * suc k + 512 - 512 * suc k ≡ 512 * k + 512 - 512 * k = omega arith in
    let skip : drop (512 + 512 * k) (page_bytes kind part ++ rest) ≡ drop (512 * k) rest =
    sym (drop-drop (512 * k) 512 (page_bytes kind part ++ rest)) ∙ ap (drop (512 * k)) (drop_at (page_bytes kind part)
    rest 512 size) in
    ap (λ n. take n (drop (512 * suc k) (page_bytes kind part ++ rest))) width
    ∙ (ap (λ n. take (512 * k + 512 - 512 * k) (drop n (page_bytes kind part ++ rest))) from
    ∙ (ap (take (512 * k + 512 - 512 * k)) skip ∙ page_of_bytes kind parts k (λ m less. fits (suc m) (omega arith))
    (omega arith)))

-- ---- one run

-- where a run is: its page, its number there, and what the page has before it
pub record StandsOnPage (kind : PageKind) (runs : List Run) (parts : List (List Run)) (i : ℕ) (run : Run) : Type 0 where
  pub on : IsOnPage parts i
  pub own : get_or (page_items parts on.page) on.nth run ≡ run
  pub order : AreInOrder (page_items parts on.page)
  pub numbers : All HasRunNumbers (page_items parts on.page)

inner_numbers : (front page back : List Run) → All HasRunNumbers (front ++ (page ++ back)) → All HasRunNumbers page
inner_numbers front page back small k d up =
    let a = length-append page back in
    let b = length-append front (page ++ back) in
    subst HasRunNumbers (inner_run front page back k d up) (small (length front + k) d (omega arith))

stands : (kind : PageKind) (runs : List Run) (parts : List (List Run)) (i : ℕ) (run : Run) → AreInOrder runs →
    All HasRunNumbers runs → runs ≡ joined_pages parts → i < length runs → get_or runs i run ≡ run →
    StandsOnPage kind runs parts i run
stands kind runs parts i run order small joined up own =
    let inside : i < length (joined_pages parts) = rw (← joined) up in
    let on = on_page parts i inside in
    let front = items_before parts on.page in
    let page = page_items parts on.page in
    let back = joined_pages (drop (on.page + 1) parts) in
    let whole : runs ≡ front ++ (page ++ back) = joined ∙ page_between parts on.page on.within in
    record {
      on = on;
      own =
          sym (inner_run front page back on.nth run on.inside)
          ∙ (ap (λ n. get_or (front ++ (page ++ back)) n run) (sym on.place)
          ∙ (ap (λ l. get_or l i run) (sym whole) ∙ own));
      order = inner_in_order front page back (subst AreInOrder whole order);
      numbers = inner_numbers front page back (subst (All HasRunNumbers) whole small);
    }

pub length-starts : (pages : Pages) (parts : List (List Run)) → pages.starts ≡ map first_fc parts →
    length pages.starts ≡ length parts
length-starts pages parts e = ap length e ∙ length-map parts first_fc

-- the page of the run finds it
found_on : (kind : PageKind) (runs : List Run) (pages : Pages) (i fc : ℕ) (run : Run) (are : ArePagesOf kind runs
    pages) (s : StandsOnPage kind runs are.parts i run) → run.from ≤ fc → fc < run.to →
    FindsRun kind (page_at pages.bytes s.on.page) fc run
found_on kind runs pages i fc run are s low high =
    let page = page_items are.parts s.on.page in
    let finds : FindsRun kind (page_bytes kind page) fc (get_or page s.on.nth run) =
    page_finds kind page s.on.nth fc run (are.packed.fitting s.on.page s.on.within) s.order s.numbers s.on.inside
    (subst (λ (x : Run). x.from ≤ fc) (sym s.own) low) (subst (λ (x : Run). fc < x.to) (sym s.own) high) in
    let bytes : page_at pages.bytes s.on.page ≡ page_bytes kind page =
    ap (λ b. page_at b s.on.page) are.bytes ∙ page_of_bytes kind are.parts s.on.page are.packed.fitting s.on.within in
    let there : FindsRun kind (page_bytes kind page) fc run = subst (FindsRun kind (page_bytes kind page) fc) s.own
    finds in
    subst (λ b. FindsRun kind b fc run) (sym bytes) there

stands_there : (kind : PageKind) (runs : List Run) (pages : Pages) (i : ℕ) (run : Run) → AreRuns kind runs →
    All HasRunNumbers runs → (are : ArePagesOf kind runs pages) → slice_get runs i ≡ Some run → StandsOnPage kind
    runs are.parts i run
stands_there kind runs pages i run ordered small are there =
    stands kind runs are.parts i run (in_order kind runs ordered) small are.packed.joined (slice_get_within runs i run
    there) (get_or_from_slice_get runs i run run there)

-- each run is found in one of the pages
pub runs_are_found : (kind : PageKind) (runs : List Run) (pages : Pages) (i : ℕ) (run : Run) (fc : ℕ) →
    AreRuns kind runs → All HasRunNumbers runs → ArePagesOf kind runs pages → slice_get runs i ≡ Some run →
    run.from ≤ fc → fc < run.to → IsRunFoundIn kind pages fc run
runs_are_found kind runs pages i run fc ordered small are there low high =
    let s = stands_there kind runs pages i run ordered small are there in
    record {
      page = s.on.page;
      within = rw (length-starts pages are.parts are.starts) s.on.within;
      finds = found_on kind runs pages i fc run are s low high;
    }

-- ---- through the bin table

-- where a page begins
pub start_is : (runs : List Run) (parts : List (List Run)) (k : ℕ) (d : Run) → runs ≡ joined_pages parts →
    k < length parts → 0 < length (page_items parts k) → slice_index (map first_fc parts) k ≡ (get_or runs
    (length (items_before parts k)) d).from
start_is runs parts k d joined up some =
    let front = items_before parts k in
    let page = page_items parts k in
    let back = joined_pages (drop (k + 1) parts) in
    let whole : runs ≡ front ++ (page ++ back) = joined ∙ page_between parts k up in
    let zero_on : length front + 0 ≡ length front = omega arith in
    let here : get_or runs (length front) d ≡ get_or page 0 d =
    ap (λ l. get_or l (length front) d) whole ∙ (ap (λ n. get_or (front ++ (page ++ back)) n d) (sym zero_on) ∙
    inner_run front page back 0 d some) in
    get_or-map first_fc parts k [] 0 up ∙ (get_or-map (λ (x : Run). x.from) page 0 d 0 some ∙ ap (λ (x : Run). x.from)
    (sym here))

-- the range of the page holds the places of its runs
range_from : (kind : PageKind) (runs : List Run) (pages : Pages) (placement : Placement) (i : ℕ) (run : Run) →
    AreInOrder runs → (are : ArePagesOf kind runs pages) → ArePlaced runs pages placement →
    (s : StandsOnPage kind runs are.parts i run) → i < length runs → get_or runs i run ≡ run → range_fc placement
    s.on.page ≤ run.from
range_from kind runs pages placement i run order are placed s up own =
    let within : s.on.page < length pages.starts = rw (length-starts pages are.parts are.starts) s.on.within in
    let start = placed.starts s.on.page within in
    let fc : slice_index pages.starts s.on.page ≡ (get_or runs (length (items_before are.parts s.on.page)) run).from =
    ap (λ l. slice_index l s.on.page) are.starts ∙ start_is runs are.parts s.on.page run are.packed.joined s.on.within
    (are.packed.some s.on.page s.on.within) in
    let place = s.on.place in
    let low = begins_upto runs (length (items_before are.parts s.on.page)) i run order (omega arith) up in
    let same : (get_or runs i run).from ≡ run.from = ap (λ (x : Run). x.from) own in
    omega arith

range_to : (kind : PageKind) (runs : List Run) (pages : Pages) (placement : Placement) (i : ℕ) (run : Run) →
    AreInOrder runs → (are : ArePagesOf kind runs pages) → ArePlaced runs pages placement →
    (s : StandsOnPage kind runs are.parts i run) → i < length runs → get_or runs i run ≡ run → run.to ≤ slice_index
    (bin_fcs placement.bins placement.end) (placement.first + s.on.page + 1)
range_to kind runs pages placement i run order are placed s up own =
    let k = s.on.page in
    let count = length-starts pages are.parts are.starts in
    let within = s.on.within in
    let next : placement.first + k + 1 ≡ placement.first + (k + 1) = omega arith in
    let same : (get_or runs i run).to ≡ run.to = ap (λ (x : Run). x.to) own in
    let upto : run.to ≤ range_fc placement (k + 1) = elim (cases_lt (k + 1) (length are.parts)) [
      | inl more ↦
          let start = placed.starts (k + 1) (omega arith) in
          let some = are.packed.some (k + 1) more in
          let fc : slice_index pages.starts (k + 1) ≡ (get_or runs (length (items_before are.parts (k + 1))) run).from =
          ap (λ l. slice_index l (k + 1)) are.starts ∙ start_is runs are.parts (k + 1) run are.packed.joined more some
          in
          let before = items_before-next are.parts k within in
          let place = s.on.place in
          let inside = s.on.inside in
          let whole = ap length (are.packed.joined ∙ page_between are.parts (k + 1) more) in
          let a = length-append (items_before are.parts (k + 1)) (page_items are.parts (k + 1) ++ joined_pages
          (drop (k + 1 + 1) are.parts)) in
          let b = length-append (page_items are.parts (k + 1)) (joined_pages (drop (k + 1 + 1) are.parts)) in
          let ends = ends_upto runs i (length (items_before are.parts (k + 1))) run order (omega arith) (omega arith) in
          omega arith
      | inr last ↦
          let all : k + 1 ≡ length pages.starts = omega arith in
          let after : last_fc runs ≤ range_fc placement (k + 1) = rw all placed.after in
          let ends = ends_upto_last runs i run order up in
          omega arith
    ] in
    rw next upto

-- each place has the list of its run
pub places_have_lists : (kind : PageKind) (runs : List Run) (pages : Pages) (placement : Placement) (table : List ℕ)
    (i : ℕ) (run : Run) (fc : ℕ) → AreRuns kind runs → All HasRunNumbers runs → ArePagesOf kind runs pages →
    ArePlaced runs pages placement → IsBinTableOf placement.bins placement.end table → slice_get runs i ≡ Some run →
    run.from ≤ fc → fc < run.to → HasListAt kind table placement.wd fc (run_list kind run)
places_have_lists kind runs pages placement table i run fc ordered small are placed is_table there low high =
    let order = in_order kind runs ordered in
    let up = slice_get_within runs i run there in
    let own = get_or_from_slice_get runs i run run there in
    let s = stands_there kind runs pages i run ordered small are there in
    let k = s.on.page in
    let finds = found_on kind runs pages i fc run are s low high in
    let within : k < length pages.starts = rw (length-starts pages are.parts are.starts) s.on.within in
    let room = placed.within in
    let from = range_from kind runs pages placement i run order are placed s up own in
    let to = range_to kind runs pages placement i run order are placed s up own in
    let bytes = placed.bytes k within in
    let number = range_page placement k in
    let here : FindsRun kind (page_at placement.wd number) fc run = subst (λ b. FindsRun kind b fc run) (sym bytes)
    finds in
    record {
      number = number;
      named = is_table.found (placement.first + k) fc (omega arith) (omega arith) (omega arith);
      within = placed.inside k within;
      answer = here.answer;
      answers = here.answers;
      answered = here.list;
    }
