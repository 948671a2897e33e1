-- Pages as a whole: their size, and their first fcs.
use Rattle.std.proofs.Common.{◌≡◌, inl, inr, ℕ, suc, ◌+◌, ◌*◌, ◌<◌, ◌≤◌, List, [], ◌∷◌, ◌++◌, length, map, drop}
use Rattle.std.proofs.Common.{get_or, refl, sym, ap, ◌∙◌, arith, length-append}
use Rattle.std.specs.Prelude.{slice_index}
use Rattle.std.specs.List.{flat_map}
use Rattle.std.proofs.lemmas.Bool.{cases_lt}
use Rattle.std.proofs.lemmas.List.{get_or-map, get_or_append_left, get_or_at}
use Rattle.fkp_pages.specs.declared.kind.PageKind.{PageKind}
use Rattle.fkp_pages.specs.declared.lists.Run.{Run}
use Rattle.fkp_pages.specs.declared.packing.Pages.{Pages}
use Rattle.fkp_pages.specs.Runs.{IsWritableRun, AreRuns}
use Rattle.fkp_pages.specs.Packing.{page_items, joined_pages, IsPacking}
use Rattle.fkp_pages.specs.PageBytes.{FitsPage, last_fc, page_bytes}
use Rattle.fkp_pages.specs.Pages.{first_fc, ArePagesOf, AreWholePages}
use Rattle.fkp_pages.proofs.PackingLemmas.{packing_unique}
use Rattle.fkp_pages.proofs.LimitLemmas.{fits_front, fits_one}
use Rattle.fkp_pages.proofs.PageShape.{length-page}
use Rattle.fkp_pages.proofs.OrderLemmas.{AreInOrder, in_order, ends_upto, ends_upto_last}
use Rattle.fkp_pages.proofs.FoundPages.{items_before, page_between, items_before-next, length-starts, start_is}

pub packing_is_one : (kind : PageKind) (runs : List Run) (one other : List (List Run)) → IsPacking (FitsPage kind)
    runs one → IsPacking (FitsPage kind) runs other → one ≡ other
packing_is_one kind runs one other a b = packing_unique (FitsPage kind) runs one other (fits_front kind) a b

pub pages_are_one : (kind : PageKind) (runs : List Run) (one other : Pages) → ArePagesOf kind runs one →
    ArePagesOf kind runs other → one ≡ other
pages_are_one kind runs one other a b =
    let parts : a.parts ≡ b.parts = packing_is_one kind runs a.parts b.parts a.packed b.packed in
    let bytes : one.bytes ≡ other.bytes = a.bytes ∙ (ap (flat_map (page_bytes kind)) parts ∙ sym b.bytes) in
    let starts : one.starts ≡ other.starts = a.starts ∙ (ap (map first_fc) parts ∙ sym b.starts) in
    ap (λ x. record one { bytes = x }) bytes ∙ ap (λ x. record other { starts = x }) starts

pub run_fits_alone : (kind : PageKind) (run : Run) → IsWritableRun kind run → FitsPage kind (run ∷ [])
run_fits_alone = fits_one

-- pages that fit have 512 bytes each
length-pages : (kind : PageKind) (parts : List (List Run)) → ((m : ℕ) → m < length parts →
    FitsPage kind (page_items parts m)) → length (flat_map (page_bytes kind) parts) ≡ 512 * length parts
length-pages kind [] fits = refl
length-pages kind (part ∷ parts) fits =
    let size = length-page kind part (fits 0 (omega arith)) in
    let ih = length-pages kind parts (λ m less. fits (suc m) (omega arith)) in
    omega (arith, length-append (page_bytes kind part) (flat_map (page_bytes kind) parts))

-- pages that have some items each are at most as many as the items
few_pages : {A : Type 0} (parts : List (List A)) → ((m : ℕ) → m < length parts → 0 < length (page_items parts m)) →
    length parts ≤ length (joined_pages parts)
few_pages [] some = omega arith
few_pages (part ∷ parts) some =
    let one : 0 < length part = some 0 (omega arith) in
    let ih = few_pages parts (λ m less. some (suc m) (omega arith)) in
    omega (arith, length-append part (joined_pages parts))

some_pages : {A : Type 0} (parts : List (List A)) → 0 < length (joined_pages parts) → 0 < length parts
some_pages [] h = h
some_pages (part ∷ parts) h = omega arith

-- the first items of a page are among the items
begins_within : {A : Type 0} (parts : List (List A)) (k : ℕ) → k < length parts → 0 < length (page_items parts k) →
    length (items_before parts k) < length (joined_pages parts)
begins_within parts k up some =
    let whole = ap length (page_between parts k up) in
    let a = length-append (items_before parts k) (page_items parts k ++ joined_pages (drop (k + 1) parts)) in
    let b = length-append (page_items parts k) (joined_pages (drop (k + 1) parts)) in
    omega arith

-- the first fc of a page is below that of the next one, or the end
starts_ascend : (runs : List Run) (parts : List (List Run)) (starts : List ℕ) (d : Run) (k : ℕ) → AreInOrder runs →
    runs ≡ joined_pages parts → ((m : ℕ) → m < length parts → 0 < length (page_items parts m)) → starts ≡ map first_fc
    parts → length starts ≡ length parts → k < length parts → slice_index (starts ++ last_fc runs ∷ []) k <
    slice_index (starts ++ last_fc runs ∷ []) (k + 1)
starts_ascend runs parts starts d k order joined some are count up =
    let i = length (items_before parts k) in
    let here : slice_index (starts ++ last_fc runs ∷ []) k ≡ (get_or runs i d).from =
    get_or_append_left starts (last_fc runs ∷ []) 0 k (omega arith) ∙ (ap (λ l. slice_index l k) are ∙ start_is runs
    parts k d joined up (some k up)) in
    let all = ap length joined in
    let within = begins_within parts k up (some k up) in
    let inside = some k up in
    let begins = order.order i d (omega arith) in
    elim (cases_lt (k + 1) (length parts)) [
      | inl more ↦
          let j = length (items_before parts (k + 1)) in
          let there : slice_index (starts ++ last_fc runs ∷ []) (k + 1) ≡ (get_or runs j d).from =
          get_or_append_left starts (last_fc runs ∷ []) 0 (k + 1) (omega arith) ∙ (ap (λ l. slice_index l (k + 1)) are
          ∙ start_is runs parts (k + 1) d joined more (some (k + 1) more)) in
          let next = items_before-next parts k up in
          let beyond = begins_within parts (k + 1) more (some (k + 1) more) in
          let ends = ends_upto runs i j d order (omega arith) (omega arith) in
          omega arith
      | inr last ↦
          let end : slice_index (starts ++ last_fc runs ∷ []) (k + 1) ≡ last_fc runs = get_or_at starts (last_fc runs)
          [] 0 (k + 1) (omega arith) in
          let ends = ends_upto_last runs i d order (omega arith) in
          omega arith
    ]

first_start : (runs : List Run) (parts : List (List Run)) (d : Run) → runs ≡ joined_pages parts → 0 < length parts →
    0 < length (page_items parts 0) → 0 < length runs → slice_index (map first_fc parts) 0 ≡ first_fc runs
first_start runs parts d joined up some any = start_is runs parts 0 d joined up some ∙ sym (get_or-map (λ (x : Run).
    x.from) runs 0 d 0 any)

-- some run of a list that is not empty
ascends_by : (runs : List Run) (parts : List (List Run)) (starts : List ℕ) (k : ℕ) → AreInOrder runs →
    runs ≡ joined_pages parts → ((m : ℕ) → m < length parts → 0 < length (page_items parts m)) → starts ≡ map first_fc
    parts → length starts ≡ length parts → k < length parts → slice_index (starts ++ last_fc runs ∷ []) k <
    slice_index (starts ++ last_fc runs ∷ []) (k + 1)
ascends_by [] parts starts k order joined some are count up =
    let within = begins_within parts k up (some k up) in
    let all = ap length joined in
    absurd (omega arith)
ascends_by (run ∷ runs) parts starts k order joined some are count up = starts_ascend (run ∷ runs) parts starts run k
    order joined some are count up

first_by : (runs : List Run) (parts : List (List Run)) → runs ≡ joined_pages parts → ((m : ℕ) → m < length parts →
    0 < length (page_items parts m)) → 0 < length runs → slice_index (map first_fc parts) 0 ≡ first_fc runs
first_by [] parts joined some any = absurd (omega arith)
first_by (run ∷ runs) parts joined some any =
    let all = ap length joined in
    let up = some_pages parts (omega arith) in
    first_start (run ∷ runs) parts run joined up (some 0 up) any

pub pages_are_whole : (kind : PageKind) (runs : List Run) (pages : Pages) → AreRuns kind runs → ArePagesOf kind runs
    pages → AreWholePages runs pages
pages_are_whole kind runs pages ordered are =
    let count = length-starts pages are.parts are.starts in
    let joined = are.packed.joined in
    let all = ap length joined in
    let few = few_pages are.parts are.packed.some in
    record {
      size = ap length are.bytes ∙ (length-pages kind are.parts are.packed.fitting ∙ ap (λ n. 512 * n) (sym count));
      few = omega arith;
      some = λ any. let some = some_pages are.parts (omega arith) in omega arith;
      first = λ any. ap (λ l. slice_index l 0) are.starts ∙ first_by runs are.parts joined are.packed.some any;
      ascend = λ k up. ascends_by runs are.parts pages.starts k (in_order kind runs ordered) joined are.packed.some
          are.starts count (omega arith);
    }
