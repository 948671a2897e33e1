-- Where lists are in a page, and in one that differs in ranges of lists alone.
use Rattle.std.proofs.Common.{◌≡◌, inl, inr, ℕ, ◌+◌, ◌*◌, ◌<◌, ◌≤◌, ◌==◌, true, false, List, length}
use Rattle.std.proofs.Common.{slice_index, refl, sym, ap, ◌∙◌, subst, arith}
use Rattle.std.specs.Prelude.{if◌then◌else◌}
use Rattle.fkp_pages.specs.declared.kind.PageKind.{PageKind}
use Rattle.fkp_pages.specs.declared.kind.PageKind.TheVariants.{Chpx, Papx}
use Rattle.fkp_pages.specs.Fkp.{run_entry_size, page_run_count, run_entry_place, entry_byte, list_from, list_to}
use Rattle.fkp_pages.specs.Fkp.{least_list}
use Rattle.fkp_pages.specs.Fkp.{HasRunCount}
use Rattle.page_copies.specs.declared.places.ListPlace.{ListPlace}
use Rattle.page_copies.specs.Places.{IsPlaceOf, StandsClear, HasListsApart, IsInNoList}

-- a list begins behind its head
pub from_above : (page : List ℕ) (at : ℕ) → at < list_from Papx page at
from_above page at =
    elim (slice_index page at == 0) as (λ r. at < (if r then at + 2 else at + 1)) [
      | true ↦ omega arith
      | false ↦ omega arith
    ]

pub above : (kind : PageKind) (page : List ℕ) (at : ℕ) → at < list_from kind page at
above Chpx page at = omega arith
above Papx page at = from_above page at

-- the numbers at the head of a list say where it is
pub heads_same : (kind : PageKind) (old now : List ℕ) (at : ℕ) →
    ((i : ℕ) → at ≤ i → i < list_from kind old at → slice_index now i ≡ slice_index old i) →
    (list_from kind now at ≡ list_from kind old at) × (list_to kind now at ≡ list_to kind old at)
heads_same Chpx old now at same =
    (refl, ap (λ b. at + 1 + b) (same at (omega arith) (omega arith)))
heads_same Papx old now at same =
    let long : at < list_from Papx old at = from_above old at in
    let first = same at (omega arith) long in
    elim (slice_index old at == 0) as
    (λ r. (slice_index old at == 0) ≡ r → (list_from Papx now at ≡ list_from Papx old at) × (list_to Papx now at ≡
    list_to
    Papx old at)) [
      | true ↦ λ e.
          let f : list_from Papx old at ≡ at + 2 = rw e refl in
          let second = same (at + 1) (omega arith) (omega arith) in
          rw (first, e) (refl, ap (λ b. at + 2 + 2 * b) second)
      | false ↦ λ e. rw (first, e) (refl, refl)
    ] refl

-- a run's list is at one place
same_place : (one other : ListPlace) → one.at ≡ other.at → one.from ≡ other.from → one.to ≡ other.to → one ≡ other
same_place one other a b c =
    let first : one ≡ record { at = other.at; from = one.from; to = one.to } =
    ap (λ n. record { at = n; from = one.from; to = one.to }) a in
    let second : record { at = other.at; from = one.from; to = one.to } ≡ record
    { at = other.at; from = other.from; to = one.to } = ap (λ n. record { at = other.at; from = n; to = one.to }) b in
    let third : record { at = other.at; from = other.from; to = one.to } ≡ other =
    ap (λ n. record { at = other.at; from = other.from; to = n }) c in
    first ∙ (second ∙ third)

-- two lists at one place are one
pub place_by_at : (kind : PageKind) (page : List ℕ) (run other : ℕ) (p q : ListPlace) → IsPlaceOf kind page run p →
    IsPlaceOf kind page other q → p.at ≡ q.at → p ≡ q
place_by_at kind page run other p q a b e =
    let same = sym a.at ∙ (e ∙ b.at) in
    same_place p q e (a.list.starts ∙ (ap (list_from kind page) same ∙ sym b.list.starts))
    (a.list.ends ∙ (ap (list_to kind page) same ∙ sym b.list.ends))

pub place_one : (kind : PageKind) (page : List ℕ) (run : ℕ) (p q : ListPlace) → IsPlaceOf kind page run p →
    IsPlaceOf kind page run q → p ≡ q
place_one kind page run p q a b = place_by_at kind page run run p q a b (a.at ∙ sym b.at)

-- each list of the page is clear
pub clear_of : (kind : PageKind) (page : List ℕ) (run : ℕ) (p : ListPlace) → HasListsApart kind page →
    run < page_run_count page → IsPlaceOf kind page run p → StandsClear kind page p
clear_of kind page run p apart low is = elim (apart run low) [
  | inl none ↦ absurd (is.list.some none)
  | inr has ↦ subst (StandsClear kind page) (place_one kind page run has.place p has.is is) has.clear
]

-- its head is before it, and it ends before the count
pub record IsInOrder (kind : PageKind) (p : ListPlace) : Type 0 where
  pub head : p.at < p.from
  pub order : p.from + least_list kind ≤ p.to
  pub within : p.to ≤ 511

pub in_order : (kind : PageKind) (page : List ℕ) (run : ℕ) (p : ListPlace) → IsPlaceOf kind page run p →
    IsInOrder kind p
in_order kind page run p is =
    let at = is.at in
    let starts = is.list.starts in
    let ends = is.list.ends in
    let head = above kind page (2 * entry_byte kind page run) in
    let room = is.list.within.room in
    let within = is.list.within.within in
    record { head = omega arith; order = omega arith; within = omega arith }

-- the page has other numbers in ranges of lists alone
pub record ChangesLists (kind : PageKind) (old now : List ℕ) : Type 0 where
  pub size : length now ≡ length old
  pub outside : (i : ℕ) → IsInNoList kind old i → slice_index now i ≡ slice_index old i

-- fcs and entries, the count, and the heads of lists are outside
front_outside : (kind : PageKind) (old : List ℕ) (i : ℕ) → HasListsApart kind old →
    i < run_entry_place kind old (page_run_count old) → IsInNoList kind old i
front_outside kind old i apart low run p there is =
    let behind = (clear_of kind old run p apart there is).behind in
    let head = (in_order kind old run p is).head in
    inl (omega arith)

count_outside : (kind : PageKind) (old : List ℕ) → IsInNoList kind old 511
count_outside kind old run p there is = let within = (in_order kind old run p is).within in inr (omega arith)

head_outside : (kind : PageKind) (old : List ℕ) (run : ℕ) (p : ListPlace) (i : ℕ) → HasListsApart kind old →
    run < page_run_count old → IsPlaceOf kind old run p → p.at ≤ i → i < p.from → IsInNoList kind old i
head_outside kind old run p i apart low is from to other q there at =
    let mine = in_order kind old run p is in
    let its = in_order kind old other q at in
    let order = mine.order in
    let head = its.head in
    elim ((clear_of kind old run p apart low is).apart other there q at) [
      | inl same ↦ let e = ap (λ (x : ListPlace). x.from) (place_by_at kind old run other p q is at same) in inl
          (omega arith)
      | inr either ↦ elim either [ inl before ↦ inl (omega arith) | inr after ↦ inr (omega arith) ]
    ]

pub count_stays : (kind : PageKind) (old now : List ℕ) → ChangesLists kind old now → page_run_count now ≡ page_run_count
    old
count_stays kind old now c = c.outside 511 (count_outside kind old)

-- the entries are one after the other
pub entry_low : (kind : PageKind) (page : List ℕ) (run : ℕ) → run < page_run_count page →
    run_entry_place kind page run < run_entry_place kind page (page_run_count page)
entry_low Chpx page run low = omega arith
entry_low Papx page run low = omega arith

-- the entries end before the count
pub entries_inside : (kind : PageKind) (page : List ℕ) → HasRunCount kind page →
    run_entry_place kind page (page_run_count page) ≤ 512
entries_inside Chpx page h = let most = h.most in omega arith
entries_inside Papx page h = let most = h.most in omega arith

pub entry_stays : (kind : PageKind) (old now : List ℕ) (run : ℕ) → ChangesLists kind old now → HasListsApart kind old →
    run < page_run_count old → entry_byte kind now run ≡ entry_byte kind old run
entry_stays kind old now run c apart low =
    ap (λ n. slice_index now (4 * (n + 1) + run_entry_size kind * run)) (count_stays kind old now c)
    ∙ c.outside (run_entry_place kind old run)
    (front_outside kind old (run_entry_place kind old run) apart (entry_low kind old run low))

-- a list is where it stood
pub place_stays : (kind : PageKind) (old now : List ℕ) (run : ℕ) (p : ListPlace) → ChangesLists kind old now →
    HasListsApart kind old → run < page_run_count old → IsPlaceOf kind old run p → IsPlaceOf kind now run p
place_stays kind old now run p c apart low is =
    let entry = entry_stays kind old now run c apart low in
    let starts = is.list.starts in
    let at = is.at in
    let heads = heads_same kind old now (2 * entry_byte kind old run) (λ i from to.
    c.outside i (head_outside kind old run p i apart low is (omega arith) (omega arith))) in
    let from = ap (list_from kind now) (ap (λ n. 2 * n) entry) ∙ heads.0 in
    let to = ap (list_to kind now) (ap (λ n. 2 * n) entry) ∙ heads.1 in
    let room = is.list.within.room in
    let within = is.list.within.within in
    record {
      at = at ∙ ap (λ n. 2 * n) (sym entry);
      list = record {
        some = λ none. is.list.some (sym entry ∙ none);
        starts = starts ∙ sym from;
        ends = is.list.ends ∙ sym to;
        within = record { room = omega arith; within = omega arith };
      };
    }

-- and stood where it is
pub place_stood : (kind : PageKind) (old now : List ℕ) (run : ℕ) (p : ListPlace) → ChangesLists kind old now →
    HasListsApart kind old → run < page_run_count old → IsPlaceOf kind now run p → IsPlaceOf kind old run p
place_stood kind old now run p c apart low is = elim (apart run low) [
  | inl none ↦ absurd (is.list.some (entry_stays kind old now run c apart low ∙ none))
  | inr has ↦ subst (IsPlaceOf kind old run)
      (place_one kind now run has.place p (place_stays kind old now run has.place c apart low has.is) is) has.is
]

pub front_stays : (kind : PageKind) (old now : List ℕ) (i : ℕ) → ChangesLists kind old now → HasListsApart kind old →
    i < run_entry_place kind old (page_run_count old) → slice_index now i ≡ slice_index old i
front_stays kind old now i c apart low = c.outside i (front_outside kind old i apart low)
