-- Entries in the order of their names, each name once.
use Rattle.std.proofs.Common.{◌≡◌, inl, inr, ℕ, ◌+◌, ◌-◌, ◌<◌, List, [], length, slice_index, sym, ap, ◌∙◌, subst}
use Rattle.std.proofs.Common.{arith}
use Rattle.std.specs.List.{insert}
use Rattle.std.proofs.lemmas.Bool.{cases_lt, cases_eq, cases_order}
use Rattle.std.proofs.lemmas.List.Edits.{get_or-insert_at, length-insert}
use Rattle.doc_bits.specs.Rules.{Nowhere}
use Rattle.cfb_sectors.specs.SectorChain.{HasSector}
use Rattle.cfb_directory.specs.Directory.{entry_name_length, EntryBefore, HaveOneName}
use Rattle.cfb_directory.specs.Reach.{entry_place, entry_count, IsReachedEntry, ListsReached, BreaksName}
use Rattle.cfb_directory.specs.Reach.{IsWrongNameLength}
use Rattle.cfb_directory.specs.Order.{AreOrdered, IsFirstAfter, IsNameInFront, IsNewName}
use Rattle.cfb_directory.proofs.NameLemmas.{before_apart}
use Rattle.cfb_directory.proofs.OrderLemmas.{all_insert, before_other, before_trans, has_insert, one_name-sym}
use Rattle.cfb_directory.proofs.OrderLemmas.{order_insert}

-- the first `count` entries that are reached, in the order of their names, which have right lengths
pub record NamesFront (file directory reached : List ℕ) (count : ℕ) (sorted : List ℕ) : Type 0 where
  pub within : (i : ℕ) → i < length sorted → slice_index sorted i < entry_count directory
  pub order : AreOrdered file directory sorted
  pub complete : (k : ℕ) → k < count → HasSector sorted (slice_index reached k)
  pub right : (k : ℕ) → k < count →
      ¬ IsWrongNameLength (entry_name_length file (entry_place directory (slice_index reached k)))

pub names_none : (file directory reached : List ℕ) → NamesFront file directory reached 0 []
names_none file directory reached = record {
  within = λ i low. absurd (omega arith);
  order = λ i j less low. absurd (omega arith);
  complete = λ k low. absurd (omega arith);
  right = λ k low wrong. omega arith;
}

-- a name that is not that of the entry in front of its place is that of none
pub fresh_name : (file directory entries : List ℕ) (entry place : ℕ) → AreOrdered file directory entries →
    IsFirstAfter file directory entries entry place →
    ¬ IsNameInFront file directory entries place (entry_place directory entry) → (i : ℕ) → i < length entries →
    ¬ HaveOneName file (entry_place directory entry) (entry_place directory (slice_index entries i))
fresh_name file directory entries entry place order first not i low one =
    let at : ℕ → ℕ = λ k. entry_place directory (slice_index entries k) in
    let new : ℕ = entry_place directory entry in
    let inside = first.inside in
    elim (cases_order i (place - 1)) [
      | inl front ↦ elim (cases_lt 0 place) [
        | inl some ↦
            not (some, one_name-sym file new (at (place - 1)) (subst (λ k. HaveOneName file new (at k)) front one))
        | inr none ↦
            let here : i ≡ place = omega arith in
            before_apart file new (at i)
            (subst (λ k. EntryBefore file new (at k)) (sym here) (first.after (omega arith))) one
      ]
      | inr other ↦ elim other [
        | inl less ↦
            let last : EntryBefore file (at (place - 1)) new = before_other file new (at (place - 1))
            (first.before (place - 1) (omega arith)) (λ same.
            not (omega arith, one_name-sym file new (at (place - 1)) same)) in
            before_apart file (at i) new
            (before_trans file (at i) (at (place - 1)) new (order i (place - 1) less (omega arith)) last)
            (one_name-sym file new (at i) one)
        | inr more ↦
            let here : EntryBefore file new (at place) = first.after (omega arith) in
            elim (cases_eq i place) [
              | inl same ↦ before_apart file new (at i) (subst (λ k. EntryBefore file new (at k)) (sym same) here) one
              | inr apart ↦
                  before_apart file new (at i)
                  (before_trans file new (at place) (at i) here (order place i (omega arith) low)) one
            ]
      ]
    ]

-- one entry more
pub names_more : (file directory reached sorted : List ℕ) (count place : ℕ) → ListsReached file directory reached →
    count < length reached → NamesFront file directory reached count sorted →
    IsNewName file directory sorted (slice_index reached count) place →
    NamesFront file directory reached (count + 1) (insert sorted place (slice_index reached count))
names_more file directory reached sorted count place lists low f new =
    let entry : ℕ = slice_index reached count in
    let inside = new.first.inside in
    let here : HasSector (insert sorted place entry) entry = record {
      index = place;
      inside = omega (arith, length-insert sorted place entry inside, inside);
      here = get_or-insert_at sorted place entry 0 inside;
    } in
    record {
      within = all_insert (λ k. k < entry_count directory) sorted place entry inside f.within
          (lists.within count low).1;
      order = order_insert file directory sorted entry place f.order new.first new.fresh;
      complete = λ k less. elim (cases_lt k count) [
        | inl old ↦ has_insert sorted place entry (slice_index reached k) inside (f.complete k old)
        | inr last ↦
            let same : count ≡ k = omega arith in
            subst (λ i. HasSector (insert sorted place entry) (slice_index reached i)) same here
      ];
      right = λ k less. elim (cases_lt k count) [
        | inl old ↦ f.right k old
        | inr last ↦
            let same : count ≡ k = omega arith in
            subst (λ i. ¬ IsWrongNameLength (entry_name_length file (entry_place directory (slice_index reached i)))) same
            new.right
      ];
    }

-- a list of all entries that are reached has each of them
sorted_has : (file directory reached sorted : List ℕ) (k : ℕ) → ListsReached file directory reached →
    NamesFront file directory reached (length reached) sorted → IsReachedEntry file directory k → HasSector sorted k
sorted_has file directory reached sorted k lists f is =
    let has = lists.complete k is in
    subst (HasSector sorted) has.here (f.complete has.index has.inside)

-- two entries of one name are one
one_entry : (file directory sorted : List ℕ) (a b : ℕ) → AreOrdered file directory sorted → HasSector sorted a →
    HasSector sorted b → HaveOneName file (entry_place directory a) (entry_place directory b) → a ≡ b
one_entry file directory sorted a b order x y one =
    let before : ℕ → ℕ → Type 0 = λ k l. EntryBefore file (entry_place directory k) (entry_place directory l) in
    elim (cases_order x.index y.index) [
      | inl same ↦ sym x.here ∙ ap (λ i. slice_index sorted i) same ∙ y.here
      | inr other ↦ elim other [
        | inl less ↦
            let apart : before a b = subst (λ k. before k b) x.here
            (subst (before (slice_index sorted x.index)) y.here (order x.index y.index less y.inside)) in
            absurd (before_apart file (entry_place directory a) (entry_place directory b) apart one)
        | inr more ↦
            let apart : before b a = subst (λ k. before k a) y.here
            (subst (before (slice_index sorted y.index)) x.here (order y.index x.index more x.inside)) in
            absurd
            (before_apart file (entry_place directory b) (entry_place directory a) apart
            (one_name-sym file (entry_place directory a) (entry_place directory b) one))
      ]
    ]

-- where all entries that are reached are in the order of their names rule 9 holds
pub names_distinct : (file directory reached sorted : List ℕ) → ListsReached file directory reached →
    NamesFront file directory reached (length reached) sorted → Nowhere (BreaksName file directory)
names_distinct file directory reached sorted lists f place breaks =
    let has = lists.complete breaks.entry breaks.reached in
    elim breaks.broken.wrong [
      | inl wrong ↦
          f.right has.index has.inside
          (subst (λ k. IsWrongNameLength (entry_name_length file (entry_place directory k))) (sym has.here) wrong)
      | inr taken ↦
          let below = taken.below in
          let same : taken.earlier ≡ breaks.entry = one_entry file directory sorted taken.earlier breaks.entry f.order
          (sorted_has file directory reached sorted taken.earlier lists f taken.reached)
          (sorted_has file directory reached sorted breaks.entry lists f breaks.reached) taken.same in
          let one : entry_place directory taken.earlier ≡ entry_place directory breaks.entry =
          ap (λ k. entry_place directory k) same in
          omega (arith, one, below)
    ]
