-- The entries that the root reaches: a list that grows, and when it is closed.
use Rattle.std.proofs.Common.{◌≡◌, inl, inr, ℕ, ◌+◌, ◌<◌, ◌≤◌, Bool, Option, List, []}
use Rattle.std.proofs.Common.{length, slice_index, sym, ap, ◌∙◌, subst, arith}
use Rattle.std.proofs.lemmas.Bool.{cases_lt}
use Rattle.cfb_sectors.specs.SectorChain.{HasSector}
use Rattle.cfb_directory.specs.Directory.{entry_left, entry_right, entry_child}
use Rattle.cfb_directory.specs.Seen.{IsSeen, FollowsLink}
use Rattle.cfb_directory.specs.Reach.{entry_place, entry_count, IsLinkedEntry, IsReachedEntry, child, left, right}
use Rattle.cfb_directory.specs.Reach.{ListsReached}
use Rattle.cfb_directory.specs.Reach.{AmongReached}
use Rattle.doc_bits.specs.Rules.{Among, LeastOrNone}
use Rattle.doc_bits.proofs.Public.{least_same, length_below}

-- what is in the old list is in the new one
pub follows_has : (count link : ℕ) (old new : List ℕ) (k : ℕ) → FollowsLink count link old new → HasSector old k →
    HasSector new k
follows_has count link old new k f has =
    let longer = f.longer in let inside = has.inside in
    record { index = has.index; inside = omega arith; here = f.front has.index has.inside ∙ has.here }

-- the list has only entries that are reached, the root's child, and what the first `next` of it name
pub record IsClosedTo (file directory order : List ℕ) (next : ℕ) : Type 0 where
  pub sound : (i : ℕ) → i < length order → IsReachedEntry file directory (slice_index order i)
  pub first : IsLinkedEntry directory (entry_child file (entry_place directory 0)) → HasSector order
      (entry_child file (entry_place directory 0))
  pub lefts : (i : ℕ) → i < next → IsLinkedEntry directory (entry_left file (entry_place directory (slice_index order
      i))) →
      HasSector order (entry_left file (entry_place directory (slice_index order i)))
  pub rights : (i : ℕ) → i < next → IsLinkedEntry directory (entry_right file (entry_place directory (slice_index order
      i))) →
      HasSector order (entry_right file (entry_place directory (slice_index order i)))
  pub short : next ≤ length order

-- what holds of all old entries and of the link's holds of all new ones
follows_all : (P : ℕ → Type 0) (directory : List ℕ) (count link : ℕ) (old new : List ℕ) → FollowsLink count link old new
    →
    ((i : ℕ) → i < length new → IsLinkedEntry directory (slice_index new i)) →
    ((i : ℕ) → i < length old → P (slice_index old i)) → (IsLinkedEntry directory link → P link) → (i : ℕ) → i < length
    new →
    P (slice_index new i)
follows_all P directory count link old new f within all base i h = elim (cases_lt i (length old)) [
  | inl lo ↦ subst P (sym (f.front i lo)) (all i lo)
  | inr hi ↦ let e = f.added i hi h in subst P (sym e) (base (subst (IsLinkedEntry directory) e (within i h)))
]

-- the child alone
pub closed_begin : (file directory order : List ℕ) (link count : ℕ) →
    link ≡ entry_child file (entry_place directory 0) → count ≡ entry_count directory → FollowsLink count link [] order
    →
    ((i : ℕ) → i < length order → IsLinkedEntry directory (slice_index order i)) → IsClosedTo file directory order 0
closed_begin file directory order link count e n f within = record {
  sound = follows_all (IsReachedEntry file directory) directory count link [] order f within (λ i h. absurd (omega
      arith))
      (λ there. child link (sym e) there);
  first = λ there. subst (HasSector order) e
      (f.there (subst (λ k. 0 < k) (sym e) there.0) (let high = there.1 in omega arith));
  lefts = λ i h. absurd (omega arith);
  rights = λ i h. absurd (omega arith);
  short = omega arith;
}

-- one entry more, with its two links
pub closed_step : (file directory old mid new : List ℕ) (next l r count other : ℕ) →
    IsClosedTo file directory old next → next < length old →
    l ≡ entry_left file (entry_place directory (slice_index old next)) →
    r ≡ entry_right file (entry_place directory (slice_index old next)) → count ≡ entry_count directory →
    other ≡ entry_count directory → FollowsLink count l old mid → FollowsLink other r mid new →
    ((i : ℕ) → i < length mid → IsLinkedEntry directory (slice_index mid i)) →
    ((i : ℕ) → i < length new → IsLinkedEntry directory (slice_index new i)) → IsClosedTo file directory new (next + 1)
closed_step file directory old mid new next l r count other c low le re n n2 f g within_mid within_new =
    let longer = f.longer in let longer2 = g.longer in
    let at : (i : ℕ) → i < length old →
    slice_index new i ≡ slice_index old i = λ i h. g.front i (omega arith) ∙ f.front i h in
    let has : (k : ℕ) → HasSector old k →
    HasSector new k = λ k h. follows_has other r mid new k g (follows_has count l old mid k f h) in
    let sound_mid = follows_all (IsReachedEntry file directory) directory count l old mid f within_mid c.sound
    (λ there. left (slice_index old next) l (c.sound next low) (sym le) there) in
    let put : (k : ℕ) → k ≡ next →
    slice_index new k ≡ slice_index old next = λ k e. ap (λ i. slice_index new i) e ∙ at next low in
    let short = c.short in
    record {
      sound = follows_all (IsReachedEntry file directory) directory other r mid new g within_new sound_mid
          (λ there. right (slice_index old next) r (c.sound next low) (sym re) there);
      first = λ there. has (entry_child file (entry_place directory 0)) (c.first there);
      lefts = λ i h there. elim (cases_lt i next) [
        | inl lo ↦
            let e = at i (omega arith) in
            subst (λ x. HasSector new (entry_left file (entry_place directory x))) (sym e)
            (has _ (c.lefts i lo (subst (λ x. IsLinkedEntry directory (entry_left file (entry_place directory x))) e
            there)))
        | inr hi ↦
            let e : slice_index new i ≡ slice_index old next = put i (omega arith) in
            let there2 : IsLinkedEntry directory l = subst (IsLinkedEntry directory) (sym le)
            (subst (λ x. IsLinkedEntry directory (entry_left file (entry_place directory x))) e there) in
            subst (λ x. HasSector new (entry_left file (entry_place directory x))) (sym e)
            (subst (HasSector new) le (follows_has other r mid new l g
            (f.there there2.0 (let high = there2.1 in omega arith))))
      ];
      rights = λ i h there. elim (cases_lt i next) [
        | inl lo ↦
            let e = at i (omega arith) in
            subst (λ x. HasSector new (entry_right file (entry_place directory x))) (sym e)
            (has _ (c.rights i lo (subst (λ x. IsLinkedEntry directory (entry_right file (entry_place directory x))) e
            there)))
        | inr hi ↦
            let e : slice_index new i ≡ slice_index old next = put i (omega arith) in
            let there2 : IsLinkedEntry directory r = subst (IsLinkedEntry directory) (sym re)
            (subst (λ x. IsLinkedEntry directory (entry_right file (entry_place directory x))) e there) in
            subst (λ x. HasSector new (entry_right file (entry_place directory x))) (sym e)
            (subst (HasSector new) re (g.there there2.0 (let high = there2.1 in omega arith)))
      ];
      short = omega arith;
    }

-- a list that is closed has each entry that is reached
pub closed_complete : (file directory order : List ℕ) (next : ℕ) {k : ℕ} → IsClosedTo file directory order next →
    length order ≤ next → IsReachedEntry file directory k → HasSector order k
closed_complete file directory order next c high (child k e there) = subst (HasSector order) e
    (c.first (subst (IsLinkedEntry directory) (sym e) there))
closed_complete file directory order next c high (left from k r e there) =
    let has = closed_complete file directory order next c high r in
    let inside = has.inside in
    let same : entry_left file (entry_place directory (slice_index order has.index)) ≡ k =
    ap (λ x. entry_left file (entry_place directory x)) has.here ∙ e in
    subst (HasSector order) same (c.lefts has.index (omega arith) (subst (IsLinkedEntry directory) (sym same) there))
closed_complete file directory order next c high (right from k r e there) =
    let has = closed_complete file directory order next c high r in
    let inside = has.inside in
    let same : entry_right file (entry_place directory (slice_index order has.index)) ≡ k =
    ap (λ x. entry_right file (entry_place directory x)) has.here ∙ e in
    subst (HasSector order) same (c.rights has.index (omega arith) (subst (IsLinkedEntry directory) (sym same) there))

-- the list is that of the entries that are reached
pub closed_lists : (file directory order : List ℕ) (seen : List Bool) (next : ℕ) →
    IsClosedTo file directory order next → length order ≤ next → IsSeen order seen →
    length seen ≡ entry_count directory → ListsReached file directory order
closed_lists file directory order seen next c high s n = record {
  sound = c.sound;
  within = λ i h. let w = s.within i h in let low = w.0 in let top = w.1 in (low, omega arith);
  complete = λ k r. closed_complete file directory order next c high r;
  distinct = s.distinct;
}

-- no more entries are listed than there are
pub seen_short : (order : List ℕ) (seen : List Bool) → IsSeen order seen → length order ≤ length seen
seen_short order seen s = length_below order (length seen) (λ i h. (s.within i h).1) s.distinct

-- what is listed is above 0 and there
pub seen_entries : (directory order : List ℕ) (seen : List Bool) → IsSeen order seen →
    length seen ≡ entry_count directory → (i : ℕ) → i < length order → IsLinkedEntry directory (slice_index order i)
seen_entries directory order seen s n i h = let w = s.within i h in let low = w.0 in let top = w.1 in (low, omega arith)

-- the least place of all listed entries is that of all entries that are reached
pub reached_least : (file directory order : List ℕ) (each : ℕ → ℕ → Type 0) (o : Option ℕ) →
    ListsReached file directory order → LeastOrNone (Among (length order) (λ i. each (slice_index order i))) o →
    LeastOrNone (AmongReached file directory each) o
reached_least file directory order each o lists =
    least_same (Among (length order) (λ i. each (slice_index order i))) (AmongReached file directory each) o
    (λ p w. record { entry = slice_index order w.entry; reached = lists.sound w.entry w.below; broken = w.broken })
    (λ p w. let has = lists.complete w.entry w.reached in record
    { entry = has.index; below = has.inside; broken = subst (λ k. each k p) (sym has.here) w.broken })

-- an entry that is reached is above 0 and there
pub reached_there : (file directory : List ℕ) {k : ℕ} → IsReachedEntry file directory k → IsLinkedEntry directory k
reached_there file directory (child k e there) = there
reached_there file directory (left from k r e there) = there
reached_there file directory (right from k r e there) = there
