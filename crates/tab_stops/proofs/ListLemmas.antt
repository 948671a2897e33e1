-- Going through a list, and through parts one after another.
use Rattle.std.proofs.Common.{◌≡◌, ◌∙◌, refl, sym, ap, subst, ℕ, suc, ◌+◌, List, [], ◌∷◌, ◌++◌, length, drop, arith}
use Rattle.std.proofs.Common.{append_assoc, length-append, length-drop, slice_range}
use Rattle.std.specs.List.{flat_map}
use Rattle.std.proofs.lemmas.List.{append-nil}
use Rattle.std.proofs.lemmas.Grind.{flat_map-append}
use Rattle.sprm_table.specs.Sprm.{Prl, spelling, SpellsSprmList}
use Rattle.sprm_table.specs.Cursor.{SprmCursor, left, GivesPrl, TakesFirstPrl}
use Rattle.tab_stops.specs.Lists.{stop_of, stop_places, AreJoinedStops, PushesStops}

-- ---- what is appended

pub pushes_none : (are : List ℕ → Type 0) (old : List ℕ) → are [] → PushesStops are old old
pushes_none are old none = record { stops = []; are_stops = none; pushed = sym (append-nil old) }

-- ---- parts one after another

pub joined_none : (are : ℕ → List ℕ → Type 0) (old : List ℕ) → PushesStops (AreJoinedStops are 0) old old
joined_none are old = pushes_none (AreJoinedStops are 0) old refl

pub joined_more : (are : ℕ → List ℕ → Type 0) (k : ℕ) (old now new : List ℕ) →
    PushesStops (AreJoinedStops are k) old now → PushesStops (are k) now new →
    PushesStops (AreJoinedStops are (k + 1)) old new
joined_more are k old now new before here =
    let next : suc k ≡ k + 1 = omega arith in
    record {
      stops = before.stops ++ here.stops;
      are_stops = subst (λ n. AreJoinedStops are n (before.stops ++ here.stops)) next
          (before.stops, (here.stops, (before.are_stops, (here.are_stops, refl))));
      pushed =
          here.pushed
          ∙ (ap (λ l. l ++ here.stops) before.pushed ∙ append_assoc old before.stops here.stops);
    }

-- all parts were gone through
pub joined_all : (are : ℕ → List ℕ → Type 0) (k count : ℕ) (old new : List ℕ) → k ≡ count →
    PushesStops (AreJoinedStops are k) old new → PushesStops (AreJoinedStops are count) old new
joined_all are k count old new same pushes =
    subst (λ n. PushesStops (AreJoinedStops are n) old new) same pushes

-- ---- a list

-- how long the spellings are with one entry more
spelled_more : (done : List Prl) (prl : Prl) →
    length (flat_map spelling (done ++ prl ∷ [])) ≡ length (flat_map spelling done) + length (spelling prl)
spelled_more done prl =
    ap length (flat_map-append spelling done (prl ∷ []))
    ∙ (length-append (flat_map spelling done) (spelling prl ++ [])
    ∙ ap (λ (l : List ℕ). length (flat_map spelling done) + length l) (append-nil (spelling prl)))

-- one entry more
places_more : (from : ℕ) (done : List Prl) (prl : Prl) →
    stop_places from (done ++ prl ∷ []) ≡ stop_places from done ++ stop_of (from + length (flat_map spelling done)) prl
places_more from [] prl =
    let here : from ≡ from + 0 = omega arith in
    append-nil (stop_of from prl) ∙ ap (λ n. stop_of n prl) here
places_more from (first ∷ done) prl =
    let next = from + length (spelling first) in
    let long = length-append (spelling first) (flat_map spelling done) in
    let place : next + length (flat_map spelling done) ≡ from + length (flat_map spelling (first ∷ done)) =
    omega (arith, long) in
    ap (λ l. stop_of from first ++ l)
    (places_more next done prl ∙ ap (λ n. stop_places next done ++ stop_of n prl) place)
    ∙ sym (append_assoc (stop_of from first) (stop_places next done)
    (stop_of (from + length (flat_map spelling (first ∷ done))) prl))

-- the first entries of a list were gone through
pub record StopsFront (prls : List Prl) (cursor : SprmCursor) (from : ℕ) (old now : List ℕ) : Type 0 where
  pub done : List Prl
  pub others : List Prl
  pub joined : prls ≡ done ++ others
  pub spelt : SpellsSprmList (left cursor) others
  pub at : cursor.at ≡ length (flat_map spelling done)
  pub places : now ≡ old ++ stop_places from done

pub front_none : (prls : List Prl) (list : List ℕ) (cursor : SprmCursor) (from : ℕ) (old : List ℕ) →
    cursor ≡ record { bytes = list; at = 0 } → SpellsSprmList list prls → StopsFront prls cursor from old old
front_none prls list cursor from old is spelt = record {
  done = [];
  others = prls;
  joined = refl;
  spelt = subst (λ s. SpellsSprmList (left s) prls) (sym is) spelt;
  at = ap (λ (s : SprmCursor). s.at) is;
  places = sym (append-nil old);
}

-- where the next entry is
next_at : (old new : SprmCursor) (code begin end : ℕ) → GivesPrl old new code begin end →
    new.at ≡ old.at + length (spelling (code, slice_range old.bytes begin end))
next_at old new code begin end gives =
    let entry = gives.entry in
    let value = spelling (code, slice_range old.bytes begin end) in
    let whole = ap length entry.spelt in
    let parts = length-append value (drop end old.bytes) in
    let before = length-drop old.at old.bytes in
    let behind = length-drop end old.bytes in
    let later = entry.later in
    let order = entry.order in
    let within = entry.within in
    let at = gives.at in
    omega (arith, whole, parts, before, behind, later, order, within, at)

-- one entry more
pub front_more : (prls : List Prl) (old new : SprmCursor) (from : ℕ) (was now next : List ℕ) (code begin end : ℕ) →
    (front : StopsFront prls old from was now) → GivesPrl old new code begin end →
    TakesFirstPrl old new front.others code begin end →
    next ≡ now ++ stop_of (from + old.at) (code, slice_range old.bytes begin end) → StopsFront prls new from was next
front_more prls old new from was now next code begin end front gives takes pushed =
    let entry : Prl = (code, slice_range old.bytes begin end) in
    let here = front.at in
    record {
      done = front.done ++ entry ∷ [];
      others = takes.others;
      joined = front.joined
          ∙ (ap (λ o. front.done ++ o) takes.is ∙ sym (append_assoc front.done (entry ∷ []) takes.others));
      spelt = takes.left;
      at =
          next_at old new code begin end gives
          ∙ (ap (λ n. n + length (spelling entry)) here ∙ sym (spelled_more front.done entry));
      places =
          pushed
          ∙ (ap (λ l. l ++ stop_of (from + old.at) entry) front.places
          ∙ (append_assoc was (stop_places from front.done) (stop_of (from + old.at) entry)
          ∙ (ap (λ n. was ++ (stop_places from front.done ++ stop_of (from + n) entry)) here
          ∙ ap (λ l. was ++ l) (sym (places_more from front.done entry)))));
    }

-- all entries were gone through
pub front_all : (prls : List Prl) (cursor : SprmCursor) (from : ℕ) (was now : List ℕ) →
    (front : StopsFront prls cursor from was now) → front.others ≡ [] → now ≡ was ++ stop_places from prls
front_all prls cursor from was now front none =
    front.places
    ∙ ap (λ l. was ++ stop_places from l)
    (sym (front.joined ∙ (ap (λ o. front.done ++ o) none ∙ append-nil front.done)))
