-- Faults of lists of sprms: what was passed without one, and that none comes before its end.
use Rattle.std.proofs.Common.{◌≡◌, ◌⊎◌, inl, inr, ℕ, ◌+◌, ◌≤◌, List, [], ◌∷◌, ◌++◌, length, drop, refl, sym, ap, ◌∙◌}
use Rattle.std.proofs.Common.{subst, arith, append_assoc, length-append, length-drop}
use Rattle.std.specs.Prelude.{slice_range}
use Rattle.std.specs.List.{All, flat_map}
use Rattle.std.proofs.lemmas.List.{append-nil, drop_at, drop-drop}
use Rattle.std.proofs.lemmas.List.Concat.{flat_map-append}
use Rattle.std.proofs.lemmas.List.Elements.{All-nil, All-head, All-tail, All-push}
use Rattle.sprm_table.specs.Codes.{IsRefusedIn}
use Rattle.sprm_table.specs.Cursor.{IsPrlAt}
use Rattle.sprm_table.specs.Sprm.{Prl, IsPrl, spelling, EndsSprmList, SpellsUpTo, AfterEntries, IsShortPrl}
use Rattle.sprm_table.specs.Sprm.{IsRefusedPrl}
use Rattle.sprm_table.specs.Sprm.{HasSprmFaultAt, IsFirstSprmFault, IsAcceptedList, fault_place}
use Rattle.sprm_table.specs.declared.faults.SprmFault.{SprmFault}
use Rattle.sprm_table.specs.declared.faults.SprmFault.TheVariants.{Short, Refused}
use Rattle.sprm_table.proofs.SprmLemmas.{spelling_unique, entry_goes_on, entry_not_short, end_not_short}

-- the entry is read, or the place doesn't hold its group
abbrev pub IsAccepted : ℕ → Prl → Type 0
IsAccepted groups prl = ¬ (IsRefusedIn groups prl.0)

-- the bytes begin with a fault
abbrev pub IsFaulty : ℕ → List ℕ → Type 0
IsFaulty groups bytes = IsShortPrl bytes ⊎ IsRefusedPrl groups bytes

-- whole entries without a fault come before the place
pub record Passed (bytes : List ℕ) (groups at : ℕ) : Type 0 where
  pub before : List Prl
  pub front : SpellsUpTo bytes at before
  pub accepted : All (IsAccepted groups) before

-- none comes before the start
pub passed_none : (bytes : List ℕ) (groups : ℕ) → Passed bytes groups 0
passed_none bytes groups = record {
  before = [];
  front = record { entries = All-nil IsPrl; place = refl; spelt = refl };
  accepted = All-nil (IsAccepted groups);
}

-- an entry more, which ends where its spelling does
pub passed_more : (bytes : List ℕ) (groups at : ℕ) (prl : Prl) (more : List ℕ) (to : ℕ) → Passed bytes groups at →
    IsPrl prl → IsAccepted groups prl → drop at bytes ≡ spelling prl ++ more → to ≡ length (spelling prl) →
    Passed bytes groups (at + to)
passed_more bytes groups at prl more to passed is accepted e end =
    let before = passed.before in
    let place = passed.front.place in
    let list : flat_map spelling (before ++ prl ∷ []) ≡ flat_map spelling before ++ spelling prl =
    flat_map-append spelling before (prl ∷ []) ∙ ap (λ last. flat_map spelling before ++ last)
    (append-nil (spelling prl)) in
    let rest : drop (at + to) bytes ≡ more = sym (drop-drop to at bytes) ∙ ap (drop to) e ∙ drop_at (spelling prl)
    more to (sym end) in
    record {
      before = before ++ prl ∷ [];
      front = record {
        entries = All-push IsPrl before prl passed.front.entries is;
        place = rw list (omega (arith, length-append (flat_map spelling before) (spelling prl)));
        spelt = rw (list, rest) (passed.front.spelt ∙ ap (λ last. flat_map spelling before ++ last) e ∙ sym
            (append_assoc (flat_map spelling before) (spelling prl) more));
      };
      accepted = All-push (IsAccepted groups) before prl passed.accepted accepted;
    }

-- the same of an entry that was read at the front of the rest
pub passed_step : (bytes rest : List ℕ) (groups at code from to : ℕ) → rest ≡ drop at bytes → Passed bytes groups at →
    IsPrlAt rest 0 code from to → ¬ (IsRefusedIn groups code) → Passed bytes groups (at + to)
passed_step bytes rest groups at code from to e passed here accepted =
    let prl : Prl = (code, slice_range rest from to) in
    let within = here.within in
    let end : to ≡ length (spelling prl) = omega (
      arith,
      ap length here.spelt,
      length-append (spelling prl)
          (drop to rest),
      length-drop to rest,
    ) in
    passed_more bytes groups at prl (drop to rest) to passed here.entry accepted (sym e ∙ here.spelt) end

-- what ends a list has no fault
ended_not_faulty : (groups : ℕ) (bytes : List ℕ) → EndsSprmList bytes → IsFaulty groups bytes → ⊥
ended_not_faulty groups bytes ends faulty = elim faulty [
  | inl short ↦ end_not_short bytes ends short
  | inr refused ↦ entry_goes_on refused.prl refused.more refused.entry (subst EndsSprmList refused.spelt ends)
]

-- an accepted entry is no fault
accepted_not_faulty : (groups : ℕ) (prl : Prl) (more : List ℕ) → IsPrl prl → IsAccepted groups prl → IsFaulty groups
    (spelling prl ++ more) → ⊥
accepted_not_faulty groups prl more is accepted faulty = elim faulty [
  | inl short ↦ entry_not_short prl more is short
  | inr refused ↦
      let same : prl ≡ refused.prl = (spelling_unique prl refused.prl more refused.more is refused.entry
      refused.spelt).0 in
      accepted (subst (λ (p : Prl). IsRefusedIn groups p.0) (sym same) refused.refused)
]

-- accepted entries in front of x, and any entries in front of a fault: the fault is in x, and x ends no list
meets : (groups : ℕ) (before other : List Prl) (x y : List ℕ) → All IsPrl before → All (IsAccepted groups) before →
    All IsPrl other → flat_map spelling before ++ x ≡ flat_map spelling other ++ y → IsFaulty groups y →
    (length (flat_map spelling before) ≤ length (flat_map spelling other)) × (EndsSprmList x → ⊥)
meets groups [] [] x y first accepted second e faulty = (
  omega arith,
  λ ends. ended_not_faulty groups y
      (subst EndsSprmList e ends) faulty,
)
meets groups [] (q ∷ other) x y first accepted second e faulty = (
  omega arith,
  λ ends. entry_goes_on q (flat_map spelling other ++ y) (All-head IsPrl q other second) (subst EndsSprmList
      (e ∙ append_assoc (spelling q) (flat_map spelling other) y) ends),
)
meets groups (p ∷ before) [] x y first accepted second e faulty =
    absurd (accepted_not_faulty groups p (flat_map spelling before ++ x) (All-head IsPrl p before first)
    (All-head (IsAccepted groups) p before accepted)
    (subst (IsFaulty groups) (sym e ∙ append_assoc (spelling p) (flat_map spelling before) x) faulty))
meets groups (p ∷ before) (q ∷ other) x y first accepted second e faulty =
    let apart = sym (append_assoc (spelling p) (flat_map spelling before) x) ∙ e ∙ append_assoc (spelling q)
    (flat_map spelling other) y in
    let front = spelling_unique p q (flat_map spelling before ++ x) (flat_map spelling other ++ y) (All-head IsPrl p
    before first) (All-head IsPrl q other second) apart in
    let rest = meets groups before other x y (All-tail IsPrl p before first) (All-tail (IsAccepted groups) p before
    accepted) (All-tail IsPrl q other second) front.1 faulty in
    let below = rest.0 in
    let same = ap (λ prl. length (spelling prl)) front.0 in (
      omega (
        arith,
        length-append (spelling p) (flat_map spelling before),
        length-append (spelling q)
            (flat_map spelling other),
      ),
      rest.1,
    )

-- a fault of either kind, as one fact on what is at the place
faulty_at : (bytes : List ℕ) (groups place : ℕ) → HasSprmFaultAt bytes groups place → AfterEntries (IsFaulty groups)
    bytes place
faulty_at bytes groups place fault = elim fault [
  | inl short ↦ record { before = short.before; front = short.front; here = inl short.here }
  | inr refused ↦ record { before = refused.before; front = refused.front; here = inr refused.here }
]

-- no fault is before the place that was passed
pub passed_least : (bytes : List ℕ) (groups at place : ℕ) → Passed bytes groups at → HasSprmFaultAt bytes groups
    place → at ≤ place
passed_least bytes groups at place passed fault =
    let other = faulty_at bytes groups place fault in
    let mine = passed.front.place in
    let its = other.front.place in
    let below = (meets groups passed.before other.before (drop at bytes) (drop place bytes) passed.front.entries
    passed.accepted other.front.entries (sym passed.front.spelt ∙ other.front.spelt) other.here).0 in
    omega arith

-- an accepted list has no fault
pub accepted_no_fault : (bytes : List ℕ) (groups place : ℕ) → IsAcceptedList bytes groups → HasSprmFaultAt bytes
    groups place → ⊥
accepted_no_fault bytes groups place accepted fault =
    let other = faulty_at bytes groups place fault in
    let spelt = accepted.spelt in
    (meets groups accepted.list other.before spelt.rest (drop place bytes) spelt.entries accepted.accepted
    other.front.entries (sym spelt.spelt ∙ other.front.spelt) other.here).1 spelt.ends

-- where the list ends after what was passed it is accepted
pub passed_end : (bytes : List ℕ) (groups at : ℕ) → Passed bytes groups at → EndsSprmList (drop at bytes) →
    IsAcceptedList bytes groups
passed_end bytes groups at passed ends = record {
  list = passed.before;
  spelt = record { rest = drop at bytes; entries = passed.front.entries; spelt = passed.front.spelt; ends = ends };
  accepted = passed.accepted;
}

-- after what was passed, a code whose operand leaves the list is the first fault
pub short_first : (bytes rest : List ℕ) (groups at : ℕ) → rest ≡ drop at bytes → Passed bytes groups at →
    IsShortPrl rest → IsFirstSprmFault bytes groups (Short at)
short_first bytes rest groups at e passed short =
    let there : AfterEntries IsShortPrl bytes at = record {
      before = passed.before;
      front = passed.front;
      here = subst IsShortPrl e short;
    } in
    record {
      there = there;
      least = record {
        broken = inl there;
        least = λ place fault. passed_least bytes groups at
            place passed fault;
      };
    }

-- and so is a refused code
pub refused_first : (bytes rest : List ℕ) (groups at code from to : ℕ) → rest ≡ drop at bytes → Passed bytes groups
    at → IsPrlAt rest 0 code from to → IsRefusedIn groups code → IsFirstSprmFault bytes groups (Refused at)
refused_first bytes rest groups at code from to e passed prl refused =
    let here : IsRefusedPrl groups rest = record {
      prl = (code, slice_range rest from to);
      more = drop to rest;
      entry = prl.entry;
      spelt = prl.spelt;
      refused = refused;
    } in
    let there : AfterEntries (IsRefusedPrl groups) bytes at = record {
      before = passed.before;
      front = passed.front;
      here = subst (IsRefusedPrl groups) e here;
    } in
    record {
      there = there;
      least = record {
        broken = inr there;
        least = λ place fault. passed_least bytes groups at
            place passed fault;
      };
    }

-- a list with a fault is not accepted
pub fault_not_accepted : (bytes : List ℕ) (groups : ℕ) (fault : SprmFault) → IsFirstSprmFault bytes groups fault →
    IsAcceptedList bytes groups → ⊥
fault_not_accepted bytes groups fault first accepted = accepted_no_fault bytes groups (fault_place fault) accepted
    first.least.broken

-- no place has both faults
one_kind : (bytes : List ℕ) (groups : ℕ) → IsShortPrl bytes → IsRefusedPrl groups bytes → ⊥
one_kind bytes groups short refused = entry_not_short refused.prl refused.more refused.entry (subst IsShortPrl
    refused.spelt short)

-- two first faults are at one place
same_place : (bytes : List ℕ) (groups : ℕ) (a b : SprmFault) → IsFirstSprmFault bytes groups a → IsFirstSprmFault
    bytes groups b → fault_place a ≡ fault_place b
same_place bytes groups a b one other =
    let up = one.least.least (fault_place b) other.least.broken in
    let down = other.least.least (fault_place a) one.least.broken in
    omega arith

-- a list has one first fault at most
pub first_unique : (bytes : List ℕ) (groups : ℕ) (a b : SprmFault) → IsFirstSprmFault bytes groups a →
    IsFirstSprmFault bytes groups b → a ≡ b
first_unique bytes groups (Short at) (Short to) one other = ap Short (same_place bytes groups (Short at) (Short to)
    one other)
first_unique bytes groups (Refused at) (Refused to) one other = ap Refused (same_place bytes groups (Refused at)
    (Refused to) one other)
first_unique bytes groups (Short at) (Refused to) one other =
    let same = same_place bytes groups (Short at) (Refused to) one other in
    absurd (one_kind (drop to bytes) groups (subst (λ (place : ℕ). IsShortPrl (drop place bytes)) same one.there.here)
    other.there.here)
first_unique bytes groups (Refused at) (Short to) one other =
    let same = same_place bytes groups (Refused at) (Short to) one other in
    absurd (one_kind (drop to bytes) groups other.there.here (subst (λ (place : ℕ). IsRefusedPrl groups
    (drop place bytes)) same one.there.here))
