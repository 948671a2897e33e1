-- The FAT's entries that change, and those that are new.
use Rattle.std.proofs.Common.{◌≡◌, ◌≢◌, inl, inr, ℕ, ◌+◌, ◌-◌, ◌<◌, List, [], ◌∷◌, ◌++◌, length, slice_index}
use Rattle.std.proofs.Common.{slice_set}
use Rattle.std.proofs.Common.{refl, sym, ap, ◌∙◌, subst, arith, length-set}
use Rattle.std.proofs.lemmas.Bool.{cases_eq, cases_lt}
use Rattle.std.proofs.lemmas.List.{get_or-set_same, get_or-set_other, get_or_append_left, get_or_push}
use Rattle.cfb_sectors.specs.SectorChain.{HasSector, last_of}
use Rattle.cfb_layout.specs.Sectors.{chains_from}
use Rattle.cfb_in_place.proofs.PickLemmas.{place_in, place_there, place_has}
use Rattle.cfb_in_place.specs.Change.{OldChains, Added, fat_from, end_of}
use Rattle.cfb_in_place.specs.Tables.{AreFreed}
use Rattle.cfb_in_place.specs.Tables.{ChangesFat, CanChangeFat, AreOldEntries, IsEntryAfter}

-- the sectors that are left have entries
pub freed_inside : (entries : List ℕ) (chains : OldChains) (added : Added) (covered : ℕ) → CanChangeFat entries chains
    added covered → (i : ℕ) → i < length chains.freed → slice_index chains.freed i < length entries
freed_inside entries chains added covered can i h =
    let low = can.freed (slice_index chains.freed i) (record { index = i; inside = h; here = refl }) in
    let from = can.from in
    omega arith

-- no sector is added to the chain that grows
pub old_freed : (old mid : List ℕ) (chains : OldChains) (added : Added) → AreFreed old mid chains.freed → added.grown ≡
    0 → AreOldEntries old mid chains added
old_freed old mid chains added are none = record {
  len = are.len;
  kept = λ s low other free. are.kept s free;
  free = are.free;
  joined = λ some. absurd (omega arith);
}

-- the first added one is
pub old_joined : (old mid : List ℕ) (chains : OldChains) (added : Added) (covered : ℕ) → AreFreed old mid chains.freed →
    CanChangeFat old chains added covered → 0 < added.grown → AreOldEntries old (slice_set mid (last_of chains.grown)
    added.from) chains added
old_joined old mid chains added covered are can some =
    let last = last_of chains.grown in
    let len = are.len in
    let low = can.last in
    let from = can.from in
    record {
      len = length-set mid last added.from ∙ are.len;
      kept = λ s below other free. get_or-set_other mid last s added.from 0 (other some) ∙ are.kept s free;
      free = λ s has.
          get_or-set_other mid last s added.from 0 (λ e. can.apart (subst (λ x. HasSector chains.freed x) e has))
          ∙ are.free s has;
      joined = λ more. get_or-set_same mid last added.from 0 (omega arith);
    }

-- the FAT after by its entries
pub fat_changes : (old mid : List ℕ) (new : ℕ → ℕ) (chains : OldChains) (added : Added) (covered : ℕ) → AreOldEntries
    old mid chains added → CanChangeFat old chains added covered → ((k : ℕ) → k < covered → IsEntryAfter mid added k
    (new k)) → ChangesFat (λ s. slice_index old s) new chains added covered
fat_changes old mid new chains added covered are can each =
    let holds = can.holds in
    let last = can.last in
    record {
      kept = λ s low other free. (each s (omega arith)).old low ∙ are.kept s low other free;
      free = λ s has. let low = can.freed s has in (each s (omega arith)).old low ∙ are.free s has;
      joined = λ some. (each (last_of chains.grown) (omega arith)).old last ∙ are.joined some;
      chained = λ s t h is.
          let place : t - added.from ≡ s = omega arith in
          ((each t (omega arith)).new (omega arith)).chained (omega arith)
          ∙ ap (λ k. slice_index (chains_from added.from (added.grown ∷ (added.fresh ∷ []))) k) place;
      marks = λ s low h. ((each s (omega arith)).new (omega arith)).mark low h;
      unused = λ s low h. ((each s (omega arith)).new (omega arith)).unused low;
    }

-- one entry more
pub entries_more : (mid fat : List ℕ) (added : Added) (sector entry : ℕ) → length fat ≡ sector → ((k : ℕ) → k < sector →
    IsEntryAfter mid added k (slice_index fat k)) → IsEntryAfter mid added sector entry → (k : ℕ) → k < sector + 1 →
    IsEntryAfter mid added k (slice_index (fat ++ entry ∷ []) k)
entries_more mid fat added sector entry len each next k h = elim (cases_eq k sector) [
  | inl e ↦
      let here : slice_index (fat ++ entry ∷ []) k ≡ entry = get_or_push fat entry 0 k (omega arith) in
      subst (λ x. IsEntryAfter mid added k x) (sym here) (subst (λ n. IsEntryAfter mid added n entry) (sym e) next)
  | inr other ↦
      let here : slice_index (fat ++ entry ∷ []) k ≡ slice_index fat k = get_or_append_left fat (entry ∷ []) 0 k
      (omega arith) in
      subst (λ x. IsEntryAfter mid added k x) (sym here) (each k (omega arith))
]

-- two tables that change in the same way agree
pub changes_one : (old other new again : ℕ → ℕ) (chains : OldChains) (added : Added) (covered : ℕ) → ((s : ℕ) → s <
    added.from → old s ≡ other s) → ChangesFat old new chains added covered → ChangesFat other again chains added
    covered → (s : ℕ) → s < covered → new s ≡ again s
changes_one old other new again chains added covered same is are s h = elim (cases_lt s added.from) [
  | inl low ↦ elim (cases_lt (place_in chains.freed s) (length chains.freed)) [
    | inl there ↦
        let has : HasSector chains.freed s = record {
          index = place_in chains.freed s;
          inside = there;
          here = place_there chains.freed s there;
        } in
        is.free s has ∙ sym (are.free s has)
    | inr none ↦
        let quiet : ¬ HasSector chains.freed s = λ has. (let more = place_has chains.freed s has.index has.inside
        has.here in omega arith) in
        elim (cases_lt 0 added.grown) [
          | inl some ↦ elim (cases_eq s (last_of chains.grown)) [
            | inl e ↦ ap new e ∙ (is.joined some ∙ (sym (are.joined some) ∙ ap again (sym e)))
            | inr ne ↦ is.kept s low (λ more. ne) quiet ∙ (same s low ∙ sym (are.kept s low (λ more. ne) quiet))
          ]
          | inr zero_more ↦
              let no : 0 < added.grown → s ≢ last_of chains.grown = λ more. absurd (omega arith) in
              is.kept s low no quiet ∙ (same s low ∙ sym (are.kept s low no quiet))
        ]
  ]
  | inr high ↦ elim (cases_lt s (fat_from added)) [
    | inl chain ↦
        let k = s - added.from in
        is.chained k s (omega arith) (omega arith) ∙ sym (are.chained k s (omega arith) (omega arith))
    | inr past ↦ elim (cases_lt s (end_of added)) [
      | inl mark ↦ is.marks s past mark ∙ sym (are.marks s past mark)
      | inr free ↦ is.unused s free h ∙ sym (are.unused s free h)
    ]
  ]
]
