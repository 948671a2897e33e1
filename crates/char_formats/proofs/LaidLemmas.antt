-- The entries of a map, laid one after the other.
use Rattle.std.proofs.Common.{◌≡◌, ℕ, ◌+◌, ◌<◌, ◌==◌, true, false, cond, List, [], ◌∷◌, ◌++◌, length, take}
use Rattle.std.proofs.Common.{get_or, Option, Some, None, IsTrue, refl, sym, ap, ◌∙◌, subst, arith, append_assoc}
use Rattle.std.proofs.Common.{length-append}
use Rattle.std.proofs.lemmas.List.{take_more, take_at, get_or_at, append-nil}
use Rattle.std.proofs.lemmas.Bool.{eqb-true}
use Rattle.std.specs.Ordering.{nat_cmp}
use Rattle.std.specs.FinMap.{find, is_sorted, entries, get-entries}
use Rattle.prop_map.specs.Settings.{Properties}
use Rattle.prop_map.specs.Entries.{Entries}
use Rattle.effective_props.specs.ValueSteps.{layer_over}
use Rattle.effective_props.proofs.Public.{find-more}
use Rattle.char_formats.specs.declared.change.Change.{Change}
use Rattle.char_formats.specs.Changes.{Act, with_layer, with_value, IsChangeOf}
use Rattle.char_formats.proofs.ChangeLemmas.{same_act}
use Rattle.prop_map.proofs.Public.{find-earlier}

-- what some entries make of the value so far, after another act
abbrev pub with_entries : Entries → Act → Act
with_entries done act code before = layer_over code (act code before) (find nat_cmp code done)

-- how far the entries of a map were laid over a change
pub record HasLaid (all left : Entries) (old now : Change) : Type 0 where
  pub done : Entries
  pub joined : all ≡ done ++ left
  pub laid : (act : Act) → IsChangeOf act old → IsChangeOf (with_entries done act) now

pub laid-none : (all left : Entries) (old : Change) → all ≡ left → HasLaid all left old old
laid-none all left old e = record { done = []; joined = e; laid = λ act h. h }

-- what a look-up finds in the entries so far, and in one more
record HasOneMore (done : Entries) (code : ℕ) (value : List ℕ) : Type 0 where
  fresh : find nat_cmp code done ≡ None
  found :
      (other : ℕ) → find nat_cmp other (done ++ (code, value) ∷ []) ≡ cond (other == code) (Some value) (find nat_cmp
      other done)

one_more : (done left : Entries) (code : ℕ) (value : List ℕ) → IsTrue (is_sorted nat_cmp (done ++ (code, value) ∷ left))
    → HasOneMore done code value
one_more done left code value sorted =
    let entry : ℕ × List ℕ = (code, value) in
    let es : Entries = done ++ entry ∷ left in
    let i : ℕ = length done in
    let long = length-append done (entry ∷ left) in
    let within : i < length es = omega arith in
    let front : take i es ≡ done = take_at done (entry ∷ left) i refl in
    let here : get_or es i entry ≡ entry = get_or_at done entry left entry i refl in
    let more : take (i + 1) es ≡ done ++ entry ∷ [] = take_more es i entry within ∙ (ap (λ l. l ++ get_or es i entry
    ∷ []) front ∙ ap (λ (x : ℕ × List ℕ). done ++ x ∷ []) here) in
    record {
      fresh =
          ap (λ l. find nat_cmp code l) (sym front) ∙ (ap (λ (x : ℕ × List ℕ). find nat_cmp x.0 (take i es)) (sym here)
          ∙ find-earlier es i entry sorted within);
      found = λ other.
          ap (find nat_cmp other) (sym more) ∙ (find-more es i entry other sorted within
          ∙ (ap (λ (x : ℕ × List ℕ). cond (other == x.0) (Some x.1) (find nat_cmp other (take i es))) here
          ∙ ap (λ l. cond (other == code) (Some value) (find nat_cmp other l)) front));
    }

-- one entry more
acts_agree : (done : Entries) (code : ℕ) (value : List ℕ) (act : Act) → HasOneMore done code value → (other : ℕ) (before
    : Option (List ℕ)) → with_value code value (with_entries done act) other before ≡ with_entries (done ++ (
      code,
      value,
    ) ∷ []) act other before
acts_agree done code value act h other before =
    elim (other == code) as (λ b. (other == code) ≡ b → cond b (layer_over other (layer_over other (act other before)
    (find nat_cmp other done)) (Some value)) (layer_over other (act other before) (find nat_cmp other done)) ≡
    layer_over other (act other before) (cond b (Some value) (find nat_cmp other done))) [
      | true ↦ λ e.
          let is : other ≡ code = eqb-true other code e in
          ap (λ o. layer_over other (layer_over other (act other before) o) (Some value)) (ap (λ c. find nat_cmp c done)
          is ∙ h.fresh)
      | false ↦ λ _. refl
    ] refl ∙ ap (layer_over other (act other before)) (sym (h.found other))

pub laid-next : (all left : Entries) (old now new : Change) (code : ℕ) (value : List ℕ) → IsTrue (is_sorted nat_cmp all)
    → HasLaid all ((code, value) ∷ left) old now → ((act : Act) → IsChangeOf act now → IsChangeOf (with_value code value
    act) new) → HasLaid all left old new
laid-next all left old now new code value sorted h step =
    let entry : ℕ × List ℕ = (code, value) in
    let more = one_more h.done left code value (subst (λ l. IsTrue (is_sorted nat_cmp l)) h.joined sorted) in
    record {
      done = h.done ++ entry ∷ [];
      joined = h.joined ∙ sym (append_assoc h.done (entry ∷ []) left);
      laid = λ act k.
          same_act (with_value code value (with_entries h.done act)) (with_entries (h.done ++ entry ∷ []) act) new
          (acts_agree h.done code value act more) (step (with_entries h.done act) (h.laid act k));
    }

-- all of them
pub laid-whole : (map : Properties) (old now : Change) → HasLaid (entries map) [] old now → (act : Act) → IsChangeOf act
    old → IsChangeOf (with_layer map act) now
laid-whole map old now h act k =
    let all : h.done ≡ entries map = sym (h.joined ∙ append-nil h.done) in
    same_act (with_entries h.done act) (with_layer map act) now (λ code before. ap (layer_over code (act code before))
    (ap (find nat_cmp code) all ∙ sym (get-entries map code))) (h.laid act k)
