-- Lists from what is at each place, and the entries of tables without a wrong one.
use Rattle.std.proofs.Common.{◌≡◌, inl, inr, refl, sym, ap, subst, ℕ, zero, suc, ◌<◌, ◌∙◌, List, [], ◌∷◌, ◌++◌}
use Rattle.std.proofs.Common.{length, Option, Some, None, IsSome, get_or, arith, length-append}
use Rattle.std.specs.Prelude.{slice_get}
use Rattle.std.specs.Option.{unwrap_or}
use Rattle.std.proofs.lemmas.Bool.{cases_lt}
use Rattle.std.proofs.lemmas.Option.{slice_get_within, slice_get-get_or}
use Rattle.doc_bits.specs.Plc.{PlcPart, plc_cp}
use Rattle.doc_bits.proofs.Public.{stable_le, stable_eq}
use Rattle.doc_parts.specs.declared.cps.CpForm.{CpForm}
use Rattle.doc_parts.specs.declared.cps.CpOrder.{CpOrder}
use Rattle.doc_parts.specs.declared.cps.CpOrder.TheVariants.{Ascend, NeverFall}
use Rattle.doc_parts.specs.Cps.{MayPrecede, IsCpInOrder}
use Rattle.doc_parts.specs.Table.{EntryForm, KeepsCp, spelled_entry, IsValidEntry, AreTableEntries}
use Rattle.doc_parts.proofs.TableLemmas.{slice_get_push, slice_get_before, leading_of_right}

-- ---- a list of what is at each place

pub record HasList {A : Type 0} (n : ℕ) (Is : ℕ → A → Type 0) : Type 0 where
  pub list : List A
  pub len : length list ≡ n
  pub each : (k : ℕ) (x : A) → slice_get list k ≡ Some x → Is k x

more_each : {A : Type 0} (Is : ℕ → A → Type 0) (list : List A) (x : A) → ((k : ℕ) (y : A) → slice_get list k ≡ Some
    y → Is k y) → Is (length list) x → (k : ℕ) (y : A) → slice_get (list ++ x ∷ []) k ≡ Some y → Is k y
more_each Is list x each last k y here = elim (cases_lt k (length list)) [
  | inl low ↦ each k y (sym (slice_get_before list (x ∷ []) k low) ∙ here)
  | inr high ↦
      let within = slice_get_within (list ++ x ∷ []) k y here in
      let at : k ≡ length list = omega (arith, high, within, length-append list (x ∷ [])) in
      let same : x ≡ y = ap (λ o. unwrap_or o x) (sym (slice_get_push list x) ∙ (ap (slice_get (list ++ x ∷ []))
      (sym at) ∙ here)) in
      subst (λ n. Is n y) (sym at) (subst (Is (length list)) same last)
]

pub list_of : {A : Type 0} (n : ℕ) (Is : ℕ → A → Type 0) → ((k : ℕ) → k < n → (x : A) × Is k x) → HasList n Is
list_of zero Is at = record {
  list = [];
  len = refl;
  each = λ k x here. absurd (let within = slice_get_within [] k x
      here in omega arith);
}
list_of (suc n) Is at =
    let before = list_of n Is (λ k below. at k (omega arith)) in
    let last = at n (omega arith) in
    record {
      list = before.list ++ last.0 ∷ [];
      len = omega (arith, length-append before.list (last.0 ∷ []), before.len);
      each = more_each Is before.list last.0 before.each (subst (λ k. Is k last.0) (sym before.len) last.1);
    }

-- ---- tables

stable_before : (order : CpOrder) (a b : ℕ) → ¬ ¬ (MayPrecede order a b) → MayPrecede order a b
stable_before Ascend a b twice = stable_le (suc a) b twice
stable_before NeverFall a b twice = stable_le a b twice

stable_in_order : (form : CpForm) (cp : ℕ → ℕ) (k : ℕ) → ¬ ¬ (IsCpInOrder form cp k) → IsCpInOrder form cp k
stable_in_order form cp k twice = record {
  begin = λ zeroed first. stable_eq (cp k) 0 (λ no. twice (λ is. no (is.begin zeroed first)));
  after = λ j next. stable_before form.order (cp j) (cp k) (λ no. twice (λ is. no (is.after j next)));
  within = stable_before form.order (cp k) form.story_len (λ no. twice (λ is. no is.within));
}

some_or_not : {E : Type 0} (o : Option E) → ¬ ¬ (IsSome o) → (x : E) × (o ≡ Some x)
some_or_not None twice = absurd (twice (λ is. absurd (cc (is))))
some_or_not (Some x) twice = (x, refl)

is_some_of : {E : Type 0} (o : Option E) (x : E) → o ≡ Some x → IsSome o
is_some_of o x e = subst IsSome (sym e) refl

right_entry : {E : Type 0} (form : EntryForm E) (cps : CpForm) (table : PlcPart) (k : ℕ) →
    ¬ ¬ (IsValidEntry form cps table k) → IsValidEntry form cps table k
right_entry form cps table k twice =
    let there = some_or_not (spelled_entry form table k) (λ no. twice (λ is. no is.spelled)) in
    record {
      in_order = stable_in_order cps (plc_cp table.bytes) k (λ no. twice (λ is. no is.in_order));
      spelled = is_some_of (spelled_entry form table k) there.0 there.1;
    }

-- a table without a wrong entry has its entries
pub entries_there : {E : Type 0} (form : EntryForm E) (cps : CpForm) (table : PlcPart) → KeepsCp form →
    ((k : ℕ) → k < table.count → ¬ ¬ (IsValidEntry form cps table k)) → (list : List E) × AreTableEntries form cps table
    list
entries_there {E = E} form cps table keeps right =
    let found = list_of table.count (λ (k : ℕ) (x : E). spelled_entry form table k ≡ Some x) (λ k below. some_or_not
    (spelled_entry form table k) (λ no. right k below (λ is. no is.spelled))) in
    let len = found.len in (
      found.list,
      record {
        leading = leading_of_right form cps table found.list keeps (record {
          within = omega arith;
          each = λ k below. at_place found.list (spelled_entry form table) found.each k below;
          right = λ k below. right_entry form cps table k (right k (omega arith));
          stop = λ below. absurd (omega arith);
        });
        all = len;
      },
    )
  where
    at_place : (list : List E) (at : ℕ → Option E) → ((k : ℕ) (x : E) → slice_get list k ≡ Some x → at k ≡ Some x) →
        (k : ℕ) → k < length list → slice_get list k ≡ at k
    at_place [] at each k below = absurd (omega arith)
    at_place (x ∷ xs) at each k below = slice_get-get_or (x ∷ xs) k x below ∙ sym (each k (get_or (x ∷ xs) k x)
        (slice_get-get_or (x ∷ xs) k x below))
