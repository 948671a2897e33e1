-- Tables as they are read: the entries before the first wrong one.
use Rattle.std.proofs.Common.{◌≡◌, inl, inr, ℕ, ◌+◌, ◌-◌, ◌*◌, ◌/◌, ◌<◌, ◌≤◌, List, [], ◌∷◌, ◌++◌, length, map}
use Rattle.std.proofs.Common.{get_or, Option, Some, None, refl, sym, ap, ◌∙◌, subst, arith, below_more, length-take}
use Rattle.std.proofs.Common.{length-drop}
use Rattle.std.specs.Prelude.{slice_get, slice_index}
use Rattle.std.proofs.Math.Nat.{mul-div_cancel, mul-le-mul_left}
use Rattle.std.proofs.lemmas.Option.{slice_get_cases}
use Rattle.std.proofs.lemmas.List.{get_or-map, length-map}
use Rattle.doc_bits.specs.Plc.{PlcPart, IsPlcOf, plc_cp, plc_entry}
use Rattle.doc_bits.specs.Rules.{Nowhere, IsLeast}
use Rattle.doc_bits.proofs.Public.{first_among}
pub use Rattle.doc_bits.proofs.Public.{slice_get_push, slice_get_before}
use Rattle.doc_parts.specs.declared.cps.CpForm.{CpForm}
use Rattle.doc_parts.specs.Cps.{MayPrecede, IsCpInOrder}
use Rattle.doc_parts.specs.Table.{KeepsCp, EntryForm, plc_part, IsWholePlc, IsEmptyOrWhole, spelled_entry, IsValidEntry}
use Rattle.doc_parts.specs.Table.{IsWrongEntry, HasWrongEntry, BreaksTable, AreLeading, StopsAtWrong, AreReadEntries}

-- a whole table has as many entries as its length says
pub count_of_whole : (bytes : List ℕ) (size count : ℕ) → IsPlcOf bytes size count → (length bytes - 4) / (4 + size) ≡
    count
count_of_whole bytes size count h =
    let rest : length bytes - 4 ≡ count * (4 + size) = omega arith in
    let some : 0 < 4 + size = omega arith in
    ap (λ x. x / (4 + size)) rest ∙ mul-div_cancel count some

-- an entry has its size
pub length-plc_entry : (table : PlcPart) (k : ℕ) → IsWholePlc table → k < table.count → length (plc_entry table k) ≡
    table.size
length-plc_entry table k whole h =
    let few : table.size * (k + 1) ≤ table.size * table.count = mul-le-mul_left table.size (omega arith) in
    omega (arith, length-take {A = ℕ}, length-drop {A = ℕ})

-- a CP is in order by the CPs up to it alone
pub in_order_same : (form : CpForm) (cp other : ℕ → ℕ) (k : ℕ) → ((j : ℕ) → j ≤ k → cp j ≡ other j) → IsCpInOrder form
    cp k → IsCpInOrder form other k
in_order_same form cp other k same h = record {
  begin = λ zero_first first. sym (same k (omega arith)) ∙ h.begin zero_first first;
  after = λ j e.
      subst (λ x. MayPrecede form.order x (other k)) (same j (omega arith))
      (subst (λ x. MayPrecede form.order (cp j) x) (same k (omega arith)) (h.after j e));
  within = subst (λ x. MayPrecede form.order x form.story_len) (same k (omega arith)) h.within;
}

-- the CPs of entries are those of the table
pub cps_of_entries : {E : Type 0} (form : EntryForm E) (table : PlcPart) (list : List E) → KeepsCp form →
    ((k : ℕ) → k < length list → slice_get list k ≡ spelled_entry form table k) → (k : ℕ) → k < length list →
    plc_cp table.bytes k ≡ slice_index (map form.cp_of list) k
cps_of_entries form table list keeps each k h = elim (slice_get_cases list k).1 [
  | inl w ↦
      let spelled : spelled_entry form table k ≡ Some w.0 = sym (each k h) ∙ w.2 in
      let here : form.cp_of w.0 ≡ plc_cp table.bytes k = keeps (plc_cp table.bytes k) (plc_entry table k) w.0 spelled in
      let mapped : slice_index (map form.cp_of list) k ≡ form.cp_of (get_or list k w.0) = get_or-map form.cp_of list k
      w.0 0 h in
      sym (mapped ∙ (ap form.cp_of w.3 ∙ here))
  | inr w ↦ let past = w.0 in absurd (omega arith)
]

-- the CPs of right entries are in order
pub leading_of_right : {E : Type 0} (form : EntryForm E) (cps : CpForm) (table : PlcPart) (list : List E) →
    KeepsCp form → StopsAtWrong form cps table list → AreLeading form cps table list
leading_of_right form cps table list keeps read = record {
  within = read.within;
  each = read.each;
  in_order = λ k h.
      let here : k < length list = omega (arith, length-map list form.cp_of) in
      in_order_same cps (plc_cp table.bytes) (slice_index (map form.cp_of list)) k
      (λ j up. cps_of_entries form table list keeps read.each j (omega arith))
      (read.right k here).in_order;
}

-- a later entry has a later place
wrong_later : {E : Type 0} (form : EntryForm E) (cps : CpForm) (table : PlcPart) (at j k a b : ℕ) → j < k →
    IsWrongEntry form cps table at j a → IsWrongEntry form cps table at k b → a ≤ b
wrong_later form cps table at j k a b h first second = let e = first.here in let f = second.here in omega arith

-- the first wrong entry has the least place
pub least_wrong : {E : Type 0} (form : EntryForm E) (cps : CpForm) (bytes : List ℕ) (at i : ℕ) → let table = plc_part
    form.size bytes in IsWholePlc table → i < table.count → ((k : ℕ) → k < i → IsValidEntry form cps table k) →
    ¬ (IsValidEntry form cps table i) → IsLeast (λ a b. a ≤ b) (BreaksTable form cps bytes at) (at + 4 * i)
least_wrong form cps bytes at i whole below right wrong =
    let table : PlcPart = plc_part form.size bytes in
    let first : IsLeast (λ a b. a ≤ b) (HasWrongEntry form cps table at) (at + 4 * i) =
    first_among (IsWrongEntry form cps table at) table.count i (at + 4 * i) (λ j k a b. wrong_later form cps table at
    j k a b) below
    (λ k h p w. w.broken (right k h))
    (record { broken = record { here = refl; broken = wrong }; least = λ p w. let e = w.here in omega arith }) in
    record {
      broken = inr first.broken;
      least = λ p w. elim w [
        | inl x ↦ absurd (x.1 (inr whole))
        | inr y ↦ first.least
            p y
      ];
    }

-- a table of right entries breaks no rule
pub none_wrong : {E : Type 0} (form : EntryForm E) (cps : CpForm) (bytes : List ℕ) (at : ℕ) → let table = plc_part
    form.size bytes in IsEmptyOrWhole table → ((k : ℕ) → k < table.count → IsValidEntry form cps table k) →
    Nowhere (BreaksTable form cps bytes at)
none_wrong form cps bytes at whole right = λ p w. elim w [
  | inl x ↦ x.1 whole
  | inr y ↦ y.broken.broken (right y.entry y.below)
]

-- one entry more
pub each_more : {X : Type 0} (list items : List X) (x : X) (k : ℕ) (at : ℕ → Option X) → items ≡ list ++ x ∷ [] →
    length list ≡ k → at k ≡ Some x → ((j : ℕ) → j < k → slice_get list j ≡ at j) → (j : ℕ) → j < k + 1 →
    slice_get items j ≡ at j
each_more list items x k at e count here each =
    below_more (λ j. slice_get items j ≡ at j) k
    (λ j h. rw e (slice_get_before list (x ∷ []) j (omega arith) ∙ each j h))
    (rw (e, ← count) (slice_get_push list x ∙ subst (λ n. Some x ≡ at n) (sym count) (sym here)))

-- the table that is read is the table of the bytes
pub table_of_plc : (plc : PlcPart) (bytes : List ℕ) (size : ℕ) → plc ≡ record {
  bytes = bytes;
  size = size;
  count = plc.count;
} → IsPlcOf bytes size plc.count → plc ≡ plc_part size bytes
table_of_plc plc bytes size e whole =
    let count : plc.count ≡ (length bytes - 4) / (4 + size) = sym (count_of_whole bytes size plc.count whole) in
    let make : ℕ → PlcPart = λ n. record { bytes = bytes; size = size; count = n } in
    e ∙ ap make count

-- a table is read up to a wrong entry
pub read_stops : {E : Type 0} (form : EntryForm E) (cps : CpForm) (bytes : List ℕ) (at : ℕ) (list : List E) →
    KeepsCp form → IsWholePlc (plc_part form.size bytes) → StopsAtWrong form cps (plc_part form.size bytes) list →
    length list < (plc_part form.size bytes).count → AreReadEntries form cps bytes at list (Some (at + 4 * length list))
read_stops form cps bytes at list keeps whole read h = record {
  leading = leading_of_right form cps (plc_part form.size bytes) list keeps read;
  judged = least_wrong form cps bytes at (length list) whole h read.right (read.stop h);
  ends = refl;
}

-- a table is read to its end
pub read_all : {E : Type 0} (form : EntryForm E) (cps : CpForm) (bytes : List ℕ) (at : ℕ) (list : List E) →
    KeepsCp form → IsWholePlc (plc_part form.size bytes) → StopsAtWrong form cps (plc_part form.size bytes) list →
    (plc_part form.size bytes).count ≤ length list → AreReadEntries form cps bytes at list None
read_all form cps bytes at list keeps whole read h =
    let within : length list ≤ (plc_part form.size bytes).count = read.within in
    record {
      leading = leading_of_right form cps (plc_part form.size bytes) list keeps read;
      judged = none_wrong form cps bytes at (inr whole) (λ k below. read.right k (omega arith));
      ends = omega arith;
    }
