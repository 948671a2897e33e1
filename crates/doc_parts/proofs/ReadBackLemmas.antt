-- What was printed is read back.
use Rattle.std.proofs.Common.{◌≡◌, inl, inr, ℕ, ◌+◌, ◌^◌, ◌<◌, ◌≤◌, List, [], ◌∷◌, length, map, Some, refl, sym, ap}
use Rattle.std.proofs.Common.{◌∙◌, arith}
use Rattle.std.specs.Prelude.{All, slice_get, slice_index, unwrap_or}
use Rattle.std.proofs.Math.Nat.{zero-div}
use Rattle.std.proofs.lemmas.List.{length-map, get_or-map, same_lists}
use Rattle.std.proofs.lemmas.List.Elements.{All-from_get_or, All-map, All-weaker}
use Rattle.std.proofs.lemmas.Option.{slice_get-map, slice_get_cases, unwrap_or-slice_get, same_Some}
use Rattle.std.specs.Option.{option_map}
use Rattle.doc_bits.specs.Plc.{PlcPart, plc_cp, plc_entry}
use Rattle.doc_bits.specs.Rules.{Nowhere}
use Rattle.doc_parts.specs.declared.cps.CpForm.{CpForm}
use Rattle.doc_parts.specs.declared.cps.CpOrder.{CpOrder}
use Rattle.doc_parts.specs.declared.cps.CpOrder.TheVariants.{Ascend, NeverFall}
use Rattle.doc_parts.specs.Cps.{MayPrecede, AreCpsInOrder}
use Rattle.doc_parts.specs.Table.{EntryForm, plc_part, IsEmptyOrWhole, spelled_entry, IsValidEntry, BreaksTable}
use Rattle.doc_parts.specs.Table.{AreTableEntries, HasPlc, printed_entries}
use Rattle.doc_parts.proofs.TableLemmas.{in_order_same, count_of_whole, none_wrong}
use Rattle.doc_parts.proofs.PrintLemmas.{printed-HasPlc}

-- an entry whose printed bytes have its size and spell it
pub record IsSpelled {E : Type 0} (form : EntryForm E) (entry : E) : Type 0 where
  pub sized : length (form.bytes_of entry) ≡ form.size
  pub again : form.read_from (form.cp_of entry) (form.bytes_of entry) ≡ Some entry

-- a table that breaks no rule, and has the entries of the list
pub record IsPrinted {E : Type 0} (form : EntryForm E) (cps : CpForm) (bytes : List ℕ) (list : List E) : Type 0 where
  pub formed : IsEmptyOrWhole (plc_part form.size bytes)
  pub right : (k : ℕ) → k < (plc_part form.size bytes).count → IsValidEntry form cps (plc_part form.size bytes) k
  pub entries : AreTableEntries form cps (plc_part form.size bytes) list

-- lists with equal elements are equal
pub same_by_get : {X : Type 0} (xs ys : List X) → length xs ≡ length ys → ((k : ℕ) → k < length xs → slice_get xs k ≡
    slice_get ys k) → xs ≡ ys
same_by_get xs ys len each =
    same_lists xs ys len
    (λ k d h. sym (unwrap_or-slice_get xs k d) ∙ (ap (λ o. unwrap_or o d) (each k h) ∙ unwrap_or-slice_get ys k d))

-- a table has one list of entries
pub AreEntries-unique : {E : Type 0} (form : EntryForm E) (cps : CpForm) (table : PlcPart) (a b : List E) →
    AreTableEntries form cps table a → AreTableEntries form cps table b → a ≡ b
AreEntries-unique form cps table a b first second =
    let len : length a ≡ length b = first.all ∙ sym second.all in
    same_by_get a b len (λ k h. let here : k < length b = omega arith in first.leading.each k h ∙ sym
    (second.leading.each k here))

-- what comes before the end of the story is no greater
upto_end : (order : CpOrder) (cp end : ℕ) → MayPrecede order cp end → cp ≤ end
upto_end Ascend cp end h = let low : cp < end = h in omega arith
upto_end NeverFall cp end h = h

-- CPs in order have 32 bits where the story's length has
small_cps : (cps : CpForm) (starts : List ℕ) → cps.story_len < 2 ^ 32 → AreCpsInOrder cps starts →
    All (λ cp. cp < 2 ^ 32) starts
small_cps cps starts last in_order =
    All-from_get_or (λ cp. cp < 2 ^ 32) starts 0
    (λ k h. let upto : slice_index starts k ≤ cps.story_len = upto_end cps.order (slice_index starts k) cps.story_len
    (in_order k h).within in omega arith)

-- an entry of a printed table is that of the list
printed_entry : {E : Type 0} (form : EntryForm E) (bytes : List ℕ) (end : ℕ) (list : List E) → All (IsSpelled form)
    list → HasPlc bytes form.size (map form.cp_of list) end (map form.bytes_of list) →
    (plc_part form.size bytes).count ≡ length list → (k : ℕ) → k < length list → slice_get list k ≡ spelled_entry form
    (plc_part form.size bytes) k
printed_entry form bytes end list spelled has count k h = elim (slice_get_cases list k).1 [
  | inl w ↦
      let table : PlcPart = plc_part form.size bytes in
      let x = w.0 in
      let here : k < length (map form.cp_of list) = rw (length-map list form.cp_of) h in
      let cp : plc_cp bytes k ≡ form.cp_of x = has.cps k here ∙ (get_or-map form.cp_of list k x 0 h ∙ ap form.cp_of
      w.3) in
      let same : length (map form.cp_of list) ≡ table.count = length-map list form.cp_of ∙ sym count in
      let part : Some (form.bytes_of x) ≡ Some (plc_entry table k) =
      ap (option_map form.bytes_of) (sym w.2) ∙ (sym (slice_get-map form.bytes_of list k)
      ∙ (has.entries k here ∙ ap (λ n. Some (plc_entry (record { bytes = bytes; size = form.size; count = n }) k))
      same)) in
      let again : form.read_from (form.cp_of x) (form.bytes_of x) ≡ Some x = (rw w.3 at (spelled k x h)).again in
      w.2 ∙ (sym again ∙ (ap (λ b. form.read_from (form.cp_of x) b) (same_Some (form.bytes_of x) (plc_entry table k)
      part) ∙ ap (λ c. form.read_from c (plc_entry table k)) (sym cp)))
  | inr w ↦ let past = w.0 in absurd (omega arith)
]

-- a list that is not empty is read back
printed_some : {E : Type 0} (form : EntryForm E) (cps : CpForm) (list : List E) → 0 < length list → cps.story_len < 2
    ^ 32 → AreCpsInOrder cps (map form.cp_of list) → All (IsSpelled form) list → IsPrinted form cps (printed_entries
    form list cps.story_len) list
printed_some {E = E} form cps list some last in_order spelled =
    let end : ℕ = cps.story_len in
    let bytes : List ℕ = printed_entries form list end in
    let table : PlcPart = plc_part form.size bytes in
    let starts : List ℕ = map form.cp_of list in
    let len : length starts ≡ length list = length-map list form.cp_of in
    let parts : length (map form.bytes_of list) ≡ length list = length-map list form.bytes_of in
    let has : HasPlc bytes form.size starts end (map form.bytes_of list) =
    printed-HasPlc form.size starts end (map form.bytes_of list) (omega arith) (omega arith) (small_cps cps starts
    last in_order) last
    (All-map (λ part. length part ≡ form.size) form.bytes_of list (All-weaker (IsSpelled form) (λ entry. length
    (form.bytes_of entry) ≡ form.size) (λ entry h. h.sized) list spelled)) in
    let count : table.count ≡ length list = count_of_whole bytes form.size (length starts) has.whole ∙ len in
    let each : (k : ℕ) → k < length list → slice_get list k ≡ spelled_entry form table k = printed_entry form bytes end
    list spelled has count in
    record {
      formed = inr (rw (count, ← len) has.whole);
      right = λ k h.
          let here : k < length list = omega arith in
          let begin : k < length starts = omega arith in
          record {
            in_order = in_order_same cps (slice_index starts) (plc_cp bytes) k (λ j up. sym (has.cps j (omega arith)))
                (in_order k begin);
            spelled = elim (slice_get_cases list k).1 [
              | inl w ↦ rw (← each k here, w.2) refl
              | inr w ↦ let past = w.0 in absurd (omega arith)
            ];
          };
      entries = record {
        leading = record { within = omega arith; each = each; in_order = in_order };
        all = sym count;
      };
    }

-- any list is read back
pub printed_list : {E : Type 0} (form : EntryForm E) (cps : CpForm) (list : List E) → cps.story_len < 2 ^ 32 →
    AreCpsInOrder cps (map form.cp_of list) → All (IsSpelled form) list → IsPrinted form cps (printed_entries form
    list cps.story_len) list
printed_list form cps [] last in_order spelled =
    let none : (plc_part form.size []).count ≡ 0 = zero-div (4 + form.size) in
    record {
      formed = inl refl;
      right = λ k h. absurd (omega arith);
      entries = record {
        leading = record { within = omega arith; each = λ k h. absurd (omega arith); in_order = in_order };
        all = sym none;
      };
    }
printed_list form cps (x ∷ xs) last in_order spelled = printed_some form cps (x ∷ xs) (omega arith) last in_order
    spelled

-- it breaks no rule
pub printed_holds : {E : Type 0} (form : EntryForm E) (cps : CpForm) (bytes : List ℕ) (at : ℕ) (list : List E) →
    IsPrinted form cps bytes list → Nowhere (BreaksTable form cps bytes at)
printed_holds form cps bytes at list h = none_wrong form cps bytes at h.formed h.right
