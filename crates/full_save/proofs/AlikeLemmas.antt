-- Items that are in a row and have something in common: those of a run.
use Rattle.std.specs.Prelude.{slice_get}
use Rattle.std.proofs.Common.{◌≡◌, ◌∙◌, ap, sym, subst, ℕ, zero, suc, ◌+◌, ◌-◌, ◌<◌, ◌≤◌, List, [], ◌∷◌, ◌++◌, length}
use Rattle.std.proofs.Common.{map, take}
use Rattle.std.proofs.Common.{get_or, Some, arith, append_assoc}
use Rattle.std.proofs.lemmas.List.{length-map, take_more}
use Rattle.std.proofs.lemmas.Option.{slice_get_within, get_or_from_slice_get, same_Some}
use Rattle.doc_bits.proofs.Public.{get-map}
use Rattle.run_lists.specs.declared.runs.Run.{Run}
use Rattle.run_lists.specs.Spread.{expanded, total_len}
use Rattle.run_lists.proofs.Public.{length-spread, count_within, value_in_run}
use Rattle.doc_model.specs.declared.item.Item.{Item}
use Rattle.full_save.specs.Alike.{HaveAlike}

-- a part of what they have
pub alike_of : {A B : Type 0} (what : Item → A) (of : A → B) (value : A) (text : List Item) (place count : ℕ) →
    HaveAlike what value text place count → HaveAlike (λ (item : Item). of (what item)) (of value) text place count
alike_of what of value text place count are = record {
  within = are.within;
  each = λ j item low high here. ap of (are.each j item low high here);
}

-- all but the last one
pub alike_fewer : {A : Type 0} (what : Item → A) (value : A) (text : List Item) (place count : ℕ) →
    HaveAlike what value text place (suc count) → HaveAlike what value text place count
alike_fewer what value text place count are =
    let within = are.within in
    record {
      within = omega (arith, within);
      each = λ j item low high here. are.each j item low (omega (arith, high)) here;
    }

-- all but the first one
pub alike_rest : {A : Type 0} (what : Item → A) (value : A) (text : List Item) (place count : ℕ) →
    HaveAlike what value text place count → 1 ≤ count → HaveAlike what value text (place + 1) (count - 1)
alike_rest what value text place count are some =
    let within = are.within in
    record {
      within = omega (arith, within, some);
      each = λ j item low high here. are.each j item (omega (arith, low)) (omega (arith, high, some)) here;
    }

-- those of a run
pub alike_run : {A : Type 0} (what : Item → A) (text : List Item) (runs : List (Run A)) (k : ℕ) (run : Run A) →
    expanded runs ≡ map what text → slice_get runs k ≡ Some run →
    HaveAlike what run.value text (total_len (take k runs)) run.count
alike_run {A} what text runs k run spelt here =
    let within : k < length runs = slice_get_within runs k run here in
    let is : get_or runs k run ≡ run = get_or_from_slice_get runs k run run here in
    let count : (get_or runs k run).count ≡ run.count = ap (λ (r : Run A). r.count) is in
    let all : length (expanded runs) ≡ length (map what text) = ap length spelt in
    record {
      within = omega
          (arith, count_within runs k run within, length-spread runs, all, length-map text what, count);
      each = λ j item low high there.
          let left : ℕ = j - total_len (take k runs) in
          let at : total_len (take k runs) + left ≡ j = omega (arith, low) in
          let value : slice_get (expanded runs) j ≡ Some run.value =
          subst (λ (n : ℕ). slice_get (expanded runs) n ≡ Some run.value) at
          (value_in_run runs k left run here (omega (arith, low, high))) in
          same_Some (what item) run.value
          (sym (get-map what text j item there) ∙ (ap (λ (xs : List A). slice_get xs j) (sym spelt) ∙ value));
    }

-- one item more of a text
pub text_next : (done text : List Item) (j : ℕ) (item : Item) → slice_get text j ≡ Some item →
    (done ++ take j text) ++ item ∷ [] ≡ done ++ take (j + 1) text
text_next done text j item here =
    let below = slice_get_within text j item here in
    let next : take j text ++ item ∷ [] ≡ take (j + 1) text =
    ap (λ (x : Item). take j text ++ x ∷ []) (sym (get_or_from_slice_get text j item item here))
    ∙ sym (take_more text j item below) in
    append_assoc done (take j text) (item ∷ []) ∙ ap (λ (xs : List Item). done ++ xs) next

one_there : {A : Type 0} (what : Item → A) (item : Item) (j : ℕ) (x : Item) → j < 0 + 1 →
    slice_get (item ∷ []) j ≡ Some x → what x ≡ what item
one_there what item zero x high there = ap what (sym (same_Some item x there))
one_there what item (suc j) x high there = absurd (omega (arith, high))

-- one item alone
pub alike_one : {A : Type 0} (what : Item → A) (item : Item) → HaveAlike what (what item) (item ∷ []) 0 1
alike_one what item = record {
  within = omega arith;
  each = λ j x low high there. one_there what item j x high there;
}
