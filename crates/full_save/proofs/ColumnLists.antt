-- Lists that are made as the runs of what is beside a text are gone through.
use Rattle.std.specs.Prelude.{slice_get, option_map, All}
use Rattle.std.specs.Option.{ForSome}
use Rattle.std.proofs.Common.{◌≡◌, ◌∙◌, refl, ap, sym, subst, ℕ, zero, suc, ◌+◌, ◌<◌, ◌≤◌, List, [], ◌∷◌, ◌++◌, length}
use Rattle.std.proofs.Common.{map, take}
use Rattle.std.proofs.Common.{get_or, Option, Some, None, arith}
use Rattle.std.proofs.lemmas.List.{length-map}
use Rattle.std.proofs.lemmas.Option.{slice_get_within, get_or_from_slice_get}
use Rattle.doc_bits.proofs.Public.{there_is, All_at}
use Rattle.prop_map.specs.Settings.{Properties}
use Rattle.doc_parts.specs.declared.lists.Sed.{Sed}
use Rattle.run_lists.specs.declared.runs.Run.{Run}
use Rattle.run_lists.specs.Spread.{expanded, total_len}
use Rattle.run_lists.proofs.Public.{length-spread, extent_all, extent_more}
use Rattle.doc_model.specs.declared.item.Item.{Item}
use Rattle.doc_model.specs.Collected.{collected, field_character}
use Rattle.doc_columns.specs.declared.attached.Attached.{Attached}
use Rattle.doc_columns.specs.Attached.{attached_of}
use Rattle.full_save.specs.Alike.{HaveAlike}
use Rattle.full_save.specs.Lists.{IsListedUpTo}
use Rattle.full_save.specs.Sections.{HasSavableSection, IsSavableSection, SectionsSoFar, AreSepxesUpTo, left_from}
use Rattle.full_save.specs.Sections.{seds_from}
use Rattle.full_save.proofs.AlikeLemmas.{alike_fewer, alike_run}
use Rattle.full_save.proofs.ListLemmas.{listed_entry, listed_nothing}
use Rattle.full_save.proofs.SectionLemmas.{sepxes_skip}

-- the item at a place of a text, in the words of `get_or`
pub record ThereIs (text : List Item) (j : ℕ) : Type 0 where
  pub item : Item
  pub here : slice_get text j ≡ Some item
  pub same : get_or text j item ≡ item

pub there_at : (text : List Item) (j : ℕ) → j < length text → ThereIs text j
there_at text j below =
    let there = there_is text j below in
    record {
      item = there.0;
      here = there.1;
      same = get_or_from_slice_get text j there.0 there.0 there.1;
    }

-- items that have nothing of this kind
pub listed_none : {A B : Type 0} (what : Item → Option A) (entry : ℕ × A → B) (from : ℕ) (text : List Item)
    (place count : ℕ) (old new : List B) → HaveAlike what None text place count →
    IsListedUpTo what entry from text place old new → IsListedUpTo what entry from text (place + count) old new
listed_none what entry from text place zero old new are listed =
    let e : place ≡ place + 0 = omega arith in
    subst (λ (n : ℕ). IsListedUpTo what entry from text n old new) e listed
listed_none what entry from text place (suc count) old new are listed =
    let within = are.within in
    let j : ℕ = place + count in
    let below : j < length text = omega (arith, within) in
    let there = there_at text j below in
    let none : what (get_or text j there.item) ≡ None =
    ap what there.same ∙ are.each j there.item (omega arith) (omega arith) there.here in
    let before = listed_none what entry from text place count old new (alike_fewer what None text place count are)
    listed in
    let after = listed_nothing what entry from text j there.item old new below none before in
    let e : j + 1 ≡ place + suc count = omega arith in
    subst (λ (n : ℕ). IsListedUpTo what entry from text n old new) e after

-- items that end no section
pub sepxes_none : (main : List Item) (base : ℕ) (old : List ℕ) (place count : ℕ) (so : SectionsSoFar) →
    HaveAlike (λ (item : Item). item.sect) None main place count →
    AreSepxesUpTo main base old place so → AreSepxesUpTo main base old (place + count) so
sepxes_none main base old place zero so are done =
    let e : place ≡ place + 0 = omega arith in subst (λ (n : ℕ). AreSepxesUpTo main base old n so) e done
sepxes_none main base old place (suc count) so are done =
    let within = are.within in
    let j : ℕ = place + count in
    let below : j < length main = omega (arith, within) in
    let there = there_at main j below in
    let sect : Item → Option Properties = λ item. item.sect in
    let none : (get_or main j there.item).sect ≡ None =
    ap sect there.same ∙ are.each j there.item (omega arith) (omega arith) there.here in
    let before = sepxes_none main base old place count so (alike_fewer sect None main place count are) done in
    let after = sepxes_skip main base old j there.item so below none before in
    let e : j + 1 ≡ place + suc count = omega arith in
    subst (λ (n : ℕ). AreSepxesUpTo main base old n so) e after

-- a unit without a field byte is no field character
pub no_field : (text : List Item) (place count : ℕ) → HaveAlike (λ (item : Item). item.fld) None text place count →
    HaveAlike field_character None text place count
no_field text place count are = record {
  within = are.within;
  each = λ j item low high here. ap (option_map (λ (byte : ℕ). (item.unit, byte))) (are.each j item low high here);
}

-- at the end of the runs the walk is at the end of the text
pub at_end : (text : List Item) (runs : List (Run Attached)) (k place : ℕ) → expanded runs ≡ map attached_of text →
    length runs ≤ k → place ≡ total_len (take k runs) → length text ≤ place
at_end text runs k place spelt all here =
    omega (arith, here, extent_all runs k all, length-spread runs, ap length spelt, length-map text attached_of)

-- a run is in the text
pub run_inside : (text : List Item) (runs : List (Run Attached)) (k place : ℕ) (run : Run Attached) →
    expanded runs ≡ map attached_of text → slice_get runs k ≡ Some run → place ≡ total_len (take k runs) →
    HaveAlike attached_of run.value text place run.count
run_inside text runs k place run spelt here at =
    subst (λ (n : ℕ). HaveAlike attached_of run.value text n run.count) (sym at)
    (alike_run attached_of text runs k run spelt here)

-- where the next run begins
pub run_after : (runs : List (Run Attached)) (k place : ℕ) (run : Run Attached) → slice_get runs k ≡ Some run →
    place ≡ total_len (take k runs) → place + run.count ≡ total_len (take (k + 1) runs)
run_after runs k place run here at =
    let below = slice_get_within runs k run here in
    let is = get_or_from_slice_get runs k run run here in
    let count : (get_or runs k run).count ≡ run.count = ap (λ (r : Run Attached). r.count) is in
    omega (arith, at, extent_more runs k run below, count)

-- nothing is listed yet
pub listed_begins : {A B : Type 0} (what : Item → Option A) (entry : ℕ × A → B) (from : ℕ) (text : List Item)
    (old : List B) → IsListedUpTo what entry from text 0 old old
listed_begins {B = B} what entry from text old =
    let zero : from + 0 ≡ from = omega arith in
    record { rest = ap (λ (n : ℕ). old ++ map entry (collected what n text)) zero }

-- the sections of a run can be saved, where all of the text can
pub some_savable : (main : List Item) (attached : Attached) (place count : ℕ) → All HasSavableSection main →
    HaveAlike attached_of attached main place count → 0 < count → ForSome attached.sect IsSavableSection
some_savable main attached place count savable are some =
    let within = are.within in
    let there = there_at main place (omega (arith, within, some)) in
    let same : there.item.sect ≡ attached.sect =
    ap (λ (b : Attached). b.sect) (are.each place there.item (omega arith) (omega (arith, some)) there.here) in
    subst (λ (sect : Option Properties). ForSome sect IsSavableSection) same
    (All_at HasSavableSection main place there.item savable there.here)

-- no section is done yet
pub sepxes_begin : (main : List Item) (base : ℕ) (out : List ℕ) (seds : List Sed) → seds ≡ [] →
    AreSepxesUpTo main base out 0 (record { start = 0; out = out; seds = seds })
sepxes_begin main base out seds none = record {
  bytes = refl;
  places = ap (λ (list : List Sed). list ++ seds_from 0 (base + length out) (left_from main 0)) none;
  few = omega arith;
}

-- ---- the items of one run

-- the items of a run up to a place are listed, whatever text of this kind the run is of
pub record AreListedIn {A B : Type 0} (what : Item → Option A) (entry : ℕ × A → B) (from : ℕ)
    (IsSuch : List Item → Type 0) (attached : Attached) (place count at : ℕ) (old new : List B) : Type 0 where
  pub low : place ≤ at
  pub high : at ≤ place + count
  pub goes :
      (text : List Item) (start : List B) → IsSuch text → HaveAlike attached_of attached text place count →
      IsListedUpTo what entry from text place start old → IsListedUpTo what entry from text at start new

pub none_listed : {A B : Type 0} (what : Item → Option A) (entry : ℕ × A → B) (from : ℕ)
    (IsSuch : List Item → Type 0) (attached : Attached) (place count : ℕ) (old : List B) →
    AreListedIn what entry from IsSuch attached place count place old old
none_listed what entry from IsSuch attached place count old = record {
  low = omega arith;
  high = omega arith;
  goes = λ text start such are listed. listed;
}

pub one_listed : {A B : Type 0} (what : Item → Option A) (entry : ℕ × A → B) (from : ℕ)
    (IsSuch : List Item → Type 0) (attached : Attached) (place count at : ℕ) (old mid new : List B) (value : Item → A) →
    at < place + count → ((item : Item) → attached_of item ≡ attached → what item ≡ Some (value item)) →
    ((text : List Item) (item : Item) → IsSuch text → slice_get text at ≡ Some item →
    new ≡ mid ++ entry (from + at, value item) ∷ []) →
    AreListedIn what entry from IsSuch attached place count at old mid →
    AreListedIn what entry from IsSuch attached place count (at + 1) old new
one_listed what entry from IsSuch attached place count at old mid new value below has puts listed =
    let from_place = listed.low in
    record {
      low = omega (arith, from_place);
      high = omega (arith, below);
      goes = λ text start such are so.
          let within = are.within in
          let here : at < length text = omega (arith, within, below) in
          let there = there_at text at here in
          let is : what (get_or text at there.item) ≡ Some (value there.item) =
          ap what there.same ∙ has there.item (are.each at there.item from_place below there.here) in
          listed_entry what entry from text at there.item (value there.item) start mid new here is
          (puts text there.item such there.here) (listed.goes text start such are so);
    }
