-- Where the properties of sections are after the changes of a command.
use Rattle.std.specs.Prelude.{slice_get, slice_set, slice_range, List, ℕ, is_some, not, ⊤}
use Rattle.std.specs.List.{sum_by}
use Rattle.std.specs.Option.{option_map, option_and_then}
use Rattle.std.proofs.Common.{◌≡◌, ◌∙◌, ◌⊎◌, ◌++◌, ◌∷◌, ◌+◌, ◌≤◌, [], refl, sym, ap, subst, zero}
use Rattle.std.proofs.Common.{suc, inl, inr}
use Rattle.std.proofs.Common.{Some, None, Option, length, map, take, drop, replicate, get_or, arith}
use Rattle.std.proofs.lemmas.List.{length-append, length-take, length-drop, length-replicate, take-append-drop}
use Rattle.std.proofs.lemmas.List.{set_split}
use Rattle.std.proofs.lemmas.List.Folds.{drop_split}
use Rattle.std.proofs.lemmas.List.Sums.{sum_by-cons, sum_by-append}
use Rattle.std.proofs.lemmas.List.Folds.{sum_by-replicate}
use Rattle.std.proofs.Common.{cond, ◌*◌}
use Rattle.std.proofs.lemmas.Option.{slice_get_within, get_or_from_slice_get, none-some, same_Some}
use Rattle.std.proofs.Math.Seq.{split_at, drop-cons, take-length}
use Rattle.doc_bits.specs.declared.places.Story.{Story}
use Rattle.doc_bits.specs.declared.places.Story.TheVariants.{Main, Note, Head}
use Rattle.doc_bits.specs.Together.{AreTogether}
use Rattle.doc_bits.proofs.Public.{there_is}
use Rattle.prop_map.specs.declared.modifiers.Modifier.{Modifier}
use Rattle.prop_map.specs.Settings.{Properties}
use Rattle.prop_map.specs.Overlay.{overlay}
use Rattle.doc_model.specs.declared.item.Item.{Item}
use Rattle.doc_model.specs.declared.document.Document.{Document}
use Rattle.plain_doc.specs.RulesOfSheet.{section_count}
use Rattle.doc_patch.specs.declared.changes.Change.{Change}
use Rattle.doc_patch.specs.declared.changes.Change.TheVariants.{SpliceText, ModifyItems, SetSection, SpliceNotes}
use Rattle.doc_patch.specs.declared.changes.Change.TheVariants.{SpliceHeads, SetStyleCharacters, SetStyleParagraphs}
use Rattle.doc_patch.specs.declared.changes.Change.TheVariants.{SetBookmarks}
use Rattle.doc_patch.specs.Changes.{changed, all_changed, changed_at, put_changed, with_section, modified_item}
use Rattle.doc_patch.specs.Changes.{map_range}
use Rattle.edit_ops.proofs.Public.{sum_more, count_upto}
use Rattle.session_text.specs.SessionText.{IsSectionPlan, section_properties, unwritten_count}
use Rattle.session_text.specs.SessionChanges.{sections_before}
use Rattle.session_text.specs.SectionPlans.{spliced_plan, set_plan, plan_after, FitsPlan}
use Rattle.session_text.specs.EditSteps.{IsPutStep, ArePutSteps, ActsRight, AreEditSteps, sections_put}
use Rattle.session_text.specs.TextEdits.{IsSectionsEdit}
use Rattle.session_text.proofs.SectionLemmas.{properties-append, properties_at, properties_counted, places_spliced}
use Rattle.session_text.proofs.SectionLemmas.{one_section_is_set}
use Rattle.session_text.proofs.GrowLemmas.{changed_more}

-- ---- how many are still to be written

abbrev one_if : Option ℕ → ℕ
one_if place = cond (not (is_some place)) 1 0

unwritten-append : (places other : List (Option ℕ)) →
    unwritten_count (places ++ other) ≡ unwritten_count places + unwritten_count other
unwritten-append places other = sum_by-append one_if places other

unwritten-replicate : (n : ℕ) → unwritten_count (replicate n None) ≡ n
unwritten-replicate n =
    let all : unwritten_count (replicate n None) ≡ n * 1 = sum_by-replicate one_if n None in
    omega (arith, all)

unwritten-drop : (at : ℕ) (places : List (Option ℕ)) →
    unwritten_count places ≡ unwritten_count (take at places) + unwritten_count (drop at places)
unwritten-drop at places =
    ap unwritten_count (sym (take-append-drop at places)) ∙ unwritten-append (take at places) (drop at places)

-- one more at most where one is set
unwritten-set : (places : List (Option ℕ)) (at : ℕ) →
    unwritten_count (slice_set places at None) ≤ unwritten_count places + 1
unwritten-set [] at = omega arith
unwritten-set (place ∷ places) zero =
    omega (arith, sum_by-cons one_if None places, sum_by-cons one_if place places)
unwritten-set (place ∷ places) (suc at) =
    omega (
      arith,
      sum_by-cons one_if place (slice_set places at None),
      sum_by-cons one_if place places,
      unwritten-set places at,
    )

-- ---- one change

-- the places after a change, for the properties after it
pub record IsPlanStep (now : Document) (places new : List (Option ℕ)) (change : Change) : Type 0 where
  pub planned :
      (wd : List ℕ) → AreTogether (IsSectionPlan wd) places (section_properties now.main) →
      AreTogether (IsSectionPlan wd) new (section_properties (changed change now).main)
  pub len : length new ≡ length (section_properties (changed change now).main)
  pub unwritten : unwritten_count new ≤ unwritten_count places + sections_put change

-- a change that leaves the main text
left_alone : (now : Document) (places : List (Option ℕ)) (change : Change) →
    section_properties (changed change now).main ≡ section_properties now.main →
    length places ≡ length (section_properties now.main) → IsPlanStep now places places change
left_alone now places change same count = record {
  planned = λ wd together. subst (AreTogether (IsSectionPlan wd) places) (sym same) together;
  len = count ∙ ap length (sym same);
  unwritten = omega arith;
}

main_planned : (document now : Document) (places : List (Option ℕ)) (from to : ℕ) (fresh : List Item) →
    now.main ≡ document.main → from ≤ to → length places ≡ length (section_properties now.main) →
    IsPlanStep now places (spliced_plan document.main places from to fresh) (SpliceText Main from to fresh)
main_planned document now places from to fresh named order count =
    let main : List Item = now.main in
    let p : ℕ = section_count (take from document.main) in
    let q : ℕ = section_count (take to document.main) in
    let n : ℕ = section_count fresh in
    let first : p ≡ section_count (take from main) = ap (λ m. section_count (take from m)) (sym named) in
    let last : q ≡ section_count (take to main) = ap (λ m. section_count (take to m)) (sym named) in
    let front = take p places in
    let back = drop q places in
    let rise : p ≤ q = count_upto (λ (item : Item). is_some item.sect) document.main from to order in
    record {
      planned = λ wd together. places_spliced wd places main fresh from to p q n first last refl together;
      len =
          omega (
            arith,
            count,
            rise,
            first,
            last,
            length-append front (replicate n None ++ back),
            length-append (replicate n None) back,
            length-replicate {A = Option ℕ} n None,
            length-take p places,
            length-drop q places,
            properties_counted (take from main),
            properties_counted (take to main),
            properties_counted fresh,
            ap length (properties_at main from),
            length-append (section_properties (take from main)) (section_properties (drop from main)),
            ap length (properties_at main to),
            length-append (section_properties (take to main)) (section_properties (drop to main)),
            ap length (properties-append (take from main) (fresh ++ drop to main)),
            length-append (section_properties (take from main)) (section_properties (fresh ++ drop to main)),
            ap length (properties-append fresh (drop to main)),
            length-append (section_properties fresh) (section_properties (drop to main)),
          );
      unwritten =
          omega (
            arith,
            unwritten-append front (replicate n None ++ back),
            unwritten-append (replicate n None) back,
            unwritten-replicate n,
            unwritten-drop q places,
            count_upto (λ (place : Option ℕ). not (is_some place)) places p q rise,
            properties_counted fresh,
          );
    }

-- ---- properties that are set

-- two lists set at one place
together_set : {A B : Type 0} (P : A → B → Type 0) (xs : List A) (ys : List B) (at : ℕ) (x : A) (y : B) → P x y →
    AreTogether P xs ys → AreTogether P (slice_set xs at x) (slice_set ys at y)
together_set P xs ys at x y is together = record {
  len = set_len xs ys at x y together.len;
  each = set_each P xs ys at x y is (λ k one other here there. together.each k one other here there);
}
  where
    set_len : {A B : Type 0} (xs : List A) (ys : List B) (at : ℕ) (x : A) (y : B) → length xs ≡ length ys →
        length (slice_set xs at x) ≡ length (slice_set ys at y)
    set_len [] [] at x y same = refl
    set_len [] (b ∷ ys) at x y same = absurd (omega (arith, same))
    set_len (a ∷ xs) [] at x y same = absurd (omega (arith, same))
    set_len (a ∷ xs) (b ∷ ys) zero x y same = same
    set_len (a ∷ xs) (b ∷ ys) (suc at) x y same =
        let rest = set_len xs ys at x y (omega (arith, same)) in
        omega (arith, rest)

    set_each : {A B : Type 0} (P : A → B → Type 0) (xs : List A) (ys : List B) (at : ℕ) (x : A) (y : B) → P x y →
        ((k : ℕ) (one : A) (other : B) → slice_get xs k ≡ Some one → slice_get ys k ≡ Some other → P one other) →
        (k : ℕ) (one : A) (other : B) → slice_get (slice_set xs at x) k ≡ Some one →
        slice_get (slice_set ys at y) k ≡ Some other → P one other
    set_each P [] ys at x y is each k one other here there = absurd (none-some one here)
    set_each P (a ∷ xs) [] at x y is each k one other here there = absurd (none-some other there)
    set_each P (a ∷ xs) (b ∷ ys) zero x y is each zero one other here there =
        subst (λ c. P c other) (same_Some x one here) (subst (P x) (same_Some y other there) is)
    set_each P (a ∷ xs) (b ∷ ys) zero x y is each (suc k) one other here there = each (suc k) one other here there
    set_each P (a ∷ xs) (b ∷ ys) (suc at) x y is each zero one other here there = each zero one other here there
    set_each P (a ∷ xs) (b ∷ ys) (suc at) x y is each (suc k) one other here there =
        set_each P xs ys at x y is (λ n c d. each (suc n) c d) k one other here there

-- an item that ends no section
no_properties : (item : Item) (items : List Item) → item.sect ≡ None →
    section_properties (item ∷ items) ≡ section_properties items
no_properties item items is = rw is refl

set_nothing : (main : List Item) (at : ℕ) (item new : Item) → slice_get main at ≡ Some item → item.sect ≡ None →
    new.sect ≡ None → section_properties (slice_set main at new) ≡ section_properties main
set_nothing main at item new there is made =
    let low = slice_get_within main at item there in
    let front : List Item = take at main in
    let back : List Item = drop (suc at) main in
    let read : get_or main at item ≡ item = get_or_from_slice_get main at item item there in
    let parts : main ≡ front ++ item ∷ back =
    split_at main at item low ∙ ap (λ t. front ++ t ∷ back) read in
    let old : section_properties main ≡ section_properties front ++ section_properties back =
    ap section_properties parts ∙ (properties-append front (item ∷ back)
    ∙ ap (λ l. section_properties front ++ l) (no_properties item back is)) in
    let changed_is : section_properties (slice_set main at new) ≡ section_properties front ++ section_properties back =
    ap section_properties (set_split main at new low)
    ∙ (properties-append front (new ∷ back) ∙ ap (λ l. section_properties front ++ l) (no_properties new back made)) in
    changed_is ∙ sym old

section_set : (now : Document) (places : List (Option ℕ)) (at : ℕ) (set_to : Properties) (item : Item)
    (sect : Option Properties) →
    slice_get now.main at ≡ Some item → item.sect ≡ sect → length places ≡ length (section_properties now.main) →
    IsPlanStep now places (set_plan places (section_count (take at now.main)) sect) (SetSection at set_to)
section_set now places at set_to item None there is count =
    left_alone now places (SetSection at set_to)
    (ap (λ o. section_properties (put_changed now.main at (with_section set_to) o)) there
    ∙ set_nothing now.main at item (with_section set_to item) there is (ap (option_map (overlay set_to)) is)) count
section_set now places at set_to item (Some before) there is count =
    let main : List Item = now.main in
    let n : ℕ = section_count (take at main) in
    let number : sections_before main at ≡ n = properties_counted (take at main) in
    let new : section_properties (changed_at main at (with_section set_to))
    ≡ slice_set (section_properties main) n (overlay set_to before) =
    one_section_is_set main at item set_to before there is
    ∙ ap (λ k. slice_set (section_properties main) k (overlay set_to before)) number in
    let made : (wd : List ℕ) → AreTogether (IsSectionPlan wd) places (section_properties main) →
    AreTogether (IsSectionPlan wd) (slice_set places n None)
    (slice_set (section_properties main) n (overlay set_to before)) =
    λ wd together.
    together_set (IsSectionPlan wd) places (section_properties main) n None (overlay set_to before)
    (λ value here. absurd (none-some value here)) together in
    let lengths : AreTogether (λ (a : Option ℕ) (b : Properties). ℕ) places (section_properties main) =
    record { len = count; each = λ k one other here there. 0 } in
    record {
      planned = λ wd together.
          subst (AreTogether (IsSectionPlan wd) (slice_set places n None)) (sym new) (made wd together);
      len =
          (together_set (λ (a : Option ℕ) (b : Properties). ℕ) places (section_properties main) n None
          (overlay set_to before) 0 lengths).len ∙ ap length (sym new);
      unwritten = unwritten-set places n;
    }

-- ---- each change

-- a modifier on items leaves the sections
one_kept : (by : Modifier) (item : Item) (items : List Item) (sect : Option Properties) → item.sect ≡ sect →
    section_properties (map (modified_item by) items) ≡ section_properties items →
    section_properties (modified_item by item ∷ map (modified_item by) items) ≡ section_properties (item ∷ items)
one_kept by item items None is rest = rw is rest
one_kept by item items (Some properties) is rest = rw is (ap (λ l. properties ∷ l) rest)

sections_kept : (by : Modifier) (items : List Item) →
    section_properties (map (modified_item by) items) ≡ section_properties items
sections_kept by [] = refl
sections_kept by (item ∷ items) = one_kept by item items item.sect refl (sections_kept by items)

range_kept : (by : Modifier) (main : List Item) (from to : ℕ) → from ≤ to →
    section_properties (map_range (modified_item by) main from to) ≡ section_properties main
range_kept by main from to order =
    let range = slice_range main from to in
    let made = map (modified_item by) range in
    properties-append (take from main) (made ++ drop to main)
    ∙ (ap (λ l. section_properties (take from main) ++ l)
    (properties-append made (drop to main)
    ∙ (ap (λ l. l ++ section_properties (drop to main)) (sections_kept by range)
    ∙ (sym (properties-append range (drop to main)) ∙ ap section_properties (sym (drop_split main from to order)))))
    ∙ sym (properties_at main from))

acted_sections : (now : Document) (story : Story) (from to : ℕ) (by : Modifier) → from ≤ to →
    section_properties (changed (ModifyItems story from to by) now).main ≡ section_properties now.main
acted_sections now Main from to by order = range_kept by now.main from to order
acted_sections now (Note number) from to by order = refl
acted_sections now (Head number) from to by order = refl

-- a change of a command puts items, or is a modifier that is alone
abbrev pub IsChangeStep : Document → Document → Change → Type 0
IsChangeStep document now change = IsPutStep document now change ⊎ ((now ≡ document) × ActsRight document change)

abbrev pub AreChangeSteps : Document → Document → List Change → Type 0
AreChangeSteps document now [] = ⊤
AreChangeSteps document now (change ∷ more) =
    IsChangeStep document now change × AreChangeSteps document (changed change now) more

puts_change : (document now : Document) (changes : List Change) → ArePutSteps document now changes →
    AreChangeSteps document now changes
puts_change document now [] steps = tt
puts_change document now (change ∷ more) steps =
    (inl steps.0, puts_change document (changed change now) more steps.1)

pub change_steps : (document : Document) (changes : List Change) → AreEditSteps document changes →
    AreChangeSteps document document changes
change_steps document changes (inr puts) = puts_change document document changes puts
change_steps document [] (inl lone) = tt
change_steps document (change ∷ []) (inl lone) = (inr (refl, lone), tt)
change_steps document (change ∷ other ∷ more) (inl lone) = absurd lone

put_planned : (document now : Document) (places : List (Option ℕ)) (change : Change) → IsPutStep document now change →
    length places ≡ length (section_properties now.main) →
    IsPlanStep now places (plan_after document.main places change) change
put_planned document now places (SpliceText Main from to fresh) put count =
    main_planned document now places from to fresh put.named put.can.0.ordered count
put_planned document now places (SpliceText (Note number) from to fresh) put count =
    left_alone now places (SpliceText (Note number) from to fresh) refl count
put_planned document now places (SpliceText (Head number) from to fresh) put count =
    left_alone now places (SpliceText (Head number) from to fresh) refl count
put_planned document now places (ModifyItems story from to by) put count = absurd put.named
put_planned document now places (SetSection at properties) put count =
    let found = there_is now.main at put.can.0 in
    let item : Item = found.0 in
    let step = section_set now places at properties item item.sect found.1 refl count in
    let sect : Item → Option Properties = λ i. i.sect in
    let read : option_and_then sect (slice_get document.main at) ≡ item.sect =
    ap (λ m. option_and_then sect (slice_get m at)) (sym put.named) ∙ ap (option_and_then sect) found.1 in
    let number : section_count (take at now.main) ≡ section_count (take at document.main) =
    ap (λ m. section_count (take at m)) put.named in
    subst (λ l. IsPlanStep now places l (SetSection at properties))
    (ap (λ n. set_plan places n item.sect) number
    ∙ ap (set_plan places (section_count (take at document.main))) (sym read)) step
put_planned document now places (SpliceNotes from to fresh) put count =
    left_alone now places (SpliceNotes from to fresh) refl count
put_planned document now places (SpliceHeads from to fresh) put count =
    left_alone now places (SpliceHeads from to fresh) refl count
put_planned document now places (SetStyleCharacters istd properties) put count =
    left_alone now places (SetStyleCharacters istd properties) refl count
put_planned document now places (SetStyleParagraphs istd properties) put count =
    left_alone now places (SetStyleParagraphs istd properties) refl count
put_planned document now places (SetBookmarks list) put count =
    left_alone now places (SetBookmarks list) refl count

act_planned : (document now : Document) (places : List (Option ℕ)) (change : Change) → ActsRight document change →
    length places ≡ length (section_properties now.main) →
    IsPlanStep now places (plan_after document.main places change) change
act_planned document now places (SpliceText story from to fresh) act count = absurd act
act_planned document now places (ModifyItems story from to by) act count =
    let some = act.range.0 in
    left_alone now places (ModifyItems story from to by)
    (acted_sections now story from to by (omega (arith, some))) count
act_planned document now places (SetSection at properties) act count = absurd act
act_planned document now places (SpliceNotes from to fresh) act count = absurd act
act_planned document now places (SpliceHeads from to fresh) act count = absurd act
act_planned document now places (SetStyleCharacters istd properties) act count = absurd act
act_planned document now places (SetStyleParagraphs istd properties) act count = absurd act
act_planned document now places (SetBookmarks list) act count = absurd act

step_planned : (document now : Document) (places : List (Option ℕ)) (change : Change) →
    IsChangeStep document now change → length places ≡ length (section_properties now.main) →
    IsPlanStep now places (plan_after document.main places change) change
step_planned document now places change (inl put) count = put_planned document now places change put count
step_planned document now places change (inr act) count = act_planned document now places change act.1 count

-- ---- when a change has a plan

put_fits : (document now : Document) (places : List (Option ℕ)) (change : Change) → IsPutStep document now change →
    length places ≡ length (section_properties now.main) → FitsPlan document.main places change
put_fits document now places (SpliceText Main from to fresh) put count =
    let named = put.named in
    let within = put.can.0.within in
    let number = properties_counted now.main in (
      record { order = put.can.0.ordered; within = omega (arith, within, ap length named) },
      count ∙ (number ∙ ap section_count named),
    )
put_fits document now places (SpliceText (Note number) from to fresh) put count = tt
put_fits document now places (SpliceText (Head number) from to fresh) put count = tt
put_fits document now places (ModifyItems story from to by) put count = tt
put_fits document now places (SetSection at properties) put count =
    let named = put.named in
    let within = put.can.0 in
    let number = properties_counted now.main in
    (omega (arith, within, ap length named), count ∙ (number ∙ ap section_count named))
put_fits document now places (SpliceNotes from to fresh) put count = tt
put_fits document now places (SpliceHeads from to fresh) put count = tt
put_fits document now places (SetStyleCharacters istd properties) put count = tt
put_fits document now places (SetStyleParagraphs istd properties) put count = tt
put_fits document now places (SetBookmarks list) put count = tt

act_fits : (document : Document) (places : List (Option ℕ)) (change : Change) → ActsRight document change →
    FitsPlan document.main places change
act_fits document places (SpliceText story from to fresh) act = absurd act
act_fits document places (ModifyItems story from to by) act = tt
act_fits document places (SetSection at properties) act = absurd act
act_fits document places (SpliceNotes from to fresh) act = tt
act_fits document places (SpliceHeads from to fresh) act = tt
act_fits document places (SetStyleCharacters istd properties) act = tt
act_fits document places (SetStyleParagraphs istd properties) act = tt
act_fits document places (SetBookmarks list) act = tt

step_fits : (document now : Document) (places : List (Option ℕ)) (change : Change) →
    IsChangeStep document now change → length places ≡ length (section_properties now.main) →
    FitsPlan document.main places change
step_fits document now places change (inl put) count = put_fits document now places change put count
step_fits document now places change (inr act) count = act_fits document places change act.1

-- ---- the places so far

pub record PlannedSoFar
    (document : Document) (changes : List Change) (places : List (Option ℕ)) (k : ℕ) (new : List (Option ℕ)) :
    Type 0 where
  pub planned :
      (wd : List ℕ) → AreTogether (IsSectionPlan wd) places (section_properties document.main) →
      AreTogether (IsSectionPlan wd) new (section_properties (all_changed (take k changes) document).main)
  pub len : length new ≡ length (section_properties (all_changed (take k changes) document).main)
  pub unwritten : unwritten_count new ≤ unwritten_count places + sum_by sections_put (take k changes)
  pub steps : AreChangeSteps document (all_changed (take k changes) document) (drop k changes)

pub nothing_planned : (document : Document) (changes : List Change) (places new : List (Option ℕ)) →
    AreEditSteps document changes → length places ≡ length (section_properties document.main) → new ≡ places →
    PlannedSoFar document changes places 0 new
nothing_planned document changes places new steps count same = record {
  planned = λ wd together.
      subst (λ l. AreTogether (IsSectionPlan wd) l (section_properties document.main)) (sym same) together;
  len = ap length same ∙ count;
  unwritten = omega (arith, ap unwritten_count same);
  steps = change_steps document changes steps;
}

change_here : (document now : Document) (changes : List Change) (k : ℕ) (change : Change) →
    AreChangeSteps document now (drop k changes) → slice_get changes k ≡ Some change →
    IsChangeStep document now change × AreChangeSteps document (changed change now) (drop (k + 1) changes)
change_here document now changes k change steps there =
    let low = slice_get_within changes k change there in
    let read : get_or changes k change ≡ change = get_or_from_slice_get changes k change change there in
    let next : suc k ≡ k + 1 = omega arith in
    let is : drop k changes ≡ change ∷ drop (k + 1) changes =
    drop-cons changes k change low
    ∙ (ap (λ c. c ∷ drop (suc k) changes) read ∙ ap (λ n. change ∷ drop n changes) next) in
    let both : AreChangeSteps document now (change ∷ drop (k + 1) changes) =
    subst (AreChangeSteps document now) is steps in
    both

pub planned_fits : (document : Document) (changes : List Change) (places : List (Option ℕ)) (k : ℕ)
    (new : List (Option ℕ)) (change : Change) → PlannedSoFar document changes places k new →
    slice_get changes k ≡ Some change → FitsPlan document.main new change
planned_fits document changes places k new change so_far there =
    let now : Document = all_changed (take k changes) document in
    step_fits document now new change (change_here document now changes k change so_far.steps there).0 so_far.len

pub planned_more : (document : Document) (changes : List Change) (places : List (Option ℕ)) (k : ℕ)
    (new after : List (Option ℕ)) (change : Change) → PlannedSoFar document changes places k new →
    slice_get changes k ≡ Some change → after ≡ plan_after document.main new change →
    PlannedSoFar document changes places (k + 1) after
planned_more document changes places k new after change so_far there is =
    let now : Document = all_changed (take k changes) document in
    let after_it : Document = all_changed (take (k + 1) changes) document in
    let next : after_it ≡ changed change now = changed_more document changes k change there in
    let here = change_here document now changes k change so_far.steps there in
    let plan = plan_after document.main new change in
    let step = step_planned document now new change here.0 so_far.len in
    let before = so_far.unwritten in
    let more = step.unwritten in
    record {
      planned = λ wd together.
          subst (λ l. AreTogether (IsSectionPlan wd) l (section_properties after_it.main)) (sym is)
          (subst (λ (d : Document). AreTogether (IsSectionPlan wd) plan (section_properties d.main)) (sym next)
          (step.planned wd (so_far.planned wd together)));
      len = ap length is ∙ (step.len ∙ ap (λ (d : Document). length (section_properties d.main)) (sym next));
      unwritten = omega (arith, before, more, ap unwritten_count is, sum_more sections_put changes k change there);
      steps = subst (λ d. AreChangeSteps document d (drop (k + 1) changes)) (sym next) here.1;
    }

pub all_planned : (document : Document) (changes : List Change) (places : List (Option ℕ)) (k : ℕ)
    (new : List (Option ℕ)) → PlannedSoFar document changes places k new → k ≡ length changes →
    IsSectionsEdit document changes places new
all_planned document changes places k new so_far all =
    let whole : take k changes ≡ changes = ap (λ n. take n changes) all ∙ take-length changes in
    let bound = so_far.unwritten in
    record {
      planned = λ wd together.
          subst
          (λ l. AreTogether (IsSectionPlan wd) new (section_properties (all_changed l document).main)) whole
          (so_far.planned wd together);
      unwritten = omega (arith, bound, ap (sum_by sections_put) whole);
    }
