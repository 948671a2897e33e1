-- A file that breaks no rule on its FIB has no references to stories that are left out.
use Rattle.std.proofs.Common.{◌≡◌, ◌∙◌, ap, refl, ℕ, zero, suc, ◌+◌, ◌-◌, ◌/◌, ◌<◌, ◌≤◌, ◌==◌, inl, inr, arith}
use Rattle.std.proofs.Common.{Bool, true, false, List, [], ◌++◌, length, drop, Option, Some, None, slice_get}
use Rattle.std.specs.Prelude.{All, if◌then◌else◌}
use Rattle.std.specs.Option.{option_and_then, unwrap_or}
use Rattle.std.specs.List.{list_any}
use Rattle.std.proofs.lemmas.Bool.{cases_lt, cases_eq, eq-eqb}
use Rattle.std.proofs.lemmas.List.{length-take}
use Rattle.std.proofs.lemmas.List.Elements.{All-nil, All-push}
use Rattle.doc_bits.specs.Plc.{plc_cp}
use Rattle.doc_bits.specs.Rules.{Hold}
use Rattle.doc_bits.specs.declared.places.Story.{Story}
use Rattle.doc_bits.specs.declared.places.Story.TheVariants.{Main, Head}
use Rattle.doc_bits.proofs.Public.{All_at}
use Rattle.fib_form.specs.Fib.{fib_pair, fib_pair_place, table_part}
use Rattle.fib_form.specs.FibRules.{fib_rules}
use Rattle.fib_versions.specs.declared.further.Further.{Further}
use Rattle.fib_versions.specs.declared.further.Further.TheVariants.{Comments, Endnotes, TextBoxes, HeaderTextBoxes}
use Rattle.fib_versions.specs.Versions.{further_count}
use Rattle.doc_parts.specs.Tabulated.{tabulate}
use Rattle.doc_model.specs.declared.item.Item.{Item}
use Rattle.doc_model.specs.declared.document.Document.{Document}
use Rattle.doc_columns.specs.Attached.{attached_of, has_something}
use Rattle.text_losses.specs.declared.features.Reference.{Reference}
use Rattle.doc_losses.specs.References.{Names, names_of, mark_cps, mark_pair, mark_size, table_cps, where_named}
use Rattle.doc_losses.specs.References.{marked_story}
use Rattle.doc_losses.specs.References.{mark_of_unit, marked_story_at, text_marks, reference_at}
use Rattle.doc_losses.specs.References.{text_references, head_begin, head_at, head_references, all_head_references}
use Rattle.doc_losses.specs.References.{references}
use Rattle.doc_losses.proofs.NothingLemmas.{nothing_listed, nothing_joined}

-- ---- no CP is named

no_cps : (size : ℕ) (bytes : List ℕ) → length bytes ≤ 4 → table_cps size bytes ≡ []
unfolding tabulate
no_cps size bytes short =
    let none : length bytes - 4 ≡ 0 = omega (arith, short) in
    ap (λ (n : ℕ). tabulate (plc_cp bytes) (n / (4 + size))) none ∙ no_entries size
  where
    no_entries : (size : ℕ) → tabulate (plc_cp bytes) (0 / (4 + size)) ≡ []
    no_entries size = let zeros : 0 / (4 + size) ≡ 0 = omega arith in ap (tabulate (plc_cp bytes)) zeros

short_part : (wd table : List ℕ) (n : ℕ) → ((p : ℕ) → (p ≡ fib_pair_place n) × (4 < (fib_pair wd n).1) → ⊥) →
    length (table_part wd table n) ≤ 4
short_part wd table n right =
    let pair = fib_pair wd n in
    let few : pair.1 ≤ 4 = elim (cases_lt 4 pair.1) [
      | inl over ↦ absurd (right (fib_pair_place n) (refl, over))
      | inr most ↦ most
    ] in
    let len = length-take (pair.0 + pair.1 - pair.0) (drop pair.0 table) in
    omega (arith, few, len)

pub none_named : (wd table : List ℕ) → Hold (fib_rules wd) → (story : Further) → mark_cps wd table story ≡ []
none_named wd table (_, (_, (_, (_, (_, (_, (stories, (_, parts)))))))) Comments =
    let none : further_count wd Comments ≡ 0 = elim (cases_eq (further_count wd Comments) 0) [
      | inl same ↦ same
      | inr some ↦ absurd (stories _ (record { entry = 0; below = omega arith; broken = (refl, some) }))
    ] in
    ap (λ (b : Bool). if b then [] else table_cps (mark_size Comments) (table_part wd table (mark_pair Comments)))
    (eq-eqb (further_count wd Comments) 0 none)
none_named wd table (_, (_, (_, (_, (_, (_, (_, (_, parts)))))))) Endnotes =
    no_cps 2 (table_part wd table 46) (short_part wd table 46 (λ p long. parts p (inr (inr long))))
none_named wd table (_, (_, (_, (_, (_, (_, (_, (_, parts)))))))) TextBoxes =
    no_cps 26 (table_part wd table 40) (short_part wd table 40 (λ p long. parts p (inl long)))
none_named wd table (_, (_, (_, (_, (_, (_, (_, (_, parts)))))))) HeaderTextBoxes =
    no_cps 26 (table_part wd table 41) (short_part wd table 41 (λ p long. parts p (inr (inl long))))

pub names_none : (wd table : List ℕ) → Hold (fib_rules wd) → (story : Further) (cp : ℕ) →
    names_of wd table story cp ≡ false
names_none wd table rules story cp =
    ap (list_any (λ (named : ℕ). named == cp)) (none_named wd table rules story)

-- ---- so no item is a mark

if_false : (is : Bool) (to : Further) → is ≡ false → if◌then◌else◌ {A = Option Further} is (Some to) None ≡ None
if_false true to off = absurd (cc off)
if_false false to off = refl

if_none : (is : Bool) (o : Option Further) → o ≡ None → if◌then◌else◌ {A = Option Further} is None o ≡ None
if_none true o none = refl
if_none false o none = none

nowhere_named : (names : Names) (cp : ℕ) (o : Option Further) → ((story : Further) → names story cp ≡ false) →
    where_named names cp o ≡ None
nowhere_named names cp None none = refl
nowhere_named names cp (Some to) none = if_false (names to cp) to (none to)

by_item : (names : Names) (story : Story) (cp : ℕ) (o : Option Item) →
    ((to : Further) → names to cp ≡ false) → option_and_then (marked_story names story cp) o ≡ None
by_item names story cp None none = refl
by_item names story cp (Some item) none =
    if_none (has_something (attached_of item)) (where_named names cp (mark_of_unit story item.unit))
    (nowhere_named names cp (mark_of_unit story item.unit) none)

all_none : (f : ℕ → Option Further) (n : ℕ) → ((k : ℕ) → f k ≡ None) → All (λ o. o ≡ None) (tabulate f n)
unfolding tabulate
all_none f zero none = All-nil (λ (o : Option Further). o ≡ None)
all_none f (suc n) none = All-push (λ (o : Option Further). o ≡ None) (tabulate f n) (f n) (all_none f n none) (none n)

nothing_at : (o : Option (Option Further)) → ((mark : Option Further) → o ≡ Some mark → mark ≡ None) →
    unwrap_or o None ≡ None
nothing_at None none = refl
nothing_at (Some mark) none = none mark refl

no_text_references : (names : Names) (story : Story) (begin : ℕ) (text : List Item) →
    ((to : Further) (cp : ℕ) → names to cp ≡ false) → text_references names story begin text ≡ []
no_text_references names story begin text none =
    let marks : List (Option Further) = text_marks names story begin text in
    let are : All (λ (o : Option Further). o ≡ None) marks =
    all_none (marked_story_at names story begin text) (length text)
    (λ k. by_item names story (begin + k) (slice_get text k) (λ to. none to (begin + k))) in
    nothing_listed (λ (at : ℕ). reference_at story at (unwrap_or (slice_get marks at) None)) (length marks)
    (λ at low. ap (reference_at story at) (nothing_at (slice_get marks at)
    (λ mark is. All_at (λ (o : Option Further). o ≡ None) marks at mark are is)))

pub no_references : (names : Names) (document : Document) → ((to : Further) (cp : ℕ) → names to cp ≡ false) →
    references names document ≡ []
no_references names document none =
    let heads : List Reference = all_head_references names document.heads in
    ap (λ (l : List Reference). l ++ heads) (no_text_references names Main 0 document.main none)
    ∙ nothing_joined (head_references names document.heads) (length document.heads)
    (λ number low. no_text_references names (Head number) (head_begin document.heads number)
    (head_at document.heads number) none)
