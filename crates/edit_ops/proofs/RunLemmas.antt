-- Runs of what commands put: elements that all join are one run, and one element is one more at most.
use Rattle.std.proofs.Common.{◌≡◌, ◌∙◌, refl, sym, ap, subst, ℕ, suc, ◌+◌, ◌≤◌, Bool, true, false, cond, List, []}
use Rattle.std.proofs.Common.{◌∷◌, ◌++◌, length, Option, None, arith}
use Rattle.std.specs.Prelude.{if◌then◌else◌, ◌==◌, is_some}
use Rattle.std.specs.List.{All, flat_map, sum_by}
use Rattle.std.specs.FinMap.{empty}
use Rattle.std.proofs.lemmas.List.{append-nil}
use Rattle.std.proofs.lemmas.List.Elements.{All-append, All-cons, All-nil}
use Rattle.std.proofs.lemmas.List.Sums.{sum_by-append, sum_by-cons}
use Rattle.text_codes.specs.Paragraph.{cell_mark}
use Rattle.prop_map.specs.Settings.{Properties}
use Rattle.doc_model.specs.declared.item.Item.{Item}
use Rattle.doc_model.specs.declared.item.Mark.{Mark}
use Rattle.doc_model.specs.declared.document.Document.{Document}
use Rattle.doc_model.specs.Stretches.{stretches}
use Rattle.doc_model.specs.Settings.{is_alike}
use Rattle.doc_model.proofs.Public.{same_properties-Decides, one_more, none_more}
use Rattle.doc_bits.specs.declared.places.Story.{Story}
use Rattle.doc_bits.specs.declared.places.Story.TheVariants.{Main, Note as NoteText, Head as HeadText}
use Rattle.edit_script.specs.declared.commands.Command.TheVariants.{Insert, Erase, Char, Plain, Para, Style, Field}
use Rattle.edit_script.specs.declared.commands.Command.TheVariants.{Note, Split, Merge, Sect, Row, StyleChar}
use Rattle.edit_script.specs.declared.commands.Command.TheVariants.{StylePara, Bookmark, Unmark, Save}
use Rattle.doc_patch.specs.Places.{items_at}
use Rattle.edit_ops.specs.Fresh.{unit_item, unit_items, mark_item, mark_with, plain_end, cell_items, cell_properties}
use Rattle.edit_ops.specs.Fresh.{row_items, row_properties, field_items, field_mark, special, base_properties}
use Rattle.edit_ops.specs.Fresh.{note_items}
use Rattle.edit_ops.specs.Edits.{erased, section_changes}
use Rattle.edit_ops.specs.Runs.{paragraph_count, run_count, texts_put, most_runs_of_section, RunsAreFew}

-- ---- stretches of any list

first_more : {A : Type 0} (joins : A → A → Bool) (x : A) (xs : List A) → length (stretches joins (x ∷ xs)) ≤ 1 +
    length (stretches joins xs)
unfolding stretches
first_more joins x xs = one_more joins x (stretches joins xs)

-- elements that all join, before others
joined_before : {A : Type 0} (joins : A → A → Bool) (P : A → Type 0) → ((x y : A) → P x → P y → joins x y ≡ true) →
    (xs ys : List A) → All P xs → length (stretches joins (xs ++ ys)) ≤ 1 + length (stretches joins ys)
unfolding stretches
joined_before joins P same [] ys all = omega arith
joined_before joins P same (x ∷ []) ys all = one_more joins x (stretches joins ys)
joined_before joins P same (x ∷ (y ∷ xs)) ys all =
    let later = joined_before joins P same (y ∷ xs) ys (λ k d within. all (suc k) d (omega (arith, within))) in
    let none = none_more joins x y (stretches joins (xs ++ ys)) (same x y (all 0 x (omega arith))
    (all 1 x (omega arith))) in
    omega (arith, later, none)

joined_one : {A : Type 0} (joins : A → A → Bool) (P : A → Type 0) → ((x y : A) → P x → P y → joins x y ≡ true) →
    (xs : List A) → All P xs → length (stretches joins xs) ≤ 1
unfolding stretches
joined_one joins P same xs all = subst (λ list. length (stretches joins list) ≤ 1) (append-nil xs)
    (let few = joined_before joins P same xs [] all in omega (arith, few))

-- ---- items of equal properties

abbrev pub HasChp : Properties → Item → Type 0
HasChp chp item = item.chp ≡ chp

alike : (chp : Properties) (x y : Item) → HasChp chp x → HasChp chp y → is_alike x y ≡ true
alike chp x y one other = (same_properties-Decides x.chp y.chp).1 (one ∙ sym other)

pub units_have : (chp : Properties) (units : List ℕ) → All (HasChp chp) (unit_items chp units)
units_have chp [] = All-nil (HasChp chp)
units_have chp (unit ∷ units) = All-cons (HasChp chp) (unit_item chp unit) (unit_items chp units) refl (units_have chp
    units)

cells_have : (cells : List (List ℕ)) → All (HasChp empty) (flat_map cell_items cells)
cells_have [] = All-nil (HasChp empty)
cells_have (text ∷ cells) =
    let mark = mark_item empty cell_mark (mark_with cell_properties) in
    All-append (HasChp empty) (cell_items text) (flat_map cell_items cells)
    (All-append (HasChp empty) (unit_items empty text) (mark ∷ []) (units_have empty text) (All-cons (HasChp empty)
    mark [] refl (All-nil (HasChp empty))))
    (cells_have cells)

-- they are one run
pub one_run : (chp : Properties) (items : List Item) → All (HasChp chp) items → length (stretches is_alike items) ≤ 1
one_run chp items all = joined_one is_alike (HasChp chp) (alike chp) items all

-- units are one run more
units_before : (chp : Properties) (units : List ℕ) (rest : List Item) → length (stretches is_alike (unit_items chp units
    ++ rest)) ≤ 1 + length (stretches is_alike rest)
units_before chp units rest = joined_before is_alike (HasChp chp) (alike chp) (unit_items chp units) rest
    (units_have chp units)

-- ---- paragraphs

both_texts : (one other : List Item) → paragraph_count (one ++ other) ≡ paragraph_count one + paragraph_count other
both_texts one other = sum_by-append (λ (item : Item). cond (is_some item.mark) 1 0) one other

-- an item ends a paragraph, or not
abbrev ends_of : Option Mark → ℕ
ends_of mark = cond (is_some mark) 1 0

unmarked : (item : Item) (more : List Item) → item.mark ≡ None → paragraph_count (item ∷ more) ≡ paragraph_count more
unmarked item more none =
    let same : 0 + paragraph_count more ≡ paragraph_count more = omega arith in
    sum_by-cons (λ (item : Item). ends_of item.mark) item more
    ∙ (ap (λ (mark : Option Mark). ends_of mark + paragraph_count more) none ∙ same)

in_units : (chp : Properties) (units : List ℕ) → paragraph_count (unit_items chp units) ≡ 0
in_units chp [] = refl
in_units chp (unit ∷ units) = unmarked (unit_item chp unit) (unit_items chp units) refl ∙ in_units chp units

in_cells : (cells : List (List ℕ)) → paragraph_count (flat_map cell_items cells) ≡ length cells
in_cells [] = refl
in_cells (text ∷ cells) =
    let mark = mark_item empty cell_mark (mark_with cell_properties) in
    let both : paragraph_count (flat_map cell_items (text ∷ cells)) ≡ paragraph_count (cell_items text) +
    paragraph_count (flat_map cell_items cells) =
    both_texts (cell_items text) (flat_map cell_items cells) in
    let cell : paragraph_count (cell_items text) ≡ paragraph_count (unit_items empty text) + 1 = both_texts
    (unit_items empty text) (mark ∷ []) in
    let units = in_units empty text in
    let later = in_cells cells in
    omega (arith, both, cell, units, later)

-- ---- what each command puts

first_units : (units : List ℕ) → run_count (unit_items empty units ++ plain_end ∷ plain_end ∷ []) ≤ 3
first_units units =
    let ends = plain_end ∷ plain_end ∷ [] in
    let all = All-append (HasChp empty) (unit_items empty units) ends (units_have empty units)
    (All-cons (HasChp empty) plain_end (plain_end ∷ []) refl (All-cons (HasChp empty) plain_end [] refl
    (All-nil (HasChp empty)))) in
    let characters = joined_one is_alike (HasChp empty) (alike empty) (unit_items empty units ++ ends) all in
    let paragraphs : paragraph_count (unit_items empty units ++ ends) ≡ paragraph_count (unit_items empty units) + 2 =
    both_texts (unit_items empty units) ends in
    let none = in_units empty units in
    omega (arith, characters, paragraphs, none)

later_units : (base : Properties) (units : List ℕ) → run_count (unit_items base units) ≤ 3
later_units base units =
    let characters = joined_one is_alike (HasChp base) (alike base) (unit_items base units) (units_have base units) in
    let none = in_units base units in
    omega (arith, characters, none)

few_inserted : (none : Bool) (base : Properties) (units : List ℕ) → run_count (if none then unit_items empty units ++
    plain_end ∷ plain_end ∷ [] else unit_items base units) ≤ 3
few_inserted true base units = first_units units
few_inserted false base units = later_units base units

few_of_field : (base : Properties) (type : ℕ) (code shown : List ℕ) → run_count (field_items base type code shown) ≤ 5
unfolding stretches
few_of_field base type code shown =
    let begin = field_mark base 0x13 type in
    let middle = field_mark base 0x14 0xFF in
    let last = field_mark base 0x15 0x80 in
    let end = last ∷ [] in
    let behind = unit_items base shown ++ end in
    let inside = unit_items base code ++ middle ∷ behind in
    let first = first_more is_alike begin inside in
    let second = units_before base code (middle ∷ behind) in
    let third = first_more is_alike middle behind in
    let fourth = units_before base shown end in
    let paragraphs : paragraph_count (field_items base type code shown) ≡ paragraph_count inside = unmarked begin
    inside refl in
    let codes : paragraph_count inside ≡ paragraph_count (unit_items base code) + paragraph_count (middle ∷ behind) =
    both_texts (unit_items base code) (middle ∷ behind) in
    let separator : paragraph_count (middle ∷ behind) ≡ paragraph_count behind = unmarked middle behind refl in
    let units : paragraph_count behind ≡ paragraph_count (unit_items base shown) + 0 = both_texts (unit_items base
    shown) end in
    let no_codes = in_units base code in
    let no_units = in_units base shown in
    omega (arith, first, second, third, fourth, paragraphs, codes, separator, units, no_codes, no_units)

few_of_note : (units : List ℕ) → run_count (note_items units) ≤ 4
unfolding stretches
few_of_note units =
    let number = unit_item (special empty) 0x02 in
    let end = plain_end ∷ [] in
    let behind = unit_items empty units ++ end in
    let first = first_more is_alike number behind in
    let second = units_before empty units end in
    let paragraphs : paragraph_count (note_items units) ≡ paragraph_count behind = unmarked number behind refl in
    let both : paragraph_count behind ≡ paragraph_count (unit_items empty units) + 1 = both_texts (unit_items empty
    units) end in
    let none = in_units empty units in
    omega (arith, first, second, paragraphs, both, none)

few_of_row : (width : ℕ) (cells : List (List ℕ)) → run_count (row_items width cells) ≤ length cells + 2
few_of_row width cells =
    let end = mark_item empty cell_mark (mark_with (row_properties (length cells) width)) in
    let all = All-append (HasChp empty) (flat_map cell_items cells) (end ∷ []) (cells_have cells)
    (All-cons (HasChp empty) end [] refl (All-nil (HasChp empty))) in
    let characters = joined_one is_alike (HasChp empty) (alike empty) (row_items width cells) all in
    let both : paragraph_count (row_items width cells) ≡ paragraph_count (flat_map cell_items cells) + 1 = both_texts
    (flat_map cell_items cells) (end ∷ []) in
    let before = in_cells cells in
    omega (arith, characters, both, before)

-- ---- the changes of each command

few_erased : (document : Document) (story : Story) (from to : ℕ) → sum_by (λ change. sum_by run_count
    (texts_put change)) (erased document story from to) ≤ 0
unfolding stretches
few_erased document Main from to = omega arith
few_erased document (NoteText number) from to = omega arith
few_erased document (HeadText number) from to = omega arith

few_of_section : (main : List Item) (at : ℕ) (new : Bool) (set : Properties) → sum_by (λ change. sum_by run_count
    (texts_put change)) (section_changes main at new set) ≤ most_runs_of_section new
unfolding stretches
few_of_section main at false set = omega arith
few_of_section main at true set = omega arith

pub few_runs : RunsAreFew
unfolding stretches
few_runs document (Insert story at text) =
    let items = items_at document story in
    let few = few_inserted (length items == 0) (base_properties items at) text in
    omega (arith, few)
few_runs document (Erase story from to) = few_erased document story from to
few_runs document (Char story from to set) = omega arith
few_runs document (Plain story from to) = omega arith
few_runs document (Para story at set) = omega arith
few_runs document (Style story at istd) = omega arith
few_runs document (Field story at type code shown) =
    let few = few_of_field (base_properties (items_at document story) at) type code shown in
    omega (arith, few)
few_runs document (Note at text) =
    let few = few_of_note text in
    omega (arith, few)
few_runs document (Split story at) = omega arith
few_runs document (Merge story at) = few_erased document story _ _
few_runs document (Sect at new set) = few_of_section document.main at new set
few_runs document (Row story at width cells) =
    let few = few_of_row width cells in
    omega (arith, few)
few_runs document (StyleChar istd set) = omega arith
few_runs document (StylePara istd set) = omega arith
few_runs document (Bookmark name from to) = omega arith
few_runs document (Unmark name) = omega arith
few_runs document (Save full) = omega arith
