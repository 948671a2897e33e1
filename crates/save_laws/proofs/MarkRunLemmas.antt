-- The marks of a text, and the runs of paragraphs that they end.
use Rattle.std.specs.Prelude.{slice_get, is_some}
use Rattle.std.specs.List.{cons_option}
use Rattle.std.specs.FinMap.{empty}
use Rattle.std.proofs.Common.{◌≡◌, ◌∙◌, refl, sym, ap, ℕ, suc, ◌+◌, ◌-◌, ◌*◌, ◌≤◌, true, false, not}
use Rattle.std.proofs.Common.{cond, List, [], ◌∷◌, ◌++◌, length, map, Option, Some, None, arith}
use Rattle.std.proofs.lemmas.Bool.{cond-true, cond-false}
use Rattle.std.proofs.lemmas.List.Elements.{filter_map-append}
use Rattle.std.proofs.lemmas.List.Sums.{sum_by-cons}
use Rattle.prop_map.specs.Settings.{Properties}
use Rattle.fkp_pages.specs.declared.kind.PageKind.TheVariants.{Papx}
use Rattle.fkp_pages.specs.declared.lists.Run.{Run}
use Rattle.doc_model.specs.declared.item.Mark.{Mark}
use Rattle.doc_model.specs.declared.item.Item.{Item}
use Rattle.doc_model.specs.Settings.{is_inside}
use Rattle.doc_model.specs.Stretches.{stretch_from, stretches}
use Rattle.full_save.specs.Runs.{mark_properties, item_properties, runs_from, text_runs}
use Rattle.edit_ops.specs.Runs.{paragraph_count}
use Rattle.save_laws.specs.SharedPages.{item_marks}
use Rattle.doc_model.proofs.Public.{Leads, leads}

-- ---- the marks

count_one : (o : Option Mark) (rest : List Mark) → length (cons_option o rest) ≡ cond (is_some o) 1 0 + length rest
count_one None rest = omega arith
count_one (Some mark) rest = omega arith

pub length-marks : (text : List Item) → length (item_marks text) ≡ paragraph_count text
length-marks [] = refl
length-marks (item ∷ text) =
    omega (
      arith,
      length-marks text,
      count_one item.mark (item_marks text),
      sum_by-cons (λ (x : Item). cond (is_some x.mark) 1 0) item text,
    )

pub both_marks : (one other : List Item) → item_marks (one ++ other) ≡ item_marks one ++ item_marks other
both_marks one other = filter_map-append (λ (item : Item). item.mark) one other

-- ---- runs of paragraphs

-- the style and the properties of a run, and of the last item of a part
abbrev pub mark_of_run : Run → Mark
mark_of_run run = record { istd = run.istd; pap = run.map }

abbrev pub mark_of_properties : ℕ × Properties → Mark
mark_of_properties properties = record { istd = properties.0; pap = properties.1 }

abbrev pub last_mark : List Item → Mark
last_mark part = mark_of_properties (item_properties Papx (slice_get part (length part - 1)))

run_marks : (at : ℕ) (parts : List (List Item)) → map mark_of_run (runs_from Papx at parts) ≡ map last_mark parts
unfolding runs_from
run_marks at [] = refl
run_marks at (part ∷ parts) =
    ap (λ (marks : List Mark). last_mark part ∷ marks) (run_marks (at + 2 * length part) parts)

-- the paragraphs of a text have its marks, and perhaps one of their own behind the last of these
pub record LastMarks (items : List Item) : Type 0 where
  pub tail : List Mark
  pub few : length tail ≤ 1
  pub is : map last_mark (stretches is_inside items) ≡ item_marks items ++ tail

-- an item in front does not change the last one
last_kept : (x y : Item) (front : List Item) → last_mark (x ∷ (y ∷ front)) ≡ last_mark (y ∷ front)
last_kept x y front =
    let place : length (x ∷ (y ∷ front)) - 1 ≡ suc (length (y ∷ front) - 1) = omega arith in
    ap (λ (k : ℕ). mark_of_properties (item_properties Papx (slice_get (x ∷ (y ∷ front)) k))) place

only_item : (x : Item) (o : Option Mark) → x.mark ≡ o → LastMarks (x ∷ [])
unfolding stretches
only_item x None none = record {
  tail = mark_of_properties (0, empty) ∷ [];
  few = omega arith;
  is =
      ap (λ (o : Option Mark). mark_of_properties (mark_properties o) ∷ []) none
      ∙ ap (λ (o : Option Mark). cons_option o [] ++ mark_of_properties (0, empty) ∷ []) (sym none);
}
only_item x (Some mark) some = record {
  tail = [];
  few = omega arith;
  is =
      ap (λ (o : Option Mark). mark_of_properties (mark_properties o) ∷ []) some
      ∙ ap (λ (o : Option Mark). cons_option o [] ++ []) (sym some);
}

item_before : (x y : Item) (ys : List Item) (o : Option Mark) → x.mark ≡ o → LastMarks (y ∷ ys) →
    LastMarks (x ∷ (y ∷ ys))
unfolding stretches
item_before x y ys None none rest =
    let parts = stretch_from is_inside y (stretches is_inside ys) in
    let lead : Leads y parts = leads is_inside y (stretches is_inside ys) in
    let inside : is_inside x y ≡ true = ap (λ (o : Option Mark). not (is_some o)) none in
    let joined : stretch_from is_inside x parts ≡ (x ∷ (y ∷ lead.front)) ∷ lead.more =
    ap (stretch_from is_inside x) lead.is
    ∙ cond-true (is_inside x y) ((x ∷ (y ∷ lead.front)) ∷ lead.more)
    ((x ∷ []) ∷ ((y ∷ lead.front) ∷ lead.more)) inside in
    let marks : item_marks (x ∷ (y ∷ ys)) ≡ item_marks (y ∷ ys) =
    ap (λ (o : Option Mark). cons_option o (item_marks (y ∷ ys))) none in
    record {
      tail = rest.tail;
      few = rest.few;
      is =
          ap (map last_mark) joined
          ∙ (ap (λ (mark : Mark). mark ∷ map last_mark lead.more) (last_kept x y lead.front)
          ∙ (sym (ap (map last_mark) lead.is)
          ∙ (rest.is ∙ ap (λ (l : List Mark). l ++ rest.tail) (sym marks))));
    }
item_before x y ys (Some mark) some rest =
    let parts = stretch_from is_inside y (stretches is_inside ys) in
    let lead : Leads y parts = leads is_inside y (stretches is_inside ys) in
    let apart : is_inside x y ≡ false = ap (λ (o : Option Mark). not (is_some o)) some in
    let parted : stretch_from is_inside x parts ≡ (x ∷ []) ∷ parts =
    ap (stretch_from is_inside x) lead.is
    ∙ (cond-false (is_inside x y) ((x ∷ (y ∷ lead.front)) ∷ lead.more)
    ((x ∷ []) ∷ ((y ∷ lead.front) ∷ lead.more)) apart
    ∙ ap (λ (p : List (List Item)). (x ∷ []) ∷ p) (sym lead.is)) in
    let first : last_mark (x ∷ []) ≡ mark = ap (λ (o : Option Mark). mark_of_properties (mark_properties o)) some in
    let marks : item_marks (x ∷ (y ∷ ys)) ≡ mark ∷ item_marks (y ∷ ys) =
    ap (λ (o : Option Mark). cons_option o (item_marks (y ∷ ys))) some in
    record {
      tail = rest.tail;
      few = rest.few;
      is =
          ap (map last_mark) parted
          ∙ (ap (λ (m : Mark). m ∷ map last_mark parts) first
          ∙ (ap (λ (l : List Mark). mark ∷ l) rest.is ∙ ap (λ (l : List Mark). l ++ rest.tail) (sym marks)));
    }

pub last_marks : (items : List Item) → LastMarks items
unfolding stretches
last_marks [] = record { tail = []; few = omega arith; is = refl }
last_marks (x ∷ []) = only_item x x.mark refl
last_marks (x ∷ (y ∷ ys)) = item_before x y ys x.mark refl (last_marks (y ∷ ys))

-- the runs of paragraphs have the marks of the text, and perhaps one of their own behind the last of these
pub text_marks : (at : ℕ) (items : List Item) →
    map mark_of_run (text_runs Papx at items) ≡ item_marks items ++ (last_marks items).tail
text_marks at items = run_marks at (stretches is_inside items) ∙ (last_marks items).is
