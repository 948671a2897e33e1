-- Texts one behind the other, column by column.
use Rattle.std.specs.Prelude.{slice_get, replicate}
use Rattle.std.proofs.Common.{◌≡◌, ◌∙◌, ◌++◌, ◌∷◌, ◌+◌, ◌<◌, ◌≤◌, ◌^◌, [], Bool, true, false, Some, take}
use Rattle.std.proofs.Common.{ℕ, List, refl, sym, ap, subst, length, map, arith, append_assoc}
use Rattle.std.proofs.lemmas.List.{length-map, length-append, map-append, append-nil}
use Rattle.std.proofs.lemmas.Option.{slice_get_within}
use Rattle.std.proofs.lemmas.List.Elements.{All-append}
use Rattle.run_lists.specs.declared.runs.Run.{Run}
use Rattle.run_lists.specs.Spread.{expanded}
use Rattle.run_lists.proofs.Public.{spread_push}
use Rattle.doc_model.proofs.Public.{take_next}
use Rattle.prop_map.specs.Settings.{Properties}
use Rattle.doc_model.specs.declared.item.Item.{Item}
use Rattle.doc_model.specs.declared.document.Document.{Document}
use Rattle.doc_model.specs.Document.{IsFormedItem, IsFormedText}
use Rattle.doc_model.specs.Collected.{joined_texts}
use Rattle.doc_columns.specs.declared.attached.Attached.{Attached}
use Rattle.doc_columns.specs.Attached.{attached_of}
use Rattle.doc_columns.specs.Columns.{items_of, AreColumns}
use Rattle.doc_columns.proofs.Public.{items_of-append, items_of-maps, length-items_of}
use Rattle.full_save.specs.Text.{extra_mark, with_mark}
use Rattle.save_laws.specs.Slots.{Slot, shown, StoryEnds, loose_if, story_slots, note_slots, head_slots}
use Rattle.save_laws.specs.Slots.{last_slots, document_slots}
use Rattle.session_text.specs.WrittenAgain.{slot_item}

-- ---- a text behind columns

pub joined_columns : (units : List ℕ) (chps : List Properties) (attachments : List Attached) (new_units : List ℕ)
    (new_chps : List Properties) (new_attachments : List Attached) (front text : List Item) → AreColumns units chps
    attachments →
    items_of units chps attachments ≡ front → new_units ≡ units ++ map (λ item. item.unit) text →
    new_chps ≡ chps ++ map (λ item. item.chp) text → new_attachments ≡ attachments ++ map attached_of text →
    items_of new_units new_chps new_attachments ≡ front ++ text
joined_columns units chps attachments new_units new_chps new_attachments front text are is first second third =
    let columns : items_of new_units new_chps new_attachments ≡ items_of (units ++ map (λ item. item.unit) text)
    (chps ++ map (λ item. item.chp) text) (attachments ++ map attached_of text) = rw (first, second, third) refl in
    columns
    ∙ (items_of-append units chps attachments (map (λ item. item.unit) text) (map (λ item. item.chp) text)
    (map attached_of text) are.chps_long are.attachments_long
    ∙ (ap (λ (l : List Item). l ++ items_of (map (λ item. item.unit) text) (map (λ item. item.chp) text)
    (map attached_of text)) is
    ∙ ap (λ (l : List Item). front ++ l) (items_of-maps text)))

pub joined_are : (units : List ℕ) (chps : List Properties) (attachments : List Attached) (new_units : List ℕ)
    (new_chps : List Properties) (new_attachments : List Attached) (text : List Item) → AreColumns units chps
    attachments →
    new_units ≡ units ++ map (λ item. item.unit) text → new_chps ≡ chps ++ map (λ item. item.chp) text →
    new_attachments ≡ attachments ++ map attached_of text → length units + length text < 2 ^ 32 → IsFormedText text →
    AreColumns new_units new_chps new_attachments
joined_are units chps attachments new_units new_chps new_attachments text are first second third few formed =
    let front : List Item = items_of units chps attachments in
    let made = joined_columns units chps attachments new_units new_chps new_attachments front text are refl first second
    third in
    let all = length-items_of units chps attachments are.chps_long are.attachments_long in
    let unit : Item → ℕ = λ item. item.unit in
    let chp : Item → Properties = λ item. item.chp in
    record {
      chps_long =
          omega (
            arith,
            ap length first,
            ap length second,
            length-append units (map unit text),
            length-append chps (map chp text),
            length-map text unit,
            length-map text chp,
            are.chps_long,
          );
      attachments_long =
          omega (
            arith,
            ap length first,
            ap length third,
            length-append units (map unit text),
            length-append attachments (map attached_of text),
            length-map text unit,
            length-map text attached_of,
            are.attachments_long,
          );
      formed =
          subst IsFormedText (sym made) (record {
            few = omega (arith, length-append front text, all, few);
            each = All-append IsFormedItem front text are.formed.each formed.each;
          });
    }

-- ---- runs behind a list

pub runs_more : {T : Type 0} (runs : List (Run T)) (k : ℕ) (run : Run T) (front so_far new : List T) (value : T) →
    slice_get runs k ≡ Some run → so_far ≡ front ++ expanded (take k runs) → value ≡ run.value →
    new ≡ so_far ++ replicate run.count value → new ≡ front ++ expanded (take (k + 1) runs)
runs_more {T = T} runs k run front so_far new value here before same is =
    let low = slice_get_within runs k run here in
    let next : expanded (take (k + 1) runs) ≡ expanded (take k runs) ++ replicate run.count run.value =
    ap expanded (take_next runs k run low here) ∙ spread_push (take k runs) run in
    is
    ∙ (ap (λ (v : T). so_far ++ replicate run.count v) same
    ∙ (ap (λ (l : List T). l ++ replicate run.count run.value) before
    ∙ (append_assoc front (expanded (take k runs)) (replicate run.count run.value)
    ∙ ap (λ (l : List T). front ++ l) (sym next))))

-- ---- the text of slots

shown_items : (items : List Item) → map slot_item (map shown items) ≡ items
shown_items [] = refl
shown_items (item ∷ items) = ap (λ l. item ∷ l) (shown_items items)

pub story_items : (texts : List (List Item)) (end : Bool) →
    map slot_item (story_slots texts end) ≡ joined_texts texts ++ map slot_item (loose_if end)
story_items texts end =
    map-append slot_item (map shown (joined_texts texts)) (loose_if end)
    ∙ ap (λ l. l ++ map slot_item (loose_if end)) (shown_items (joined_texts texts))

pub story_ended : (front : List Item) (texts : List (List Item)) (end : Bool) → end ≡ true →
    (front ++ joined_texts texts) ++ extra_mark ∷ [] ≡ front ++ map slot_item (story_slots texts end)
story_ended front texts true on =
    append_assoc front (joined_texts texts) (extra_mark ∷ []) ∙ ap (λ l. front ++ l) (sym (story_items texts true))
story_ended front texts false on = absurd (grind (arith, on))

pub story_open : (front : List Item) (texts : List (List Item)) (end : Bool) → end ≡ false →
    front ++ joined_texts texts ≡ front ++ map slot_item (story_slots texts end)
story_open front texts true off = absurd (grind (arith, off))
story_open front texts false off =
    ap (λ l. front ++ l) (sym (append-nil (joined_texts texts)) ∙ sym (story_items texts false))

pub marked_some : (items : List Item) → 0 < length items → with_mark items ≡ items ++ extra_mark ∷ []
marked_some [] some = absurd (omega (arith, some))
marked_some (item ∷ items) some = refl

last_items : (slots : List Slot) →
    with_mark (map slot_item slots) ≡ map slot_item slots ++ map slot_item (last_slots slots)
last_items [] = refl
last_items (slot ∷ slots) = refl

-- what is behind the main text
pub whole_behind : (document : Document) (ends : StoryEnds) →
    document.main ++ with_mark (map slot_item (note_slots document ends) ++ map slot_item (head_slots document ends))
    ≡ map slot_item (document_slots document ends)
unfolding document_slots
whole_behind document ends =
    let main : List Slot = map shown document.main in
    let notes : List Slot = note_slots document ends in
    let heads : List Slot = head_slots document ends in
    let rest : List Slot = last_slots (notes ++ heads) in
    let behind : with_mark (map slot_item notes ++ map slot_item heads) ≡ map slot_item (notes ++ (heads ++ rest)) =
    ap with_mark (sym (map-append slot_item notes heads))
    ∙ (last_items (notes ++ heads)
    ∙ (sym (map-append slot_item (notes ++ heads) rest) ∙ ap (map slot_item) (append_assoc notes heads rest))) in
    ap (λ l. document.main ++ l) behind
    ∙ (ap (λ l. l ++ map slot_item (notes ++ (heads ++ rest))) (sym (shown_items document.main))
    ∙ sym (map-append slot_item main (notes ++ (heads ++ rest))))

-- and how long it is
pub behind_long : (document : Document) (ends : StoryEnds) →
    length (note_slots document ends) + length (head_slots document ends) ≤ length (document_slots document ends)
unfolding document_slots
behind_long document ends =
    let main : List Slot = map shown document.main in
    let notes : List Slot = note_slots document ends in
    let heads : List Slot = head_slots document ends in
    let rest : List Slot = last_slots (notes ++ heads) in
    omega (
      arith,
      length-append main (notes ++ (heads ++ rest)),
      length-append notes (heads ++ rest),
      length-append heads rest,
    )
