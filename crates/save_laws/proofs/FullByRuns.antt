-- Each unit of a full save is bounded: a run of paragraphs ends behind each mark, and nowhere else.
use Rattle.std.proofs.Common.{◌≡◌, ◌∙◌, ℕ, zero, suc, ◌+◌, ◌-◌, ◌*◌, ◌<◌, List, [], ◌∷◌, ◌++◌, length, map}
use Rattle.std.proofs.Common.{Bool, true, false, Some, refl, sym, ap, subst, inl, inr, arith, All}
use Rattle.std.proofs.Common.{append_assoc, length-append}
use Rattle.std.specs.Prelude.{slice_get, is_some, not, IsSome}
use Rattle.std.specs.List.{filter_map}
use Rattle.std.specs.Option.{option_map}
use Rattle.std.proofs.lemmas.Bool.{cases_lt}
use Rattle.std.proofs.lemmas.List.{append-nil, length-map}
use Rattle.std.proofs.lemmas.List.Elements.{All-nil, All-cons, All-head, All-tail, All-append, All-map}
use Rattle.std.proofs.lemmas.List.Elements.{filter_map-append}
use Rattle.std.proofs.lemmas.Option.{same_Some, none-some, slice_get_within}
use Rattle.doc_bits.specs.declared.places.Where.TheVariants.{Main}
use Rattle.doc_bits.proofs.Public.{there_is, from_map, get-map, in_front, in_back}
use Rattle.fkp_pages.specs.declared.kind.PageKind.TheVariants.{Papx}
use Rattle.fkp_pages.specs.declared.lists.Run.{Run}
use Rattle.fkp_pages.specs.Rows.{IsInRun, IsPageRow}
use Rattle.fkp_pages.specs.Packed.{pages_of}
use Rattle.fkp_pages.proofs.Public.{runs_have_pages, pages_are_whole}
use Rattle.piece_table.specs.Piece.{UnitPlace}
use Rattle.text_codes.specs.Paragraph.{paragraph_mark}
use Rattle.doc_model.specs.declared.item.Item.{Item}
use Rattle.doc_model.specs.declared.document.Document.{Document}
use Rattle.doc_model.specs.Collected.{joined_texts, sections_of}
use Rattle.plain_doc.specs.RightDocument.{IsValidDocument}
use Rattle.plain_doc.specs.RulesOfTexts.{EndsRight, last_unit}
use Rattle.doc_model.specs.Settings.{is_inside}
use Rattle.doc_model.specs.Stretches.{stretches, joins_next, IsJoinedStretch, goes_over, AreStretches}
use Rattle.plain_doc.proofs.Public.{sound_is_valid}
use Rattle.doc_model.proofs.Public.{are_stretches}
use Rattle.full_save.specs.Runs.{run_at, runs_from}
use Rattle.full_save.specs.Text.{text_items}
use Rattle.full_save.specs.Sections.{sepxes}
use Rattle.full_save.specs.WordDocument.{text_offset, document_runs, wd_stream}
use Rattle.full_save.proofs.Public.{LaidOut, paragraph_table, stand_sepxes, at_seam}
use Rattle.save_laws.specs.Places.{PagedStream}
use Rattle.save_laws.specs.Slots.{Slot, shown, loose, last, StoryEnds, loose_if, last_slots, note_slots, head_slots}
use Rattle.save_laws.specs.Slots.{story_slots, document_slots}
use Rattle.save_laws.specs.FullSaves.{full_saved_text}
use Rattle.save_laws.specs.ByRuns.{IsBounded, slot_end, text_ends}
use Rattle.save_laws.specs.FullByRuns.{FullSavesAreBounded}
use Rattle.save_laws.proofs.FullSavedLemmas.{slot_item, full_ends, whole_items, place_is}
use Rattle.save_laws.proofs.RunPlaces.{stream_of_row, ending_bounded, inner_bounded}

-- ---- the run of a unit

-- it ends with a unit that has a mark, and beyond one that has none and that others follow
record IsUnitRun (runs : List Run) (at k : ℕ) (marked : Bool) (more : Type 0) : Type 0 where
  run : Run
  is : IsInRun runs (at + 2 * k) run
  ends : marked ≡ true → run.to ≡ at + 2 * k + 2
  goes_on : marked ≡ false → more → at + 2 * k + 2 < run.to

not_both : (b : Bool) → not b ≡ true → ¬ (b ≡ true)
not_both true flipped is = absurd (cc (flipped))
not_both false flipped is = absurd (cc (is))

not_neither : (b : Bool) → not b ≡ false → ¬ (b ≡ false)
not_neither true flipped is = absurd (cc (is))
not_neither false flipped is = absurd (cc (flipped))

-- an item of a stretch that has a mark is the last one
mark_last : (part : List Item) (k : ℕ) (item : Item) → IsJoinedStretch is_inside part → slice_get part k ≡ Some item →
    is_some item.mark ≡ true → k + 1 ≡ length part
mark_last part k item joined here marked =
    let within = slice_get_within part k item here in
    elim (cases_lt (k + 1) (length part)) [
      | inl more ↦
          let next = there_is part (k + 1) more in
          let goes : not (is_some item.mark) ≡ true =
          subst (λ o. joins_next is_inside (Some item) o ≡ true) next.1
          (subst (λ o. joins_next is_inside o (slice_get part (k + 1)) ≡ true) here (joined k more)) in
          absurd (not_both (is_some item.mark) goes marked)
      | inr all ↦ omega (arith, within, all)
    ]

-- the last item of a stretch that another one follows has a mark
last_marked : (part next : List Item) (k : ℕ) (item first : Item) → goes_over is_inside part next ≡ false →
    slice_get part k ≡ Some item → k + 1 ≡ length part → slice_get next 0 ≡ Some first →
    ¬ (is_some item.mark ≡ false)
last_marked part next k item first apart here all there none =
    let e : length part - 1 ≡ k = omega (arith, all) in
    let over : not (is_some item.mark) ≡ false =
    subst (λ o. joins_next is_inside (Some item) o ≡ false) there
    (subst (λ o. joins_next is_inside o (slice_get next 0) ≡ false) (ap (slice_get part) e ∙ here) apart) in
    not_neither (is_some item.mark) over none

-- no item without a mark ends a stretch that another one follows
followed : (part : List Item) (parts : List (List Item)) (k : ℕ) (item : Item) →
    AreStretches is_inside (joined_texts (part ∷ parts)) (part ∷ parts) → slice_get part k ≡ Some item →
    k + 1 ≡ length part → is_some item.mark ≡ false → k + 1 < length (joined_texts (part ∷ parts)) → ⊥
followed part [] k item cut here all none more = omega (arith, all, more, length-append part [])
followed part (next ∷ parts) k item cut here all none more =
    let some = All-head (λ (p : List Item). 0 < length p) next parts
    (All-tail (λ (p : List Item). 0 < length p) part (next ∷ parts) cut.some) in
    let first = there_is next 0 some in
    last_marked part next k item first.0 (cut.apart 0 part next refl refl) here all first.1 none

unit_run : (parts : List (List Item)) (at k : ℕ) (item : Item) → AreStretches is_inside (joined_texts parts) parts →
    slice_get (joined_texts parts) k ≡ Some item →
    IsUnitRun (runs_from Papx at parts) at k (is_some item.mark) (k + 1 < length (joined_texts parts))
unfolding runs_from
unit_run [] at k item cut here = absurd (none-some item here)
unit_run (part ∷ parts) at k item cut here = elim (at_seam part (joined_texts parts) k item here) [
  | inl front ↦
      let within = slice_get_within part k item front in
      let joined = All-head (IsJoinedStretch is_inside) part parts cut.joined in
      record {
        run = run_at Papx at part;
        is = record { number = 0; there = refl; from = omega arith; to = omega (arith, within) };
        ends = λ marked. let all = mark_last part k item joined front marked in
            omega (arith, all);
        goes_on = λ none more. elim (cases_lt (k + 1) (length part)) [
          | inl less ↦ omega (arith, less)
          | inr most ↦
              let all : k + 1 ≡ length part = omega (arith, within, most) in
              absurd (followed part parts k item cut front all none more)
        ];
      }
  | inr back ↦
      let e = back.1.0 in
      let found = unit_run parts (at + 2 * length part) back.0 item (record {
        whole = refl;
        some = All-tail (λ (p : List Item). 0 < length p) part parts cut.some;
        joined = All-tail (IsJoinedStretch is_inside) part parts cut.joined;
        apart = λ i one next a b.
            let e : suc (i + 1) ≡ suc i + 1 = omega arith in
            cut.apart (suc i) one next a (subst (λ n. slice_get (part ∷ parts) n ≡ Some next) e b);
      }) back.1.1 in
      let place : at + 2 * length part + 2 * back.0 ≡ at + 2 * k = omega (arith, e) in
      record {
        run = found.run;
        is = record {
          number = suc found.is.number;
          there = found.is.there;
          from = let low = found.is.from in
              omega (arith, low, place);
          to = let high = found.is.to in
              omega (arith, high, place);
        };
        ends = λ marked. let to = found.ends marked in
            omega (arith, to, place);
        goes_on = λ none more.
            let up = found.goes_on none (omega (arith, more, e, length-append part (joined_texts parts))) in
            omega (arith, up, place);
      }
]

-- ---- the slots of a whole text

HasEnd : Slot → Type 0
HasEnd slot = IsSome (slot_end slot)

-- beside the end that a slot has is the slot
pub record IsEndOf (slots : List Slot) (k : ℕ) (end : Bool) : Type 0 where
  pub slot : Slot
  pub here : slice_get slots k ≡ Some slot
  pub is : slot_end slot ≡ Some end

end_of : (slots : List Slot) (k : ℕ) (end : Bool) → All (λ slot. IsSome (slot_end slot)) slots →
    slice_get (filter_map slot_end slots) k ≡ Some end → IsEndOf slots k end
end_of [] k end all here = absurd (none-some end here)
end_of (shown item ∷ slots) zero end all here = record { slot = shown item; here = refl; is = here }
end_of (loose ∷ slots) zero end all here = record { slot = loose; here = refl; is = here }
end_of (last ∷ slots) k end all here =
    absurd (grind (arith, All-head (λ slot. IsSome (slot_end slot)) last slots all))
end_of (shown item ∷ slots) (suc k) end all here =
    let found = end_of slots k end (All-tail (λ slot. IsSome (slot_end slot)) (shown item) slots all) here in
    record { slot = found.slot; here = found.here; is = found.is }
end_of (loose ∷ slots) (suc k) end all here =
    let found = end_of slots k end (All-tail (λ slot. IsSome (slot_end slot)) loose slots all) here in
    record { slot = found.slot; here = found.here; is = found.is }

pub loose_ends : (end : Bool) → All (λ slot. IsSome (slot_end slot)) (loose_if end)
loose_ends true = All-cons (λ slot. IsSome (slot_end slot)) loose [] refl (All-nil (λ slot. IsSome (slot_end slot)))
loose_ends false = All-nil (λ slot. IsSome (slot_end slot))

pub shown_ends : (items : List Item) → All (λ slot. IsSome (slot_end slot)) (map shown items)
shown_ends items = All-map (λ slot. IsSome (slot_end slot)) shown items (λ k d below. refl)

pub story_ends : (texts : List (List Item)) (end : Bool) → All (λ slot. IsSome (slot_end slot)) (story_slots texts end)
story_ends texts end =
    All-append (λ slot. IsSome (slot_end slot)) (map shown (joined_texts texts)) (loose_if end)
    (shown_ends (joined_texts texts)) (loose_ends end)

no_ends : (slots : List Slot) → filter_map slot_end (last_slots slots) ≡ []
no_ends [] = refl
no_ends (slot ∷ slots) = refl

module _ (document : Document) (ends : StoryEnds) where
  front : List Slot
  front = map shown document.main ++ (note_slots document ends ++ head_slots document ends)

  behind : List Slot
  behind = last_slots (note_slots document ends ++ head_slots document ends)

  whole_is : document_slots document ends ≡ front ++ behind
  unfolding document_slots front behind
  whole_is =
      let main = map shown document.main in
      let notes = note_slots document ends in
      let heads = head_slots document ends in
      sym (append_assoc main (notes ++ heads) (last_slots (notes ++ heads))
      ∙ ap (λ l. main ++ l) (append_assoc notes heads (last_slots (notes ++ heads))))

  front_ends : All (λ slot. IsSome (slot_end slot)) front
  unfolding front
  front_ends =
      let P : Slot → Type 0 = λ slot. IsSome (slot_end slot) in
      let notes = note_slots document ends in
      let heads = head_slots document ends in
      All-append P (map shown document.main) (notes ++ heads) (shown_ends document.main)
      (All-append P notes heads (story_ends document.notes ends.notes) (story_ends document.heads ends.heads))

  ends_are : text_ends (document_slots document ends) ≡ filter_map slot_end front
  unfolding behind
  ends_are =
      ap (filter_map slot_end) whole_is
      ∙ (filter_map-append slot_end front behind
      ∙ (ap (λ l. filter_map slot_end front ++ l) (no_ends (note_slots document ends ++ head_slots document ends))
      ∙ append-nil (filter_map slot_end front)))

  -- the slot of an end
  pub slot_there : (k : ℕ) (end : Bool) → slice_get (text_ends (document_slots document ends)) k ≡ Some end →
      IsEndOf (document_slots document ends) k end
  slot_there k end here =
      let found = end_of front k end front_ends (ap (λ l. slice_get l k) (sym ends_are) ∙ here) in
      record {
        slot = found.slot;
        here = ap (λ l. slice_get l k) whole_is ∙ in_front front behind k found.slot found.here;
        is = found.is;
      }

-- an end is that of the item of its slot
item_end : (slot : Slot) (end : Bool) → slot_end slot ≡ Some end → is_some (slot_item slot).mark ≡ end
item_end (shown item) end is = same_Some (is_some item.mark) end is
item_end loose end is = same_Some true end is
item_end last end is = absurd (none-some end is)

-- ---- behind a unit without a mark others follow

main_ends : (document : Document) → IsValidDocument document → (k : ℕ) (item : Item) →
    slice_get document.main k ≡ Some item → k + 1 ≡ length document.main → is_some item.mark ≡ true
main_ends document right k item here all = ended (right.texts Main document.main refl).ends
  where
    ended : EndsRight Main document.main → is_some item.mark ≡ true
    ended (inl unit) =
        let e : length document.main - 1 ≡ k = omega (arith, all) in
        let there : last_unit document.main ≡ Some item.unit =
        ap (option_map (λ (i : Item). i.unit)) (ap (slice_get document.main) e ∙ here) in
        let same : item.unit ≡ paragraph_mark = same_Some item.unit paragraph_mark (sym there ∙ unit) in
        ((right.texts Main document.main refl).placed k item here).mark.1 (inl same)
    ended (inr none) = absurd (cc (none.0.1))

no_more : (document : Document) (ends : StoryEnds) (right : IsValidDocument document) (k : ℕ) (slot : Slot)
    (others : List Slot) → others ≡ note_slots document ends ++ head_slots document ends →
    slice_get (map shown document.main ++ (others ++ last_slots others)) k ≡ Some slot →
    k + 1 ≡ length (map shown document.main ++ (others ++ last_slots others)) → ¬ (slot_end slot ≡ Some false)
no_more document ends right k slot [] is here all none =
    let main : List Slot = map shown document.main in
    let there : slice_get main k ≡ Some slot = ap (λ l. slice_get l k) (sym (append-nil main)) ∙ here in
    let found = from_map shown document.main k slot there in
    let long = ap length (append-nil main) in
    let marked = main_ends document right k found.0 found.1.0
    (omega (arith, all, long, length-map document.main shown)) in
    let end : is_some found.0.mark ≡ false =
    same_Some (is_some found.0.mark) false (ap slot_end found.1.1 ∙ none) in
    absurd (cc (sym marked ∙ end))
no_more document ends right k slot (other ∷ others) is here all none =
    let main : List Slot = map shown document.main in
    let front : List Slot = main ++ (other ∷ others) in
    let whole : main ++ ((other ∷ others) ++ last ∷ []) ≡ front ++ last ∷ [] =
    sym (append_assoc main (other ∷ others) (last ∷ [])) in
    let e : k ≡ length front + 0 = omega (arith, all, ap length whole, length-append front (last ∷ [])) in
    let at_end : slice_get (main ++ ((other ∷ others) ++ last ∷ [])) k ≡ Some last =
    ap (λ l. slice_get l k) whole ∙ in_back front (last ∷ []) 0 k last refl e in
    let same : last ≡ slot = same_Some last slot (sym at_end ∙ here) in
    absurd (none-some false (ap slot_end same ∙ none))

follows : (document : Document) (ends : StoryEnds) → IsValidDocument document → (k : ℕ) (slot : Slot) →
    slice_get (document_slots document ends) k ≡ Some slot → slot_end slot ≡ Some false →
    k + 1 < length (document_slots document ends)
unfolding document_slots
follows document ends right k slot here none =
    let main = map shown document.main in
    let notes = note_slots document ends in
    let heads = head_slots document ends in
    let others = notes ++ heads in
    let whole : main ++ (notes ++ (heads ++ last_slots others)) ≡ main ++ (others ++ last_slots others) =
    ap (λ l. main ++ l) (sym (append_assoc notes heads (last_slots others))) in
    let within = slice_get_within (main ++ (notes ++ (heads ++ last_slots others))) k slot here in
    elim (cases_lt (k + 1) (length (main ++ (notes ++ (heads ++ last_slots others))))) [
      | inl more ↦ more
      | inr most ↦
          absurd (no_more document ends right k slot others refl (ap (λ l. slice_get l k) (sym whole) ∙ here)
          (omega (arith, most, within, ap length whole)) none)
    ]

-- ---- the whole

behind_text : (s : LaidOut) → text_offset + 2 * length (text_items s.document) < length (wd_stream s.document)
behind_text s =
    let document = s.document in
    let has = paragraph_table s in
    let runs = document_runs Papx document in
    let right = has.row.right in
    let whole = pages_are_whole Papx runs (pages_of Papx runs) right (runs_have_pages Papx runs right.writable) in
    let some = whole.some has.row.some in
    let sepxes_are = stand_sepxes s in
    let behind = sepxes (sections_of document.main) ++ sepxes_are.after in
    omega (
      arith,
      some,
      sepxes_are.place,
      ap length sepxes_are.there,
      length-append sepxes_are.before behind,
    )

bounded_by : (wd characters : List ℕ) (runs : List Run) (first : ℕ) (row : IsPageRow Papx wd runs first) (at k : ℕ)
    (marked end : Bool) (more : Type 0) → marked ≡ end → IsUnitRun runs at k marked more → (end ≡ false → more) →
    at + 2 * k + 2 < length wd →
    IsBounded (stream_of_row wd characters runs first row) (at + 2 * k) true end
bounded_by wd characters runs first row at k marked true more is unit others inside =
    ending_bounded wd characters runs first row (at + 2 * k) unit.run unit.is (unit.ends is) inside
bounded_by wd characters runs first row at k marked false more is unit others inside =
    inner_bounded wd characters runs first row (at + 2 * k) unit.run unit.is (unit.goes_on is (others refl)) inside

pub full_saves_are_bounded : FullSavesAreBounded
full_saves_are_bounded document formed sound short k place end here there =
    let right = sound_is_valid document sound in
    let s : LaidOut = record { document = document; formed = formed; right = right; short = short } in
    let ends = full_ends document in
    let items = text_items document in
    let slots = document_slots document ends in
    let has = paragraph_table s in
    let wd = wd_stream document in
    let runs = document_runs Papx document in
    let stream : PagedStream = (full_saved_text document).stream in
    let same : stream_of_row wd stream.characters runs has.first has.row ≡ stream =
    ap (λ bin. record { wd = wd; characters = stream.characters; paragraphs = bin }) has.table_is in
    let found = slot_there document ends k end there in
    let item : slice_get items k ≡ Some (slot_item found.slot) =
    subst (λ (xs : List Item). slice_get xs k ≡ Some (slot_item found.slot)) (whole_items document)
    (get-map slot_item slots k found.slot found.here) in
    let parts = stretches is_inside items in
    let cut = are_stretches is_inside items in
    let in_parts : slice_get (joined_texts parts) k ≡ Some (slot_item found.slot) =
    subst (λ (xs : List Item). slice_get xs k ≡ Some (slot_item found.slot)) (sym cut.whole) item in
    let unit = unit_run parts text_offset k (slot_item found.slot) (record {
      whole = refl;
      some = cut.some;
      joined = cut.joined;
      apart = cut.apart;
    }) in_parts in
    let long : length (joined_texts parts) ≡ length slots =
    ap length cut.whole ∙ (sym (ap length (whole_items document)) ∙ length-map slots slot_item) in
    let at : place.at ≡ text_offset + 2 * k = ap (λ (p : UnitPlace). p.at) (place_is (length items) k place here) in
    let wide : place.wide ≡ true = ap (λ (p : UnitPlace). p.wide) (place_is (length items) k place here) in
    let within = slice_get_within items k (slot_item found.slot) item in
    let bounded : IsBounded (stream_of_row wd stream.characters runs has.first has.row) (text_offset + 2 * k) true end =
    bounded_by wd stream.characters runs has.first has.row text_offset k (is_some (slot_item found.slot).mark) end
    (k + 1 < length (joined_texts parts)) (item_end found.slot end found.is) unit
    (λ none.
    let more = follows document ends right k found.slot found.here (found.is ∙ ap Some none) in
    omega (arith, more, long)) (omega (arith, behind_text s, within)) in
    rw (at, wide) (subst (λ (f : PagedStream). IsBounded f (text_offset + 2 * k) true end) same bounded)
