-- What an edit leaves of a text: after puts, and after a modifier.
use Rattle.std.specs.Prelude.{slice_get, slice_range, List, ℕ}
use Rattle.std.specs.List.{All, sum_by}
use Rattle.std.proofs.Common.{◌≡◌, ◌≢◌, ◌∙◌, ◌++◌, ◌∷◌, ◌+◌, ◌-◌, ◌≤◌, [], refl, sym, ap, subst, zero, suc, inl}
use Rattle.std.proofs.Common.{inr, Bool}
use Rattle.std.proofs.Common.{Some, length, map, drop, arith}
use Rattle.std.proofs.lemmas.List.{append-nil, map-append, length-map}
use Rattle.session_text.specs.Puts.{CanPutAll, Put}
use Rattle.session_text.proofs.PutLemmas.{can_put_all}
use Rattle.std.proofs.lemmas.List.Sums.{sum_by-cons}
use Rattle.std.proofs.lemmas.Option.{same_Some, none-some}
use Rattle.doc_bits.specs.declared.places.Story.{Story}
use Rattle.doc_bits.specs.Together.{AreTogether}
use Rattle.doc_bits.proofs.Public.{All_at, together_take, together_drop}
use Rattle.prop_map.specs.declared.modifiers.Modifier.{Modifier}
use Rattle.prop_map.specs.Modifiers.{no_modifier, printed_modifier}
use Rattle.piece_table.specs.Piece.{PieceTable, TextPiece, UnitPlace, flat_pieces}
use Rattle.piece_table.specs.Changes.{AreModified}
use Rattle.piece_table.specs.ClxRules.{FitsPages}
use Rattle.doc_model.specs.declared.item.Item.{Item}
use Rattle.doc_model.specs.declared.document.Document.{Document}
use Rattle.doc_model.specs.Collected.{joined_texts}
use Rattle.plain_doc.specs.RulesOfItems.{HasShortProperties}
use Rattle.doc_patch.specs.declared.changes.Change.{Change}
use Rattle.doc_patch.specs.declared.changes.Change.TheVariants.{SpliceText, ModifyItems, SetSection, SpliceNotes}
use Rattle.doc_patch.specs.declared.changes.Change.TheVariants.{SpliceHeads, SetStyleCharacters, SetStyleParagraphs}
use Rattle.doc_patch.specs.declared.changes.Change.TheVariants.{SetBookmarks}
use Rattle.doc_patch.specs.Changes.{changed, all_changed, modified_item}
use Rattle.save_laws.specs.Places.{PagedStream, GivenUnit, given_of}
use Rattle.save_laws.specs.Plans.{Plan}
use Rattle.save_laws.specs.Slots.{Slot, shown, document_slots, IsPlaceForSlot}
use Rattle.save_laws.specs.Ends.{ends_of}
use Rattle.save_laws.specs.declared.ends.Ends.{Ends}
use Rattle.save_laws.specs.FastSaves.{StandsInEither, IsGivenBy}
use Rattle.save_laws.specs.Sessions.{StandInSession}
use Rattle.save_laws.proofs.Public.{longer_plans_keep, modified_stay_together}
use Rattle.session_text.specs.declared.added.Added.{Added}
use Rattle.session_text.specs.declared.session_text.SessionText.{SessionText}
use Rattle.session_text.specs.declared.session_text.TextSplice.{TextSplice}
use Rattle.session_text.specs.AddedText.{plan_of}
use Rattle.session_text.specs.SessionText.{IsSessionText, HaveFitModifiers, HaveNoModifiers, HaveModifiersWithin}
use Rattle.session_text.specs.SessionChanges.{text_begin}
use Rattle.session_text.specs.EditSteps.{ActsOnNone, AreEditSteps, ArePutSteps, IsActStep, IsBlockOf, HasGrownByBlocks}
use Rattle.session_text.specs.EditSteps.{items_put, pieces_added, growth_of}
use Rattle.session_text.specs.OldUnits.{IsOldBounded, OldUnitsAreBounded}
use Rattle.session_text.specs.TextEdits.{IsTextEdit}
use Rattle.session_text.specs.Puts.{all_places_after, ends_after_all, pieces_cut, ArePuts, HavePuts}
use Rattle.session_text.proofs.OldLemmas.{modified_old}
use Rattle.session_text.proofs.TextLemmas.{All-front, All-back, none_printed, fresh_have}
use Rattle.session_text.proofs.ModifyLemmas.{modifiers_act, acted_range}
use Rattle.session_text.proofs.PutLemmas.{changes_of_puts, blocks_of_puts, puts_stand, puts_counted, puts_old}
use Rattle.session_text.proofs.PutLemmas.{blocks_together, all_after}
use Rattle.session_text.proofs.FitLemmas.{range_fits, modified_all, modified_printed, all_weaker}
use Rattle.piece_table.proofs.Public.{none_fits}
use Rattle.direct_props.proofs.Public.{together_one}

-- ---- puts

-- what is in added text is there where it has grown
pub grown_stands : (stream : PagedStream) (old new : Added) (more : List Item) (places : List UnitPlace)
    (slots : List Slot) → new.base ≡ old.base → new.items ≡ old.items ++ more →
    StandInSession stream (plan_of old) places slots → StandInSession stream (plan_of new) places slots
grown_stands stream old new more places slots base items stands =
    let front : List GivenUnit = map given_of old.items in
    let back : List GivenUnit = map given_of more in
    let all : map given_of new.items ≡ front ++ back = ap (map given_of) items ∙ map-append given_of old.items more in
    let one : Plan = record { base = old.base; added = front ++ back } in
    let is : one ≡ plan_of new =
    ap (λ n. record { base = n; added = front ++ back }) (sym base)
    ∙ ap (λ l. record { base = new.base; added = l }) (sym all) in
    subst (λ (p : Plan). StandInSession stream p places slots) is
    (longer_plans_keep stream old.base front back places slots stands)

puts_text : (stream : PagedStream) (document : Document) (changes : List Change) (old new : SessionText)
    (splices : List TextSplice) → HavePuts document old.ends changes old.added new.added splices →
    new.added.base ≡ old.added.base →
    flat_pieces new.pieces.pieces ≡ all_places_after (flat_pieces old.pieces.pieces) splices →
    new.ends ≡ ends_after_all old.ends splices → IsSessionText stream document old →
    IsSessionText stream (all_changed changes document) new
puts_text stream document changes old new splices have base places ends before =
    let puts = have.puts in
    let flat : List UnitPlace = flat_pieces old.pieces.pieces in
    let stands : StandInSession stream (plan_of new.added) flat (document_slots document (ends_of old.ends)) =
    grown_stands stream old.added new.added (joined_texts (blocks_of_puts puts)) flat
    (document_slots document (ends_of old.ends)) base have.items before.places in
    let each : ArePuts document new.added.base old.added.items document old.ends puts =
    subst (λ n. ArePuts document n old.added.items document old.ends puts) (sym base) have.each in
    let after =
    puts_stand document stream new.added old.added.items document old.ends puts flat each have.items stands in
    let by_splices : StandInSession stream (plan_of new.added) (all_places_after flat splices)
    (document_slots (all_changed (changes_of_puts puts) document) (ends_of (ends_after_all old.ends splices))) =
    subst
    (λ l. StandInSession stream (plan_of new.added) (all_places_after flat l)
    (document_slots (all_changed (changes_of_puts puts) document) (ends_of (ends_after_all old.ends l))))
    have.splices_are after in
    let by_changes : StandInSession stream (plan_of new.added) (all_places_after flat splices)
    (document_slots (all_changed changes document) (ends_of (ends_after_all old.ends splices))) =
    subst
    (λ l. StandInSession stream (plan_of new.added) (all_places_after flat splices)
    (document_slots (all_changed l document) (ends_of (ends_after_all old.ends splices)))) have.changes_are by_splices
    in
    let behind = before.base in
    record {
      places =
          subst
          (λ l. StandInSession stream (plan_of new.added) l
          (document_slots (all_changed changes document) (ends_of new.ends)))
          (sym places)
          (subst
          (λ e. StandInSession stream (plan_of new.added) (all_places_after flat splices)
          (document_slots (all_changed changes document) (ends_of e))) (sym ends) by_changes);
      short = have.short before.short;
      base = omega (arith, behind, base);
    }

puts_bounded : (stream : PagedStream) (document : Document) (changes : List Change) (old new : SessionText)
    (splices : List TextSplice) → HavePuts document old.ends changes old.added new.added splices →
    new.added.base ≡ old.added.base →
    flat_pieces new.pieces.pieces ≡ all_places_after (flat_pieces old.pieces.pieces) splices →
    new.ends ≡ ends_after_all old.ends splices → OldUnitsAreBounded stream document old →
    OldUnitsAreBounded stream (all_changed changes document) new
puts_bounded stream document changes old new splices have base places ends before =
    let puts = have.puts in
    let flat : List UnitPlace = flat_pieces old.pieces.pieces in
    let P : UnitPlace → Slot → Type 0 = IsOldBounded stream old.added.base in
    let after =
    puts_old stream old.added.base document old.added.items document old.ends puts flat have.each before in
    let by_splices : AreTogether P (all_places_after flat splices)
    (document_slots (all_changed (changes_of_puts puts) document) (ends_of (ends_after_all old.ends splices))) =
    subst
    (λ l. AreTogether P (all_places_after flat l)
    (document_slots (all_changed (changes_of_puts puts) document) (ends_of (ends_after_all old.ends l))))
    have.splices_are after in
    let by_changes : AreTogether P (all_places_after flat splices)
    (document_slots (all_changed changes document) (ends_of (ends_after_all old.ends splices))) =
    subst
    (λ l. AreTogether P (all_places_after flat splices)
    (document_slots (all_changed l document) (ends_of (ends_after_all old.ends splices)))) have.changes_are by_splices
    in
    subst
    (λ n. AreTogether (IsOldBounded stream n) (flat_pieces new.pieces.pieces)
    (document_slots (all_changed changes document) (ends_of new.ends))) (sym base)
    (subst
    (λ l. AreTogether P l (document_slots (all_changed changes document) (ends_of new.ends))) (sym places)
    (subst
    (λ e. AreTogether P (all_places_after flat splices) (document_slots (all_changed changes document) (ends_of e)))
    (sym ends) by_changes))

pub puts_edit : (document : Document) (changes : List Change) (old new : SessionText) (splices : List TextSplice) →
    HavePuts document old.ends changes old.added new.added splices → new.added.base ≡ old.added.base →
    flat_pieces new.pieces.pieces ≡ all_places_after (flat_pieces old.pieces.pieces) splices →
    length new.pieces.pieces ≤ length old.pieces.pieces + sum_by pieces_cut splices →
    new.ends ≡ ends_after_all old.ends splices → IsTextEdit document changes old new
puts_edit document changes old new splices have base places count ends =
    let puts = have.puts in
    let flat : List UnitPlace = flat_pieces old.pieces.pieces in
    let counted = puts_counted document old.added.base old.added.items document old.ends puts have.each in
    record {
      text = λ stream before. puts_text stream document changes old new splices have base places ends before;
      bounded = λ stream before. puts_bounded stream document changes old new splices have base places ends before;
      fit = λ stream before fit.
          subst (All (λ (p : UnitPlace). FitsPages p.modifier)) (sym places)
          (all_after (λ (p : UnitPlace). FitsPages p.modifier) (fresh_have FitsPages none_fits) splices flat fit);
      pieces =
          omega (
            arith,
            count,
            counted,
            ap (sum_by pieces_cut) have.splices_are,
            ap (sum_by pieces_added) have.changes_are,
          );
      modified = λ none before.
          subst (All (λ (p : UnitPlace). p.modifier ≡ no_modifier)) (sym places)
          (all_after (λ (p : UnitPlace). p.modifier ≡ no_modifier)
          (fresh_have (λ (m : Modifier). m ≡ no_modifier) refl) splices flat before);
      printed = λ most before.
          let bound : ℕ = most + sum_by growth_of changes in
          let P : UnitPlace → Type 0 = λ place. length (printed_modifier place.modifier) ≤ most in
          let Q : UnitPlace → Type 0 = λ place. length (printed_modifier place.modifier) ≤ bound in
          subst (All Q) (sym places)
          (all_after Q
          (fresh_have (λ (m : Modifier). length (printed_modifier m) ≤ bound) (omega (arith, none_printed))) splices
          flat
          (all_weaker P Q flat (λ place within. omega (arith, within)) before));
      added = record {
        blocks = blocks_of_puts puts;
        each =
            subst (λ l. AreTogether (IsBlockOf document) l (blocks_of_puts puts)) have.changes_are
            (blocks_together document old.added.base old.added.items document old.ends puts have.each);
        items = have.items;
      };
      base = base;
    }

-- ---- a modifier

one_at : {A B : Type 0} (P : A → B → Type 0) (x : A) (y : B) → P x y → (k : ℕ) (one : A) (other : B) →
    slice_get (x ∷ []) k ≡ Some one → slice_get (y ∷ []) k ≡ Some other → P one other
one_at P x y is zero one other here there =
    subst (λ a. P a other) (same_Some x one here) (subst (P x) (same_Some y other there) is)
one_at P x y is (suc k) one other here there = absurd (none-some one here)

no_block : (document : Document) (change : Change) → items_put change ≡ [] → IsBlockOf document change []
no_block document change none = record {
  marks = 0;
  few = omega arith;
  first = λ some. absurd (omega (arith, some));
  empty = λ some. absurd (omega (arith, some));
  is = sym (append-nil (items_put change) ∙ none);
}

act_text : (stream : PagedStream) (document : Document) (story : Story) (from to begin end : ℕ) (by : Modifier)
    (old new : SessionText) → IsActStep document story from to by →
    begin ≡ text_begin document (ends_of old.ends) story + from →
    end ≡ text_begin document (ends_of old.ends) story + to →
    AreModified by begin end (flat_pieces old.pieces.pieces) (flat_pieces new.pieces.pieces) →
    new.added ≡ old.added → new.ends ≡ old.ends → IsSessionText stream document old →
    IsSessionText stream (changed (ModifyItems story from to by) document) new
act_text stream document story from to begin end by old new act first last modified added ends before =
    let e = ends_of old.ends in
    let a : ℕ = text_begin document e story + from in
    let b : ℕ = text_begin document e story + to in
    let some = act.range.0 in
    let flat : List UnitPlace = flat_pieces old.pieces.pieces in
    let made : List UnitPlace = flat_pieces new.pieces.pieces in
    let after : Document = changed (ModifyItems story from to by) document in
    let at : AreModified by a b flat made =
    subst (λ n. AreModified by n b flat made) first (subst (λ n. AreModified by begin n flat made) last modified) in
    let range = acted_range document e story from to by act.text act.there some act.range.1 in
    let inside : b ≤ length flat = omega (arith, range.within, before.places.len) in
    let stands : StandInSession stream (plan_of old.added) made (document_slots after e) =
    modified_stay_together stream (plan_of old.added) by a b flat made (document_slots document e) (document_slots after
    e)
    (omega (arith, some)) inside before.places at
    (modifiers_act document e story from to by act.text act.there some act.range.1) in
    let behind = before.base in
    record {
      places =
          subst (λ p. StandInSession stream (plan_of p) made (document_slots after (ends_of new.ends))) (sym added)
          (subst (λ n. StandInSession stream (plan_of old.added) made (document_slots after (ends_of n))) (sym ends)
          stands);
      short = subst (λ (p : Added). All HasShortProperties p.items) (sym added) before.short;
      base = omega (arith, behind, ap (λ (p : Added). p.base) added);
    }

act_bounded : (stream : PagedStream) (document : Document) (story : Story) (from to begin end : ℕ) (by : Modifier)
    (old new : SessionText) → IsActStep document story from to by →
    begin ≡ text_begin document (ends_of old.ends) story + from →
    end ≡ text_begin document (ends_of old.ends) story + to →
    AreModified by begin end (flat_pieces old.pieces.pieces) (flat_pieces new.pieces.pieces) →
    new.added ≡ old.added → new.ends ≡ old.ends → OldUnitsAreBounded stream document old →
    OldUnitsAreBounded stream (changed (ModifyItems story from to by) document) new
act_bounded stream document story from to begin end by old new act first last modified added ends before =
    let e = ends_of old.ends in
    let a : ℕ = text_begin document e story + from in
    let b : ℕ = text_begin document e story + to in
    let some = act.range.0 in
    let flat : List UnitPlace = flat_pieces old.pieces.pieces in
    let made : List UnitPlace = flat_pieces new.pieces.pieces in
    let after : Document = changed (ModifyItems story from to by) document in
    let at : AreModified by a b flat made =
    subst (λ n. AreModified by n b flat made) first (subst (λ n. AreModified by begin n flat made) last modified) in
    let stay : AreTogether (IsOldBounded stream old.added.base) made (document_slots after e) =
    modified_old stream old.added.base by a b flat made (document_slots document e) (document_slots after e)
    (omega (arith, some)) before at (modifiers_act document e story from to by act.text act.there some act.range.1) in
    subst
    (λ (p : Added). AreTogether (IsOldBounded stream p.base) made (document_slots after (ends_of new.ends))) (sym added)
    (subst
    (λ n. AreTogether (IsOldBounded stream old.added.base) made (document_slots after (ends_of n))) (sym ends) stay)

act_fit : (stream : PagedStream) (document : Document) (story : Story) (from to begin end : ℕ) (by : Modifier)
    (old new : SessionText) → IsActStep document story from to by →
    begin ≡ text_begin document (ends_of old.ends) story + from →
    end ≡ text_begin document (ends_of old.ends) story + to →
    AreModified by begin end (flat_pieces old.pieces.pieces) (flat_pieces new.pieces.pieces) →
    new.ends ≡ old.ends → IsSessionText stream (changed (ModifyItems story from to by) document) new →
    HaveFitModifiers old.pieces.pieces → HaveFitModifiers new.pieces.pieces
act_fit stream document story from to begin end by old new act first last modified ends after fit =
    let e = ends_of old.ends in
    let a : ℕ = text_begin document e story + from in
    let b : ℕ = text_begin document e story + to in
    let some = act.range.0 in
    let flat : List UnitPlace = flat_pieces old.pieces.pieces in
    let made : List UnitPlace = flat_pieces new.pieces.pieces in
    let plan : Plan = plan_of new.added in
    let whole : List Slot = document_slots (changed (ModifyItems story from to by) document) e in
    let Stands : ℕ → Bool → Type 0 = StandsInEither stream plan in
    let Gives : ℕ → Bool → GivenUnit → Type 0 = IsGivenBy stream plan in
    let P : UnitPlace → Slot → Type 0 = IsPlaceForSlot Stands Gives in
    let F : UnitPlace → Type 0 = λ place. FitsPages place.modifier in
    let at : AreModified by a b flat made =
    subst (λ n. AreModified by n b flat made) first (subst (λ n. AreModified by begin n flat made) last modified) in
    let range = acted_range document e story from to by act.text act.there some act.range.1 in
    let items : List Item = slice_range act.text from to in
    let stands : AreTogether P made whole =
    subst (λ n. AreTogether P made (document_slots (changed (ModifyItems story from to by) document) (ends_of n))) ends
    after.places in
    let middle : AreTogether P (slice_range made a b) (slice_range whole a b) =
    together_take P (b - a) (drop a made) (drop a whole) (together_drop P a made whole stands) in
    let slots : AreTogether P (slice_range made a b) (map shown (map (modified_item by) items)) =
    subst (AreTogether P (slice_range made a b)) range.slots middle in
    let olds : All F (slice_range flat a b) = All-front F (b - a) (drop a flat) (All-back F a flat fit) in
    modified_all F F by a b flat made (omega (arith, some)) at fit (λ place fits. fits)
    (range_fits Stands Gives by (slice_range flat a b) (slice_range made a b) items olds at.modified slots act.short)

pub act_edit : (document : Document) (story : Story) (from to begin end : ℕ) (by : Modifier) (old new : SessionText) →
    IsActStep document story from to by → begin ≡ text_begin document (ends_of old.ends) story + from →
    end ≡ text_begin document (ends_of old.ends) story + to →
    AreModified by begin end (flat_pieces old.pieces.pieces) (flat_pieces new.pieces.pieces) →
    length new.pieces.pieces ≤ length old.pieces.pieces + 2 → new.added ≡ old.added → new.ends ≡ old.ends →
    IsTextEdit document (ModifyItems story from to by ∷ []) old new
act_edit document story from to begin end by old new act first last modified count added ends =
    let change : Change = ModifyItems story from to by in
    let some = act.range.0 in
    let order : begin ≤ end = omega (arith, first, last, some) in
    record {
      text = λ stream before.
          act_text stream document story from to begin end by old new act first last modified added ends before;
      bounded = λ stream before.
          act_bounded stream document story from to begin end by old new act first last modified added ends before;
      fit = λ stream before fit.
          act_fit stream document story from to begin end by old new act first last modified ends
          (act_text stream document story from to begin end by old new act first last modified added ends before) fit;
      pieces = omega (arith, count, sum_by-cons pieces_added change []);
      modified = λ none before. absurd (All_at ActsOnNone (change ∷ []) 0 change none refl);
      printed = λ most before.
          modified_printed by most (sum_by growth_of (change ∷ [])) begin end (flat_pieces old.pieces.pieces)
          (flat_pieces new.pieces.pieces) order (omega (arith, sum_by-cons growth_of change [])) modified before;
      added = record {
        blocks = [] ∷ [];
        each = together_one (IsBlockOf document) change [] (no_block document change refl);
        items = ap (λ (p : Added). p.items) added ∙ sym (append-nil old.added.items);
      };
      base = ap (λ (p : Added). p.base) added;
    }

-- ---- which of both

-- changes that are not one modifier put items
pub not_lone : (document : Document) (changes : List Change) →
    ((story : Story) (from to : ℕ) (by : Modifier) → changes ≢ ModifyItems story from to by ∷ []) →
    AreEditSteps document changes → ArePutSteps document document changes
not_lone document changes none (inr puts) = puts
not_lone document [] none (inl lone) = absurd lone
not_lone document (SpliceText story from to fresh ∷ []) none (inl lone) = absurd lone
not_lone document (ModifyItems story from to by ∷ []) none (inl lone) = absurd (none story from to by refl)
not_lone document (SetSection at set ∷ []) none (inl lone) = absurd lone
not_lone document (SpliceNotes from to fresh ∷ []) none (inl lone) = absurd lone
not_lone document (SpliceHeads from to fresh ∷ []) none (inl lone) = absurd lone
not_lone document (SetStyleCharacters istd set ∷ []) none (inl lone) = absurd lone
not_lone document (SetStyleParagraphs istd set ∷ []) none (inl lone) = absurd lone
not_lone document (SetBookmarks list ∷ []) none (inl lone) = absurd lone
not_lone document (change ∷ other ∷ more) none (inl lone) = absurd lone

-- and one modifier acts
pub lone_acts : (document : Document) (story : Story) (from to : ℕ) (by : Modifier) (changes : List Change) →
    changes ≡ ModifyItems story from to by ∷ [] → AreEditSteps document changes → IsActStep document story from to by
lone_acts document story from to by changes is steps =
    acts (subst (AreEditSteps document) is steps)
  where
    acts : AreEditSteps document (ModifyItems story from to by ∷ []) → IsActStep document story from to by
    acts (inl lone) = lone
    acts (inr puts) = absurd puts.0.named

-- ---- the places of the sections beside

session_same : (stream : PagedStream) (document : Document) (old new : SessionText) → new.pieces ≡ old.pieces →
    new.added ≡ old.added → new.ends ≡ old.ends → IsSessionText stream document old → IsSessionText stream document new
session_same stream document old new pieces added ends is =
    let behind = is.base in
    record {
      places =
          subst
          (λ (p : PieceTable). StandInSession stream (plan_of new.added) (flat_pieces p.pieces)
          (document_slots document (ends_of new.ends))) (sym pieces)
          (subst
          (λ a. StandInSession stream (plan_of a) (flat_pieces old.pieces.pieces)
          (document_slots document (ends_of new.ends))) (sym added)
          (subst
          (λ e. StandInSession stream (plan_of old.added) (flat_pieces old.pieces.pieces)
          (document_slots document (ends_of e))) (sym ends) is.places));
      short = subst (λ (p : Added). All HasShortProperties p.items) (sym added) is.short;
      base = omega (arith, behind, ap (λ (p : Added). p.base) added);
    }

bounded_same : (stream : PagedStream) (document : Document) (old new : SessionText) → new.pieces ≡ old.pieces →
    new.added ≡ old.added → new.ends ≡ old.ends → OldUnitsAreBounded stream document old →
    OldUnitsAreBounded stream document new
bounded_same stream document old new pieces added ends is =
    subst
    (λ (p : PieceTable). AreTogether (IsOldBounded stream new.added.base) (flat_pieces p.pieces)
    (document_slots document (ends_of new.ends))) (sym pieces)
    (subst
    (λ (a : Added). AreTogether (IsOldBounded stream a.base) (flat_pieces old.pieces.pieces)
    (document_slots document (ends_of new.ends))) (sym added)
    (subst
    (λ e. AreTogether (IsOldBounded stream old.added.base) (flat_pieces old.pieces.pieces)
    (document_slots document (ends_of e))) (sym ends) is))

pub beside_sections : (document : Document) (changes : List Change) (old made new : SessionText) →
    new.pieces ≡ made.pieces → new.added ≡ made.added → new.ends ≡ made.ends → IsTextEdit document changes old made →
    IsTextEdit document changes old new
beside_sections document changes old made new pieces added ends is = record {
  text = λ stream before.
      session_same stream (all_changed changes document) made new pieces added ends (is.text stream before);
  bounded = λ stream before.
      bounded_same stream (all_changed changes document) made new pieces added ends (is.bounded stream before);
  fit = λ stream before fit.
      subst (λ (p : PieceTable). HaveFitModifiers p.pieces) (sym pieces) (is.fit stream before fit);
  pieces =
      subst (λ (p : PieceTable). length p.pieces ≤ length old.pieces.pieces + sum_by pieces_added changes) (sym pieces)
      is.pieces;
  modified = λ none before.
      subst (λ (p : PieceTable). HaveNoModifiers p.pieces) (sym pieces) (is.modified none before);
  printed = λ most before.
      subst (λ (p : PieceTable). HaveModifiersWithin (most + sum_by growth_of changes) p.pieces) (sym pieces)
      (is.printed most before);
  added = subst (λ (p : Added). HasGrownByBlocks document changes old.added.items p.items) (sym added) is.added;
  base = ap (λ (p : Added). p.base) added ∙ is.base;
}

-- ---- puts as they are made

pub can_put_have : (document : Document) (ends : Ends) (changes : List Change) (old new : Added)
    (splices : List TextSplice) (total : ℕ) → HavePuts document ends changes old new splices →
    total ≡ length (document_slots document (ends_of ends)) → CanPutAll total splices
can_put_have document ends changes old new splices total have is =
    subst (CanPutAll total) have.splices_are
    (can_put_all document old.base old.items document ends have.puts total have.each is)

pub have_length : (document : Document) (ends : Ends) (changes : List Change) (old new : Added)
    (splices : List TextSplice) → HavePuts document ends changes old new splices → length splices ≡ length changes
have_length document ends changes old new splices have =
    ap length (sym have.splices_are)
    ∙ (length-map have.puts (λ (put : Put). put.splice)
    ∙ (sym (length-map have.puts (λ (put : Put). put.change)) ∙ ap length have.changes_are))

pub put_edit : (document : Document) (changes : List Change) (old new : SessionText) (pieces : List TextPiece)
    (added : Added) (splices put : List TextSplice) → put ≡ splices → pieces ≡ old.pieces.pieces →
    HavePuts document old.ends changes old.added added splices → added.base ≡ old.added.base →
    flat_pieces new.pieces.pieces ≡ all_places_after (flat_pieces pieces) put →
    length new.pieces.pieces ≤ length pieces + sum_by pieces_cut put → new.added ≡ added →
    new.ends ≡ ends_after_all old.ends put → IsTextEdit document changes old new
put_edit document changes old new pieces added splices put same before have base places count grown ends =
    puts_edit document changes old new splices
    (subst (λ a. HavePuts document old.ends changes old.added a splices) (sym grown) have)
    (ap (λ (a : Added). a.base) grown ∙ base)
    (places ∙ (ap (λ l. all_places_after (flat_pieces pieces) l) same
    ∙ ap (λ p. all_places_after (flat_pieces p) splices) before))
    (omega (arith, count, ap length before, ap (sum_by pieces_cut) same))
    (ends ∙ ap (ends_after_all old.ends) same)
