-- The splices of a command, one after another: what represents the whole text, how many pieces there are, and what
-- their modifiers are.
use Rattle.std.specs.Prelude.{slice_get, List, ℕ, option_to_list}
use Rattle.std.specs.List.{All, sum_by}
use Rattle.std.proofs.Common.{◌≡◌, ◌∙◌, ◌++◌, ◌∷◌, ◌+◌, ◌*◌, ◌-◌, ◌<◌, ◌≤◌, [], refl, sym, ap, subst, zero, suc}
use Rattle.std.proofs.Common.{Option, Some, length, map, take, drop, arith}
use Rattle.std.proofs.lemmas.List.{length-map, length-append, append_assoc, append-nil, length-replicate}
use Rattle.std.proofs.lemmas.List.Concat.{flat_map-cons}
use Rattle.std.proofs.lemmas.List.Elements.{All-nil, All-cons, All-append}
use Rattle.std.proofs.lemmas.List.Sums.{sum_by-cons, fold_more}
use Rattle.std.proofs.Math.Seq.{drop-cons}
use Rattle.std.proofs.lemmas.Option.{same_Some, slice_get_within, get_or_from_slice_get}
use Rattle.doc_bits.specs.Together.{AreTogether}
use Rattle.doc_bits.proofs.Public.{All_at, from_map}
use Rattle.piece_table.specs.declared.pieces.Piece.{Piece}
use Rattle.piece_table.specs.Piece.{TextPiece, UnitPlace, flat_pieces, total_length}
use Rattle.piece_table.specs.Changes.{fresh_places, fresh_units}
use Rattle.piece_table.proofs.Public.{length-flat_pieces, length-fresh_places}
use Rattle.doc_model.specs.declared.item.Item.{Item}
use Rattle.doc_model.specs.declared.document.Document.{Document}
use Rattle.doc_model.specs.Collected.{joined_texts}
use Rattle.doc_model.proofs.Public.{length-splice}
use Rattle.doc_patch.specs.declared.changes.Change.{Change}
use Rattle.doc_patch.specs.declared.changes.Change.TheVariants as change
use Rattle.doc_patch.specs.Changes.{changed, all_changed}
use Rattle.edit_ops.proofs.Public.{sum_more}
use Rattle.full_save.specs.Text.{extra_mark}
use Rattle.save_laws.specs.Places.{PagedStream}
use Rattle.save_laws.specs.Slots.{document_slots}
use Rattle.save_laws.specs.Ends.{ends_of}
use Rattle.save_laws.specs.declared.ends.Ends.{Ends}
use Rattle.save_laws.specs.Sessions.{StandInSession}
use Rattle.save_laws.proofs.Public.{splices_stay_together}
use Rattle.session_text.specs.declared.added.Added.{Added}
use Rattle.session_text.specs.declared.session_text.TextSplice.{TextSplice}
use Rattle.session_text.specs.AddedText.{plan_of, added_piece, marked_block}
use Rattle.session_text.specs.EditSteps.{IsBlockOf, block_pieces, cut_count, pieces_added, items_put}
use Rattle.session_text.specs.Puts.{CanPut, CanPutAll, places_after, all_places_after, ends_after_all, pieces_cut, Put}
use Rattle.session_text.specs.Puts.{IsPut, ArePuts}
use Rattle.session_text.specs.OldUnits.{IsOldBounded}
use Rattle.session_text.proofs.OldLemmas.{fresh_old, alike_old, spliced_old}
use Rattle.session_text.proofs.BlockLemmas.{blocks_stand}
use Rattle.session_text.proofs.TextLemmas.{All-front, All-back}
use Rattle.std.proofs.Common.{replicate, get_or}

-- ---- parts of puts

abbrev pub changes_of_puts : List Put → List Change
changes_of_puts puts = map (λ put. put.change) puts

abbrev pub splices_of_puts : List Put → List TextSplice
splices_of_puts puts = map (λ put. put.splice) puts

abbrev pub blocks_of_puts : List Put → List (List Item)
blocks_of_puts puts = map (λ put. put.block) puts

-- the added items of the blocks, behind those that are there
blocks_behind : (before : List Item) (put : Put) (more : List Put) →
    before ++ joined_texts (blocks_of_puts (put ∷ more))
    ≡ before ++ (put.block ++ joined_texts (blocks_of_puts more))
blocks_behind before put more = ap (λ l. before ++ l) (flat_map-cons (λ t. t) put.block (blocks_of_puts more))

-- ---- the whole text

-- the length after a put
put_length : (document : Document) (base : ℕ) (before : List Item) (now : Document) (ends : Ends) (put : Put) →
    IsPut document base before now ends put →
    length (document_slots (changed put.change now) (ends_of put.splice.ends)) + (put.splice.to - put.splice.from)
    ≡ length (document_slots now (ends_of ends)) + length put.block
put_length document base before now ends put is =
    let whole = is.whole.whole in
    let w = document_slots now (ends_of ends) in
    omega (
      arith,
      is.whole.alike.len,
      ap length whole.whole,
      whole.order,
      whole.within,
      length-splice w is.slots put.splice.from put.splice.to whole.order whole.within,
      is.added.len,
    )

put_stands : (document : Document) (old : PagedStream) (added : Added) (before behind : List Item)
    (now : Document) (ends : Ends) (put : Put) (places : List UnitPlace) →
    IsPut document added.base before now ends put →
    added.items ≡ before ++ (put.block ++ behind) →
    StandInSession old (plan_of added) places (document_slots now (ends_of ends)) →
    StandInSession old (plan_of added) (places_after places put.splice)
    (document_slots (changed put.change now) (ends_of put.splice.ends))
put_stands document old added before behind now ends put places is items stands =
    let whole = is.whole.whole in
    let inside : put.splice.to ≤ length places = omega (arith, whole.within, stands.len) in
    let fresh : StandInSession old (plan_of added) (fresh_places put.splice.block) is.slots =
    subst (λ o. StandInSession old (plan_of added) (fresh_places o) is.slots) (sym is.piece)
    (blocks_stand old added before put.block behind is.slots items is.added) in
    is.whole.alike.stand old (plan_of added) (places_after places put.splice)
    (subst (StandInSession old (plan_of added) (places_after places put.splice)) (sym whole.whole)
    (splices_stay_together old (plan_of added) places (fresh_places put.splice.block) (document_slots now (ends_of
    ends))
    is.slots put.splice.from put.splice.to whole.order inside stands fresh))

pub puts_stand : (document : Document) (old : PagedStream) (added : Added) (before : List Item)
    (now : Document) (ends : Ends) (puts : List Put) (places : List UnitPlace) →
    ArePuts document added.base before now ends puts →
    added.items ≡ before ++ joined_texts (blocks_of_puts puts) →
    StandInSession old (plan_of added) places (document_slots now (ends_of ends)) →
    StandInSession old (plan_of added) (all_places_after places (splices_of_puts puts))
    (document_slots (all_changed (changes_of_puts puts) now) (ends_of (ends_after_all ends (splices_of_puts puts))))
puts_stand document old added before now ends [] places are items stands = stands
puts_stand document old added before now ends (put ∷ more) places are items stands =
    let behind : List Item = joined_texts (blocks_of_puts more) in
    let here : added.items ≡ before ++ (put.block ++ behind) = items ∙ blocks_behind before put more in
    puts_stand document old added (before ++ put.block) (changed put.change now) put.splice.ends more
    (places_after places put.splice) are.1 (here ∙ sym (append_assoc before put.block behind))
    (put_stands document old added before behind now ends put places are.0 here stands)

-- the units that are before added text stay bounded
put_old : (stream : PagedStream) (base : ℕ) (document : Document) (before : List Item) (now : Document) (ends : Ends)
    (put : Put) (places : List UnitPlace) → IsPut document base before now ends put →
    AreTogether (IsOldBounded stream base) places (document_slots now (ends_of ends)) →
    AreTogether (IsOldBounded stream base) (places_after places put.splice)
    (document_slots (changed put.change now) (ends_of put.splice.ends))
put_old stream base document before now ends put places is old =
    let whole = is.whole.whole in
    let fresh : AreTogether (IsOldBounded stream base) (fresh_places put.splice.block) is.slots =
    subst (λ o. AreTogether (IsOldBounded stream base) (fresh_places o) is.slots) (sym is.piece)
    (fresh_old stream base (base + 2 * length before) (length put.block) is.slots (omega arith) is.added.len) in
    alike_old stream base (places_after places put.splice) (document_slots is.whole.made (ends_of put.splice.ends))
    (document_slots (changed put.change now) (ends_of put.splice.ends)) is.whole.alike.marks
    (subst (AreTogether (IsOldBounded stream base) (places_after places put.splice)) (sym whole.whole)
    (spliced_old stream base places (fresh_places put.splice.block) (document_slots now (ends_of ends)) is.slots
    put.splice.from put.splice.to old fresh))

pub puts_old : (stream : PagedStream) (base : ℕ) (document : Document) (before : List Item) (now : Document)
    (ends : Ends) (puts : List Put) (places : List UnitPlace) → ArePuts document base before now ends puts →
    AreTogether (IsOldBounded stream base) places (document_slots now (ends_of ends)) →
    AreTogether (IsOldBounded stream base) (all_places_after places (splices_of_puts puts))
    (document_slots (all_changed (changes_of_puts puts) now) (ends_of (ends_after_all ends (splices_of_puts puts))))
puts_old stream base document before now ends [] places are old = old
puts_old stream base document before now ends (put ∷ more) places are old =
    puts_old stream base document (before ++ put.block) (changed put.change now) put.splice.ends more
    (places_after places put.splice) are.1 (put_old stream base document before now ends put places are.0 old)

-- ---- when the splices can be made

units_of_piece : (at n : ℕ) → fresh_units (added_piece at n) ≡ n
units_of_piece at zero = refl
units_of_piece at (suc n) = refl

can_put : (document : Document) (base : ℕ) (before : List Item) (now : Document) (ends : Ends) (put : Put) →
    IsPut document base before now ends put → CanPut (length (document_slots now (ends_of ends))) put.splice
can_put document base before now ends put is =
    let units : fresh_units put.splice.block ≡ length put.block =
    ap fresh_units is.piece ∙ units_of_piece (base + 2 * length before) (length put.block) in
    record {
      order = is.whole.whole.order;
      within = is.whole.whole.within;
      block = is.is_piece;
      fits =
          omega (
            arith,
            units,
            is.short,
            put_length document base before now ends put is,
            is.whole.whole.order,
            is.whole.whole.within,
          );
    }

pub can_put_all : (document : Document) (base : ℕ) (before : List Item) (now : Document) (ends : Ends)
    (puts : List Put) (total : ℕ) →
    ArePuts document base before now ends puts → total ≡ length (document_slots now (ends_of ends)) →
    CanPutAll total (splices_of_puts puts)
can_put_all document base before now ends [] total are is = tt
can_put_all document base before now ends (put ∷ more) total are is =
    let units : fresh_units put.splice.block ≡ length put.block =
    ap fresh_units are.0.piece ∙ units_of_piece (base + 2 * length before) (length put.block) in (
      subst (λ n. CanPut n put.splice) (sym is) (can_put document base before now ends put are.0),
      can_put_all document base (before ++ put.block) (changed put.change now) put.splice.ends more
          (total + fresh_units put.splice.block - (put.splice.to - put.splice.from)) are.1
          (omega (
            arith,
            is,
            units,
            put_length document base before now ends put are.0,
            are.0.whole.whole.order,
            are.0.whole.whole.within,
          )),
    )

-- ---- how many pieces there are

-- a block without items has no piece
block_counted : (items : List Item) (at marks n : ℕ) → n ≡ length items + marks → (0 < marks → 0 < length items) →
    length (option_to_list (added_piece at n)) ≤ block_pieces items
block_counted [] at marks zero count first = omega arith
block_counted [] at zero (suc n) count first = absurd (omega (arith, count))
block_counted [] at (suc marks) (suc n) count first =
    let some = first (omega arith) in
    absurd (omega (arith, some))
block_counted (item ∷ items) at marks zero count first = omega arith
block_counted (item ∷ items) at marks (suc n) count first = omega arith

pub length-marked : (items : List Item) (marks : ℕ) → length (marked_block items marks) ≡ length items + marks
length-marked items marks =
    length-append items (replicate marks extra_mark) ∙ ap (λ n. length items + n) (length-replicate marks extra_mark)

cuts_some : (change : Change) → 1 ≤ cut_count change
cuts_some (change.SpliceText story from to fresh) = omega arith
cuts_some (change.ModifyItems story from to by) = omega arith
cuts_some (change.SetSection at set) = omega arith
cuts_some (change.SpliceNotes from to fresh) = omega arith
cuts_some (change.SpliceHeads from to fresh) = omega arith
cuts_some (change.SetStyleCharacters istd set) = omega arith
cuts_some (change.SetStyleParagraphs istd set) = omega arith
cuts_some (change.SetBookmarks list) = omega arith

put_counted : (document : Document) (base : ℕ) (before : List Item) (now : Document) (ends : Ends) (put : Put) →
    IsPut document base before now ends put → pieces_cut put.splice ≤ pieces_added put.change
put_counted document base before now ends put is =
    let block = is.block_is in
    let at : ℕ = base + 2 * length before in
    let count : length put.block ≡ length (items_put put.change) + block.marks =
    ap length block.is ∙ length-marked (items_put put.change) block.marks in
    omega (
      arith,
      cuts_some put.change,
      ap (λ o. length (option_to_list o)) is.piece,
      block_counted (items_put put.change) at block.marks (length put.block) count block.first,
    )

pub puts_counted : (document : Document) (base : ℕ) (before : List Item) (now : Document) (ends : Ends)
    (puts : List Put) → ArePuts document base before now ends puts →
    sum_by pieces_cut (splices_of_puts puts) ≤ sum_by pieces_added (changes_of_puts puts)
puts_counted document base before now ends [] are = omega arith
puts_counted document base before now ends (put ∷ more) are =
    omega (
      arith,
      sum_by-cons pieces_cut put.splice (splices_of_puts more),
      sum_by-cons pieces_added put.change (changes_of_puts more),
      put_counted document base before now ends put are.0,
      puts_counted document base (before ++ put.block) (changed put.change now) put.splice.ends more are.1,
    )

-- ---- the blocks

are_blocks : (document : Document) (base : ℕ) (before : List Item) (now : Document) (ends : Ends) (puts : List Put) →
    ArePuts document base before now ends puts → All (λ put. IsBlockOf document put.change put.block) puts
are_blocks document base before now ends [] are = All-nil (λ put. IsBlockOf document put.change put.block)
are_blocks document base before now ends (put ∷ more) are =
    All-cons (λ (p : Put). IsBlockOf document p.change p.block) put more are.0.block_is
    (are_blocks document base (before ++ put.block) (changed put.change now) put.splice.ends more are.1)

pub blocks_together : (document : Document) (base : ℕ) (before : List Item) (now : Document) (ends : Ends)
    (puts : List Put) → ArePuts document base before now ends puts →
    AreTogether (IsBlockOf document) (changes_of_puts puts) (blocks_of_puts puts)
blocks_together document base before now ends puts are =
    let all = are_blocks document base before now ends puts are in
    record {
      len = length-map puts (λ put. put.change) ∙ sym (length-map puts (λ put. put.block));
      each = λ k change block here there.
          let one = from_map (λ (put : Put). put.change) puts k change here in
          let other = from_map (λ (put : Put). put.block) puts k block there in
          let same : one.0 ≡ other.0 = same_Some one.0 other.0 (sym one.1.0 ∙ other.1.0) in
          subst (λ c. IsBlockOf document c block) one.1.1
          (subst (IsBlockOf document one.0.change) (ap (λ (p : Put). p.block) same ∙ other.1.1)
          (All_at (λ (p : Put). IsBlockOf document p.change p.block) puts k one.0 all one.1.0));
    }

-- ---- a put more

pub puts_snoc : (document : Document) (base : ℕ) (before : List Item) (now : Document) (ends : Ends)
    (puts : List Put) (put : Put) →
    ArePuts document base before now ends puts →
    IsPut document base (before ++ joined_texts (blocks_of_puts puts)) (all_changed (changes_of_puts puts) now)
    (ends_after_all ends (splices_of_puts puts)) put → ArePuts document base before now ends (puts ++ put ∷ [])
puts_snoc document base before now ends [] put are is =
    (subst (λ l. IsPut document base l now ends put) (append-nil before) is, tt)
puts_snoc document base before now ends (first ∷ more) put are is = (
  are.0,
  puts_snoc document base (before ++ first.block) (changed first.change now) first.splice.ends more put are.1
      (subst
      (λ l. IsPut document base l (all_changed (changes_of_puts more) (changed first.change now))
      (ends_after_all first.splice.ends (splices_of_puts more)) put)
      (blocks_behind before first more ∙ sym (append_assoc before first.block (joined_texts (blocks_of_puts more))))
      is),
)

-- ---- what holds of each place

pub all_after : (P : UnitPlace → Type 0) → ((block : Option Piece) → All P (fresh_places block)) →
    (splices : List TextSplice) (places : List UnitPlace) → All P places → All P (all_places_after places splices)
all_after P fresh [] places all = all
all_after P fresh (one ∷ more) places all =
    all_after P fresh more (places_after places one)
    (All-append P (take one.from places) (fresh_places one.block ++ drop one.to places)
    (All-front P one.from places all)
    (All-append P (fresh_places one.block) (drop one.to places) (fresh one.block) (All-back P one.to places all)))

-- ---- one splice more

pub can_next : (total k : ℕ) (splices : List TextSplice) (one : TextSplice) → CanPutAll total (drop k splices) →
    slice_get splices k ≡ Some one →
    CanPut total one
    × CanPutAll (total + fresh_units one.block - (one.to - one.from)) (drop (k + 1) splices)
can_next total k splices one can there =
    let low = slice_get_within splices k one there in
    let read : get_or splices k one ≡ one = get_or_from_slice_get splices k one one there in
    let next : suc k ≡ k + 1 = omega arith in
    let is : drop k splices ≡ one ∷ drop (k + 1) splices =
    drop-cons splices k one low ∙ (ap (λ s. s ∷ drop (suc k) splices) read ∙ ap (λ n. one ∷ drop n splices) next) in
    let both : CanPutAll total (one ∷ drop (k + 1) splices) = subst (CanPutAll total) is can in
    both

pub places_more : (places : List UnitPlace) (splices : List TextSplice) (k : ℕ) (one : TextSplice) →
    slice_get splices k ≡ Some one →
    all_places_after places (take (k + 1) splices) ≡ places_after (all_places_after places (take k splices)) one
places_more places splices k one there =
    fold_more places_after places splices k one (slice_get_within splices k one there)
    ∙ ap (places_after (all_places_after places (take k splices))) (get_or_from_slice_get splices k one one there)

pub ends_next : (ends : Ends) (splices : List TextSplice) (k : ℕ) (one : TextSplice) → slice_get splices k ≡ Some one →
    ends_after_all ends (take (k + 1) splices) ≡ one.ends
ends_next ends splices k one there =
    fold_more (λ now (splice : TextSplice). splice.ends) ends splices k one (slice_get_within splices k one there)
    ∙ ap (λ (splice : TextSplice). splice.ends) (get_or_from_slice_get splices k one one there)

-- how many CPs there are after a splice
pub total_after : (pieces new : List TextPiece) (one : TextSplice) → CanPut (total_length pieces) one →
    flat_pieces new ≡ places_after (flat_pieces pieces) one →
    total_length new ≡ total_length pieces + fresh_units one.block - (one.to - one.from)
total_after pieces new one can is =
    let flat = flat_pieces pieces in
    let order = can.order in
    let within : one.to ≤ length flat =
    let inside = can.within in
    omega (arith, inside, length-flat_pieces pieces) in
    omega (
      arith,
      order,
      within,
      ap length is,
      length-flat_pieces new,
      length-flat_pieces pieces,
      length-splice flat (fresh_places one.block) one.from one.to order within,
      length-fresh_places one.block,
    )

-- a list of one entry
pub one_entry : {A : Type 0} (xs : List A) (x : A) → length xs ≡ 1 → slice_get xs 0 ≡ Some x → xs ≡ x ∷ []
one_entry [] x one there = absurd (omega (arith, one))
one_entry (y ∷ []) x one there = ap (λ z. z ∷ []) (same_Some y x there)
one_entry (y ∷ z ∷ xs) x one there = absurd (omega (arith, one))

-- the splices so far are made, and the others can be
pub record SplicesMade
    (old : List TextPiece) (ends : Ends) (splices : List TextSplice) (k : ℕ) (new : List TextPiece) (now : Ends) :
    Type 0 where
  pub places : flat_pieces new ≡ all_places_after (flat_pieces old) (take k splices)
  pub can : CanPutAll (total_length new) (drop k splices)
  pub count : length new ≤ length old + sum_by pieces_cut (take k splices)
  pub ends_are : now ≡ ends_after_all ends (take k splices)

pub splices_made : (old : List TextPiece) (ends : Ends) (splices : List TextSplice) (k : ℕ) (new made : List TextPiece)
    (now after : Ends) (one : TextSplice) → SplicesMade old ends splices k new now → slice_get splices k ≡ Some one →
    flat_pieces made ≡ places_after (flat_pieces new) one → length made ≤ length new + pieces_cut one →
    after ≡ one.ends → SplicesMade old ends splices (k + 1) made after
splices_made old ends splices k new made now after one so_far there places count same =
    let next = can_next (total_length new) k splices one so_far.can there in
    let before = so_far.count in
    record {
      places =
          places
          ∙ (ap (λ l. places_after l one) so_far.places ∙ sym (places_more (flat_pieces old) splices k one there));
      can =
          subst (λ n. CanPutAll n (drop (k + 1) splices)) (sym (total_after new made one next.0 places)) next.1;
      count = omega (arith, before, count, sum_more pieces_cut splices k one there);
      ends_are = same ∙ sym (ends_next ends splices k one there);
    }
