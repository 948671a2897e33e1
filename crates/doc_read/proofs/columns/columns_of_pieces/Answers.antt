-- A piece more.
use Rattle.std.proofs.Common.{rules, ◌≡◌, ◌∙◌, sym, ap, subst, ◌+◌, ◌-◌, ◌≤◌}
use Rattle.std.proofs.Common.{drop, length, take, min, slice_get, Some, arith}
use Rattle.std.proofs.lemmas.Bool.{true≢false}
use Rattle.std.proofs.lemmas.List.{drop-drop, length-drop, take_all}
use Rattle.std.proofs.lemmas.Option.{slice_get_within}
use Rattle.std.specs.Option.{option_map}
use Rattle.piece_table.specs.declared.pieces.Piece.{Piece}
use Rattle.piece_table.specs.Piece.{TextPiece, total_length}
use Rattle.file_rules.proofs.Public.{piece_read}
use Rattle.doc_columns.specs.Columns.{items_of}
use Rattle.doc_read.specs.Passing.{AddsEach}
use Rattle.doc_read.specs.Reading.{ArePassed, HaveValidPages, IsPieceReader, IsReadCharacter, TextRest, text_view}
use Rattle.doc_read.proofs.PlacedLemmas.{placed_more, length-more}
use Rattle.doc_read.proofs.ReaderLemmas.{reader_at, reader_right, readers_same}
use Rattle.doc_read.proofs.PageLemmas.{pages_join, pages_within}
use Rattle.doc_read.specs.Attached.{IsAttachedAt}
use Rattle.doc_read.proofs.MeetLemmas.{length-read, adds_items, none_placed}
use Rattle.doc_read.proofs.columns.columns_of_pieces.Goals as goal

pub loop-i-init : goal.loop-i-init
loop-i-init c =
    let view = text_view c.args.text.now in
    let chps = c.new.result in
    let attachments = c.new-2.result in
    let none = length-read view.units chps attachments 0 (ap length c.new.ensures) (ap length c.new-2.ensures)
    (omega arith) in
    record {
      len = omega arith;
      right = record {
        characters = λ at upper lower. absurd (omega (arith, upper, lower));
        marks = λ at upper lower _. absurd (omega (arith, upper, lower));
      };
      chps = ap length c.new.ensures;
      attachments = ap length c.new-2.ensures;
      placed = none_placed view c.args.pieces.now.pieces (items_of view.units chps attachments) none;
      rest = c.skip-rest.ensures;
      readers = search rules;
      passed = search rules;
    }

pub index_mut-requires : goal.index_mut-requires
index_mut-requires c =
    let readers = c.reader_for.new.readers in
    let has = c.in_ok-number.ensures.serves in
    let within = slice_get_within readers.items c.in_ok-number.number has.reader has.here in
    omega (arith, within, readers.ok.0)

pub new-part-requires-clause-places : goal.new-part-requires-clause-places
new-part-requires-clause-places c = c.skip.ensures ∙ c.loop-i.invariant.rest

pub push_piece-requires-clause-within : goal.push_piece-requires-clause-within
push_piece-requires-clause-within c =
    let units = ap (λ (p : TextRest). length p.view.units) c.new-part.ensures in
    omega (arith, units, c.min.ensures, c.loop-i.invariant.len)

pub push_piece-requires-clause-passed : goal.push_piece-requires-clause-passed
push_piece-requires-clause-passed c =
    subst (λ (p : TextRest). ArePassed p.view.marks c.loop-i.passed c.loop-i.cp) (sym c.new-part.ensures)
    c.loop-i.invariant.passed

pub skip-rest-requires-in-loop-i : goal.skip-rest-requires-in-loop-i
skip-rest-requires-in-loop-i c =
    let left = ap length c.loop-i.invariant.rest ∙ length-drop c.loop-i.cp c.args.text.now.places in
    omega (arith, left, c.min.ensures, c.loop-i.invariant.len, c.requires.readable.same)

pub push_piece-requires-clause-reader : goal.push_piece-requires-clause-reader
push_piece-requires-clause-reader c =
    let readers = c.reader_for.new.readers.items in
    let number = c.in_ok-number.number in
    let reader = c.index_mut.result.now in
    subst (λ (p : TextRest). IsPieceReader p.view reader) (sym c.new-part.ensures)
    (reader_right (text_view c.args.text.now) readers number reader c.in_ok-number.ensures.readers
    (reader_at readers number reader c.modifier-modifier.result.now c.in_ok-number.ensures.serves
    c.index_mut.ensures.value).0)

pub loop-i-preserved : goal.loop-i-preserved
loop-i-preserved c =
    let text = c.args.text.now in
    let view = text_view text in
    let units = view.units in
    let pieces = c.args.pieces.now.pieces in
    let i = c.loop-i.i in
    let cp = c.loop-i.cp in
    let old = c.loop-i.read in
    let new = c.push_piece.new.read in
    let count = length units in
    let added = c.min.result in
    let read = piece_read (slice_get pieces i) c.piece.result c.piece.ensures.value in
    let piece = read.0 in
    let here = read.1.0 in
    let len_is : piece.len ≡ c.piece.result.len = ap (λ (p : Piece). p.len) read.1.1 in
    let modifier : Some piece.modifier ≡ Some c.modifier-modifier.result.now =
    ap (option_map (λ (p : TextPiece). p.modifier)) (sym here) ∙ c.modifier-modifier.ensures.value in
    let modifier_is : piece.modifier ≡ c.modifier-modifier.result.now = cc (modifier) in
    let within : cp + added ≤ count = omega (arith, c.min.ensures, c.loop-i.invariant.len) in
    let old_items = items_of units old.chps old.attachments in
    let new_items = items_of units new.chps new.attachments in
    let old_long : length old_items ≡ cp =
    length-read units old.chps old.attachments cp c.loop-i.invariant.chps c.loop-i.invariant.attachments
    (omega (arith, within)) in
    let front : length old_items ≡ min (total_length (take i pieces)) count = old_long ∙ c.loop-i.invariant.len in
    let added_is : added ≡ min piece.len (count - length old_items) =
    c.min.ensures ∙ (ap (λ n. min n (count - cp)) (sym len_is) ∙ ap (λ n. min piece.len (count - n)) (sym old_long)) in
    let readers = c.reader_for.new.readers.items in
    let number = c.in_ok-number.number in
    let reader = c.index_mut.result.now in
    let at = reader_at readers number reader c.modifier-modifier.result.now c.in_ok-number.ensures.serves
    c.index_mut.ensures.value in
    let same = at.1 ∙ sym modifier_is in
    let went = c.if-not-right.false in
    let long : cp + added - cp ≡ added = omega arith in
    let behind : cp + (cp + added - cp) ≡ cp + added = omega arith in
    let chps = subst (λ m. AddsEach (IsReadCharacter view m) added old.chps new.chps) same
    (subst (λ n. AddsEach (IsReadCharacter view reader.characters.modifier) n old.chps new.chps) long
    (subst
    (λ (p : TextRest). AddsEach (IsReadCharacter p.view reader.characters.modifier) (cp + added - cp) old.chps new.chps)
    c.new-part.ensures (c.in_ok-right.ensures.chps went))) in
    let attachments = subst (λ m. AddsEach (IsAttachedAt view m) added old.attachments new.attachments) same
    (subst (λ n. AddsEach (IsAttachedAt view reader.characters.modifier) n old.attachments new.attachments) long
    (subst
    (λ (p : TextRest). AddsEach (IsAttachedAt p.view reader.characters.modifier) (cp + added - cp) old.attachments
    new.attachments)
    c.new-part.ensures (c.in_ok-right.ensures.attachments went))) in
    let adds = adds_items view piece.modifier cp added old.chps new.chps old.attachments new.attachments
    c.loop-i.invariant.chps
    c.loop-i.invariant.attachments within chps attachments in
    record {
      len = length-more pieces i added count piece (length old_items) (cp + added) here front added_is
          (ap (λ n. n + added) (sym old_long));
      right = pages_join view 0 cp (cp + added) c.loop-i.invariant.right
          (subst (λ (p : TextRest). HaveValidPages p.view cp (cp + added)) c.new-part.ensures
          (c.in_ok-right.ensures.right.0 went));
      chps = omega (arith, chps.len, c.loop-i.invariant.chps);
      attachments = omega (arith, attachments.len, c.loop-i.invariant.attachments);
      placed = placed_more view pieces i added count piece old_items new_items here front added_is
          c.loop-i.invariant.placed adds;
      rest = c.skip-rest-in-loop-i.ensures ∙ ap (drop (cp + added - cp)) c.loop-i.invariant.rest
          ∙ drop-drop (cp + added - cp) cp text.places ∙ ap (λ n. drop n text.places) behind;
      readers = readers_same view readers number reader c.push_piece.new.reader c.in_ok-number.ensures.readers at.0
          c.in_ok-right.ensures.same;
      passed = subst (λ (p : TextRest). ArePassed p.view.marks c.push_piece.new.passed (cp + added)) c.new-part.ensures
          (c.in_ok-right.ensures.passed went);
    }

pub returns-then-not-right : goal.returns-then-not-right
returns-then-not-right c = λ all.
    let view = text_view c.args.text.now in
    let cp = c.loop-i.cp in
    let added = c.min.result in
    let within : cp + added ≤ length view.units = omega (arith, c.min.ensures, c.loop-i.invariant.len) in
    let some = pages_within view 0 (length view.units) cp (cp + added) (omega arith) within all in
    let here = subst (λ (p : TextRest). HaveValidPages p.view cp (cp + added)) (sym c.new-part.ensures) some in
    true≢false (sym (c.in_ok-right.ensures.right.1 here) ∙ c.if-not-right.true)

pub returns : goal.returns
returns c =
    let view = text_view c.args.text.now in
    let pieces = c.args.pieces.now.pieces in
    let cp = c.loop-i.cp in
    let count = length view.units in
    let whole : take c.loop-i.i pieces ≡ pieces = take_all c.loop-i.i pieces (omega (
      arith,
      c.len-i-end.ensures.value,
    )) in
    let all : cp ≡ count =
    omega (arith, c.loop-i.invariant.len, ap total_length whole, c.requires.enough) in
    record {
      right = subst (HaveValidPages view 0) all c.loop-i.invariant.right;
      chps = c.loop-i.invariant.chps ∙ all;
      attachments = c.loop-i.invariant.attachments ∙ all;
      each = c.loop-i.invariant.placed;
    }
