-- The properties of the places of a piece, and what is beside its units.
use Rattle.std.proofs.Common.{◌≡◌, ◌∙◌, ℕ, List, sym, ap, subst, ◌+◌, ◌-◌, ◌≤◌, length, arith}
use Rattle.std.proofs.lemmas.Bool.{true≢false}
use Rattle.std.proofs.lemmas.Result.{IfOk-weaker}
use Rattle.std.specs.Prelude.{slice_range}
use Rattle.fkp_pages.specs.declared.kind.PageKind.TheVariants.{Chpx}
use Rattle.direct_props.specs.PageRules.{AreValidPlaces}
use Rattle.direct_props.specs.Stretches.{AddsCharacters}
use Rattle.direct_props.specs.GrpprlCache.{PlaceSource}
use Rattle.doc_bits.proofs.Public.{length-range}
use Rattle.doc_read.specs.Passing.{AddsEach}
use Rattle.doc_read.specs.Reading.{IsPieceReader}
use Rattle.doc_read.specs.Attached.{IsAttachedAt}
use Rattle.doc_read.proofs.MeetLemmas.{adds_characters}
use Rattle.doc_read.proofs.PageLemmas.{pages_of_places, places_of_pages}
use Rattle.doc_read.proofs.columns.push_piece.Goals as goal

pub push_character_runs-requires-clause-kind : goal.push_character_runs-requires-clause-kind
push_character_runs-requires-clause-kind c = ap (λ (s : PlaceSource). s.kind) c.requires.reader.characters

pub push_character_runs-requires-clause-few : goal.push_character_runs-requires-clause-few
push_character_runs-requires-clause-few c =
    let part = c.args.part.now in
    let count = c.args.piece.end - c.args.piece.cp in
    let front = c.front-places.ensures in
    let long = ap length front.places
    ∙ length-range part.view.places part.from (part.from + count) front.within in
    omega (arith, long, c.requires.chps, c.requires.from, front.few)

pub push_attachments-requires-clause-reader : goal.push_attachments-requires-clause-reader
push_attachments-requires-clause-reader c =
    let reader = c.args.reader.now in
    let same : record { characters = c.push_character_runs.new.self; marks = reader.marks } ≡ reader =
    λ i. record { characters = c.push_character_runs.ensures.same i; marks = reader.marks } in
    subst (IsPieceReader c.args.part.now.view) (sym same) c.requires.reader

-- the places of the piece
places_are : (all places : List ℕ) (part_from from to count : ℕ) → places ≡ slice_range all part_from (part_from +
    count)
    → part_from ≡ from → from + count ≡ to → places ≡ slice_range all from to
places_are all places part_from from to count is here behind =
    is ∙ ap (λ n. slice_range all n (n + count)) here ∙ ap (slice_range all from) behind

pub returns-then-not-right-clause-right : goal.returns-then-not-right-clause-right
returns-then-not-right-clause-right c =
    let view = c.args.part.now.view in
    let from = c.args.piece.cp in
    let to = c.args.piece.end in
    let within : to ≤ length view.places =
    omega (arith, c.requires.ordered, c.requires.from, c.front-places.ensures.within) in
    let are = places_are view.places c.front-places.result c.args.part.now.from from to (to - from)
    c.front-places.ensures.places c.requires.from (omega (arith, c.requires.ordered)) in (
      λ t. absurd (true≢false (sym t)),
      λ all.
          absurd
          (true≢false
          (sym (c.in_ok-right.ensures.right.1
          (subst (λ (s : PlaceSource). AreValidPlaces Chpx s.wd s.bin c.front-places.result)
          (sym c.requires.reader.characters)
          (subst (AreValidPlaces Chpx view.wd view.characters) (sym are)
          (places_of_pages view from to within all.characters)))) ∙ c.if-not-right.true)),
    )

pub returns-clause-right : goal.returns-clause-right
returns-clause-right c =
    let view = c.args.part.now.view in
    let from = c.args.piece.cp in
    let to = c.args.piece.end in
    let within : to ≤ length view.places =
    omega (arith, c.requires.ordered, c.requires.from, c.front-places.ensures.within) in
    let are = places_are view.places c.front-places.result c.args.part.now.from from to (to - from)
    c.front-places.ensures.places c.requires.from (omega (arith, c.requires.ordered)) in
    let characters = pages_of_places view from to within
    (subst (AreValidPlaces Chpx view.wd view.characters) are
    (subst (λ (s : PlaceSource). AreValidPlaces Chpx s.wd s.bin c.front-places.result) c.requires.reader.characters
    (c.in_ok-right.ensures.right.0 c.if-not-right.false))) in
    IfOk-weaker c.push_attachments.result _ _
    (λ right marks. (
      λ t. record { characters = characters; marks = marks.0 t },
      λ all. marks.1 all.marks,
    )) c.push_attachments.ensures.right

pub returns-clause-chps : goal.returns-clause-chps
returns-clause-chps c =
    let view = c.args.part.now.view in
    let from = c.args.piece.cp in
    let to = c.args.piece.end in
    let within : to ≤ length view.places =
    omega (arith, c.requires.ordered, c.requires.from, c.front-places.ensures.within) in
    let are = places_are view.places c.front-places.result c.args.part.now.from from to (to - from)
    c.front-places.ensures.places c.requires.from (omega (arith, c.requires.ordered)) in
    let read = subst
    (λ (s : PlaceSource). AddsCharacters s.wd s.bin c.front-places.result s.modifier c.args.read.now.chps
    c.push_character_runs.new.runs) c.requires.reader.characters
    (c.in_ok-right.ensures.added c.if-not-right.false) in
    let adds = subst
    (λ (l : List ℕ). AddsCharacters view.wd view.characters l c.args.reader.now.characters.modifier
    c.args.read.now.chps c.push_character_runs.new.runs) are read in
    let read_are = adds_characters view c.args.reader.now.characters.modifier from to c.args.read.now.chps
    c.push_character_runs.new.runs c.requires.chps c.requires.ordered within c.requires.reader.formed adds in
    IfOk-weaker c.push_attachments.result _ _ (λ right _ _. read_are) c.push_attachments.ensures.right

pub returns-clause-attachments : goal.returns-clause-attachments
returns-clause-attachments c =
    IfOk-weaker c.push_attachments.result _ _
    (λ right adds t. subst
    (λ (s : PlaceSource). AddsEach (IsAttachedAt c.args.part.now.view s.modifier)
    (c.args.piece.end - c.args.piece.cp) c.args.read.now.attachments c.push_attachments.new.attachments)
    c.push_character_runs.ensures.same (adds t)) c.push_attachments.ensures.attachments

pub front-places-requires : goal.front-places-requires
front-places-requires c = omega (arith, c.requires.ordered, c.requires.from, c.requires.within)
