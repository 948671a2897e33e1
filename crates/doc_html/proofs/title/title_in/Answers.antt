-- The paragraphs of the text, one by one.
use Rattle.std.proofs.Common.{◌≡◌, ◌∙◌, ◌+◌, ◌-◌, ◌<◌, ◌≤◌, ◌∷◌, [], ℕ, List, refl, sym, ap, subst, arith, None, Some, Bool, true, false, length}
use Rattle.std.specs.Prelude.{slice_index, slice_get}
use Rattle.std.proofs.lemmas.Option.{slice_get-get_or}
use Rattle.style_sheet.specs.Chain.{style_kind_at}
use Rattle.doc_columns.specs.Walks.{items_in, IsColumnWalk}
use Rattle.doc_columns.specs.declared.walk.Walk.{Walk}
use Rattle.doc_columns.proofs.Public.{first_walk, items_long, start_at, begins_at_start}
use Rattle.std.specs.List.{count_by}
use Rattle.doc_view.specs.Course.{has_reference}
use Rattle.doc_view.specs.Kept.{KeptReferences}
use Rattle.doc_view.specs.Seen.{Paragraph, paragraphs_of, standing_of, style_of}
use Rattle.doc_view.proofs.Public.{seen_range, next_left, none_left, right_style}
use Rattle.doc_html.specs.Head.{is_title_text, title_in, title_units}
use Rattle.doc_html.specs.Writes.{paragraphs_left}
use Rattle.doc_html.proofs.TitleLemmas.{no_title, title_here, title_past}
use Rattle.doc_html.proofs.title.title_in.Goals as goal

pub loop-course-init : goal.loop-course-init
loop-course-init c =
    let parts = c.args.text.now.parts in
    let manner = c.args.text.now.manner in
    let items = items_in parts in
    let course = c.new-course in
    let place = course.ensures.place in
    record {
      within = omega (arith, place);
      walk =
          subst (λ (n : ℕ). IsColumnWalk parts course.result.walk n) (sym place)
          (first_walk parts course.result.walk course.ensures.walk);
      marks = start_at parts.attachments.now c.new-marks.result c.new-marks.ensures;
      ahead =
          subst (λ (n : ℕ). c.new-marks.result.begin ≤ n) (sym place)
          (begins_at_start c.new-marks.result c.new-marks.ensures);
      course =
          course.ensures.course manner items (subst (λ (kept : KeptReferences). count_by (has_reference manner) items ≤
          kept.room) (sym c.none.ensures) (let none = c.requires.room in omega (arith, none)));
      title = λ formats are.
          ap (λ (n : ℕ). title_in (paragraphs_left formats manner items n)) (sym place);
    }

pub paragraph_title-requires-clause-style : goal.paragraph_title-requires-clause-style
paragraph_title-requires-clause-style c =
    let parts = c.args.text.now.parts in
    let sheet = c.args.text.now.formats.now in
    let some = c.paragraph_end-end.ensures.some in
    let within = c.paragraph_end-end.ensures.within in
    subst (λ (istd : ℕ). style_kind_at sheet istd ≡ 1) (sym c.style_of.ensures)
    (right_style sheet parts c.requires.parts (c.paragraph_end-end.result - 1) c.seek-last.result.now
    c.requires.normal c.requires.styles (omega (arith, some, within)) c.seek-last.ensures.value)

pub returns-then-is_title : goal.returns-then-is_title
returns-then-is_title c = λ formats are.
    let parts = c.args.text.now.parts in
    let manner = c.args.text.now.manner in
    let items = items_in parts in
    let at = c.loop-course.course.place in
    let found = c.paragraph_end-end.ensures in
    let end = c.paragraph_end-end.result in
    let last = c.seek-last.result.now in
    let some = found.some in
    let inside = found.within in
    let unit = slice_index parts.units.now (end - 1) in
    let unit_is : slice_get parts.units.now (end - 1) ≡ Some unit =
    slice_get-get_or parts.units.now (end - 1) 0 (omega (arith, some, inside)) in
    let seen = seen_range formats manner (style_of last.mark) items at end in
    let paragraph : Paragraph = record { standing = standing_of unit last.mark; values = None; items = seen } in
    let rest = paragraphs_left formats manner items end in
    let left : paragraphs_left formats manner items at ≡ paragraph ∷ rest =
    next_left formats manner parts c.requires.parts at end unit last some inside found.inside found.ends unit_is
    c.seek-last.ensures.value in
    let title : c.in_ok-title.title ≡ title_units seen =
    c.in_ok-title.ensures.title formats are
    ∙ ap (λ (istd : ℕ). title_units (seen_range formats manner istd items at end)) c.style_of.ensures in
    title ∙ sym (c.loop-course.invariant.title formats are ∙ ap title_in left
    ∙ title_here paragraph rest (ap is_title_text (sym title ∙ sym c.as_slice.ensures) ∙ sym c.is_title.ensures
    ∙ c.if-is_title.true))

pub loop-course-preserved : goal.loop-course-preserved
loop-course-preserved c =
    let parts = c.args.text.now.parts in
    let manner = c.args.text.now.manner in
    let items = items_in parts in
    let at = c.loop-course.course.place in
    let found = c.paragraph_end-end.ensures in
    let end = c.paragraph_end-end.result in
    let last = c.seek-last.result.now in
    let behind = c.seek-last.ensures.ahead in
    let some = found.some in
    let inside = found.within in
    let put = c.in_ok-title.ensures in
    let after = c.paragraph_title.new.course in
    let place : after.place ≡ end = put.place in
    let unit = slice_index parts.units.now (end - 1) in
    let unit_is : slice_get parts.units.now (end - 1) ≡ Some unit =
    slice_get-get_or parts.units.now (end - 1) 0 (omega (arith, some, inside)) in
    record {
      within = omega (arith, place, inside);
      walk = subst (λ (n : ℕ). IsColumnWalk parts after.walk n) (sym place) put.walk;
      marks = c.seek-last.ensures.at;
      ahead = omega (arith, behind, place);
      course = put.course;
      title = λ formats are.
          let seen = seen_range formats manner (style_of last.mark) items at end in
          let paragraph : Paragraph = record { standing = standing_of unit last.mark; values = None; items = seen } in
          let rest = paragraphs_left formats manner items end in
          let left : paragraphs_left formats manner items at ≡ paragraph ∷ rest =
          next_left formats manner parts c.requires.parts at end unit last some inside found.inside found.ends unit_is
          c.seek-last.ensures.value in
          let title : c.in_ok-title.title ≡ title_units seen =
          put.title formats are
          ∙ ap (λ (istd : ℕ). title_units (seen_range formats manner istd items at end)) c.style_of.ensures in
          c.loop-course.invariant.title formats are ∙ ap title_in left
          ∙ title_past paragraph rest (ap is_title_text (sym title ∙ sym c.as_slice.ensures) ∙ sym c.is_title.ensures
          ∙ c.if-is_title.false)
          ∙ ap (λ (n : ℕ). title_in (paragraphs_left formats manner items n)) (sym place);
    }

pub returns : goal.returns
returns c =
    let parts = c.args.text.now.parts in
    let manner = c.args.text.now.manner in
    let items = items_in parts in
    let done = c.loop-course-test.false in
    λ formats are.
    c.in_ok-none.ensures ∙ sym (c.loop-course.invariant.title formats are ∙ no_title (paragraphs_left formats manner items
    c.loop-course.course.place) (none_left formats manner items c.loop-course.course.place (omega (
      arith,
      items_long parts
          c.requires.parts,
      done,
    ))))
