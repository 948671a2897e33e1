-- The paragraphs of the text, one by one.
use Rattle.std.proofs.Common.{◌≡◌, ◌∙◌, ◌+◌, ◌-◌, ◌≤◌, ◌∷◌, ℕ, List, sym, ap, subst, arith, drop}
use Rattle.std.proofs.Common.{take, Some, None, false}
use Rattle.std.specs.Prelude.{slice_index, slice_get, option_map}
use Rattle.std.proofs.lemmas.Option.{slice_get-get_or}
use Rattle.style_sheet.specs.Chain.{style_kind_at}
use Rattle.doc_model.specs.Settings.{is_inside}
use Rattle.doc_model.specs.Stretches.{stretches}
use Rattle.doc_columns.specs.Walks.{items_in, IsColumnWalk}
use Rattle.doc_columns.proofs.Public.{first_walk, items_long, start_at, begins_at_start}
use Rattle.doc_view.specs.declared.line.Line.{Line}
use Rattle.doc_view.specs.declared.references.Reference.{Reference}
use Rattle.doc_view.specs.declared.standing.Standing.{Standing}
use Rattle.doc_view.specs.Course.{PutsItems}
use Rattle.doc_view.specs.Layout.{is_in_table}
use Rattle.doc_view.specs.Kept.{KeptReferences}
use Rattle.doc_view.specs.Lines.{lead_text, line_after}
use Rattle.doc_view.specs.Seen.{Paragraph, paragraphs_from, paragraphs_of, standing_of, style_of, with_values}
use Rattle.doc_view.proofs.RangeLemmas.{seen_range}
use Rattle.doc_view.proofs.TextLemmas.{TextAt, all_met, next_left, none_left, paragraph_step, right_style, some_put}
use Rattle.doc_view.proofs.TextLemmas.{text_put, text_start, values_next, values_none}
use Rattle.doc_view.proofs.text.Text.push.Goals as goal

pub loop-course-init : goal.loop-course-init
loop-course-init g c =
    let parts = c.args.self.now.parts in
    let manner = c.args.self.now.manner in
    let items = items_in parts in
    let course = c.new-course in
    let place = course.ensures.place in
    record {
      within = omega (arith, place);
      number = omega (arith, place);
      walk =
          subst (λ (n : ℕ). IsColumnWalk parts course.result.walk n) (sym place)
          (first_walk parts course.result.walk course.ensures.walk);
      marks = start_at parts.attachments.now c.new-marks.result c.new-marks.ensures;
      ahead =
          subst (λ (n : ℕ). c.new-marks.result.begin ≤ n) (sym place)
          (begins_at_start c.new-marks.result c.new-marks.ensures);
      course = course.ensures.course manner items c.requires.room;
      text = λ formats are.
          let values = c.args.values.now in
          let all = with_values values (paragraphs_of formats manner items) in
          let there : ℕ → List Paragraph = λ n.
          with_values values (paragraphs_from formats manner (take n items) (stretches is_inside (drop n items))) in
          subst (λ (n : ℕ). TextAt g.K.Sink c.args.out.now c.args.page.now c.args.out.now c.args.page.now
          (lead_text c.args.lead) all (there n) c.new-line.result c.args.references.list
          course.result.references.list) (sym place)
          (subst (λ (line : Line). TextAt g.K.Sink c.args.out.now c.args.page.now c.args.out.now c.args.page.now
          (lead_text c.args.lead) all all line c.args.references.list course.result.references.list)
          (sym c.new-line.ensures)
          (subst (λ (references : List Reference). TextAt g.K.Sink c.args.out.now c.args.page.now c.args.out.now
          c.args.page.now (lead_text c.args.lead) all all
          (record { some = false; in_row = false; in_cell = false; later = false }) c.args.references.list references)
          (sym (ap (λ (r : KeptReferences). r.list) course.ensures.references))
          (text_start g.K.Sink c.args.out.now c.args.page.now (lead_text c.args.lead) all c.args.references.list)));
    }

pub push_paragraph-requires-clause-style : goal.push_paragraph-requires-clause-style
push_paragraph-requires-clause-style g c =
    let parts = c.args.self.now.parts in
    let sheet = c.args.self.now.formats.now in
    let some = c.paragraph_end-end.ensures.some in
    let within = c.paragraph_end-end.ensures.within in
    subst (λ (istd : ℕ). style_kind_at sheet istd ≡ 1) (sym c.style_of.ensures)
    (right_style sheet parts c.requires.parts (c.paragraph_end-end.result - 1) c.seek-last.result.now
    c.requires.normal c.requires.styles (omega (arith, some, within)) c.seek-last.ensures.value)

pub loop-course-preserved : goal.loop-course-preserved
loop-course-preserved g c =
    let parts = c.args.self.now.parts in
    let manner = c.args.self.now.manner in
    let items = items_in parts in
    let old = c.loop-course in
    let put = c.push_paragraph in
    let found = c.paragraph_end-end.ensures in
    let end = c.paragraph_end-end.result in
    let last = c.seek-last.result.now in
    let behind = c.seek-last.ensures.ahead in
    let some = found.some in
    let inside = found.within in
    let place = put.ensures.place in
    let at = old.course.place in
    let unit = slice_index parts.units.now (end - 1) in
    let unit_is : slice_get parts.units.now (end - 1) ≡ Some unit =
    slice_get-get_or parts.units.now (end - 1) 0 (omega (arith, some, inside)) in
    let number = old.invariant.number in
    let values = c.args.values.now in
    record {
      within = omega (arith, place, inside);
      number = omega (arith, place, number, some);
      walk = subst (λ (n : ℕ). IsColumnWalk parts put.new.self.walk n) (sym place) put.ensures.walk;
      marks = c.seek-last.ensures.at;
      ahead = omega (arith, behind, place);
      course = put.ensures.course;
      text = λ formats are.
          let all = with_values values (paragraphs_of formats manner items) in
          let later : ℕ → List Paragraph = λ n.
          paragraphs_from formats manner (take n items) (stretches is_inside (drop n items)) in
          let there : ℕ → List Paragraph = λ n. with_values (drop (old.number + 1) values) (later n) in
          let seen = seen_range formats manner (style_of last.mark) items at end in
          let left =
          next_left formats manner parts c.requires.parts at end unit last some inside found.inside found.ends unit_is
          c.seek-last.ensures.value in
          let own = c.get.result in
          let next :
          with_values (drop old.number values) (later at)
          ≡ record {
            standing = standing_of unit last.mark;
            values = option_map (λ v. v.now) own;
            items = seen;
          } ∷ there end =
          ap (with_values (drop old.number values)) left
          ∙ values_next values old.number (standing_of unit last.mark) seen (later end)
          ∙ (λ i. record {
            standing = standing_of unit last.mark;
            values = sym c.get.ensures i;
            items = seen;
          } ∷ there end) in
          let saying = c.new-saying.ensures in
          let standing = standing_of unit last.mark in
          let passes =
          subst (λ (istd : ℕ). PutsItems g.K.Sink
          (record {
            out = old.out;
            page = old.page;
            saying = c.new-saying.result;
            references =
                old.course.references.list;
          })
          (record {
            out = put.new.out;
            page = put.new.page;
            saying = put.new.saying;
            references =
                put.new.self.references.list;
          })
          (seen_range formats manner istd items at end)) c.style_of.ensures (put.ensures.passes formats are) in
          let step =
          paragraph_step g.K.Sink c.args.out.now c.args.page.now old.out old.page put.new.out put.new.page
          c.finish.new.out c.finish.new.page c.args.lead old.line all (with_values (drop old.number values) (later at)) (there end)
          standing own seen c.new-saying.result put.new.saying c.args.references.list old.course.references.list
          put.new.self.references.list next
          (saying ∙ (λ i. record {
            lead = c.args.lead;
            line = old.line;
            in_table = (c.is_in_table.ensures
                ∙ ap is_in_table c.of-standing.ensures) i;
            values = own;
            begun = false;
            half = None;
          }))
          (old.invariant.text formats are) passes c.finish.ensures in
          let line : c.behind-line.result ≡ line_after old.line standing put.new.saying.begun =
          c.behind-line.ensures
          ∙ ap (λ (s : Standing). line_after old.line s put.new.saying.begun) c.of-standing.ensures in
          subst (λ (n : ℕ). TextAt g.K.Sink c.args.out.now c.args.page.now c.finish.new.out c.finish.new.page
          (lead_text c.args.lead) all (there n) c.behind-line.result c.args.references.list
          put.new.self.references.list) (sym place)
          (subst (λ (l : Line). TextAt g.K.Sink c.args.out.now c.args.page.now c.finish.new.out c.finish.new.page
          (lead_text c.args.lead) all (there end) l c.args.references.list put.new.self.references.list) (sym line) step);
    }

pub returns-clause-text : goal.returns-clause-text
returns-clause-text g c = λ formats are.
    let parts = c.args.self.now.parts in
    let manner = c.args.self.now.manner in
    let items = items_in parts in
    let old = c.loop-course in
    let done = c.loop-course-test.false in
    let values = c.args.values.now in
    let all = with_values values (paragraphs_of formats manner items) in
    let none =
    ap (with_values (drop old.number values))
    (none_left formats manner items old.course.place (omega (arith, items_long parts c.requires.parts, done)))
    ∙ values_none (drop old.number values) in
    text_put g.K.Sink c.args.out.now c.args.page.now old.out old.page c.push_end.new.out c.push_end.new.page
    (lead_text c.args.lead) all old.line c.args.references.list old.course.references.list
    (subst (λ (rest : List Paragraph). TextAt g.K.Sink c.args.out.now c.args.page.now old.out old.page
    (lead_text c.args.lead) all rest old.line c.args.references.list old.course.references.list) none
    (old.invariant.text formats are))
    c.push_end.ensures

pub returns-clause-references : goal.returns-clause-references
returns-clause-references g c = λ formats are.
    let parts = c.args.self.now.parts in
    let manner = c.args.self.now.manner in
    let items = items_in parts in
    let old = c.loop-course in
    let done = c.loop-course-test.false in
    let values = c.args.values.now in
    let all = with_values values (paragraphs_of formats manner items) in
    let none =
    ap (with_values (drop old.number values))
    (none_left formats manner items old.course.place (omega (arith, items_long parts c.requires.parts, done)))
    ∙ values_none (drop old.number values) in
    all_met g.K.Sink c.args.out.now c.args.page.now old.out old.page (lead_text c.args.lead) all old.line
    c.args.references.list old.course.references.list
    (subst (λ (rest : List Paragraph). TextAt g.K.Sink c.args.out.now c.args.page.now old.out old.page
    (lead_text c.args.lead) all rest old.line c.args.references.list old.course.references.list) none
    (old.invariant.text formats are))

pub returns-clause-some : goal.returns-clause-some
returns-clause-some g c = λ formats are.
    let parts = c.args.self.now.parts in
    let manner = c.args.self.now.manner in
    let items = items_in parts in
    let old = c.loop-course in
    let done = c.loop-course-test.false in
    let values = c.args.values.now in
    let all = with_values values (paragraphs_of formats manner items) in
    let none =
    ap (with_values (drop old.number values))
    (none_left formats manner items old.course.place (omega (arith, items_long parts c.requires.parts, done)))
    ∙ values_none (drop old.number values) in
    some_put g.K.Sink c.args.out.now c.args.page.now old.out old.page (lead_text c.args.lead) all old.line
    c.args.references.list old.course.references.list
    (subst (λ (rest : List Paragraph). TextAt g.K.Sink c.args.out.now c.args.page.now old.out old.page
    (lead_text c.args.lead) all rest old.line c.args.references.list old.course.references.list) none
    (old.invariant.text formats are))
