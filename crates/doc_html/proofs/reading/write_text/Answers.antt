-- The paragraphs of the text, one by one.
use Rattle.std.proofs.Common.{◌≡◌, ◌∙◌, ◌+◌, ◌-◌, ◌<◌, ◌≤◌, ◌∷◌, ◌++◌, [], ℕ, List, refl, sym, ap, subst, arith}
use Rattle.std.proofs.Common.{length, drop}
use Rattle.std.proofs.Common.{take, Some, Bool, true, false, length-append}
use Rattle.std.specs.Prelude.{slice_index, slice_get, ◌&&◌, nat_le, option_map}
use Rattle.std.proofs.Math.Seq.{take-append_seam}
use Rattle.std.proofs.lemmas.Option.{slice_get-get_or}
use Rattle.style_sheet.specs.Chain.{style_kind_at}
use Rattle.doc_columns.specs.Walks.{items_in, IsColumnWalk}
use Rattle.doc_columns.proofs.Public.{first_walk, items_long, start_at, begins_at_start}
use Rattle.view_places.specs.declared.element.Element.{Element}
use Rattle.doc_view.specs.declared.references.Reference.{Reference}
use Rattle.doc_view.specs.declared.standing.Standing.{Standing}
use Rattle.doc_view.specs.Kept.{KeptReferences}
use Rattle.doc_view.specs.Layout.{is_in_table}
use Rattle.doc_view.specs.Seen.{Paragraph, paragraphs_of, standing_of, style_of, with_values}
use Rattle.doc_view.proofs.Public.{seen_range, next_left, none_left, right_style, values_next, values_none}
use Rattle.doc_places.specs.declared.grid.Grid.{Grid}
use Rattle.doc_places.specs.Grid.{grid_after, is_head_row}
use Rattle.doc_places.specs.declared.lists.Lists.{Lists}
use Rattle.doc_places.specs.declared.looks.Look.{Look}
use Rattle.doc_places.specs.Lists.{lists_after}
use Rattle.doc_places.specs.Looks.{label_units, look_of}
use Rattle.doc_places.specs.Places.{anchor_places, block_of, cell_at, hypertext_of, lead, consecutive, up_to_reference}
use Rattle.doc_places.proofs.Public.{lead_more, lead_none}
use Rattle.form_page.specs.Forms.{Places}
use Rattle.form_page.specs.Forms.{PutsPlaces}
use Rattle.doc_html.specs.Writes.{WritesItems, at, at_front, head_by, paragraphs_left}
use Rattle.doc_html.proofs.HeadLemmas.{head_with, known_on}
use Rattle.doc_html.proofs.TextLemmas.{TextAt, all_met, block_few, cell_few, ended_few, text_on, text_start, text_written}
use Rattle.doc_html.proofs.WriteLemmas.{writes_from, writes_in}
use Rattle.doc_places.specs.declared.links.Origin.{Origin}
use Rattle.doc_html.specs.Writes.{links_in}
use Rattle.doc_html.proofs.reading.write_text.Goals as goal

pub loop-reading-init : goal.loop-reading-init
loop-reading-init g c =
    let parts = c.args.text.now.parts in
    let manner = c.args.text.now.manner in
    let items = items_in parts in
    let reading = c.new-reading in
    let place = reading.ensures.place in
    let count = reading.ensures.count in
    let outer = c.args.writer.now.path in
    let grid = c.new-grid.ensures in
    let bookmarks = c.args.context.now.bookmarks.now in
    record {
      within = omega (arith, place);
      walk =
          subst (λ (n : ℕ). IsColumnWalk parts reading.result.course.walk n) (sym place)
          (first_walk parts reading.result.course.walk reading.ensures.walk);
      marks = start_at parts.attachments.now c.new-marks.result c.new-marks.ensures;
      ahead =
          subst (λ (n : ℕ). c.new-marks.result.begin ≤ n) (sym place)
          (begins_at_start c.new-marks.result c.new-marks.ensures);
      reading = record {
        course = reading.ensures.course manner items c.requires.room;
        few = omega (arith, count);
        referred =
            reading.ensures.referred ∙ sym (ap (λ (n : ℕ). up_to_reference (take n items)) place);
      };
      path = refl;
      number = subst (λ (x : Grid). x.number ≤ reading.result.course.place) (sym grid) (omega arith);
      cell = subst (λ (x : Grid). x.cell ≤ x.number) (sym grid) (omega arith);
      ended = subst (λ (x : Grid). x.ended ≤ x.number) (sym grid) (omega arith);
      next = sym (ap (lead bookmarks) place ∙ lead_none bookmarks);
      known = λ formats manner head here. absurd (cc (here));
      text = λ formats are.
          let values = c.args.context.now.values.now in
          let all = with_values values (paragraphs_of formats manner items) in
          let there : Grid → ℕ → List Paragraph = λ x n. with_values (drop x.number values) (paragraphs_left formats
          manner items n) in
          let hypertext = hypertext_of bookmarks c.args.context.now.note items c.args.context.now.cells.now in
          let start : Grid = record { number = 0; table = 0; row = 0; cell = 0; ended = 0; heads = true } in
          subst (λ (x : Grid). TextAt g.K.Sink c.args.out.now c.args.writer.now.page c.args.out.now
          c.args.writer.now.page hypertext outer all (there x reading.result.course.place) x c.none-lists.result
          reading.result.count reading.result.course.place c.args.references.list
          reading.result.course.references.list) (sym grid)
          (subst (λ (n : ℕ). TextAt g.K.Sink c.args.out.now c.args.writer.now.page c.args.out.now
          c.args.writer.now.page hypertext outer all (there start n) start c.none-lists.result reading.result.count n
          c.args.references.list reading.result.course.references.list) (sym place)
          (subst (λ (n : ℕ). TextAt g.K.Sink c.args.out.now c.args.writer.now.page c.args.out.now
          c.args.writer.now.page hypertext outer all all start c.none-lists.result n 0 c.args.references.list
          reading.result.course.references.list) (sym count)
          (subst (λ (references : List Reference). TextAt g.K.Sink c.args.out.now c.args.writer.now.page c.args.out.now
          c.args.writer.now.page hypertext outer all all start c.none-lists.result 0 0 c.args.references.list references)
          (sym (ap (λ (r : KeptReferences). r.list) reading.ensures.references))
          (text_start g.K.Sink c.args.out.now c.args.writer.now.page hypertext outer all start c.none-lists.result
          c.args.references.list refl c.none-lists.ensures))));
    }

pub is_head-head-requires-clause-known : goal.is_head-head-requires-clause-known
is_head-head-requires-clause-known g c = λ formats manner head here.
    let parts = c.args.text.now.parts in
    let found = c.paragraph_end-end.ensures in
    let end = c.paragraph_end-end.result in
    let last = c.seek-last.result.now in
    let some = found.some in
    let inside = found.within in
    let unit = slice_index parts.units.now (end - 1) in
    let unit_is : slice_get parts.units.now (end - 1) ≡ Some unit =
    slice_get-get_or parts.units.now (end - 1) 0 (omega (arith, some, inside)) in
    let left =
    next_left formats manner parts c.requires.parts c.loop-reading.reading.course.place end unit last some inside
    found.inside found.ends unit_is c.seek-last.ensures.value in
    c.loop-reading.invariant.known formats manner head here ∙ ap is_head_row left
    ∙ ap (λ (s : Standing). head_by s (paragraphs_left formats manner (items_in parts) end)) (sym
    c.of-standing.ensures)

pub push_block-requires : goal.push_block-requires
push_block-requires g c =
    let depth = c.requires.depth in
    subst (λ (path : List Element). length path + 13 ≤ 24) (sym c.loop-reading.invariant.path) (omega (arith, depth))

pub write_paragraph-requires-clause-style : goal.write_paragraph-requires-clause-style
write_paragraph-requires-clause-style g c =
    let parts = c.args.text.now.parts in
    let sheet = c.args.text.now.formats.now in
    let some = c.paragraph_end-end.ensures.some in
    let within = c.paragraph_end-end.ensures.within in
    subst (λ (istd : ℕ). style_kind_at sheet istd ≡ 1) (sym c.style_of.ensures)
    (right_style sheet parts c.requires.parts (c.paragraph_end-end.result - 1) c.seek-last.result.now
    c.requires.normal c.requires.styles (omega (arith, some, within)) c.seek-last.ensures.value)

pub write_paragraph-requires-clause-depth : goal.write_paragraph-requires-clause-depth
write_paragraph-requires-clause-depth g c =
    let depth = c.requires.depth in
    let old = c.loop-reading.writer.path in
    let cell = c.cell_at-cell.result in
    let block = block_of c.loop-reading.grid cell c.of-look.result c.loop-reading.lists in
    let few = block_few c.loop-reading.grid cell c.of-look.result c.loop-reading.lists in
    let same : length old ≡ length c.args.writer.now.path = ap length c.loop-reading.invariant.path in
    subst (λ (path : List Element). length path + 8 ≤ 24) (sym (c.write_anchors-next.ensures.path ∙
    c.push_block.ensures))
    (omega (arith, depth, few, same, length-append old block))

pub write_anchors-next-requires-clause-room : goal.write_anchors-next-requires-clause-room
write_anchors-next-requires-clause-room g c =
    let depth = c.requires.depth in
    let old = c.loop-reading.writer.path in
    let cell = c.cell_at-cell.result in
    let block = block_of c.loop-reading.grid cell c.of-look.result c.loop-reading.lists in
    let few = block_few c.loop-reading.grid cell c.of-look.result c.loop-reading.lists in
    let same : length old ≡ length c.args.writer.now.path = ap length c.loop-reading.invariant.path in
    subst (λ (path : List Element). length path < 24) (sym c.push_block.ensures)
    (omega (arith, depth, few, same, length-append old block))

pub write_anchors-next-requires-clause-next : goal.write_anchors-next-requires-clause-next
write_anchors-next-requires-clause-next g c =
    let bookmarks = c.args.context.now.bookmarks.now in
    let some = c.paragraph_end-end.ensures.some in
    let place = c.loop-reading.reading.course.place in
    let end = c.paragraph_end-end.result in
    let next = c.loop-reading.invariant.next in
    let more = lead_more bookmarks place end (omega (arith, some)) in
    omega (arith, next, more)

pub loop-reading-preserved : goal.loop-reading-preserved
loop-reading-preserved g c =
    let parts = c.args.text.now.parts in
    let manner = c.args.text.now.manner in
    let items = items_in parts in
    let old = c.loop-reading in
    let put = c.write_paragraph in
    let anchors = c.write_anchors-next in
    let bookmarks = c.args.context.now.bookmarks.now in
    let found = c.paragraph_end-end.ensures in
    let end = c.paragraph_end-end.result in
    let last = c.seek-last.result.now in
    let behind = c.seek-last.ensures.ahead in
    let some = found.some in
    let inside = found.within in
    let place = put.ensures.place in
    let at_place = old.reading.course.place in
    let outer = c.args.writer.now.path in
    let unit = slice_index parts.units.now (end - 1) in
    let unit_is : slice_get parts.units.now (end - 1) ≡ Some unit =
    slice_get-get_or parts.units.now (end - 1) 0 (omega (arith, some, inside)) in
    let standing = standing_of unit last.mark in
    let grid_is : c.behind-grid.result ≡ grid_after old.grid standing =
    c.behind-grid.ensures ∙ ap (grid_after old.grid) c.of-standing.ensures in
    let in_table : c.is_in_table-in_table.result ≡ is_in_table standing =
    c.is_in_table-in_table.ensures ∙ ap is_in_table c.of-standing.ensures in
    let head = c.in_head.result in
    let in_cell = c.cell_at-cell.result in
    let look = c.of-look.result in
    let block : c.push_block.new.path ≡ outer ++ block_of old.grid in_cell look old.lists =
    c.push_block.ensures ∙ ap (λ (path : List Element). path ++ block_of old.grid in_cell look old.lists)
    old.invariant.path in
    let depth : c.len-depth.result ≡ length outer = c.len-depth.ensures.len in
    let number = old.invariant.number in
    let cell = old.invariant.cell in
    let next_cell = cell_few old.grid standing in
    let ended = old.invariant.ended in
    let next_ended = ended_few old.grid standing in
    record {
      within = omega (arith, place, inside);
      walk = subst (λ (n : ℕ). IsColumnWalk parts put.new.reading.course.walk n) (sym place) put.ensures.walk;
      marks = c.seek-last.ensures.at;
      ahead = omega (arith, behind, place);
      reading = put.ensures.reading;
      path =
          c.truncate.ensures ∙ (λ i. take (depth i) ((put.ensures.path ∙ anchors.ensures.path ∙ block) i)) ∙ take-append_seam outer (block_of
          old.grid in_cell look old.lists);
      number =
          subst (λ (x : Grid). x.number ≤ put.new.reading.course.place) (sym grid_is) (omega (
            arith,
            number,
            some,
            place,
          ));
      cell = subst (λ (x : Grid). x.cell ≤ x.number) (sym grid_is) (omega (arith, cell, next_cell));
      ended = subst (λ (x : Grid). x.ended ≤ x.number) (sym grid_is) (omega (arith, ended, next_ended));
      next = c.write_anchors-next.ensures.next ∙ ap (lead c.args.context.now.bookmarks.now) (sym place);
      known = λ formats manner is here.
          subst (λ (n : ℕ). is ≡ is_head_row (paragraphs_left formats manner items n)) (sym place)
          (known_on standing c.of-standing.result (paragraphs_left formats manner items end) c.known_behind-known.result
          c.is_head-head.result is c.of-standing.ensures c.known_behind-known.ensures (c.is_head-head.ensures formats manner)
          here);
      text = λ formats are.
          let values = c.args.context.now.values.now in
          let number = old.grid.number in
          let all = with_values values (paragraphs_of formats manner items) in
          let later : ℕ → List Paragraph = paragraphs_left formats manner items in
          let rest = with_values (drop (number + 1) values) (later end) in
          let own = option_map (λ v. v.now) c.get-own.result in
          let seen = seen_range formats manner (style_of last.mark) items at_place end in
          let following : with_values (drop number values) (later at_place) ≡ record {
            standing = standing;
            values = own;
            items = seen;
          } ∷ rest =
          ap (with_values (drop number values)) (next_left formats manner parts c.requires.parts at_place end unit last
          some inside found.inside found.ends unit_is c.seek-last.ensures.value)
          ∙ values_next values number standing seen (later end)
          ∙ (λ i. record { standing = standing; values = sym c.get-own.ensures i; items = seen } ∷ rest) in
          let right : head ≡ (old.grid.heads && head_by standing rest) =
          c.in_head.ensures ∙ ap (λ (b : Bool). old.grid.heads && b) (c.is_head-head.ensures formats manner
          ∙ ap (λ (s : Standing). head_by s (later end)) c.of-standing.ensures
          ∙ sym (head_with standing (drop (number + 1) values) (later end))) in
          let a = at_front (at old.out old.writer old.reading) in
          let mid = at_front (at anchors.new.out anchors.new.writer old.reading) in
          let b = at put.new.out put.new.writer put.new.reading in
          let hypertext = hypertext_of bookmarks c.args.context.now.note items c.args.context.now.cells.now in
          let links = hypertext.links in
          let origin : Origin = record { note = c.args.context.now.note; begin = at_place } in
          let label = c.label_units-label.result.now in
          let styled : WritesItems g.K.Sink mid b (links_in c.new-origin.result items) anchors.new.writer.path label
          seen =
          subst (λ (istd : ℕ). WritesItems g.K.Sink mid b (links_in c.new-origin.result items) anchors.new.writer.path
          label
          (seen_range formats manner istd items at_place end))
          c.style_of.ensures (put.ensures.writes formats are) in
          let linked : WritesItems g.K.Sink mid b (links at_place) anchors.new.writer.path label seen =
          writes_from g.K.Sink mid b c.new-origin.result origin items anchors.new.writer.path label seen
          c.new-origin.ensures styled in
          let long : end ≡ at_place + length seen = sym place ∙ linked.place in
          let count : end - at_place ≡ length seen = omega (arith, long) in
          let look_is : look ≡ look_of own (is_in_table standing) (nat_le 2 (length seen)) =
          c.of-look.ensures ∙ (λ i. look_of own (in_table i) (nat_le 2 (count i))) in
          let looks = look_of own (is_in_table standing) (nat_le 2 (length seen)) in
          let label_is : label ≡ label_units looks.item own =
          c.label_units-label.ensures ∙ ap (λ (l : Look). label_units l.item own) look_is in
          let cell_is : in_cell ≡ cell_at hypertext.cells old.grid standing (old.grid.heads && head_by standing rest) =
          c.cell_at-cell.ensures ∙ (λ i. cell_at hypertext.cells old.grid (c.of-standing.ensures i) (right i)) in
          let inner = outer ++ block_of old.grid (cell_at hypertext.cells old.grid standing (old.grid.heads && head_by
          standing rest)) looks old.lists in
          let path_is : c.push_block.new.path ≡ inner =
          block ∙ (λ i. outer ++ block_of old.grid (cell_is i) (look_is i) old.lists) in
          let anchored : PutsPlaces g.K.Sink a.out a.page mid.out mid.page (anchor_places inner (hypertext.anchors
          at_place (at_place + length seen))) =
          subst (λ (places : Places). PutsPlaces g.K.Sink a.out a.page mid.out mid.page places) (λ i. anchor_places
          (path_is i) (consecutive (old.invariant.next i) (lead bookmarks (long i) - old.invariant.next i)))
          anchors.ensures.puts in
          let written : WritesItems g.K.Sink mid b (links at_place) inner (label_units looks.item own) seen =
          subst (λ (units : List ℕ). WritesItems g.K.Sink mid b (links at_place) inner units seen) label_is
          (writes_in g.K.Sink mid b (links at_place) anchors.new.writer.path inner label seen (anchors.ensures.path ∙
          path_is) linked) in
          let step =
          text_on g.K.Sink c.args.out.now c.args.writer.now.page hypertext outer all (with_values (drop number values)
          (later at_place)) rest old.grid old.lists c.args.references.list a b mid.out mid.page standing own seen
          following refl (old.invariant.text formats are) anchored written in
          let lists_are : c.behind-lists.result ≡ lists_after old.lists looks.item number put.new.reading.begun =
          c.behind-lists.ensures ∙ ap (λ (l : Look). lists_after old.lists l.item number put.new.reading.begun) look_is
          in
          subst (λ (n : ℕ). TextAt g.K.Sink c.args.out.now c.args.writer.now.page put.new.out put.new.writer.page
          hypertext outer all (with_values (drop c.behind-grid.result.number values) (later n)) c.behind-grid.result
          c.behind-lists.result put.new.reading.count put.new.reading.course.place c.args.references.list
          put.new.reading.course.references.list) (sym place)
          (subst (λ (l : Lists). TextAt g.K.Sink c.args.out.now c.args.writer.now.page put.new.out put.new.writer.page
          hypertext outer all (with_values (drop c.behind-grid.result.number values) (later end)) c.behind-grid.result l
          put.new.reading.count put.new.reading.course.place c.args.references.list
          put.new.reading.course.references.list) (sym lists_are)
          (subst (λ (x : Grid). TextAt g.K.Sink c.args.out.now c.args.writer.now.page put.new.out put.new.writer.page
          hypertext outer all (with_values (drop x.number values) (later end)) x (lists_after old.lists looks.item number
          put.new.reading.begun) put.new.reading.count put.new.reading.course.place c.args.references.list
          put.new.reading.course.references.list) (sym grid_is)
          step));
    }

pub returns-clause-puts : goal.returns-clause-puts
returns-clause-puts g c = λ formats are.
    let parts = c.args.text.now.parts in
    let manner = c.args.text.now.manner in
    let items = items_in parts in
    let old = c.loop-reading in
    let done = c.loop-reading-test.false in
    let place = old.reading.course.place in
    let values = c.args.context.now.values.now in
    let none : with_values (drop old.grid.number values) (paragraphs_left formats manner items place) ≡ [] =
    ap (with_values (drop old.grid.number values)) (none_left formats manner items place (omega (
      arith,
      items_long parts
          c.requires.parts,
      done,
    ))) ∙ values_none (drop old.grid.number values) in
    text_written g.K.Sink c.args.out.now c.args.writer.now.page old.out old.writer.page (hypertext_of c.args.context.now.bookmarks.now c.args.context.now.note items c.args.context.now.cells.now)
    c.args.writer.now.path (with_values values (paragraphs_of formats manner items)) (with_values (drop old.grid.number
    values) (paragraphs_left formats manner items place)) old.grid old.lists old.reading.count
    place c.args.references.list old.reading.course.references.list none
    (old.invariant.text formats are)

pub returns-clause-references : goal.returns-clause-references
returns-clause-references g c = λ formats are.
    let parts = c.args.text.now.parts in
    let manner = c.args.text.now.manner in
    let items = items_in parts in
    let old = c.loop-reading in
    let done = c.loop-reading-test.false in
    let place = old.reading.course.place in
    let values = c.args.context.now.values.now in
    let none : with_values (drop old.grid.number values) (paragraphs_left formats manner items place) ≡ [] =
    ap (with_values (drop old.grid.number values)) (none_left formats manner items place (omega (
      arith,
      items_long parts
          c.requires.parts,
      done,
    ))) ∙ values_none (drop old.grid.number values) in
    all_met g.K.Sink c.args.out.now c.args.writer.now.page old.out old.writer.page (hypertext_of c.args.context.now.bookmarks.now c.args.context.now.note items c.args.context.now.cells.now)
    c.args.writer.now.path (with_values values (paragraphs_of formats manner items)) (with_values (drop old.grid.number
    values) (paragraphs_left formats manner items place)) old.grid old.lists old.reading.count
    place c.args.references.list old.reading.course.references.list none
    (old.invariant.text formats are)
