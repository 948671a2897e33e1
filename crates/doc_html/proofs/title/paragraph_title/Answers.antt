-- The items of the paragraph, one by one.
use Rattle.std.proofs.Common.{◌≡◌, ◌∙◌, ◌+◌, ◌∷◌, ◌++◌, [], ◌≤◌, ℕ, List, refl, sym, ap, subst, arith, length, take, length-take}
use Rattle.doc_columns.specs.Walks.{items_in, IsColumnWalk}
use Rattle.doc_view.specs.declared.reading.Seen.{Seen}
use Rattle.doc_view.proofs.Public.{seen_none, seen_range, seen_then}
use Rattle.doc_html.specs.Head.{longest_title, title_units}
use Rattle.doc_html.proofs.TitleLemmas.{item_units, title_on}
use Rattle.doc_html.proofs.title.paragraph_title.Goals as goal

pub loop-course-init : goal.loop-course-init
loop-course-init c =
    let none = c.new-title.ensures in
    record {
      low = omega arith;
      within = c.requires.ahead;
      walk = c.requires.walk;
      course = c.requires.course;
      few = subst (λ (title : List ℕ). length title ≤ longest_title) (sym none) (omega arith);
      title = λ formats are.
          none ∙ sym (ap title_units (seen_none formats c.args.text.now.manner c.args.bounds.istd (items_in
          c.args.text.now.parts) c.args.course.now.place));
    }

pub loop-course-preserved : goal.loop-course-preserved
loop-course-preserved c =
    let old = c.loop-course in
    let next = c.next_seen-seen in
    let items = items_in c.args.text.now.parts in
    let manner = c.args.text.now.manner in
    let istd = c.args.bounds.istd in
    let first = c.args.course.now.place in
    let at = old.course.place in
    let low = old.invariant.low in
    let place = next.ensures.place in
    let more = c.loop-course-test.true in
    let put = c.in_ok-push_seen.ensures in
    record {
      low = omega (arith, low, place);
      within = omega (arith, place, more);
      walk = subst (λ (n : ℕ). IsColumnWalk c.args.text.now.parts next.new.course.walk n) (sym place) next.ensures.walk;
      course = next.ensures.course;
      few =
          subst (λ (title : List ℕ). length title ≤ longest_title) (sym put)
          (let long = length-take longest_title (old.title ++ item_units next.result) in omega (arith, long));
      title = λ formats are.
          put ∙ title_on old.title (seen_range formats manner istd items first at) next.result (old.invariant.title
          formats are)
          ∙ ap title_units (ap (λ (one : List Seen). seen_range formats manner istd items first at ++ one)
          (next.ensures.seen formats are)
          ∙ sym (seen_then formats manner istd items first at (at + 1) low (omega arith)))
          ∙ ap (λ (n : ℕ). title_units (seen_range formats manner istd items first n)) (sym place);
    }

pub returns-clause-title : goal.returns-clause-title
returns-clause-title c = λ formats are.
    let within = c.loop-course.invariant.within in
    let done = c.loop-course-test.false in
    let all : c.loop-course.course.place ≡ c.args.bounds.end = omega (arith, within, done) in
    c.loop-course.invariant.title formats are
    ∙ ap (λ (n : ℕ). title_units (seen_range formats c.args.text.now.manner c.args.bounds.istd (items_in
    c.args.text.now.parts) c.args.course.now.place n)) all
