-- The anchors, one by one.
use Rattle.std.proofs.Common.{◌≡◌, ◌∙◌, ◌+◌, ◌-◌, ◌<◌, ◌≤◌, ◌∷◌, ◌++◌, [], ℕ, List, refl, sym, ap, subst, arith, length, map}
use Rattle.std.proofs.lemmas.Bool.{ltb-true, ltb-false}
use Rattle.std.proofs.lemmas.List.{map-append}
use Rattle.view_places.specs.declared.element.Element.{Element}
use Rattle.view_places.specs.declared.element.Element.TheVariants.{Anchor}
use Rattle.form_page.specs.Forms.{Places}
use Rattle.form_page.specs.Forms.{PutsPlaces}
use Rattle.form_page.proofs.Public.{places_none, places_then}
use Rattle.doc_places.specs.Places.{anchor_places, bare_place, lead, consecutive}
use Rattle.doc_places.proofs.Public.{anchors_more}
use Rattle.doc_html.proofs.anchors.write_anchors.Goals as goal

pub loop-writer-init : goal.loop-writer-init
loop-writer-init g c =
    let none : 0 ≡ c.args.next - c.args.next = omega arith in
    record {
      low = omega arith;
      high = c.requires.next;
      path = refl;
      puts =
          subst (λ (n : ℕ). PutsPlaces g.K.Sink c.args.out.now c.args.writer.now.page c.args.out.now
          c.args.writer.now.page (anchor_places c.args.writer.now.path (consecutive c.args.next n))) none (places_none
          g.K.Sink c.args.out.now c.args.writer.now.page);
    }

pub overflow_add-number : goal.overflow_add-number
overflow_add-number g c =
    let more = c.begins_before.ensures.more c.loop-writer-test.true in omega (arith, more)

pub write_anchor-requires : goal.write_anchor-requires
write_anchor-requires g c =
    subst (λ (path : List Element). length path < 24) (sym c.loop-writer.invariant.path) c.requires.room

pub loop-writer-preserved : goal.loop-writer-preserved
loop-writer-preserved g c =
    let old = c.loop-writer in
    let put = c.write_anchor in
    let path = c.args.writer.now.path in
    let next = c.args.next in
    let low = old.invariant.low in
    let less = ltb-true old.number (lead c.args.bookmarks.now c.args.end) (sym c.begins_before.ensures.is ∙
    c.loop-writer-test.true) in
    let more : next + (old.number - next) ≡ old.number = omega (arith, low) in
    let count : (old.number - next) + 1 ≡ (old.number + 1) - next = omega (arith, low) in
    let one : Places = bare_place (path ++ Anchor old.number ∷ []) ∷ [] in
    let here : PutsPlaces g.K.Sink old.out old.writer.page put.new.out put.new.writer.page one =
    subst (λ (p : List Element). PutsPlaces g.K.Sink old.out old.writer.page put.new.out put.new.writer.page (bare_place
    (p ++
    Anchor old.number ∷ []) ∷ [])) old.invariant.path put.ensures.puts in
    record {
      low = omega (arith, low);
      high = omega (arith, less);
      path = put.ensures.path ∙ old.invariant.path;
      puts =
          subst (λ (places : Places). PutsPlaces g.K.Sink c.args.out.now c.args.writer.now.page put.new.out
          put.new.writer.page places) (ap (λ (n : ℕ). anchor_places path (consecutive next (old.number - next)) ++
          (bare_place
          (path ++ Anchor n ∷ []) ∷ [])) (sym more) ∙ sym (anchors_more path next (old.number - next)) ∙ ap (λ (n : ℕ).
          anchor_places path (consecutive next n)) count) (places_then g.K.Sink c.args.out.now old.out put.new.out
          c.args.writer.now.page old.writer.page put.new.writer.page (anchor_places path (consecutive next (old.number -
          next))) one old.invariant.puts here);
    }

pub returns-clause-next : goal.returns-clause-next
returns-clause-next g c =
    let high = c.loop-writer.invariant.high in
    let more = ltb-false c.loop-writer.number (lead c.args.bookmarks.now c.args.end) (sym c.begins_before.ensures.is ∙
    c.loop-writer-test.false) in
    omega (arith, high, more)

pub returns-clause-puts : goal.returns-clause-puts
returns-clause-puts g c =
    let high = c.loop-writer.invariant.high in
    let more = ltb-false c.loop-writer.number (lead c.args.bookmarks.now c.args.end) (sym c.begins_before.ensures.is ∙
    c.loop-writer-test.false) in
    let last : c.loop-writer.number ≡ lead c.args.bookmarks.now c.args.end = omega (arith, high, more) in
    subst (λ (n : ℕ). PutsPlaces g.K.Sink c.args.out.now c.args.writer.now.page c.loop-writer.out
    c.loop-writer.writer.page (anchor_places c.args.writer.now.path (consecutive c.args.next (n - c.args.next)))) last
    c.loop-writer.invariant.puts
