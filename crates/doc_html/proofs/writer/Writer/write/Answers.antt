use Rattle.std.proofs.Common.{◌≡◌, ◌∷◌, ◌++◌, [], List, Some, None, sym, subst}
use Rattle.form_page.specs.Forms.{PutsPlaces}
use Rattle.doc_places.specs.Places.{bare_place, inline_elements, item_places, link_elements, shown_place}
use Rattle.doc_places.proofs.Public.{hidden_item}
use Rattle.doc_html.proofs.WriteLemmas.{puts_same, shown_item}
use Rattle.form_page.proofs.Public.{places_none}
use Rattle.doc_html.proofs.writer.Writer.write.Goals as goal

pub returns-then-not-seen-clause-puts : goal.returns-then-not-seen-clause-puts
returns-then-not-seen-clause-puts g c =
    let old = c.args.self.now in
    puts_same g.K.Sink c.args.out.now c.args.out.now old.page old.page [] (item_places old.path c.args.link c.args.count
    c.args.seen.now)
    (sym (hidden_item old.path c.args.link c.args.count c.args.seen.now (cc))) (places_none g.K.Sink c.args.out.now old.page)

pub returns-in-None-clause-puts : goal.returns-in-None-clause-puts
returns-in-None-clause-puts g c =
    let old = c.args.self.now in
    let put = c.write_bare in
    puts_same g.K.Sink c.args.out.now put.new.out old.page put.new.self.page (bare_place (old.path ++ link_elements
    c.args.link) ∷
    []) (item_places old.path c.args.link c.args.count c.args.seen.now) (sym (shown_item old.path c.args.link c.args.count
    c.args.seen.now None (cc) c.in-None.is)) put.ensures.puts

pub returns-in-Some-clause-puts : goal.returns-in-Some-clause-puts
returns-in-Some-clause-puts g c =
    let old = c.args.self.now in
    let seen = c.args.seen.now in
    let put = c.write_glyph in
    puts_same g.K.Sink c.args.out.now put.new.out old.page put.new.self.page (shown_place (old.path ++ inline_elements
    c.args.link
    c.args.count
    seen.format seen.reference) c.in-Some.glyph ∷ []) (item_places old.path c.args.link c.args.count seen) (sym (shown_item old.path c.args.link
    c.args.count seen (Some c.in-Some.glyph) (cc) c.in-Some.is)) put.ensures.puts
