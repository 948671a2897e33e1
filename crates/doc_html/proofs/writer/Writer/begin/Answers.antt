use Rattle.std.proofs.Common.{◌≡◌, ◌∙◌, [], List, Bool, true, false, not, ◌&&◌, sym, ap}
use Rattle.std.specs.Prelude.{if◌then◌else◌}
use Rattle.form_page.specs.Forms.{Places}
use Rattle.form_page.proofs.Public.{places_none}
use Rattle.doc_places.specs.Places.{label_places}
use Rattle.doc_html.proofs.WriteLemmas.{past_label, puts_same}
use Rattle.doc_html.proofs.writer.Writer.begin.Goals as goal

pub returns-then-not-is_shown-clause-puts : goal.returns-then-not-is_shown-clause-puts
returns-then-not-is_shown-clause-puts g c =
    let old = c.args.self.now in
    let label = label_places old.path c.args.label.now in
    let none : Places = [] in
    let hidden : c.args.is_shown ≡ false = (cc) in
    puts_same g.K.Sink c.args.out.now c.args.out.now old.page old.page none (if c.args.is_shown && not c.args.begun then
    label else none) (sym (ap (λ (b : Bool). if b && not c.args.begun then label else none) hidden))
    (places_none g.K.Sink c.args.out.now old.page)

pub returns-then-begun-clause-puts : goal.returns-then-begun-clause-puts
returns-then-begun-clause-puts g c =
    let old = c.args.self.now in
    let label = label_places old.path c.args.label.now in
    let none : Places = [] in
    let begun : c.args.begun ≡ true = (cc) in
    puts_same g.K.Sink c.args.out.now c.args.out.now old.page old.page none (if c.args.is_shown && not c.args.begun then
    label else none) (sym (ap (λ (b : Bool). if c.args.is_shown && not b then label else none) begun
    ∙ past_label c.args.is_shown label)) (places_none g.K.Sink c.args.out.now old.page)

pub returns-clause-puts : goal.returns-clause-puts
returns-clause-puts g c =
    let old = c.args.self.now in
    let put = c.write_some in
    let label = label_places old.path c.args.label.now in
    let none : Places = [] in
    let shown : c.args.is_shown ≡ true = (cc) in
    let fresh : c.args.begun ≡ false = (cc) in
    puts_same g.K.Sink c.args.out.now put.new.out old.page put.new.self.page label (if c.args.is_shown && not c.args.begun
    then label else none) (sym (λ i. if shown i && not (fresh i) then label else none)) put.ensures.puts
