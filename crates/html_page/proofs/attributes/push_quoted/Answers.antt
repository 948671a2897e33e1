use Rattle.std.proofs.Common.{◌++◌, ◌∷◌, [], List, ℕ, append_assoc}
use Rattle.std.specs.Fmt.{decimal}
use Rattle.page_out.proofs.Public.{put_then}
use Rattle.html_page.proofs.PutLemmas.{put_as}
use Rattle.html_page.proofs.attributes.push_quoted.Goals as goal

pub returns : goal.returns
returns g c =
    let front = c.args.front.now in
    let digits = decimal c.args.number in
    put_as g.K.Sink c.args.out.now c.push_ascii.new.out c.args.page.now c.push_ascii.new.self ((front ++ digits) ++ (34
    ∷ [])) (front ++ (digits ++ 34 ∷ [])) (append_assoc front digits (34 ∷ []))
    (put_then g.K.Sink c.args.out.now c.push_numbered.new.out c.push_ascii.new.out c.args.page.now
    c.push_numbered.new.page c.push_ascii.new.self (front ++ digits) (34 ∷ []) c.push_numbered.ensures
    c.push_ascii.ensures)
