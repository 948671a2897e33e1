use Rattle.std.proofs.Common.{◌++◌, ◌∷◌, [], List, ℕ, sym, ap, append_assoc, refl}
use Rattle.std.specs.Prelude.{codes}
use Rattle.page_out.proofs.Public.{three_put}
use Rattle.html_text.specs.Tokens.{printed}
use Rattle.html_page.specs.Languages.{language_attributes}
use Rattle.html_page.specs.Pages.{front_tokens, meta_tokens}
use Rattle.html_page.specs.Tags.{attributes_text}
use Rattle.html_page.proofs.PutLemmas.{ascii_all, put_as}
use Rattle.html_page.proofs.tokens.push_front.Goals as goal

pub push_ascii-requires : goal.push_ascii-requires
push_ascii-requires g c = ascii_all (codes "<!DOCTYPE html>\n<html") refl

pub returns : goal.returns
returns g c =
    let said = attributes_text (language_attributes c.args.language) in
    let rest = 62 ∷ 10 ∷ printed meta_tokens in
    put_as g.K.Sink c.args.out.now c.push_metas.new.out c.args.page.now c.push_metas.new.page (codes
    "<!DOCTYPE html>\n<html" ++ (said ++ rest)) (printed (front_tokens c.args.language)) (ap (λ (text : List ℕ). codes
    "<!DOCTYPE html>\n<html" ++ text) (sym (append_assoc said (62 ∷ []) (10 ∷ printed meta_tokens))))
    (three_put g.K.Sink c.args.out.now c.push_ascii.new.out c.push_language.new.out c.push_metas.new.out
    c.args.page.now c.push_ascii.new.self c.push_language.new.page c.push_metas.new.page (codes
    "<!DOCTYPE html>\n<html") said rest c.push_ascii.ensures c.push_language.ensures c.push_metas.ensures)
