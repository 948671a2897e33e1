use Rattle.std.proofs.Common.{◌≡◌, ◌∙◌, ◌++◌, ◌∷◌, [], List, ℕ, ap, sym, append_assoc}
use Rattle.std.proofs.lemmas.List.Concat.{flat_map-append}
use Rattle.page_out.proofs.Public.{put_then}
use Rattle.html_text.specs.Tokens.{Character, escaped, escaped_text, printed}
use Rattle.html_page.proofs.PutLemmas.{put_as}
use Rattle.html_page.proofs.attributes.push_value.Goals as goal

pub loop-character-preserved : goal.loop-character-preserved
loop-character-preserved g c =
    let old = c.loop-character in
    let code = c.in-Some.character in
    let front = old.invariant.front in
    let put = c.push_character in
    record {
      front = front ++ code ∷ [];
      all =
          old.invariant.all ∙ ap (λ (left : List ℕ). front ++ left) c.in-Some.ensures ∙ sym (append_assoc front (code ∷
          []) c.next_char.new.self);
      prints =
          put_as g.K.Sink c.args.out.now put.new.out c.args.page.now put.new.page (escaped_text front ++ printed
          (Character code ∷ [])) (escaped_text (front ++ code ∷ [])) (sym (flat_map-append escaped front (code ∷ [])))
          (put_then g.K.Sink c.args.out.now old.out put.new.out c.args.page.now old.page put.new.page (escaped_text front)
          (printed (Character code ∷ [])) old.invariant.prints put.ensures);
    }
