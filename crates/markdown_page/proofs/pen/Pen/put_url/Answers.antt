use Rattle.std.proofs.Common.{◌≡◌, ◌∙◌, ◌++◌, ◌∷◌, [], List, ℕ, ap, sym, subst, append_assoc, append-nil}
use Rattle.std.proofs.lemmas.List.Concat.{flat_map-append}
use Rattle.page_out.specs.Printed.{Prints}
use Rattle.page_out.proofs.Public.{put_then}
use Rattle.markdown_text.specs.Tokens.{destination_code, destination_text}
use Rattle.markdown_page.proofs.pen.Pen.put_url.Goals as goal

pub loop-character-preserved : goal.loop-character-preserved
loop-character-preserved g c =
    let old = c.loop-character in
    let code = c.in-Some.character in
    let front = old.invariant.front in
    let put = c.put_url_character in
    record {
      front = front ++ code ∷ [];
      all =
          old.invariant.all ∙ ap (λ (left : List ℕ). front ++ left) c.in-Some.ensures ∙ sym (append_assoc front (code ∷
          []) c.next_char.new.self);
      prints =
          subst (λ (text : List ℕ). Prints g.K.Sink c.args.out.now c.args.self.now.page put.new.out put.new.self.page text)
          (sym (flat_map-append destination_code front (code ∷ [])))
          (put_then g.K.Sink c.args.out.now old.out put.new.out c.args.self.now.page old.self.page put.new.self.page
          (destination_text front) (destination_code code ++ []) old.invariant.prints
          (subst (λ (text : List ℕ). Prints g.K.Sink old.out old.self.page put.new.out put.new.self.page text)
          (sym (append-nil (destination_code code))) put.ensures.prints));
      line = put.ensures.line ∙ old.invariant.line;
    }
