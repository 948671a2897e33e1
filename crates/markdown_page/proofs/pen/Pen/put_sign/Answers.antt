use Rattle.std.proofs.Common.{◌≡◌, ◌+◌, ◌<◌, ◌++◌, ◌∷◌, [], List, take, length, arith}
use Rattle.std.specs.Prelude.{slice_index}
use Rattle.markdown_text.specs.Tokens.{Character}
use Rattle.markdown_page.specs.Pieces.{characters}
use Rattle.markdown_page.proofs.TokenLemmas.{characters_next, tokens_as, tokens_none, tokens_then}
use Rattle.markdown_page.proofs.pen.Pen.put_sign.Goals as goal

pub loop-byte-init : goal.loop-byte-init
loop-byte-init g c = tokens_none g.K.Sink c.args.out.now c.args.self.now

pub loop-byte-preserved : goal.loop-byte-preserved
loop-byte-preserved g c =
    let text = c.args.text.now in
    let old = c.loop-byte in
    let i = old.byte-index in
    let put = c.put_character in
    let within : i < length text = omega arith in
    tokens_as g.K.Sink c.args.out.now put.new.out c.args.self.now put.new.self (characters (take i text) ++ (Character
    (slice_index text i) ∷ [])) (characters (take (i + 1) text)) (characters_next text i within)
    (tokens_then g.K.Sink c.args.out.now old.out put.new.out c.args.self.now old.self put.new.self
    (characters (take i text)) (Character (slice_index text i) ∷ []) old.invariant put.ensures)
