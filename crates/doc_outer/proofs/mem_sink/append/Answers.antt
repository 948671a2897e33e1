use Rattle.std.proofs.Common.{◌≡◌, ◌++◌, ◌∷◌, ◌<◌, ◌∙◌, [], take, length, slice_index, vec_len, vec_capacity, ap, sym}
use Rattle.std.proofs.Common.{append_assoc, length-append, arith, rules}
use Rattle.std.specs.List.{insert}
use Rattle.std.proofs.lemmas.List.{take_more}
use Rattle.std.proofs.lemmas.List.Edits.{insert_end}
use Rattle.doc_outer.proofs.mem_sink.append.Goals as goal

pub loop-byte-preserved : goal.loop-byte-preserved
loop-byte-preserved c =
    let to = c.args.to.now.items in
    let bytes = c.args.bytes.now in
    let old = c.loop-byte.to.items in
    let new = c.insert.new.self.items in
    let i = c.loop-byte.byte-index in
    let byte = slice_index bytes i in
    let low = c.loop-byte-test.true in
    let so_far = c.loop-byte.invariant in
    let room : vec_len c.loop-byte.to < vec_capacity c.loop-byte.to =
    omega (arith, c.requires.room, so_far.len, so_far.kept, low) in
    let end : c.len-end.result ≡ length old = omega (arith, c.len-end.ensures) in
    let put : new ≡ insert old c.len-end.result byte = search rules in
    let last : new ≡ old ++ byte ∷ [] = put ∙ (ap (λ n. insert old n byte) end ∙ insert_end old byte) in
    record {
      items = last ∙ (ap (λ xs. xs ++ byte ∷ []) so_far.items ∙ (append_assoc to (take i bytes) (byte ∷ []) ∙ ap
          (λ xs. to ++ xs) (sym (take_more bytes i 0 low))));
      len = omega (arith, so_far.len, ap length last, length-append old (byte ∷ []));
      kept = (c.insert.ensures.in_place room).1.0 ∙ so_far.kept;
    }
