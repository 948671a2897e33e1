use Rattle.std.proofs.Common.{◌≢◌, ◌∙◌, false, take, slice_index, arith}
use Rattle.std.proofs.lemmas.List.{take_all}
use Rattle.std.proofs.lemmas.List.Elements.{All-more, All-weaker}
use Rattle.piece_table.specs.declared.pieces.Entry.{Entry}
use Rattle.piece_table.proofs.renumber.copy_all.Goals as goal

abbrev none : Entry
none = record { piece = record { at = 0; wide = false; len = 0 }; modifier = 0 }

pub loop-k-preserved : goal.loop-k-preserved
loop-k-preserved c =
    let entries = c.args.entries.now in
    let k = c.loop-k.k in
    let low = c.loop-k-test.true in
    let old = c.loop-k.copies.numbers.items in
    let new = c.add.new.self.numbers.items in
    let done = All-weaker (λ (entry : Entry). entry.modifier ≢ 0 → slice_index old entry.modifier ≢ 0)
    (λ (entry : Entry). entry.modifier ≢ 0 → slice_index new entry.modifier ≢ 0) (λ entry kept some.
    c.in_ok-add.ensures.others entry.modifier (kept some)) (take k entries) c.loop-k.invariant.done in
    record {
      len = c.in_ok-add.ensures.len ∙ c.loop-k.invariant.len;
      copied = c.in_ok-add.ensures.copied;
      done = All-more (λ (entry : Entry). entry.modifier ≢ 0 → slice_index new entry.modifier ≢ 0) entries k none
          (omega arith) done c.in_ok-add.ensures.here;
    }

pub returns-clause-all : goal.returns-clause-all
returns-clause-all c =
    let entries = c.args.entries.now in
    let ended = c.loop-k-test.false in
    let all = take_all c.loop-k.k entries (omega arith) in
    rw all at c.loop-k.invariant.done
