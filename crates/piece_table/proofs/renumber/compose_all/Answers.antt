use Rattle.std.proofs.Common.{◌≢◌, ◌∙◌, false, take, slice_index, arith}
use Rattle.std.proofs.lemmas.List.{take_all}
use Rattle.std.proofs.lemmas.List.Elements.{All-more, All-weaker}
use Rattle.piece_table.specs.declared.pieces.Entry.{Entry}
use Rattle.piece_table.proofs.RenumberLemmas.{extends_on}
use Rattle.piece_table.proofs.renumber.compose_all.Goals as goal

abbrev none : Entry
none = record { piece = record { at = 0; wide = false; len = 0 }; modifier = 0 }

pub loop-k-preserved : goal.loop-k-preserved
loop-k-preserved c =
    let entries = c.args.entries.now in
    let k = c.loop-k.k in
    let low = c.loop-k-test.true in
    let old = c.loop-k.numbers.items in
    let new = c.compose_one.new.numbers.items in
    let done = All-weaker (λ (entry : Entry). slice_index old entry.modifier ≢ 0) (λ (entry : Entry). slice_index new
    entry.modifier ≢ 0) (λ entry kept. c.in_ok-compose_one.ensures.others entry.modifier kept) (take k entries)
    c.loop-k.invariant.done in
    record {
      extends = extends_on c.args.modifiers.now.items c.loop-k.modifiers.items c.compose_one.new.modifiers.items
          c.loop-k.invariant.extends c.in_ok-compose_one.ensures.extends;
      len = c.in_ok-compose_one.ensures.len ∙ c.loop-k.invariant.len;
      composed = c.in_ok-compose_one.ensures.composed;
      done = All-more (λ (entry : Entry). slice_index new entry.modifier ≢ 0) entries k none (omega arith) done
          c.in_ok-compose_one.ensures.here;
    }

pub returns-clause-all : goal.returns-clause-all
returns-clause-all c =
    let entries = c.args.entries.now in
    let ended = c.loop-k-test.false in
    let all = take_all c.loop-k.k entries (omega arith) in
    rw all at c.loop-k.invariant.done
