use Rattle.std.proofs.Common.{◌∙◌, None, false, take, ap, sym, arith, add-one}
use Rattle.std.proofs.lemmas.List.{take_all}
use Rattle.piece_table.specs.declared.pieces.Entry.{Entry}
use Rattle.piece_table.specs.Renewals.{moved_entries}
use Rattle.piece_table.proofs.RenewalLemmas.{moved_more}
use Rattle.piece_table.proofs.renewal.moved.Goals as goal

pub loop-k-preserved : goal.loop-k-preserved
loop-k-preserved c =
    let places = c.args.places.now in
    let entries = c.args.entries.now in
    let k = c.loop-k.k in
    let below = c.loop-k-test.true in
    let none : Entry = record { piece = record { at = 0; wide = false; len = 0 }; modifier = 0 } in
    let more = moved_more places entries k None none (omega (arith, below, c.requires)) below in
    let grown = ap (λ n. moved_entries (take n places) (take n entries)) (add-one k) ∙ more in
    c.in_ok-push.ensures.items ∙ (rw (c.moved.ensures, c.loop-k.invariant) (sym grown))

pub returns : goal.returns
returns c =
    let places = c.args.places.now in
    let entries = c.args.entries.now in
    let ended = c.loop-k-test.false in
    let all_entries = take_all c.loop-k.k entries (omega arith) in
    let all_places = take_all c.loop-k.k places (omega (arith, c.requires)) in
    rw (all_entries, all_places) at c.loop-k.invariant
