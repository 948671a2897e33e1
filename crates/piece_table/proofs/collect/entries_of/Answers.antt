-- Each turn adds the piece of the next Pcd, with the number of its modifier.
use Rattle.std.proofs.Common.{◌+◌, ◌∙◌, slice_index_or, sym, ap, subst, arith}
use Rattle.std.proofs.lemmas.Option.{slice_get_within}
use Rattle.prop_map.specs.Modifiers.{no_modifier}
use Rattle.piece_table.specs.declared.pieces.Entry.{Entry}
use Rattle.piece_table.specs.Clx.{ClxParts, prm_of}
use Rattle.piece_table.specs.Numbering.{AreEntriesOf, IsEntryOf}
use Rattle.piece_table.specs.PrmLists.{IsPrmModifier}
use Rattle.piece_table.proofs.NumberingLemmas.{entries_extend, entries_more}
use Rattle.piece_table.proofs.collect.entries_of.Goals as goal

pub number_of-requires-clause-readable : goal.number_of-requires-clause-readable
number_of-requires-clause-readable c = λ number grpprl names there.
    let below = c.loop-k-test.true in
    let low = slice_get_within c.args.parts.now.prcs number grpprl there in
    c.requires.accepted number grpprl low (record {
      piece = c.loop-k.k;
      below = omega (arith, c.len-k-end.ensures);
      names = ap prm_of (sym c.prm_word.ensures) ∙ names;
    }) there

pub loop-k-preserved : goal.loop-k-preserved
loop-k-preserved c =
    let parts : ClxParts = record { prcs = c.args.parts.now.prcs; plc = c.args.parts.now.plc } in
    let k = c.loop-k.k in
    let new = c.number_of.new.self.modifiers.items in
    let entry : Entry = record { piece = c.piece_of-piece.result; modifier = c.in_ok-modifier.modifier } in
    let is : IsEntryOf parts new k entry = record {
      piece = c.piece_of-piece.ensures;
      within = c.in_ok-modifier.ensures.within;
      does = subst (λ word. IsPrmModifier parts.prcs (prm_of word) (slice_index_or new c.in_ok-modifier.modifier
          no_modifier)) c.prm_word.ensures c.in_ok-modifier.ensures.does;
    } in
    let before = entries_extend parts c.loop-k.table.modifiers.items new k c.loop-k.entries.items
    c.in_ok-modifier.ensures.extends c.loop-k.invariant.0 in (
      subst (AreEntriesOf parts new (k + 1)) (sym c.in_ok-push.ensures.items) (entries_more parts new k
          c.loop-k.entries.items entry before is),
      c.in_ok-modifier.ensures.met,
    )
