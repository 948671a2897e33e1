-- First the properties of the range, then what is beside.
use Rattle.std.proofs.Common.{arith}
use Rattle.doc_columns.specs.Changes.{HasOtherChp}
use Rattle.doc_patch.specs.Becomes.{BecomesCharacters}
use Rattle.doc_patch.proofs.RangeLemmas.{length-changed}
use Rattle.doc_patch.proofs.ModifyLemmas.{characters_kept, marks_kept, modified_text}
use Rattle.doc_patch.proofs.modify.modify_text.Goals as goal

pub change_chps-requires-clause-kept : goal.change_chps-requires-clause-kept
change_chps-requires-clause-kept c = characters_kept c.args.modifier.now c.requires.modifier

pub change_attachments-requires-clause-within : goal.change_attachments-requires-clause-within
change_attachments-requires-clause-within c =
    let ordered = c.requires.range.0 in
    let within = c.requires.range.1 in
    omega (
      arith,
      length-changed (HasOtherChp (BecomesCharacters c.args.modifier.now)) c.args.from c.args.to c.args.text
          c.in_ok-chps.chps c.in_ok-chps.ensures (omega (arith, ordered)) within,
      within,
    )

pub change_attachments-requires-clause-kept : goal.change_attachments-requires-clause-kept
change_attachments-requires-clause-kept c = marks_kept c.args.modifier.now c.requires.modifier

pub returns : goal.returns
returns c =
    let ordered = c.requires.range.0 in
    modified_text c.args.modifier.now c.args.from c.args.to c.args.text c.in_ok-chps.chps c.in_ok-made.made
    (omega (arith, ordered)) c.requires.range.1 c.in_ok-chps.ensures c.in_ok-made.ensures
