use Rattle.std.proofs.Common.{◌≡◌, inl}
use Rattle.std.proofs.lemmas.Result.{IfOk-weaker}
use Rattle.fib_form.specs.declared.table_parts.TablePart.TheVariants.{PlcffndRef}
use Rattle.file_rules.specs.Source.{table_part_bytes}
use Rattle.file_rules.specs.NoteRules.{HasEntries, ref_count}
use Rattle.file_rules.proofs.CutLemmas.{note_cuts_judged}
use Rattle.file_rules.proofs.notes.judged_note_cuts.Goals as goal

pub returns : goal.returns
returns c =
    let source = c.args.source.now in
    let entries : HasEntries (table_part_bytes source PlcffndRef) = rw c.part.ensures.bytes at c.in-Some.ensures.0 in
    let count : c.in-Some.count ≡ ref_count (table_part_bytes source PlcffndRef) = rw c.part.ensures.bytes at
    c.in-Some.ensures.1 in
    let judged = rw (c.part-plc.ensures.bytes, c.place-at.ensures.place, c.story_len.ensures.count) at
    c.judged_cuts.ensures in
    IfOk-weaker c.judged_cuts.result _ _ (λ read h. (
      note_cuts_judged source c.in-Some.count read.fault entries count
          h.0,
      λ none. inl (entries, h.1 none),
    )) judged
