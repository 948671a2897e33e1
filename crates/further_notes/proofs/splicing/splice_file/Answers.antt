use Rattle.std.proofs.Common.{subst, ℕ, List, Option, arith, ◌<◌, ◌≤◌}
use Rattle.std.specs.Prelude.{MatchOption}
use Rattle.std.proofs.lemmas.Result.{IfOk-weaker}
use Rattle.doc_bits.specs.Number.{AreBytes}
use Rattle.doc_bits.specs.Places.{Upto}
use Rattle.doc_bits.proofs.Public.{hold_or_first}
use Rattle.file_rules.specs.declared.fault.ReadFault.{ReadFault}
use Rattle.file_rules.specs.Faults.{IsReadFault}
use Rattle.doc_lift.specs.LiftedFiles.{lifted_rules}
use Rattle.doc_lift.proofs.Public.{lifted_single}
use Rattle.further_notes.specs.declared.splicing.NotedDocument.{NotedDocument}
use Rattle.further_notes.specs.Splices.{CanSpliceNotes, IsSplice, IsSplicedBy, HasNoSpliceBy, note_state_of}
use Rattle.further_notes.proofs.SpliceLemmas.{splice_found}
use Rattle.further_notes.proofs.splicing.splice_file.Goals as goal

pub returns-in-Ok : goal.returns-in-Ok
returns-in-Ok c =
    let file = c.args.file.now in
    let form = c.args.form.now in
    let old = note_state_of c.args.noted.now in
    let lifted = c.in-Ok.lifted in
    let bytes : AreBytes file = λ i. omega (arith, c.type_inv.file i) in
    rw c.drop_then.ensures
    (IfOk-weaker c.splice-found.result
    (λ (found : Option NotedDocument). MatchOption found (¬ CanSpliceNotes old.document lifted.document)
    (λ new. IsSplice form old lifted.document (note_state_of new)))
    (λ (found : Option NotedDocument). MatchOption found (HasNoSpliceBy file form old)
    (λ new. IsSplicedBy file form old (note_state_of new)))
    (λ found is. splice_found file form old lifted found bytes c.in-Ok.ensures is) c.splice-found.ensures)

pub returns-in-Err-Refused : goal.returns-in-Err-Refused
returns-in-Err-Refused c =
    let file = c.args.file.now in
    let first = subst (λ (f : ReadFault). IsReadFault (lifted_rules file) f) c.in-Err-Refused.field-0-is
    c.in-Err-Refused.ensures in
    λ new by.
    hold_or_first Upto (lifted_rules file) c.in-Err-Refused.field-0-0
    (c.in-Err-Refused.field-0-1, c.in-Err-Refused.field-0-2) (lifted_single file) by.rules first
