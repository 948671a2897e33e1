-- What a checked copy says of the edit.
use Rattle.std.proofs.Common.{◌≡◌, ◌∙◌, ap, subst, Result, Ok, Err, IsOk, MatchResult}
use Rattle.doc_model.specs.declared.document.Document.{Document}
use Rattle.plain_doc.specs.Sound.{IsSound, document_rules}
use Rattle.doc_bits.specs.Places.{IsFirstPlace}
use Rattle.edit_script.specs.declared.commands.Command.{Command}
use Rattle.edit_ops.specs.declared.faults.EditFault.{EditFault}
use Rattle.edit_ops.specs.declared.faults.EditFault.TheVariants.{Range, Code, Rule, Limit, Memory}
use Rattle.edit_ops.specs.declared.applying.Edit.{Edit}
use Rattle.edit_ops.specs.Edits.{changes_of, document_after}
use Rattle.edit_ops.specs.EditFacts.{edit_facts}
use Rattle.edit_ops.specs.Causes.{CanBeTried, IsNamedRule, IsEditFault, IsAcceptedEdit}

pub edit_fault : (document : Document) (command : Command) (made : Document) (fault : EditFault) → CanBeTried document
    command → made ≡ document_after document command → IsNamedRule made fault → IsEditFault document command fault
edit_fault d c made Range tried is judged = absurd judged
edit_fault d c made Code tried is judged = absurd judged
edit_fault d c made Memory tried is judged = tt
edit_fault d c made (Rule rule place at) tried is judged = (
  record {
    tried = tried;
    first = subst (λ x. IsFirstPlace
        (document_rules x) rule (place, at)) is judged.0;
  },
  judged.1,
)
edit_fault d c made (Limit rule place at) tried is judged = (
  record {
    tried = tried;
    first = subst (λ x. IsFirstPlace
        (document_rules x) rule (place, at)) is judged.0;
  },
  judged.1,
)

pub accepted : (document : Document) (command : Command) (made : Document) → CanBeTried document command →
    made ≡ document_after document command → IsSound made → IsAcceptedEdit document command
accepted d c made tried is sound = record { tried = tried; sound = subst IsSound is sound }

-- an edit that is checked
pub outcome : (document : Document) (command : Command) (edit : Edit) (verdict : Result Unit EditFault)
    (result : Result Edit EditFault) → CanBeTried document command → edit.changes ≡ changes_of document command →
    edit.document ≡ document_after document command → edit.facts ≡ edit_facts document command →
    MatchResult verdict (λ _. IsSound edit.document) (IsNamedRule edit.document) →
    MatchResult result (λ given. (given ≡ edit) × IsOk verdict) (λ fault. verdict ≡ Err fault) →
    MatchResult result
    (λ made. IsAcceptedEdit document command
    × ((made.changes ≡ changes_of document command)
    × ((made.document ≡ document_after document command)
    × (made.facts ≡ edit_facts document command))))
    (IsEditFault document command)
outcome d c edit (Ok nothing) (Ok given) tried changes document facts judged right = (
  accepted d c edit.document tried document judged,
  (
    ap (λ (e : Edit). e.changes) right.0 ∙ changes,
    (ap (λ (e : Edit). e.document) right.0 ∙ document, ap (λ (e : Edit). e.facts) right.0 ∙ facts),
  ),
)
outcome d c edit (Err fault) (Ok given) tried changes document facts judged right =
    absurd (let none = right.1 in cc (none))
outcome d c edit verdict (Err fault) tried changes document facts judged right =
    edit_fault d c edit.document fault tried document
    (subst (λ (v : Result Unit EditFault). MatchResult v (λ _. IsSound edit.document) (IsNamedRule edit.document)) right
    judged)
