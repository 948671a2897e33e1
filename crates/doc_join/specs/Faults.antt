-- What a join comes to.
use Rattle.std.specs.Prelude.{◌≡◌, ◌<◌, ◌≤◌, ⊤}
use Rattle.doc_model.specs.declared.document.Document.{Document}
use Rattle.plain_doc.specs.Sound.{IsSound, NamesFirstRule, document_rules}
use Rattle.doc_join.specs.declared.fault.JoinFault.{JoinFault}
use Rattle.doc_join.specs.declared.fault.JoinFault.TheVariants.{Styles, Unsound, Memory}
use Rattle.doc_join.specs.Join.{document_join, slots_together, most_slots}

-- the one joined document, whose styles fit a sheet, and which is sound
pub record IsJoinedDocument (first second made : Document) : Type 0 where
  pub is : made ≡ document_join first second
  pub fits : slots_together first second ≤ most_slots
  pub sound : IsSound made

-- too many styles together; or they fit, and this is the first rule that the joined document breaks; want of memory is
-- free
abbrev pub IsJoinFault : Document → Document → JoinFault → Type 0
IsJoinFault first second (Styles slots) = (slots ≡ slots_together first second) × (most_slots < slots)
IsJoinFault first second (Unsound rule place at) =
    (slots_together first second ≤ most_slots)
    × NamesFirstRule (document_rules (document_join first second)) (record { rule = rule; place = place; at = at })
IsJoinFault first second Memory = ⊤

-- the fault is the first rule that the document breaks; want of memory is free
abbrev pub IsUnsoundJoin : Document → JoinFault → Type 0
IsUnsoundJoin document (Styles slots) = ⊥
IsUnsoundJoin document (Unsound rule place at) =
    NamesFirstRule (document_rules document) (record { rule = rule; place = place; at = at })
IsUnsoundJoin document Memory = ⊤
