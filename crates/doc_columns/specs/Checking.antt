-- Why a document by columns is refused.
use Rattle.std.specs.Prelude.{⊤}
use Rattle.doc_model.specs.declared.document.Document.{Document}
use Rattle.plain_doc.specs.Sound.{NamesFirstRule, document_rules}
use Rattle.doc_columns.specs.declared.checking.CheckFault.{CheckFault}
use Rattle.doc_columns.specs.declared.checking.CheckFault.TheVariants.{Rule, Memory}

-- the fault is the first rule that the document breaks, at its least place; want of memory is free
abbrev pub IsCheckFault : Document → CheckFault → Type 0
IsCheckFault document (Rule fault) = NamesFirstRule (document_rules document) fault
IsCheckFault document Memory = ⊤
