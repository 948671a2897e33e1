-- The code by which proofs tell sessions apart.
use Rattle.std.specs.Prelude.{ℕ, List, refl}
use Rattle.std.specs.Coded.{Coded, code_by, coded×, coded_ℕ, coded_list}
use Rattle.doc_model.specs.declared.document.Document.{Document}
use Rattle.doc_model.specs.contracts.document.Document as document_row
use Rattle.fast_save.specs.declared.ledgers.Counts.{Counts}
use Rattle.fast_save.specs.contracts.ledgers.Counts as counts_row
use Rattle.fast_save.specs.Session.{SessionView}

abbrev pub session_code : Coded SessionView
session_code =
    code_by (List ℕ × (Document × (Counts × ℕ)))
    (coded× (coded_list coded_ℕ) (coded× document_row.the_row.coded (coded× counts_row.the_row.coded coded_ℕ)))
    (λ s. (s.bytes, (s.document, (s.counts, s.quick_saves))))
    (λ p. record { bytes = p.0; document = p.1.0; counts = p.1.1.0; quick_saves = p.1.1.1 })
    (λ _. refl)
