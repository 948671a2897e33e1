-- References that are kept, and room for more.
use Rattle.std.specs.Prelude.{ℕ, List}
use Rattle.doc_view.specs.declared.references.Reference.{Reference}

pub record KeptReferences : Type 0 where
  pub list : List Reference
  pub room : ℕ
