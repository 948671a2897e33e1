use Rattle.std.proofs.Common.{◌∙◌, ◌++◌, ap, List}
use Rattle.doc_mends.specs.declared.mends.Mend.{Mend}
use Rattle.huge_papx.proofs.defining.strike_and_define.Goals as goal

pub returns : goal.returns
returns c = record {
  struck = c.strike_text.new.document;
  strikes = c.in_ok-mends.mends.items;
  struck_is = c.in_ok-mends.ensures;
  definitions = c.in_ok-definitions.definitions.items;
  defined_is = c.in_ok-definitions.ensures;
  mends_are = c.in_ok-extend_from_slice.ensures.items
      ∙ ap (λ (l : List Mend). c.in_ok-mends.mends.items ++ l) c.deref.ensures.value;
}
