use Rattle.std.proofs.Common.{◌≡◌, ◌∙◌, ap, sym, subst, List, map, take, length, All, arith}
use Rattle.doc_bits.specs.Number.{AreBytes}
use Rattle.doc_model.specs.declared.document.Document.{Document}
use Rattle.doc_patch.specs.declared.changes.Change.{Change}
use Rattle.doc_patch.specs.Changes.{all_changed}
use Rattle.doc_patch.specs.Makes.{CanMakeAll}
use Rattle.huge_papx.specs.declared.rows.DefinedRow.{DefinedRow}
use Rattle.huge_papx.specs.Defined.{definition_change, definition_mend, most_defined, IsDefined}
use Rattle.huge_papx.proofs.DefinedLemmas.{can_define}
use Rattle.huge_papx.proofs.TextLemmas.{first_there, no_rows}
use Rattle.huge_papx.proofs.defining.define_rows.Goals as goal

pub returns-then-len-eq0 : goal.returns-then-len-eq0
returns-then-len-eq0 c =
    let document = c.args.document.now in
    let rows : List DefinedRow = c.in_ok-rows.rows.items in
    let none : length rows ≡ 0 = omega (arith, c.len.ensures, c.if-len-eq0.true) in
    subst (IsDefined c.args.begins c.args.offsets.now document document) (sym c.new.ensures.items)
    (no_rows c.args.begins c.args.offsets.now document rows c.in_ok-rows.ensures none)

pub make_all-requires : goal.make_all-requires
make_all-requires c =
    let document : Document = c.args.document.now in
    let rows : List DefinedRow = c.in_ok-rows.rows.items in
    let first : c.first_rows-first.result.now ≡ take most_defined rows =
    c.first_rows-first.ensures ∙ ap (take most_defined) c.deref.ensures.value in
    let bytes : All (λ (row : DefinedRow). AreBytes row.cells) (take most_defined rows) =
    subst (All (λ (row : DefinedRow). AreBytes row.cells)) first c.in_ok-changes.ensures.bytes in
    let can = can_define (take most_defined rows) document
    (first_there c.args.begins c.args.offsets.now document rows c.in_ok-rows.ensures) bytes in
    subst (λ (l : List Change). CanMakeAll l c.in_ok-copy.copy)
    (sym (c.in_ok-changes.ensures.is ∙ ap (map definition_change) first))
    (subst (CanMakeAll (map definition_change (take most_defined rows))) (sym c.in_ok-copy.ensures) can)

pub returns : goal.returns
returns c =
    let document : Document = c.args.document.now in
    let rows : List DefinedRow = c.in_ok-rows.rows.items in
    let first : c.first_rows-first.result.now ≡ take most_defined rows =
    c.first_rows-first.ensures ∙ ap (take most_defined) c.deref.ensures.value in
    record {
      rows = rows;
      are = c.in_ok-rows.ensures;
      document_is = c.in_ok-made.ensures
          ∙ (ap (λ (d : Document). all_changed c.in_ok-changes.changes d) c.in_ok-copy.ensures
          ∙ ap (λ (l : List Change). all_changed l document)
          (c.in_ok-changes.ensures.is ∙ ap (map definition_change) first));
      mends_are = c.in_ok-mends.ensures ∙ ap (map definition_mend) first;
    }
