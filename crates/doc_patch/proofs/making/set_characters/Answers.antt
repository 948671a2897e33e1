-- The sheet alone is another.
use Rattle.std.proofs.Common.{◌≡◌, ap, subst}
use Rattle.style_sheet.specs.Sheet.{Sheet}
use Rattle.doc_model.specs.declared.document.Document.{Document}
use Rattle.doc_patch.specs.Changes.{with_kind_at, characters_set}
use Rattle.doc_patch.proofs.MakeLemmas.{characters_are_set}
use Rattle.doc_patch.proofs.making.set_characters.Goals as goal

pub returns : goal.returns
returns c =
    let own = c.document.inside in
    let made : Document =
    record {
      main = own.main;
      notes = own.notes;
      heads = own.heads;
      sheet = c.set_char.new.self;
      carried = own.carried;
      bookmarks = own.bookmarks;
    } in
    let set = characters_set c.args.set.now in
    subst (λ (d : Document). made ≡ record d { sheet = with_kind_at d.sheet c.args.istd set }) c.document.view_is
    (ap (λ (sheet : Sheet). record {
      main = own.main;
      notes = own.notes;
      heads = own.heads;
      sheet = sheet;
      carried = own.carried;
      bookmarks = own.bookmarks;
    }) (characters_are_set _ _ _ _ c.in_ok-set_char.ensures.ok))
