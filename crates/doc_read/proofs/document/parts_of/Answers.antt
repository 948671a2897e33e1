use Rattle.std.proofs.Common.{◌≡◌, ◌∙◌, ap, ◌+◌, ◌*◌, length}
use Rattle.file_rules.specs.PartRules.{PartLists}
use Rattle.doc_read.specs.Holds.{head_texts}
use Rattle.doc_read.proofs.document.parts_of.Goals as goal

pub returns : goal.returns
returns c =
    let parts = c.args.parts in
    let inside = c.parts.inside in
    let sections : inside.sections ≡ parts.sections = ap (λ (p : PartLists). p.sections) c.parts.view_is in
    let notes : inside.notes.cuts ≡ parts.notes = ap (λ (p : PartLists). p.notes) c.parts.view_is in
    let heads : inside.heads ≡ parts.heads = ap (λ (p : PartLists). p.heads) c.parts.view_is in
    let sheet : inside.sheet ≡ parts.sheet = ap (λ (p : PartLists). p.sheet) c.parts.view_is in
    let bookmarks : inside.bookmarks ≡ parts.bookmarks = ap (λ (p : PartLists). p.bookmarks) c.parts.view_is in
    let count : 6 + 6 * c.len.result ≡ head_texts parts = ap (λ n. 6 + 6 * n) (c.len.ensures ∙ ap length sections) in
    λ i.
    record {
      columns = c.args.read.columns;
      cuts = record { notes = notes i; heads = heads i; head_count = count i };
      sheet = sheet i;
      carried = c.args.read.carried;
      bookmarks = bookmarks i;
    }
