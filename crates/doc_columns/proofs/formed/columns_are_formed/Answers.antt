-- What the calls say of their parts.
use Rattle.std.proofs.Common.{subst}
use Rattle.doc_model.specs.Formed.{IsFormed}
use Rattle.doc_columns.proofs.SeenLemmas.{seen_document}
use Rattle.doc_columns.proofs.formed.columns_are_formed.Goals as goal

pub returns : goal.returns
returns c =
    let own = c.document.inside in
    let formed : IsFormed (seen_document own) = record {
      main = c.len.ensures.formed;
      notes = c.len-2.ensures.formed;
      heads = c.len-3.ensures.formed;
      sheet = c.slots.ensures.formed;
      bookmarks = c.len-4.ensures.numbers;
      carried = record {
        parts = own.carried.short;
        bytes = c.carries_bytes.ensures.bytes;
        lists = own.carried.lists;
        clsid = c.carries_bytes.ensures.clsid;
        languages = (c.is_word.ensures, c.is_word-2.ensures);
        flags = own.carried.kept;
        ordered = c.count.ensures.ordered;
        stored = c.count.ensures.stored;
        streams = own.carried.others;
      };
    } in
    subst IsFormed c.document.view_is formed
