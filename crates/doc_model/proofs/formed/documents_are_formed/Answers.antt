-- What the calls say of their parts.
use Rattle.std.proofs.Common.{rules}
use Rattle.doc_model.proofs.formed.documents_are_formed.Goals as goal

pub returns : goal.returns
returns c =
    record {
      main = c.len.ensures.formed;
      notes = c.len-2.ensures.formed;
      heads = c.len-3.ensures.formed;
      sheet = c.slots.ensures.formed;
      bookmarks = c.len-4.ensures.numbers;
      carried = record {
        parts = c.args.document.now.carried.short;
        bytes = c.carries_bytes.ensures;
        lists = c.args.document.now.carried.lists;
        clsid = search rules;
        languages = (c.is_word.ensures, c.is_word-2.ensures);
        flags = c.args.document.now.carried.kept;
        ordered = c.count.ensures.ordered;
        stored = c.count.ensures.stored;
        streams = c.args.document.now.carried.others;
      };
    }
