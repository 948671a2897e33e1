use Rattle.full_save.proofs.word_document.table_text.Goals as goal

pub returns : goal.returns
returns c = λ i. record {
  counts = c.args.text.now.counts;
  seds = c.args.seds;
  characters = c.in_ok-characters.ensures.bytes i;
  paragraphs = c.in_ok-paragraphs.ensures.bytes i;
  clx = c.in_ok-clx.ensures i;
}
