use Rattle.std.proofs.Common.{◌∙◌, ap}
use Rattle.doc_read.specs.declared.reading.PieceReader.{PieceReader}
use Rattle.doc_read.proofs.ReaderLemmas.{reader_there}
use Rattle.doc_read.proofs.reading.serves_at.Goals as goal

pub returns-then-number-readers : goal.returns-then-number-readers
returns-then-number-readers c = λ serves.
    let is = c.index-readers-number.is in
    reader_there c.args.readers.now c.args.number c.index-readers-number.result c.args.modifier.now
    c.if-number-readers.true is (ap (λ (r : PieceReader). r.characters.modifier) is ∙ c.serves.ensures serves)
