use Rattle.std.proofs.Common.{◌≡◌, ◌-◌, sym, ap, subst, [], ◌∷◌, length, length-append, arith}
use Rattle.std.proofs.lemmas.List.Elements.{All-push}
use Rattle.doc_read.specs.Reading.{ArePieceReaders, HasReaderFor, IsPieceReader, text_view}
use Rattle.doc_read.proofs.ReaderLemmas.{last_reader}
use Rattle.doc_read.proofs.reading.reader_for.Goals as goal

pub returns-then-serves_at-clause-serves : goal.returns-then-serves_at-clause-serves
returns-then-serves_at-clause-serves c =
    subst (λ l. HasReaderFor l c.in-Some.number.now c.args.modifier.now) c.deref.ensures.value
    (c.serves_at.ensures c.if-serves_at.true)

pub returns-then-serves_at-2-clause-serves : goal.returns-then-serves_at-2-clause-serves
returns-then-serves_at-2-clause-serves c =
    subst (λ l. HasReaderFor l c.loop-k.k c.args.modifier.now) c.deref-in-loop-k.ensures.value
    (c.serves_at-in-loop-k.ensures c.if-serves_at-2.true)

pub returns-clause-readers : goal.returns-clause-readers
returns-clause-readers c =
    let view = text_view c.args.text.now in
    subst (λ l. ArePieceReaders view l) (sym c.in_ok-push.ensures.items)
    (All-push (IsPieceReader view) c.args.readers.now.items c.in_ok-reader.reader c.requires.readers
    c.in_ok-reader.ensures.reads)

pub returns-clause-serves : goal.returns-clause-serves
returns-clause-serves c =
    let old = c.args.readers.now.items in
    let reader = c.in_ok-reader.reader in
    let number = c.len-3.result - 1 in
    let last : number ≡ length old = omega (
      arith,
      c.len-3.ensures,
      c.push.new.self.ok.0,
      ap length c.in_ok-push.ensures.items,
      length-append old (reader ∷ []),
    ) in
    subst (λ l. HasReaderFor l number c.args.modifier.now) (sym c.in_ok-push.ensures.items) (last_reader old number
    reader c.args.modifier.now last c.in_ok-reader.ensures.modifier)
