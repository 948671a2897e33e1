use Rattle.std.proofs.Common.{refl, sym, length, arith}
use Rattle.std.proofs.lemmas.Option.{slice_get_read}
use Rattle.doc_read.proofs.EntryLemmas.{entry_found, entry_none}
use Rattle.doc_read.proofs.marked.TextMarks.byte_at.Goals as goal

pub returns-in-None-clause-byte : goal.returns-in-None-clause-byte
returns-in-None-clause-byte c =
    let marks = c.args.self.now in
    let none = rw c.deref.ensures.value at c.in-None.ensures.found in
    sym (entry_none marks.field_cps.items marks.field_bytes.items c.args.cp none)

pub returns-in-Some-clause-byte : goal.returns-in-Some-clause-byte
returns-in-Some-clause-byte c =
    let marks = c.args.self.now in
    let cps = marks.field_cps.items in
    let bytes = marks.field_bytes.items in
    let found = rw c.deref.ensures.value at c.in-Some.ensures.found in
    let below = found.0 in
    let there = slice_get_read bytes (length bytes) c.in-Some.k c.index.result.now refl (omega (
      arith,
      below,
      c.requires.listed.len,
    )) c.index.ensures in
    sym (entry_found cps bytes c.args.cp c.in-Some.k c.index.result.now c.requires.listed.up below found.1 there)
