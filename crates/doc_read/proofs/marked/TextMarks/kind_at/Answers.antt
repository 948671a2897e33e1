use Rattle.std.proofs.Common.{refl, sym, length, arith}
use Rattle.std.proofs.lemmas.Option.{slice_get_read}
use Rattle.doc_read.proofs.EntryLemmas.{entry_found, entry_none}
use Rattle.doc_read.proofs.marked.TextMarks.kind_at.Goals as goal

pub returns-in-None-clause-kind : goal.returns-in-None-clause-kind
returns-in-None-clause-kind c =
    let marks = c.args.self.now in
    let none = rw c.deref.ensures.value at c.in-None.ensures.found in
    sym (entry_none marks.note_cps.items marks.note_kinds.items c.args.cp none)

pub returns-in-Some-clause-kind : goal.returns-in-Some-clause-kind
returns-in-Some-clause-kind c =
    let marks = c.args.self.now in
    let cps = marks.note_cps.items in
    let kinds = marks.note_kinds.items in
    let found = rw c.deref.ensures.value at c.in-Some.ensures.found in
    let below = found.0 in
    let there = slice_get_read kinds (length kinds) c.in-Some.k c.index.result.now refl (omega (
      arith,
      below,
      c.requires.listed.len,
    )) c.index.ensures in
    sym (entry_found cps kinds c.args.cp c.in-Some.k c.index.result.now c.requires.listed.up below found.1 there)
