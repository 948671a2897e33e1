use Rattle.std.proofs.Common.{sym, ap, subst, arith}
use Rattle.doc_read.specs.Reading.{ArePassed, TextRest, TextView}
use Rattle.doc_read.proofs.part.TextPart.next_marked.Goals as goal

pub returns : goal.returns
returns c = λ cp at passed upper lower.
    let same = ap (λ (p : TextRest). p.view) c.self.view_is in
    let here = subst (λ (v : TextView). ArePassed v.marks c.args.passed.now cp) (sym same) passed in
    let fields = rw c.deref.ensures.value at c.next_cp-field.ensures.passed in
    let notes = rw c.deref-2.ensures.value at c.next_cp-note.ensures.passed in
    let sections = rw c.deref-3.ensures.value at c.next_cp-section.ensures.passed in
    subst (λ (v : TextView). ArePassed v.marks c.args.passed.now at) same
    (record {
      fields = fields cp at here.fields upper (omega (arith, lower, c.min.ensures, c.min-2.ensures));
      notes = notes cp at here.notes upper (omega (arith, lower, c.min.ensures, c.min-2.ensures));
      sections = sections cp at here.sections upper (omega (arith, lower, c.min-2.ensures));
    })
