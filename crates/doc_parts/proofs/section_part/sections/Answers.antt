use Rattle.std.proofs.Common.{Some, None, refl, arith}
use Rattle.doc_parts.proofs.SectionLemmas.{section_rule, read_numbers}
use Rattle.doc_parts.proofs.section_part.sections.Goals as goal

pub returns-in-Some : goal.returns-in-Some
returns-in-Some c = (
  refl,
  section_rule c.args.plc.now c.args.at c.args.main_len (Some c.in-Some.offset) (omega arith) (rw c.in-Some.is at
      c.in_ok-read.ensures.judged),
)

pub returns : goal.returns
returns c = (
  section_rule c.args.plc.now c.args.at c.args.main_len None (omega arith) (rw c.in_default.is at
      c.in_ok-read.ensures.judged),
  record { leading = c.in_ok-read.ensures.leading; all = rw c.in_default.is at c.in_ok-read.ensures.ends },
)

pub invariant_of-result : goal.invariant_of-result
invariant_of-result c = read_numbers c.args.plc.now c.args.main_len c.in_ok-read.read.entries.items
    (λ i. omega (arith, c.type_inv.plc i)) c.in_ok-read.ensures.leading
