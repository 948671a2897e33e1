use Rattle.std.proofs.Common.{◌≡◌, ◌∙◌, inl, ap, length}
use Rattle.doc_bits.specs.declared.places.Where.TheVariants.{Wd, Table}
use Rattle.doc_bits.specs.Rules.{rule}
use Rattle.doc_bits.specs.Places.{rules_in}
use Rattle.doc_bits.proofs.Public.{hold_in}
use Rattle.fib_form.specs.Fib.{form_size, fib_size, fib_pair}
use Rattle.fib_form.specs.FibFields.{FibFields}
use Rattle.piece_table.specs.ClxRules.{clx_rules, text_bounds}
use Rattle.fib_form.specs.declared.table_parts.TablePart.TheVariants.{Clx}
use Rattle.file_rules.specs.PairRules.{BreaksPairs}
use Rattle.fib_form.specs.TableParts.{pair_number}
use Rattle.file_rules.specs.Faults.{clx_refusal}
use Rattle.file_rules.specs.FileRules.{clx_of}
use Rattle.file_rules.proofs.RefusalLemmas.{refused-rule, holds-rule, refused-next, refused-clx}
use Rattle.file_rules.proofs.PartLemmas.{clx_pair}
use Rattle.file_rules.proofs.loading.read_pieces.Goals as goal

pub returns-in-Some-clause-read : goal.returns-in-Some-clause-read
returns-in-Some-clause-read c =
    inl (refused-rule Wd 26 (BreaksPairs c.args.wd.now (length c.args.table.now)) c.in-Some.offset
    (c.in-Some.ensures c.args.wd.now c.requires.fields))

pub returns-in-Err-clause-read : goal.returns-in-Err-clause-read
returns-in-Err-clause-read c =
    let wd = c.args.wd.now in
    let table = c.args.table.now in
    let bounds = text_bounds (fib_size wd) (length wd) in
    let rules = clx_rules (clx_of wd table) (fib_pair wd (pair_number Clx)).0 bounds c.args.text_len in
    let pair : c.pair-pair.result ≡ fib_pair wd (pair_number Clx) = clx_pair c.pair.result wd c.args.fib.now
    c.pair-pair.result c.pair.ensures.number c.pair-pair.ensures c.requires.fields in
    let from : c.size.result ≡ fib_size wd = c.size.ensures.value ∙ ap (λ (f : FibFields). form_size f.form)
    c.requires.fields in
    let first = rw (c.part_at-clx.ensures.bytes, pair, from) at c.in-Err.ensures.read in
    let pairs = BreaksPairs wd (length table) in
    rw c.refused_clx.ensures (refused-next (rules_in Wd (rule 26 pairs)) (rules_in Table rules) (clx_refusal
    c.in-Err.fault) (holds-rule Wd 26 pairs (c.in_default.ensures wd c.requires.fields)) (refused-clx rules
    c.in-Err.fault first))

pub returns-in-Ok-clause-read : goal.returns-in-Ok-clause-read
returns-in-Ok-clause-read c =
    let wd = c.args.wd.now in
    let table = c.args.table.now in
    let bounds = text_bounds (fib_size wd) (length wd) in
    let rules = clx_rules (clx_of wd table) (fib_pair wd (pair_number Clx)).0 bounds c.args.text_len in
    let pair : c.pair-pair.result ≡ fib_pair wd (pair_number Clx) = clx_pair c.pair.result wd c.args.fib.now
    c.pair-pair.result c.pair.ensures.number c.pair-pair.ensures c.requires.fields in
    let from : c.size.result ≡ fib_size wd = c.size.ensures.value ∙ ap (λ (f : FibFields). form_size f.form)
    c.requires.fields in
    let read = rw (c.part_at-clx.ensures.bytes, pair, from) at c.in-Ok.ensures.read in (
      (
        holds-rule Wd 26 (BreaksPairs wd (length table)) (c.in_default.ensures wd c.requires.fields),
        hold_in Table rules read.0,
      ),
      read.1,
    )
