-- The first CP, then the others from the left, then the last.
use Rattle.std.proofs.Common.{◌≡◌, ◌∙◌, sym, ap, arith}
use Rattle.doc_bits.specs.Plc.{plc_cp}
use Rattle.piece_table.proofs.ClxRuleLemmas.{Starts, first_no_ascent, first_wrong_end, no_wrong_cp}
use Rattle.piece_table.proofs.judge.wrong_cp.Goals as goal

pub returns-in-Some : goal.returns-in-Some
returns-in-Some c =
    let starts : Starts c.args.plc.now = (omega arith, sym c.cp.ensures ∙ c.if-cp-ne0.false) in
    first_no_ascent c.args.plc.now c.args.base c.args.text_len c.in-Some.offset starts c.in-Some.ensures

pub returns-then-cp-text_len : goal.returns-then-cp-text_len
returns-then-cp-text_len c =
    let plc = c.args.plc.now in
    let starts : Starts plc = (omega arith, sym c.cp.ensures ∙ c.if-cp-ne0.false) in
    let last : c.cp-2.result ≡ plc_cp plc.bytes plc.count = c.cp-2.ensures ∙ ap (λ n. plc_cp plc.bytes n)
    c.len-2.ensures in
    rw c.len-then-cp-text_len.ensures (first_wrong_end plc c.args.base c.args.text_len starts c.in_default.ensures
    (λ e. c.if-cp-text_len.true (last ∙ e)))

pub returns : goal.returns
returns c =
    let plc = c.args.plc.now in
    let starts : Starts plc = (omega arith, sym c.cp.ensures ∙ c.if-cp-ne0.false) in
    let last : c.cp-2.result ≡ plc_cp plc.bytes plc.count = c.cp-2.ensures ∙ ap (λ n. plc_cp plc.bytes n)
    c.len-2.ensures in
    no_wrong_cp plc c.args.base c.args.text_len starts c.in_default.ensures (sym last ∙ c.if-cp-text_len.false)
