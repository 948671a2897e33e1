use Rattle.std.proofs.Common.{◌+◌, ◌*◌, ◌++◌, length, refl, ap, ◌∙◌, arith}
use Rattle.std.specs.List.{flat_map}
use Rattle.style_sheet.specs.Counted.{written_counted}
use Rattle.style_sheet.specs.Written.{word, written_upxes}
use Rattle.style_sheet.proofs.LengthLemmas.{base_word, rest_len, style_len, items_short, style_pushed}
use Rattle.style_sheet.proofs.styles.Style.print.Goals as goal

pub overflow_cast-as_slice : goal.overflow_cast-as_slice
overflow_cast-as_slice c =
    let rest = rest_len c.args.istd c.args.self.now in
    let all = style_len c.args.istd c.args.self.now in
    let name = ap length c.as_slice.ensures in
    let short = c.requires.short in
    omega arith

pub push_upxes-requires-clause-short : goal.push_upxes-requires-clause-short
push_upxes-requires-clause-short c =
    let rest = rest_len c.args.istd c.args.self.now in
    let all = style_len c.args.istd c.args.self.now in
    let short = c.requires.short in
    items_short (written_upxes c.args.istd c.args.self.now.kind) (omega arith)

pub returns : goal.returns
returns c =
    let style = c.args.self.now in
    let istd = c.args.istd in
    let first = style.sti + 4096 * style.flags in
    let second = c.stk.result + 16 * c.unwrap_or.result in
    let third = c.upx_count.result + 16 * style.next in
    let base = c.unwrap_or.ensures ∙ base_word style.base in
    let kind = c.stk.ensures.stk in
    let upxes = c.upx_count.ensures.count in
    let rest = rest_len istd style in
    let all = style_len istd style in
    let short = c.requires.short in
    let e1 = c.in_ok-push16.ensures.ok ∙ ap (λ t. t ++ word first) c.new-bytes.ensures in
    let e2 = c.in_ok-push16-2.ensures.ok ∙ ap (λ t. t ++ word second) e1 in
    let e3 = c.in_ok-push16-3.ensures.ok ∙ ap (λ t. t ++ word third) e2 in
    let e4 = c.in_ok-push16-4.ensures.ok ∙ ap (λ t. t ++ word c.std_len.result) e3 in
    let e5 = c.in_ok-push16-5.ensures.ok ∙ ap (λ t. t ++ word style.grfstd) e4 in
    let e6 = c.in_ok-push16-6.ensures.ok ∙ (ap (λ n. c.push16-5.new.self ++ word (length n)) c.as_slice.ensures ∙ ap
    (λ t. t ++ word (length style.name)) e5) in
    let e7 = c.in_ok-push_words.ensures ∙ (ap (λ n. c.push16-6.new.self ++ flat_map word n) c.as_slice-2.ensures ∙ ap
    (λ t. t ++ flat_map word style.name) e6) in
    let e8 = c.in_ok-push16-7.ensures.ok ∙ ap (λ t. t ++ word 0) e7 in
    let e9 = c.in_ok-push_upxes.ensures ∙ ap (λ t. t ++ flat_map written_counted (written_upxes istd style.kind)) e8 in
    style_pushed istd style first second third c.std_len.result c.push_upxes.new.bytes refl (omega arith)
    (omega arith) (omega arith) e9
