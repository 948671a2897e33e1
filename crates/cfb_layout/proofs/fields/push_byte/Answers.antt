use Rattle.std.proofs.Common.{◌<◌, ◌++◌, sym, ap, ◌∙◌, arith}
use Rattle.cfb_layout.proofs.JoinLemmas.{byte_bytes}
use Rattle.cfb_layout.proofs.fields.push_byte.Goals as goal

pub returns : goal.returns
returns c =
    let low : c.args.value < 256 = omega arith in
    c.in_ok-push_all.ensures.ok ∙ ap (λ xs. c.args.out.now ++ xs) (sym (byte_bytes c.args.value low))
