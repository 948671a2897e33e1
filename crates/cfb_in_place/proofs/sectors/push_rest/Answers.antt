use Rattle.std.proofs.Common.{◌+◌, ◌-◌, ◌++◌, List, ℕ, length, drop, ap, ◌∙◌, arith}
use Rattle.std.proofs.lemmas.List.{take_all, length-drop}
use Rattle.cfb_in_place.proofs.SourceLemmas.{rest_within, rest_past}
use Rattle.cfb_in_place.proofs.sectors.push_rest.Goals as goal

pub returns-in_ok-push_zeros : goal.returns-in_ok-push_zeros
returns-in_ok-push_zeros c =
    let low = c.if-len-joined.true in
    let same = ap (λ (xs : List ℕ). length xs) c.as_slice-len.ensures in
    let left = length-drop (length c.as_slice-len.result.now) c.args.joined.now in
    let all = take_all (length c.args.joined.now - length c.as_slice-len.result.now) (drop (length
    c.as_slice-len.result.now) c.args.joined.now) (omega arith) in
    rest_within c.args.out.now c.push_all.new.self c.push_zeros.new.out c.args.joined.now c.args.more
    (c.in_ok-push_all.ensures.ok ∙ ap (λ xs. c.args.out.now ++ xs) all ∙ ap (λ n. c.args.out.now ++ drop n
    c.args.joined.now) same)
    c.in_ok-push_zeros.ensures (omega arith)

pub returns-in_ok-push_zeros-2 : goal.returns-in_ok-push_zeros-2
returns-in_ok-push_zeros-2 c =
    let past = c.if-len-joined.false in
    let same = ap (λ (xs : List ℕ). length xs) c.as_slice-len.ensures in
    rest_past c.args.out.now c.push_zeros-else-len-joined.new.out c.args.joined.now c.args.more
    (length c.args.joined.now + c.args.more - length c.as_slice-len.result.now) c.in_ok-push_zeros-2.ensures
    (omega arith) (omega arith)
