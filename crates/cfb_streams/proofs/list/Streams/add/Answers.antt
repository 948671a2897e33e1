use Rattle.std.proofs.Common.{◌≡◌, [], ◌∷◌, ◌++◌, List, sym, subst, arith}
use Rattle.cfb_streams.specs.Contents.{NamedBytes, AreStreams, IsStored, AreStored}
use Rattle.cfb_streams.proofs.AddLemmas.{push-AreStored}
use Rattle.cfb_streams.proofs.list.Streams.add.Goals as goal

pub invariant_of-self-2 : goal.invariant_of-self-2
invariant_of-self-2 c =
    let before : List NamedBytes = c.args.self.now in
    let last : NamedBytes = record { name = c.args.name.now; bytes = c.args.bytes.now } in
    let stored : AreStored before = subst AreStored c.self.view_is c.self.invariant.1 in
    let is : IsStored last.name last.bytes = record
    { units = λ i. omega (arith, c.type_inv.name i); small = λ i. omega (arith, c.type_inv.bytes i) } in
    let pushed : c.push.new.self.items ≡ before ++ last ∷ [] = cc
    (c.in_ok-push.ensures.items, c.in_ok-name.ensures.items, c.in_ok-bytes.ensures.items, c.self.view_is) in
    subst (λ streams. AreStreams streams × AreStored streams) (sym pushed)
    (c.requires, push-AreStored before last stored is)
