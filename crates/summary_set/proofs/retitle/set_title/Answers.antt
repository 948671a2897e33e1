use Rattle.std.proofs.Common.{◌≡◌, ◌<◌, ◌≤◌, ◌+◌, ◌∙◌, length, map, take, vec_len, [], ◌∷◌, ◌++◌, sym, ap, subst, rules}
use Rattle.std.proofs.Common.{arith}
use Rattle.std.proofs.lemmas.List.{take_all}
use Rattle.summary_set.specs.declared.set.PropertyPair.{PropertyPair}
use Rattle.summary_set.specs.PropertySet.{first_set_size}
use Rattle.std.specs.Prelude.{All, is_some}
use Rattle.summary_set.specs.Values.{property_of}
use Rattle.summary_set.specs.Written.{in_place, title_property}
use Rattle.summary_set.proofs.ValueLemmas.{pairs_within}
use Rattle.summary_set.proofs.WriteLemmas.{retitled-there, retitled-last}
use Rattle.summary_set.proofs.retitle.set_title.Goals as goal

pub renew_property-requires-clause-pair : goal.renew_property-requires-clause-pair
renew_property-requires-clause-pair c =
    let b = c.args.stream.now in
    let pairs = c.args.set.now.pairs in
    let len : vec_len pairs ≡ length pairs.items = search rules in
    let below : c.loop-i.i < length pairs.items = omega (arith, c.loop-i-test.true, c.len-i-end.ensures) in
    let all : All (λ (pair : PropertyPair). pair.offset + 4 ≤ first_set_size b) pairs.items = subst (λ xs. All (λ (pair
    :
    PropertyPair). pair.offset + 4 ≤ first_set_size b) xs) (sym c.requires.set.pairs) (pairs_within b c.requires.formed)
    in
    subst (λ (pair : PropertyPair). pair.offset + 4 ≤ first_set_size b) (sym c.index.ensures) (all c.loop-i.i
    c.index.result.now below)

pub returns-then-is_some : goal.returns-then-is_some
returns-then-is_some c =
    let b = c.args.stream.now in
    let title = c.args.title.now in
    let pairs = c.args.set.now.pairs in
    let len : vec_len pairs ≡ length pairs.items = search rules in
    let all : take c.loop-i.i pairs.items ≡ pairs.items = take_all c.loop-i.i pairs.items (omega (
      arith,
      c.loop-i-test.false,
      c.len-i-end.ensures,
    )) in
    c.loop-i.invariant
    ∙ (ap (map (λ (pair : PropertyPair). in_place title (property_of b pair))) all
    ∙ retitled-there b title pairs.items c.requires.set.pairs (ap (λ o. is_some o) (sym c.pair_with.ensures)
    ∙ (sym c.is_some.ensures ∙ c.if-is_some.true)))

pub returns : goal.returns
returns c =
    let b = c.args.stream.now in
    let title = c.args.title.now in
    let pairs = c.args.set.now.pairs in
    let len : vec_len pairs ≡ length pairs.items = search rules in
    let all : take c.loop-i.i pairs.items ≡ pairs.items = take_all c.loop-i.i pairs.items (omega (
      arith,
      c.loop-i-test.false,
      c.len-i-end.ensures,
    )) in
    c.in_ok-push-2.ensures.items
    ∙ (ap (λ x. c.loop-i.values.items ++ x ∷ []) c.in_ok-title_property.ensures
    ∙ (ap (λ xs. xs ++ title_property title ∷ []) (c.loop-i.invariant ∙ ap (map (λ (pair : PropertyPair). in_place title
    (property_of b pair))) all)
    ∙ retitled-last b title pairs.items c.requires.set.pairs (ap (λ o. is_some o) (sym c.pair_with.ensures)
    ∙ (sym c.is_some.ensures ∙ c.if-is_some.false))))
