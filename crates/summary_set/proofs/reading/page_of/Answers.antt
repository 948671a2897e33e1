use Rattle.std.proofs.Common.{◌≡◌, ◌≤◌, ◌+◌, ◌∙◌, Some, sym, ap, subst}
use Rattle.std.specs.Prelude.{◌==◌, find, option_and_then}
use Rattle.doc_bits.proofs.Public.{found_has}
use Rattle.summary_set.specs.declared.set.PropertyPair.{PropertyPair}
use Rattle.summary_set.specs.PropertySet.{first_set_size, pairs_in_stream}
use Rattle.summary_set.specs.Values.{pair_value_bytes}
use Rattle.summary_set.specs.Texts.{page_of_value}
use Rattle.summary_set.proofs.ValueLemmas.{pairs_within}
use Rattle.summary_set.proofs.reading.page_of.Goals as goal

pub value-requires-clause-pair : goal.value-requires-clause-pair
value-requires-clause-pair c =
    let b = c.args.stream.now in
    let found : find (λ (pair : PropertyPair). pair.id == 1) (pairs_in_stream b) ≡ Some c.in-Some.pair =
    subst (λ xs. find (λ (pair : PropertyPair). pair.id == 1) xs ≡ Some c.in-Some.pair) c.requires.set.pairs
    (sym c.pair_with.ensures ∙ c.in-Some.is) in
    found_has (λ (pair : PropertyPair). pair.offset + 4 ≤ first_set_size b) (λ (pair : PropertyPair). pair.id == 1)
    (pairs_in_stream b) c.in-Some.pair (pairs_within b c.requires.formed) found

pub returns : goal.returns
returns c =
    let b = c.args.stream.now in
    let found : find (λ (pair : PropertyPair). pair.id == 1) (pairs_in_stream b) ≡ Some c.in-Some.pair =
    subst (λ xs. find (λ (pair : PropertyPair). pair.id == 1) xs ≡ Some c.in-Some.pair) c.requires.set.pairs
    (sym c.pair_with.ensures ∙ c.in-Some.is) in
    c.page.ensures
    ∙ (ap page_of_value c.value.ensures
    ∙ sym (ap (λ o. option_and_then (λ pair. page_of_value (pair_value_bytes b pair)) o) found))
