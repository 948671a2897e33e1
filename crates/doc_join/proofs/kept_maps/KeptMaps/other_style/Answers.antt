use Rattle.std.proofs.Common.{◌∙◌, sym, ap, arith}
use Rattle.effective_props.proofs.Public.{named_bytes}
use Rattle.doc_bits.specs.Number.{number_bytes}
use Rattle.effective_props.specs.Layers.{character_style_code}
use Rattle.std.specs.FinMap.{insert}
use Rattle.doc_join.specs.Numbers.{renumbered_style}
use Rattle.doc_join.proofs.SettingLemmas.{same_style, one_named}
use Rattle.doc_join.proofs.kept_maps.KeptMaps.other_style.Goals as goal

pub get16-named-requires : goal.get16-named-requires
get16-named-requires c =
    let two = named_bytes c.args.map.now c.in_ok-value.value.now c.requires c.in_ok-value.ensures in
    omega (arith, two)

pub returns-then-istd-named : goal.returns-then-istd-named
returns-then-istd-named c =
    let numbers = c.args.self.now.numbers in
    let number = c.get16-named.ensures in
    same_style numbers c.args.map.now c.in_ok-value.value.now c.requires c.in_ok-value.ensures
    (ap (renumbered_style numbers) (sym number) ∙ (sym c.style-istd.ensures ∙ (c.if-istd-named.true ∙ number)))

pub returns-else-istd-named : goal.returns-else-istd-named
returns-else-istd-named c =
    let numbers = c.args.self.now.numbers in
    one_named numbers c.args.map.now c.in_ok-value.value.now c.in_ok-value.ensures
    ∙ ap (λ istd. insert c.args.map.now character_style_code (number_bytes 2 istd))
    (ap (renumbered_style numbers) (sym c.get16-named.ensures) ∙ sym c.style-istd.ensures)
