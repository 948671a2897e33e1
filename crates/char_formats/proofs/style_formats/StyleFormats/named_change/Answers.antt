use Rattle.std.proofs.Common.{◌≡◌, ◌≢◌, Some, [], refl, sym, ap, ◌∙◌, subst}
use Rattle.std.specs.Prelude.{option_map}
use Rattle.doc_bits.specs.Number.{u16_at}
use Rattle.style_sheet.specs.Chain.{style_kind_at}
use Rattle.effective_props.specs.Layers.{AreNamedLayers, named_style}
use Rattle.char_formats.proofs.style_formats.StyleFormats.named_change.Goals as goal

pub returns-then-not-is_of_characters : goal.returns-then-not-is_of_characters
returns-then-not-is_of_characters c =
    let sheet = c.args.self.now in
    let istd = c.first_word-istd.result in
    let named : named_style c.args.direct.now ≡ Some istd =
    ap (λ o. option_map (λ value. u16_at value 0) o) c.in-Some.ensures ∙ ap Some (sym c.first_word-istd.ensures) in
    let other : style_kind_at sheet istd ≢ 2 =
    (λ is. absurd (cc (c.is_of_characters.ensures.1 is, c.if-not-is_of_characters.true))) in
    subst (λ n. AreNamedLayers sheet n []) (sym named) ((λ is. absurd (other is)), (λ _. refl))
