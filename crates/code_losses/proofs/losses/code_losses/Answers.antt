use Rattle.std.proofs.Common.{◌∙◌, ap, ◌++◌, List}
use Rattle.text_losses.specs.declared.features.ListKind.TheVariants.{Chpx, Papx, Prc}
use Rattle.text_losses.specs.declared.features.TextFeature.{TextFeature}
use Rattle.code_losses.specs.Losses.{codes_of}
use Rattle.code_losses.proofs.losses.code_losses.Goals as goal

pub returns : goal.returns
returns c =
    let first = c.in_ok-add_codes.ensures in
    let second = c.in_ok-add_codes-2.ensures in
    let third = c.in_ok-add_prcs.ensures in
    record {
      chars = first.0;
      are_chars = first.1.0;
      pars = second.0;
      are_pars = second.1.0;
      modifiers = third.0;
      are_modifiers = third.1.0;
      named = third.1.1
          ∙ ap (λ (l : List TextFeature). l ++ codes_of Prc third.0)
          (second.1.1
          ∙ ap (λ (l : List TextFeature). l ++ codes_of Papx second.0)
          (first.1.1 ∙ ap (λ (l : List TextFeature). l ++ codes_of Chpx first.0) c.new-features.ensures.items));
    }
