-- A file has one list of such codes.
use Rattle.std.proofs.Common.{◌∙◌, ◌++◌, sym, ap, List}
use Rattle.sprm_table.specs.Sprm.{Prl}
use Rattle.fkp_pages.specs.declared.kind.PageKind.TheVariants as pages
use Rattle.text_losses.specs.declared.features.ListKind.TheVariants.{Chpx, Papx, Prc}
use Rattle.code_losses.specs.Losses.{codes_of, CodeLossesAreOne}
use Rattle.code_losses.proofs.OneLemmas.{pages_one}
use Rattle.code_losses.proofs.PrcLemmas.{prcs_one}

pub losses_one : CodeLossesAreOne
losses_one parts one other a b =
    let chars = pages_one pages.Chpx parts.wd parts.characters a.chars b.chars a.are_chars b.are_chars in
    let pars = pages_one pages.Papx parts.wd parts.paragraphs a.pars b.pars a.are_pars b.are_pars in
    let modifiers = prcs_one parts.clx a.modifiers b.modifiers a.are_modifiers b.are_modifiers in
    a.named
    ∙ (ap (λ (c : List (List Prl)). (codes_of Chpx c ++ codes_of Papx a.pars) ++ codes_of Prc a.modifiers) chars
    ∙ (ap (λ (p : List (List Prl)). (codes_of Chpx b.chars ++ codes_of Papx p) ++ codes_of Prc a.modifiers) pars
    ∙ (ap (λ (m : List (List Prl)). (codes_of Chpx b.chars ++ codes_of Papx b.pars) ++ codes_of Prc m) modifiers
    ∙ sym b.named)))
