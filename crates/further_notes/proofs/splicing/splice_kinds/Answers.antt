use Rattle.std.proofs.Common.{◌≡◌, ◌∙◌, List, Option}
use Rattle.further_notes.specs.Sources.{note_sources, note_origins}
use Rattle.further_notes.specs.Splices.{sources_of}
use Rattle.further_notes.proofs.splicing.splice_kinds.Goals as goal

pub spliced_document-requires-clause-sources : goal.spliced_document-requires-clause-sources
spliced_document-requires-clause-sources c =
    c.deref.ensures.value
    ∙ (c.in_ok-sources.ensures ∙ (λ i. note_sources (c.requires.own i) (c.requires.others i)))

pub returns : goal.returns
returns c =
    let document = c.args.noted.now.document in
    let other = c.args.other.now in
    let again : c.deref-3.result.now ≡ sources_of document other =
    c.deref-3.ensures.value
    ∙ (c.in_ok-sources.ensures ∙ (λ i. note_sources (c.requires.own i) (c.requires.others i))) in
    let origins : c.in_ok-origins.origins.items
    ≡ note_origins c.args.form.now.story c.args.noted.now.origins.items (sources_of document other) =
    c.in_ok-origins.ensures ∙ (λ i. note_origins c.args.form.now.story (c.deref-2.ensures.value i) (again i)) in
    λ i. record { document = c.in_ok-document.ensures i; origins = origins i }
