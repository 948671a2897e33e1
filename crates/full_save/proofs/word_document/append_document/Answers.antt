use Rattle.std.specs.Prelude.{replicate}
use Rattle.std.proofs.Common.{◌≡◌, ◌+◌, ◌-◌, ◌*◌, ◌/◌, ◌++◌, ℕ, List, length, ap, ◌∙◌, arith}
use Rattle.std.proofs.lemmas.List.{append_assoc}
use Rattle.cfb_layout.specs.Sectors.{padded_to_unit}
use Rattle.full_save.specs.WordDocument.{text_bytes}
use Rattle.full_save.proofs.BodyLemmas.{length-units}
use Rattle.full_save.proofs.TextLaidOut.{length-text}
use Rattle.full_save.proofs.word_document.append_document.Goals as goal

pub append_stories-requires-clause-counts : goal.append_stories-requires-clause-counts
append_stories-requires-clause-counts c = c.requires.text.counts_are

pub returns : goal.returns
unfolding padded_to_unit
returns c =
    let bytes = text_bytes c.args.document.now in
    let len : 2 * c.args.text.now.len ≡ length bytes =
    omega (arith, length-text c.args.document.now, length-units c.args.document.now c.args.text.now c.requires.text) in
    let fill : ℕ → List ℕ = λ n. replicate ((n + 511) / 512 * 512 - n) 0 in
    c.in_ok-push_fill.ensures
    ∙ (ap (λ (front : List ℕ). front ++ fill (2 * c.args.text.now.len)) c.in_ok-append_stories.ensures
    ∙ (append_assoc c.args.out.now bytes (fill (2 * c.args.text.now.len))
    ∙ ap (λ (n : ℕ). c.args.out.now ++ (bytes ++ fill n)) len))
