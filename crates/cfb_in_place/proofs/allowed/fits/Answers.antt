use Rattle.std.proofs.Common.{◌<◌, ◌≤◌, List, ℕ, length, refl, sym, ap, ◌∙◌, subst}
use Rattle.std.proofs.lemmas.Bool.{false≢true}
use Rattle.cfb_streams.specs.Contents.{Stream}
use Rattle.cfb_in_place.specs.Change.{NamedChange, grown_bytes}
use Rattle.cfb_in_place.specs.Contract.{IsNamed}
use Rattle.cfb_in_place.proofs.NamedLemmas.{read_of}
use Rattle.cfb_in_place.proofs.allowed.fits.Goals as goal

pub returns-then-is_named : goal.returns-then-is_named
returns-then-is_named c =
    let name = c.as_slice.ensures ∙ ap (λ (x : NamedChange). x.name) c.change.view_is in
    let main = subst (λ (n : List ℕ). IsNamed c.args.container.now c.args.i n) c.word_document.ensures
    (c.if-not-is_named.ensures.0 refl) in
    let other = subst (λ (n : List ℕ). IsNamed c.args.container.now c.args.i n) name (c.if-is_named.ensures.0 refl) in
    (λ t. absurd (false≢true t), λ fits. absurd ((fits main).0 other))

pub returns : goal.returns
returns c =
    let name = c.as_slice.ensures ∙ ap (λ (x : NamedChange). x.name) c.change.view_is in
    let main = subst (λ (n : List ℕ). IsNamed c.args.container.now c.args.i n) c.word_document.ensures
    (c.if-not-is_named.ensures.0 refl) in (
      λ t is.
          let same = read_of (λ (s : Stream). s.bytes) c.args.container.now.streams c.args.i is.stream
          c.bytes.result.now c.bytes.ensures is.here in
          let grows = subst (λ (xs : List ℕ). (4096 ≤ length xs) × (length (grown_bytes c.args.change.now.change xs)
          < 2147483648)) same (c.can_grow.ensures.0 t) in (
            λ other. false≢true (c.if-is_named.ensures.1 (subst (λ (n : List ℕ). IsNamed c.args.container.now c.args.i
                n) (sym
                name) other)),
            grows,
          ),
      λ fits.
          let same = read_of (λ (s : Stream). s.bytes) c.args.container.now.streams c.args.i main.stream
          c.bytes.result.now c.bytes.ensures main.here in
          c.can_grow.ensures.1 (subst (λ (xs : List ℕ). (4096 ≤ length xs) × (length (grown_bytes
          c.args.change.now.change xs) < 2147483648)) (sym same) (fits main).1),
    )
