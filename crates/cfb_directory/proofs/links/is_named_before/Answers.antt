use Rattle.std.proofs.Common.{◌≡◌, ◌<◌, slice_index, ap, sym, subst}
use Rattle.std.proofs.lemmas.Bool.{ltb-true, lt-ltb}
use Rattle.doc_bits.specs.Number.{u32_at}
use Rattle.cfb_directory.proofs.LinkLemmas.{first_before, before_first}
use Rattle.cfb_directory.proofs.links.is_named_before.Goals as goal

pub returns : goal.returns
returns c =
    let e : slice_index c.args.first.now c.get32-entry.result ≡ slice_index c.args.first.now
    (u32_at c.args.file.now c.args.link) = ap (λ k. slice_index c.args.first.now k) c.get32-entry.ensures in (
      (λ t. first_before c.args.file.now c.args.directory.now c.args.links.now c.args.first.now c.args.link
          c.requires.lists c.requires.named c.requires.there c.requires.inside
          (subst (λ x. x < c.args.link) e
          (ltb-true (slice_index c.args.first.now c.get32-entry.result) c.args.link t))),
      (λ b. lt-ltb (slice_index c.args.first.now c.get32-entry.result) c.args.link
          (subst (λ x. x < c.args.link) (sym e)
          (before_first c.args.file.now c.args.directory.now c.args.links.now c.args.first.now c.args.link
          c.requires.lists c.requires.named c.requires.there b))),
    )
