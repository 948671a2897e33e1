use Rattle.std.specs.Prelude.{slice_range}
use Rattle.std.proofs.Common.{◌≡◌, ◌∙◌, ◌+◌, ◌<◌, sym, ap, subst, arith, ℕ, List}
use Rattle.fib_form.specs.Fib.{fib_pair, table_part}
use Rattle.fib_versions.specs.Versions.{fib_pair_count}
use Rattle.fib_versions.proofs.Public.{enough_pairs}
use Rattle.code_losses.specs.Losses.{AreCodeLosses}
use Rattle.doc_fit.proofs.list_losses.text_losses_of.Goals as goal

pub pair-requires : goal.pair-requires
pair-requires c =
    let enough = enough_pairs c.args.wd.now c.requires.version in
    subst (λ (w : List ℕ). 12 < fib_pair_count w) (sym c.requires.same) (omega (arith, enough))

pub pair-requires-2 : goal.pair-requires-2
pair-requires-2 c =
    let enough = enough_pairs c.args.wd.now c.requires.version in
    subst (λ (w : List ℕ). 13 < fib_pair_count w) (sym c.requires.same) (omega (arith, enough))

pub pair-requires-3 : goal.pair-requires-3
pair-requires-3 c =
    let enough = enough_pairs c.args.wd.now c.requires.version in
    subst (λ (w : List ℕ). 33 < fib_pair_count w) (sym c.requires.same) (omega (arith, enough))

pub returns : goal.returns
returns c =
    let wd = c.args.wd.now in
    let table = c.args.table.now in
    let same = c.requires.same in
    let characters : c.part_of-characters.result.now ≡ table_part wd table 12 =
    c.part_of-characters.ensures
    ∙ ap (λ (p : ℕ × ℕ). slice_range table p.0 (p.0 + p.1))
    (c.pair.ensures ∙ ap (λ (w : List ℕ). fib_pair w 12) same) in
    let paragraphs : c.part_of-paragraphs.result.now ≡ table_part wd table 13 =
    c.part_of-paragraphs.ensures
    ∙ ap (λ (p : ℕ × ℕ). slice_range table p.0 (p.0 + p.1))
    (c.pair-2.ensures ∙ ap (λ (w : List ℕ). fib_pair w 13) same) in
    let clx : c.part_of-clx.result.now ≡ table_part wd table 33 =
    c.part_of-clx.ensures
    ∙ ap (λ (p : ℕ × ℕ). slice_range table p.0 (p.0 + p.1))
    (c.pair-3.ensures ∙ ap (λ (w : List ℕ). fib_pair w 33) same) in
    let texts = c.in_ok-found.found.items in
    subst (λ (b : List ℕ). AreCodeLosses (record {
      wd = wd;
      characters = b;
      paragraphs = table_part wd table 13;
      clx = table_part wd table 33;
    }) texts) characters
    (subst (λ (b : List ℕ). AreCodeLosses (record {
      wd = wd;
      characters = c.part_of-characters.result.now;
      paragraphs = b;
      clx = table_part wd table 33;
    }) texts) paragraphs
    (subst (λ (b : List ℕ). AreCodeLosses (record {
      wd = wd;
      characters = c.part_of-characters.result.now;
      paragraphs = c.part_of-paragraphs.result.now;
      clx = b;
    }) texts) clx c.in_ok-found.ensures))
