use Rattle.std.specs.Prelude.{IsTrue}
use Rattle.std.proofs.Common.{◌↔◌, ◌+◌, ◌*◌, ap, subst, sym, length, arith}
use Rattle.doc_bits.proofs.Public.{length-range}
use Rattle.fkp_pages.specs.declared.kind.PageKind.TheVariants.{Chpx}
use Rattle.fkp_pages.specs.Bin.{page_at}
use Rattle.fkp_pages.specs.Stretch.{HasStretch}
use Rattle.deleted_text.specs.Places.{IsAround, AnswersDeleted}
use Rattle.deleted_text.proofs.PlaceLemmas.{in_page, no_bin, no_page, around_none, around_all}
use Rattle.deleted_text.proofs.places.around_place.Goals as goal

pub returns-in_default-clause-around : goal.returns-in_default-clause-around
returns-in_default-clause-around c =
    let wd = c.args.wd.now in
    let bin = c.args.bin.now in
    let fc = c.args.fc in
    subst (IsAround wd bin) (sym c.not_deleted.ensures) (around_none wd bin fc (no_bin wd bin fc c.in_default.ensures))

pub returns-in_default-page_in-clause-around : goal.returns-in_default-page_in-clause-around
returns-in_default-page_in-clause-around c =
    let wd = c.args.wd.now in
    let bin = c.args.bin.now in
    let fc = c.args.fc in
    subst (IsAround wd bin) (sym c.not_deleted-in_default-page_in.ensures)
    (around_none wd bin fc (no_page wd bin fc c.in-Some.range c.requires c.in-Some.ensures c.in_default-page_in.ensures))

pub answers_deleted-requires : goal.answers_deleted-requires
answers_deleted-requires c =
    let page = c.in-Some-page_in.page.now in
    let there = c.in-Some-page_in.ensures in
    let number = c.in-Some.range.page in
    in_page page c.args.fc c.chpx_stretch-stretch.result.answer (omega (
      arith,
      ap length there.1,
      length-range c.args.wd.now (512 * number) (512 * number + 512) there.0,
    ))
    (c.chpx_stretch-stretch.ensures.answers c.args.fc c.chpx_stretch-stretch.ensures.around.from
    c.chpx_stretch-stretch.ensures.around.to)

pub returns-clause-around : goal.returns-clause-around
returns-clause-around c =
    let wd = c.args.wd.now in
    let bin = c.args.bin.now in
    let range = c.in-Some.range in
    let page = c.in-Some-page_in.ensures in
    let met : HasStretch Chpx (page_at wd range.page) c.args.fc c.chpx_stretch-stretch.result =
    subst (λ p. HasStretch Chpx p c.args.fc c.chpx_stretch-stretch.result) page.1 c.chpx_stretch-stretch.ensures in
    λ other first last.
    around_all wd bin c.args.fc range c.chpx_stretch-stretch.result c.answers_deleted.result other c.requires
    c.in-Some.ensures page.0 met
    (subst (λ p. IsTrue c.answers_deleted.result ↔ AnswersDeleted p c.chpx_stretch-stretch.result.answer) page.1
    c.answers_deleted.ensures) (omega (arith, first, c.max.ensures))
    (omega (arith, last, c.min.ensures, c.in-Some.ensures.to, c.in-Some.ensures.holds.to))
    (omega (arith, first, c.max.ensures)) (omega (arith, last, c.min.ensures))
