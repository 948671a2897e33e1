use Rattle.std.proofs.Common.{◌≡◌, ◌∙◌, length, ap, sym, subst, arith}
use Rattle.std.specs.Prelude.{All}
use Rattle.std.proofs.lemmas.List.Elements.{All-weaker}
use Rattle.fkp_pages.specs.declared.kind.PageKind.TheVariants.{Chpx, Papx}
use Rattle.doc_model.specs.declared.item.Item.{Item}
use Rattle.doc_model.specs.declared.document.Document.{Document}
use Rattle.doc_columns.specs.Attached.{attached_of}
use Rattle.full_save.specs.declared.lengths.PageCounts.{PageCounts}
use Rattle.full_save.specs.declared.measures.Measure.TheVariants.{SepxBytes}
use Rattle.full_save.specs.Sections.{HasSavableSection}
use Rattle.full_save.specs.WordDocument.{wd_stream}
use Rattle.full_save.specs.Lengths.{IsMeasurable, wd_length}
use Rattle.full_save.proofs.BodyLemmas.{sections_savable}
use Rattle.full_save.proofs.StreamLengths.{few_pages}
use Rattle.full_save.proofs.TextLaidOut.{few_items}
use Rattle.full_save.proofs.LengthLemmas.{wd_stream_long}
use Rattle.full_save.proofs.lengths.wd_len.Goals as goal

pub overflow_mul-units : goal.overflow_mul-units
overflow_mul-units c =
    let d = c.args.document.now in
    let formed = c.requires.formed in
    let right = c.requires.right in
    let few = few_items d right in
    let units = c.requires.units in
    let all = few.all in
    omega (arith, units, all)

pub pages_for-requires : goal.pages_for-requires
pages_for-requires c =
    let d = c.args.document.now in
    let formed = c.requires.formed in
    let right = c.requires.right in
    let few = few_items d right in
    let units = c.requires.units in
    let all = few.all in
    omega (arith, units, all)

pub overflow_add-all : goal.overflow_add-all
overflow_add-all c =
    let d = c.args.document.now in
    let formed = c.requires.formed in
    let right = c.requires.right in
    let few = few_items d right in
    let units = c.requires.units in
    let all = few.all in
    let characters = ap (λ (p : PageCounts). p.characters) c.requires.pages in
    let paragraphs = ap (λ (p : PageCounts). p.paragraphs) c.requires.pages in
    let chp = few_pages Chpx d formed right in
    let pap = few_pages Papx d formed right in
    let text = c.pages_for.ensures in
    omega (arith, units, all, characters, paragraphs, chp, pap, text)

pub overflow_add-all-2 : goal.overflow_add-all-2
overflow_add-all-2 c =
    let d = c.args.document.now in
    let formed = c.requires.formed in
    let right = c.requires.right in
    let few = few_items d right in
    let units = c.requires.units in
    let all = few.all in
    let characters = ap (λ (p : PageCounts). p.characters) c.requires.pages in
    let paragraphs = ap (λ (p : PageCounts). p.paragraphs) c.requires.pages in
    let chp = few_pages Chpx d formed right in
    let pap = few_pages Papx d formed right in
    let text = c.pages_for.ensures in
    omega (arith, units, all, characters, paragraphs, chp, pap, text)

pub overflow_mul-body : goal.overflow_mul-body
overflow_mul-body c =
    let d = c.args.document.now in
    let formed = c.requires.formed in
    let right = c.requires.right in
    let few = few_items d right in
    let units = c.requires.units in
    let all = few.all in
    let characters = ap (λ (p : PageCounts). p.characters) c.requires.pages in
    let paragraphs = ap (λ (p : PageCounts). p.paragraphs) c.requires.pages in
    let chp = few_pages Chpx d formed right in
    let pap = few_pages Papx d formed right in
    let text = c.pages_for.ensures in
    omega (arith, units, all, characters, paragraphs, chp, pap, text)

pub measure_of-requires : goal.measure_of-requires
measure_of-requires c =
    let d = c.args.document.now in
    let all = subst (λ (x : Document). All HasSavableSection x.main) (sym c.document.view_is)
    (sections_savable d c.requires.formed c.requires.right) in
    All-weaker HasSavableSection (λ (item : Item). IsMeasurable SepxBytes (attached_of item)) (λ item has is. has)
    c.document.inside.main all

pub overflow_add-body : goal.overflow_add-body
overflow_add-body c =
    let d = c.args.document.now in
    let formed = c.requires.formed in
    let right = c.requires.right in
    let few = few_items d right in
    let units = c.requires.units in
    let all = few.all in
    let characters = ap (λ (p : PageCounts). p.characters) c.requires.pages in
    let paragraphs = ap (λ (p : PageCounts). p.paragraphs) c.requires.pages in
    let chp = few_pages Chpx d formed right in
    let pap = few_pages Papx d formed right in
    let text = c.pages_for.ensures in
    let main = ap (λ (x : Document). length x.main) c.document.view_is in
    let stories = few.stories in
    let sepxes = c.measure_of.ensures.bound in
    omega (arith, units, all, characters, paragraphs, chp, pap, text, main, stories, sepxes)

pub overflow_add-body-2 : goal.overflow_add-body-2
overflow_add-body-2 c =
    let d = c.args.document.now in
    let formed = c.requires.formed in
    let right = c.requires.right in
    let few = few_items d right in
    let units = c.requires.units in
    let all = few.all in
    let characters = ap (λ (p : PageCounts). p.characters) c.requires.pages in
    let paragraphs = ap (λ (p : PageCounts). p.paragraphs) c.requires.pages in
    let chp = few_pages Chpx d formed right in
    let pap = few_pages Papx d formed right in
    let text = c.pages_for.ensures in
    let main = ap (λ (x : Document). length x.main) c.document.view_is in
    let stories = few.stories in
    let sepxes = c.measure_of.ensures.bound in
    omega (arith, units, all, characters, paragraphs, chp, pap, text, main, stories, sepxes)

pub returns : goal.returns
returns c =
    let d = c.args.document.now in
    let long : length (wd_stream d) ≡ wd_length c.args.units c.args.pages c.document.inside.main =
    wd_stream_long d c.requires.formed c.requires.right
    ∙ sym (λ i. wd_length (c.requires.units i) (c.requires.pages i) (c.document.view_is i).main) in
    omega (arith, long, c.max.ensures, c.pages_for.ensures, c.measure_of.ensures.is)
