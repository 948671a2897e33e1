use Rattle.std.proofs.Common.{◌≡◌, sym, ap, subst}
use Rattle.fkp_pages.specs.declared.kind.PageKind.TheVariants.{Chpx, Papx}
use Rattle.prop_map.specs.Modifiers.{IsFormedModifier}
use Rattle.direct_props.specs.GrpprlCache.{PlaceSource}
use Rattle.doc_read.proofs.ReaderLemmas.{source_as}
use Rattle.doc_read.proofs.reading.PieceReader.new.Goals as goal

pub returns-clause-reads : goal.returns-clause-reads
returns-clause-reads c =
    let text = c.args.text.now in
    let modifier = c.args.modifier.now in
    let characters = c.in_ok-characters.characters in
    let same : characters.modifier ≡ modifier = ap (λ (s : PlaceSource). s.modifier) c.in_ok-characters.ensures in
    record {
      characters = source_as characters characters Chpx text.wd.now text.characters.now modifier
          c.in_ok-characters.ensures same;
      marks = source_as c.in_ok-marks.marks characters Papx text.wd.now text.paragraphs.now modifier
          c.in_ok-marks.ensures same;
      formed = subst IsFormedModifier (sym same) c.requires.formed;
    }

pub returns-clause-modifier : goal.returns-clause-modifier
returns-clause-modifier c = ap (λ (s : PlaceSource). s.modifier) c.in_ok-characters.ensures
