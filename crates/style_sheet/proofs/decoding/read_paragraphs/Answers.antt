use Rattle.std.proofs.Common.{sym, subst}
use Rattle.sprm_table.specs.Sprm.{IsAcceptedList}
use Rattle.prop_map.specs.Formed.{character_groups, paragraph_groups}
use Rattle.style_sheet.specs.StyleDefinition.{IsMapOf}
use Rattle.style_sheet.proofs.decoding.read_paragraphs.Goals as goal

pub properties-requires : goal.properties-requires
properties-requires c =
    subst (λ list. IsAcceptedList list paragraph_groups) (sym c.paragraph_list.ensures) c.requires.lists.paragraphs

pub properties-requires-2 : goal.properties-requires-2
properties-requires-2 c =
    subst (λ list. IsAcceptedList list character_groups) (sym c.second_list.ensures) c.requires.lists.characters

pub returns : goal.returns
returns c = record {
  spelt = (
    c.requires.kind,
    (
      subst (λ list. IsMapOf list paragraph_groups c.in_ok-pap.pap) c.paragraph_list.ensures c.in_ok-pap.ensures.map,
      subst (λ list. IsMapOf list character_groups c.in_ok-chp.chp) c.second_list.ensures c.in_ok-chp.ensures.map,
    ),
  );
  formed = (c.in_ok-pap.ensures.formed, c.in_ok-chp.ensures.formed);
}
