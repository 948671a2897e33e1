use Rattle.std.proofs.Common.{refl, subst}
use Rattle.doc_model.specs.declared.document.Document.{Document}
use Rattle.plain_doc.proofs.Public.{item_map, sound_seen}
use Rattle.doc_show.specs.Properties.{ArePropertyLines, item_lines, mark_lines}
use Rattle.doc_show.proofs.LineLemmas.{two_written}
use Rattle.doc_show.proofs.ParagraphLemmas.{there_some, mark_there, sound_bases, mark_style, mark_map}
use Rattle.doc_show.proofs.ParagraphLemmas.{within_seen}
use Rattle.doc_show.proofs.properties.props_lines_of_columns.Goals as goal

pub unwrap-mark-requires : goal.unwrap-mark-requires
unwrap-mark-requires c =
    let sound = sound_seen _ _ c.document.view_is c.requires.sound in
    there_some _ c.args.pos c.document.inside.main c.mark_from.result sound
    (within_seen _ _ c.args.pos c.document.view_is c.requires.within) refl c.mark_from.ensures

pub effective_char-requires-clause-bases : goal.effective_char-requires-clause-bases
effective_char-requires-clause-bases c = sound_bases _ (sound_seen _ _ c.document.view_is c.requires.sound)

pub effective_char-requires-clause-style : goal.effective_char-requires-clause-style
effective_char-requires-clause-style c =
    let sound = sound_seen _ _ c.document.view_is c.requires.sound in
    mark_style _ c.args.pos c.unwrap-mark.result.now sound
    (mark_there c.args.pos c.document.inside.main c.mark_from.result c.unwrap-mark.result
    c.unwrap-mark.ensures c.mark_from.ensures)

pub effective_char-requires-clause-direct : goal.effective_char-requires-clause-direct
effective_char-requires-clause-direct c =
    item_map c.document.inside.main c.args.pos c.in_ok-item.item c.len-len.ensures.formed c.in_ok-item.ensures

pub effective_para-requires-clause-bases : goal.effective_para-requires-clause-bases
effective_para-requires-clause-bases c = sound_bases _ (sound_seen _ _ c.document.view_is c.requires.sound)

pub effective_para-requires-clause-style : goal.effective_para-requires-clause-style
effective_para-requires-clause-style c =
    let sound = sound_seen _ _ c.document.view_is c.requires.sound in
    mark_style _ c.args.pos c.unwrap-mark.result.now sound
    (mark_there c.args.pos c.document.inside.main c.mark_from.result c.unwrap-mark.result
    c.unwrap-mark.ensures c.mark_from.ensures)

pub effective_para-requires-clause-direct : goal.effective_para-requires-clause-direct
effective_para-requires-clause-direct c =
    mark_map c.document.inside.main c.args.pos c.unwrap-mark.result.now c.len-len.ensures.formed
    (mark_there c.args.pos c.document.inside.main c.mark_from.result c.unwrap-mark.result
    c.unwrap-mark.ensures c.mark_from.ensures)

pub returns : goal.returns
returns c =
    let mark = c.unwrap-mark.result.now in
    subst (λ (d : Document). ArePropertyLines d c.args.pos c.push_mark.new.text) c.document.view_is (record {
      found = record {
        item = c.in_ok-item.item;
        mark = mark;
        characters = c.in_ok-chp.chp;
        paragraph = c.in_ok-effect.effect;
      };
      are = record {
        item = c.in_ok-item.ensures;
        mark =
            mark_there c.args.pos c.document.inside.main c.mark_from.result c.unwrap-mark.result
            c.unwrap-mark.ensures c.mark_from.ensures;
        characters = c.in_ok-chp.ensures.effective;
        paragraph = c.in_ok-effect.ensures.effective;
      };
      lines =
          two_written c.new-text.result c.push_item.new.text c.push_mark.new.text
          (item_lines c.in_ok-item.item mark.istd c.in_ok-chp.chp) (mark_lines mark c.in_ok-effect.effect)
          c.new-text.ensures c.in_ok-push_item.ensures c.in_ok-push_mark.ensures;
    })
