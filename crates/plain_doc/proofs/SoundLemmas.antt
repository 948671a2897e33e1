-- The numbers of the rules on documents ascend, and none of them speaks of an object.
use Rattle.std.proofs.Common.{lit≤, lit<, ◌≡◌, sym, subst}
use Rattle.doc_bits.specs.Rules.{IsSingle, Ascends}
use Rattle.doc_model.specs.declared.document.Document.{Document}
use Rattle.plain_doc.specs.Sound.{document_rules, text_rules, count_rules, size_rules, IsSound}

pub document_rules-IsSingle : (document : Document) → IsSingle (document_rules document)
document_rules-IsSingle document = ((tt, (tt, (tt, (tt, tt)))), (tt, ((tt, (tt, (tt, tt))), (tt, tt))))

text_rules-Ascends : (document : Document) → Ascends (text_rules document) 60 65
text_rules-Ascends document = (
  61,
  (
    (lit≤ tt, lit< tt),
    (
      lit≤ tt,
      lit≤ tt,
      (
        62,
        (
          (lit≤ tt, lit< tt),
          (
            lit≤ tt,
            lit≤ tt,
            (
              63,
              (
                (lit≤ tt, lit< tt),
                (
                  lit≤ tt,
                  lit≤ tt,
                  (
                    64,
                    (
                      (
                        lit≤ tt,
                        lit< tt,
                      ),
                      (lit≤ tt, lit≤ tt, (lit≤ tt, lit< tt)),
                    ),
                  ),
                ),
              ),
            ),
          ),
        ),
      ),
    ),
  ),
)

count_rules-Ascends : (document : Document) → Ascends (count_rules document) 66 70
count_rules-Ascends document = (
  67,
  (
    (lit≤ tt, lit< tt),
    (
      lit≤ tt,
      lit≤ tt,
      (
        68,
        (
          (lit≤ tt, lit< tt),
          (lit≤ tt, lit≤ tt, (69, ((lit≤ tt, lit< tt), (lit≤ tt, lit≤ tt, (lit≤ tt, lit< tt))))),
        ),
      ),
    ),
  ),
)

size_rules-Ascends : (document : Document) → Ascends (size_rules document) 70 72
size_rules-Ascends document = (71, ((lit≤ tt, lit< tt), (lit≤ tt, lit≤ tt, (lit≤ tt, lit< tt))))

pub document_rules-Ascends : (document : Document) → Ascends (document_rules document) 60 72
document_rules-Ascends document = (
  65,
  (
    text_rules-Ascends document,
    (
      lit≤ tt,
      lit≤ tt,
      (
        66,
        (
          (lit≤ tt, lit< tt),
          (
            lit≤ tt,
            lit≤ tt,
            (70, (count_rules-Ascends document, (lit≤ tt, lit≤ tt, size_rules-Ascends document))),
          ),
        ),
      ),
    ),
  ),
)

-- the document that its columns are seen as is sound
pub sound_seen : (seen document : Document) → seen ≡ document → IsSound document → IsSound seen
sound_seen seen document is sound = subst (λ (d : Document). IsSound d) (sym is) sound
