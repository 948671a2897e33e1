-- The numbers of the parts of a table stream ascend, and are none that a FIB may not have.
use Rattle.std.proofs.Common.{◌≡◌, refl, ℕ, List, [], ◌∷◌, length, drop, subst, arith}
use Rattle.std.proofs.lemmas.List.{nil_from_length}
use Rattle.doc_bits.specs.Number.{number_at}
use Rattle.doc_parts.specs.Levels.{levels_before, level_start, AreLevelsFrom, level_count}
use Rattle.doc_model.specs.declared.document.Document.{Document}
use Rattle.doc_model.specs.Carried.{AreListsWithLevels}
use Rattle.fib_form.specs.TableEntries.{entry}
use Rattle.full_save.specs.declared.table_text.TableText.{TableText}
use Rattle.full_save.specs.TableText.{table_entries}
use Rattle.full_save.proofs.EntriesFound.{AreAllowed, AreNumbered, plain}

-- no part has the number of drawings or endnotes
pub table_allowed : (document : Document) (text : TableText) → AreAllowed (table_entries document text)
table_allowed document text = record { main_drawings = refl; header_drawings = refl; endnotes = refl }

-- a document without lists has no levels
no_levels : (lst levels : List ℕ) → AreListsWithLevels lst levels → length lst ≡ 0 → length levels ≡ 0
unfolding levels_before level_start number_at
no_levels lst levels are none =
    let whole : AreLevelsFrom levels 0 (level_count []) (length levels) =
    subst (λ l. AreLevelsFrom levels 0 (level_count l) (length levels)) (nil_from_length lst none) are.whole in
    whole.ends

-- the numbers ascend, and where there are no lists nothing is behind them
pub table_numbered : (document : Document) (text : TableText) →
    AreListsWithLevels document.carried.lst document.carried.levels → AreNumbered 0 (table_entries document text)
table_numbered document text lists =
    let lst : AreNumbered 34 (record {
      number = 73;
      bytes = document.carried.lst;
      behind = document.carried.levels;
    } ∷ entry 74 document.carried.lfo ∷ []) = (
      record {
        low_is = omega arith;
        below = omega arith;
        whole = no_levels document.carried.lst document.carried.levels lists;
      },
      (plain 74 74 _ (omega arith) (omega arith), tt),
    ) in
    let marks : AreNumbered 19 (drop 11 (table_entries document text)) = (
      plain 19 21 _ (omega arith) (omega arith),
      (
        plain 22 22 _ (omega arith) (omega arith),
        (
          plain 23 23 _ (omega arith) (omega arith),
          (
            plain 24 31 _ (omega arith) (omega arith),
            (
              plain 32 32 _ (omega arith) (omega arith),
              (plain 33 33 _ (omega arith) (omega arith), lst),
            ),
          ),
        ),
      ),
    ) in (
      plain 0 1 _ (omega arith) (omega arith),
      (
        plain 2 2 _ (omega arith) (omega arith),
        (
          plain 3 3 _ (omega arith) (omega arith),
          (
            plain 4 6 _ (omega arith) (omega arith),
            (
              plain 7 11 _ (omega arith) (omega arith),
              (
                plain 12 12 _ (omega arith) (omega arith),
                (
                  plain 13 13 _ (omega arith) (omega arith),
                  (
                    plain 14 15 _ (omega arith) (omega arith),
                    (
                      plain 16 16 _ (omega arith) (omega arith),
                      (
                        plain 17 17 _ (omega arith) (omega arith),
                        (plain 18 18 _ (omega arith) (omega arith), marks),
                      ),
                    ),
                  ),
                ),
              ),
            ),
          ),
        ),
      ),
    )
