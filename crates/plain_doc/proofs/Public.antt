-- What other crates may cite of these proofs.

-- The styles of the blank document break no rule, and how many bytes they are written as.
pub use Rattle.plain_doc.proofs.BlankSheetLemmas.{blank_bases, blank_short, blank_writable, length-blank_sheet}
pub use Rattle.plain_doc.proofs.BlankSheetLemmas.{none_printed, one_printed}
-- Going through the items of a text, the first one that breaks the nesting of its fields.
pub use Rattle.plain_doc.proofs.FieldLemmas.{characters-append, no_character, nothing_open}
-- A document whose texts are walked over one by one, and whose sheet and counts are right, is sound.
pub use Rattle.plain_doc.proofs.JudgedLemmas.{all_texts, judged_sound}
-- The terms of the laws, for crates above.
pub use Rattle.plain_doc.proofs.LawLemmas.{cut_into_stretches, equal_are_same}
-- What a right document says of its main text: how it ends, and what follows each of its items.
pub use Rattle.plain_doc.proofs.MainLemmas.{ends_main, ends_with_mark, item_map, last_marked, main_ends, main_right}
pub use Rattle.plain_doc.proofs.MainLemmas.{maps_there, some_end}
-- In a right text a mark is exactly where a paragraph ends.
pub use Rattle.plain_doc.proofs.MarkedLemmas.{marked_at_ends}
-- Going through the field characters with the open fields in hand finds exactly what nests.
pub use Rattle.plain_doc.proofs.NestingLemmas.{nest_passes}
-- The least place of a rule over the texts of a document: the main text first, then the notes and the header texts by
pub use Rattle.plain_doc.proofs.PlaceLemmas.{HoldsInText, holds_here, list_holds}
-- What soundness says place by place, and back.
pub use Rattle.plain_doc.proofs.RightLemmas.{none_wrong, right_is_sound, sound_is_valid}
-- Going through the items of a text, the cells of the open row and the first item that breaks the rows.
pub use Rattle.plain_doc.proofs.RowLemmas.{one_cell_more, open_cells-nil, open_cells_more}
-- The numbers of the rules on documents ascend, and none of them speaks of an object.
pub use Rattle.plain_doc.proofs.SoundLemmas.{document_rules-Ascends, document_rules-IsSingle, sound_seen}
-- Going once through the items of a text: where each is passed and nothing is open at the end, no rule is broken.
pub use Rattle.plain_doc.proofs.TextWalkLemmas.{last_is_mark, none_passed, one_passed}
