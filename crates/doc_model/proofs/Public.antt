-- What other crates may cite of these proofs.

-- The parts of the blank document are well formed; lists of one entry many times.
pub use Rattle.doc_model.proofs.BlankLemmas.{blank_document_is_formed, blank_item_maps, bold, default_font_is_formed}
pub use Rattle.doc_model.proofs.BlankLemmas.{heading_is_formed, normal_is_formed}
-- Where bookmarks break their rule, as it is found.
pub use Rattle.doc_model.proofs.BookmarkRuleLemmas.{right_names, wrong_count, wrong_names}
-- What the items of a text have is found by their CPs.
pub use Rattle.doc_model.proofs.CollectedLemmas.{collected-append, collected_count, entry_here, entry_later}
pub use Rattle.doc_model.proofs.CollectedLemmas.{entry_of_item, found_before, length-cuts_from, none_below}
-- The stretches of a list cut it, and nothing else does.
pub use Rattle.doc_model.proofs.CutLemmas.{are_stretches, joins_nothing, stretches_only}
-- Lists of well-formed entries, after a change.
pub use Rattle.doc_model.proofs.FormedLemmas.{All-one, ForSome-from_cases, HasPropertyMaps-from_parts, IsFormedList-add}
pub use Rattle.doc_model.proofs.FormedLemmas.{IsFormedList-set, IsFormedList-splice, length-splice}
-- Items with and without marks, one after the other.
pub use Rattle.doc_model.proofs.MarkLemmas.{a_mark, no_mark}
-- Two properties are the same where their entries are.
pub use Rattle.doc_model.proofs.SettingsLemmas.{same_properties-Decides}
-- Lists of named streams: what is at a place, and the front of a list.
pub use Rattle.doc_model.proofs.StreamLemmas.{AreStreams-take, stream_of_parts, take_next}
-- Cutting off the first stretch.
pub use Rattle.doc_model.proofs.StretchLemmas.{Leads, leads, none_more, one_more, part_of, rest_of, stretches-first}
pub use Rattle.doc_model.proofs.StretchLemmas.{stretches-nil}
-- What the items of texts have, listed by CPs: it ascends. Where sections begin, where texts are cut, and texts joined.
pub use Rattle.doc_model.proofs.TextListLemmas.{collected_from, collected_rise, cut_at, cuts_in_order, empty_joined}
pub use Rattle.doc_model.proofs.TextListLemmas.{first_joined, first_start, in_joined, joined_all, length-joined}
pub use Rattle.doc_model.proofs.TextListLemmas.{next_joined, next_start, some_collected, starts_rise, text_joined}
-- Streams of which one has other bytes.
pub use Rattle.doc_model.proofs.WithBytesLemmas.{with_bytes-carried}
