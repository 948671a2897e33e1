-- A saved document is held by its contents, and by a file that has them.
use Rattle.std.proofs.lemmas.Option.{slice_get_within}
use Rattle.std.proofs.Common.{◌≡◌, ◌∙◌, refl, sym, subst, ℕ, length, arith}
use Rattle.std.proofs.lemmas.List.{length-map}
use Rattle.doc_bits.specs.declared.places.Where.TheVariants.{File, Wd, Table}
use Rattle.doc_bits.specs.Rules.{Hold, rule}
use Rattle.doc_bits.proofs.Public.{hold_in, from_map, there_is}
use Rattle.prop_map.specs.Settings.{Properties}
use Rattle.cfb_streams.specs.Container.{container_rules}
use Rattle.cfb_streams.specs.Names.{wd_name}
use Rattle.fib_form.specs.Fib.{fib_pair}
use Rattle.fib_form.specs.FibFields.{fib_fields, text_length}
use Rattle.fib_form.specs.FibRules.{fib_rules}
use Rattle.fib_form.specs.TableParts.{pair_number}
use Rattle.fib_form.specs.declared.table_parts.TablePart.TheVariants.{Stshf, SttbfFfn, Dop, SttbfAssoc, Clx, PlfLst}
use Rattle.fib_form.specs.declared.table_parts.TablePart.TheVariants.{PlfLfo}
use Rattle.fib_form.specs.declared.stories.StoryKind.TheVariants.{Notes, Heads}
use Rattle.piece_table.specs.ClxRules.{clx_rules}
use Rattle.doc_parts.specs.declared.lists.Sed.{Sed}
use Rattle.style_sheet.specs.Stsh.{stsh_rules}
use Rattle.doc_model.specs.Collected.{sections_of}
use Rattle.plain_doc.proofs.Public.{sound_is_valid}
use Rattle.file_rules.specs.Source.{story_begin, table_part_bytes, part_place}
use Rattle.file_rules.specs.FileRules.{file_rules, HasFileText, loading_rules, table_stream_name, clx_of}
use Rattle.file_rules.specs.FileRules.{contents_rules}
use Rattle.file_rules.specs.ListRules.{rules_of_lists}
use Rattle.file_rules.specs.SheetRules.{rules_of_sheet}
use Rattle.file_rules.specs.PairRules.{BreaksPairs}
use Rattle.file_rules.specs.PartRules.{HasPartLists, part_rules}
use Rattle.file_rules.proofs.Public.{index_of_get, stream-there}
use Rattle.file_rules.specs.SectionRules.{section_fc}
use Rattle.doc_read.specs.Holds.{HoldsDocument, IsDocumentFrom}
use Rattle.doc_read.specs.Sections.{IsSectionProperties, HaveProperties}
use Rattle.doc_read.specs.Items.{HoldsTexts}
use Rattle.doc_read.specs.CarriedParts.{HoldsCarried}
use Rattle.fib_form.specs.TableEntries.{TableEntry}
use Rattle.save_laws.specs.Saves.{file_text}
use Rattle.save_laws.specs.Laws.{SavedDocumentsAreHeld, SavedFilesHold}
use Rattle.save_laws.proofs.PartsHeld.{head_cuts, note_cuts, sections_part, sheet_part, main_fields_part}
use Rattle.save_laws.proofs.PartsHeld.{note_fields_part, head_fields_part, refs_part, head_cuts_part, levels_part}
use Rattle.save_laws.proofs.SavedLemmas.{Save, the_source, part_is}
use Rattle.save_laws.proofs.PairLemmas.{pairs_hold}
use Rattle.save_laws.proofs.MarksHeld.{bookmarks_held}
use Rattle.save_laws.proofs.SectionRulesHeld.{sections_hold, bins_hold}
use Rattle.save_laws.proofs.ItemsHeld.{the_lists, the_maps, the_parts, main_held, notes_held, heads_held}
use Rattle.save_laws.proofs.FormatRulesHeld.{formats_hold}
use Rattle.save_laws.proofs.StoryRulesHeld.{fields_hold, notes_hold, heads_hold, ends_hold, notes_cut, notes_counted}
use Rattle.save_laws.proofs.StoryRulesHeld.{length-heads}
use Rattle.save_laws.proofs.ClxHeld.{saved_bounds, pieces_are, clx_holds}

-- ---- the rules

sheet_holds : (s : Save) → Hold (rules_of_sheet (the_source s))
sheet_holds s =
    let source = the_source s in
    hold_in Table (stsh_rules (table_part_bytes source Stshf) (part_place source Stshf))
    ((sheet_part s).rules (part_place source Stshf))

lists_hold : (s : Save) → Hold (rules_of_lists (the_source s))
lists_hold s = (levels_part s).rules

parts_hold : (s : Save) → Hold (part_rules (the_source s))
parts_hold s = (
  (sections_hold s, bins_hold s),
  (
    formats_hold s,
    (
      sheet_holds s,
      (fields_hold s, (notes_hold s, (heads_hold s, (ends_hold s, (lists_hold s, (bookmarks_held s).rules))))),
    ),
  ),
)

text_held : (s : Save) → HasFileText s.contents (file_text s.saved s.table)
text_held s = record { has_wd = s.is.has_wd; has_table = s.is.has_table; has_pieces = pieces_are s }

rules_hold : (s : Save) → Hold (contents_rules s.contents)
rules_hold s =
    let wd = s.saved.stream.wd in
    let name = table_stream_name wd in
    let text_len = text_length (fib_fields wd).ccps in
    let clx = clx_rules (clx_of wd s.table) (fib_pair wd (pair_number Clx)).0 (saved_bounds s) text_len in
    let loading : Hold (loading_rules s.contents) = (
      stream-there File s.contents wd_name wd 15 0 s.is.has_wd,
      (
        wd,
        (
          s.is.has_wd,
          (
            hold_in Wd (fib_rules wd) s.is.fib,
            (
              stream-there Wd s.contents name s.table 25 10 s.is.has_table,
              (
                s.table,
                (
                  s.is.has_table,
                  (
                    hold_in Wd (rule 26 (BreaksPairs wd (length s.table))) (pairs_hold s),
                    hold_in Table clx (clx_holds s),
                  ),
                ),
              ),
            ),
          ),
        ),
      ),
    ) in
    (loading, (file_text s.saved s.table, (text_held s, parts_hold s)))

-- ---- the document

lists_held : (s : Save) → HasPartLists (the_source s) (the_lists s)
lists_held s = record {
  has_sections = (sections_part s).has;
  has_sheet = (sheet_part s).held;
  has_main_fields = (main_fields_part s).has;
  has_note_fields = (note_fields_part s).has;
  has_head_fields = (head_fields_part s).has;
  has_refs = (refs_part s).has;
  has_notes = notes_cut s;
  has_heads = (head_cuts_part s).has;
  has_levels = (levels_part s).has;
  has_bookmarks = (bookmarks_held s).has;
}

properties_held : (s : Save) → HaveProperties s.saved.stream.wd s.saved.seds (the_maps s)
properties_held s =
    let sections = sections_of s.document.main in
    let wd = s.saved.stream.wd in
    let seds = s.saved.seds in
    let many = s.is.sections.properties.len in
    let second : ℕ × Properties → Properties = λ section. section.1 in
    record {
      len = length-map sections second ∙ sym many;
      each = λ k map here.
          let found = from_map second sections k map here in
          let sed = there_is seds k (omega (arith, slice_get_within sections k found.0 found.1.0, many)) in
          let has = s.is.sections.properties.each k sed.0 found.0 sed.1 found.1.0 in
          let fc : section_fc seds k ≡ sed.0.sepx = index_of_get (λ (x : Sed). x.sepx) seds k sed.0 sed.1 in
          subst (λ n. IsSectionProperties wd n map) (sym fc)
          (subst (λ m. IsSectionProperties wd sed.0.sepx m) found.1.1 has.is);
    }

carried_held : (s : Save) → HoldsCarried s.contents (the_source s) s.document.carried.levels s.document.carried
carried_held s =
    let carried = s.document.carried in
    let lst : TableEntry = record { number = pair_number PlfLst; bytes = carried.lst; behind = carried.levels } in
    record {
      fonts = sym (part_is s 7 SttbfFfn carried.fonts refl);
      dop = sym (part_is s 14 Dop carried.dop refl);
      assoc = sym (part_is s 15 SttbfAssoc carried.assoc refl);
      lst = sym (s.is.parts 17 lst refl).bytes;
      levels_are = refl;
      lfo = sym (part_is s 18 PlfLfo carried.lfo refl);
      clsid = s.is.clsid;
      lid = s.is.kept.lid;
      lid_fe = s.is.kept.lid_fe;
      flags = s.is.kept.flags;
      streams = s.is.streams;
    }

document_is : (s : Save) → IsDocumentFrom s.contents (file_text s.saved s.table) (the_lists s) s.document
document_is s = record {
  sections = the_maps s;
  has_sections = properties_held s;
  document_is = record {
    main = main_held s;
    notes =
        subst (λ n. HoldsTexts (the_parts s) (story_begin (the_source s) Notes) (note_cuts s) n s.document.notes)
        (notes_counted s) (notes_held s);
    heads =
        subst (λ n. HoldsTexts (the_parts s) (story_begin (the_source s) Heads) (head_cuts s) n s.document.heads)
        (length-heads s) (heads_held s);
    sheet = refl;
    carried = carried_held s;
    bookmarks = refl;
  };
}

pub saved_held : SavedDocumentsAreHeld
saved_held document saved table contents formed sound is =
    let s : Save = record {
      document = document;
      saved = saved;
      table = table;
      contents = contents;
      formed = formed;
      right = sound_is_valid document sound;
      is = is;
    } in
    record {
      rules = rules_hold s;
      has_text = text_held s;
      lists = the_lists s;
      has_lists = lists_held s;
      document_is = document_is s;
    }

-- ---- the file

pub files_hold : SavedFilesHold
files_hold file document saved table contents formed sound is of =
    let held = saved_held document saved table contents formed sound is in
    let rules : Hold (file_rules file) =
    (hold_in File (container_rules file) of.rules, (contents, (of.has_contents, held.rules))) in
    let holds : HoldsDocument file document = record {
      rules = rules;
      parts = record {
        contents = contents;
        text = file_text saved table;
        lists = held.lists;
        sections = held.document_is.sections;
      };
      has_parts = record {
        has_contents = of.has_contents;
        has_text = held.has_text;
        has_lists = held.has_lists;
        has_sections = held.document_is.has_sections;
      };
      document_is = held.document_is.document_is;
    } in
    record {
      accepted = (rules, (document, (holds, sound.rules)));
      holds = holds;
      contents_are = refl;
      text_is = refl;
    }
