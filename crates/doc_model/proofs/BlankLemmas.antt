-- The parts of the blank document are well formed; lists of one entry many times.
use Rattle.std.specs.Prelude.{slice_index}
use Rattle.std.proofs.Common.{ℕ, inl, inr, length, refl, ap, subst, arith, ◌≡◌, ◌∙◌, ◌+◌, ◌^◌, ◌<◌, List, [], ◌∷◌}
use Rattle.std.proofs.Common.{◌++◌, true, Option, Some, None, replicate, codes}
use Rattle.std.specs.List.{All, list_all}
use Rattle.std.specs.Option.{unwrap_or}
use Rattle.std.specs.FinMap.{empty}
use Rattle.std.proofs.Math.Dec.{ltb}
use Rattle.std.proofs.lemmas.Bool.{cases_lt, ltb-true}
use Rattle.std.proofs.lemmas.List.{get_or_past, replicate-append-replicate, append_assoc}
use Rattle.std.proofs.lemmas.List.Elements.{All-append, All-nil, All-cons, All-replicate}
use Rattle.std.proofs.lemmas.List.Sums.{AllPass-from_list_all}
use Rattle.prop_map.specs.Formed.{IsPropertyMap, character_groups, paragraph_groups, section_groups}
use Rattle.prop_map.proofs.Public.{IsPropertyMap-empty, stay_formed}
use Rattle.style_sheet.specs.declared.styles.Style.{Style}
use Rattle.style_sheet.specs.Sheet.{Sheet}
use Rattle.cfb_streams.specs.Contents.{AreStreams}
use Rattle.style_sheet.specs.Formed.{IsFormedStyle, IsFormedSlot, IsFormedSheet}
use Rattle.document_bookmarks.specs.Bookmarks.{HasFileNumbers}
use Rattle.doc_model.specs.Document.{HasPropertyMaps, IsFormedItem, IsFormedText}
use Rattle.doc_model.specs.NothingCarried.{empty_parts_are_short, no_lists, no_flags, no_streams}
use Rattle.doc_model.specs.Blank.{blank_item, one_property, normal_style, heading_style, default_font_style}
use Rattle.doc_model.specs.Blank.{blank_sheet, word_clsid, blank_carried, blank_document}
use Rattle.doc_bits.specs.Number.{AreBytes}
use Rattle.doc_bits.proofs.Public.{no_bytes, one_byte}
use Rattle.doc_model.specs.Formed.{carried_parts, IsFormed}
use Rattle.doc_model.proofs.FormedLemmas.{All-one, HasPropertyMaps-from_parts}

-- ---- lists

-- one entry more
pub replicate_more : {X : Type 0} (k : ℕ) (x : X) → replicate k x ++ x ∷ [] ≡ replicate (k + 1) x
replicate_more k x = replicate-append-replicate k 1 x

-- one empty slot more
pub slots_more : (sheet more new : Sheet) (k : ℕ) →
    more ≡ record { head = sheet.head; styles = sheet.styles ++ replicate k None }
    → new ≡ record { head = more.head; styles = more.styles ++ None ∷ [] } →
    new ≡ record { head = sheet.head; styles = sheet.styles ++ replicate (k + 1) None }
slots_more sheet more new k so_far is =
    let styles : more.styles ++ None ∷ [] ≡ sheet.styles ++ replicate (k + 1) None =
    ap (λ m. m.styles ++ None ∷ []) so_far ∙ append_assoc sheet.styles (replicate k None) (None ∷ [])
    ∙ ap (λ slots. sheet.styles ++ slots) (replicate_more k None) in
    is ∙ (λ i. record { head = (so_far i).head; styles = styles i })

-- numbers that a test finds to have 16 bits
pub are_words : (xs : List ℕ) → list_all (λ x. ltb x 65536) xs ≡ true → All (λ x. x < 65536) xs
are_words xs tested k d below = ltb-true _ _ (AllPass-from_list_all (λ x. ltb x 65536) xs tested k d below)

-- ---- the paragraph

pub blank_item_maps : HasPropertyMaps blank_item
blank_item_maps =
    HasPropertyMaps-from_parts blank_item (IsPropertyMap-empty character_groups)
    (IsPropertyMap-empty paragraph_groups) (IsPropertyMap-empty section_groups)

-- ---- the styles

pub outline_level : IsPropertyMap paragraph_groups (one_property 0x2640 0)
outline_level =
    stay_formed paragraph_groups empty (0x2640, 0 ∷ []) (IsPropertyMap-empty paragraph_groups)
    (record {
      property = record {
        entry = record { some = omega arith; word = omega arith; size = refl };
        held = refl;
        sets = refl;
      };
      bytes = one_byte 0 (omega arith);
    })

pub bold : IsPropertyMap character_groups (one_property 0x0835 1)
bold =
    stay_formed character_groups empty (0x0835, 1 ∷ []) (IsPropertyMap-empty character_groups)
    (record {
      property = record {
        entry = record { some = omega arith; word = omega arith; size = refl };
        held = refl;
        sets = refl;
      };
      bytes = one_byte 1 (omega arith);
    })

pub normal_is_formed : IsFormedStyle normal_style
normal_is_formed =
    record {
      sti = omega arith;
      flags = omega arith;
      base = tt;
      next = omega arith;
      grfstd = omega arith;
      name = are_words (codes "Normal") refl;
      kind = (IsPropertyMap-empty paragraph_groups, IsPropertyMap-empty character_groups);
    }

pub heading_is_formed : IsFormedStyle heading_style
heading_is_formed =
    record {
      sti = omega arith;
      flags = omega arith;
      base = omega arith;
      next = omega arith;
      grfstd = omega arith;
      name = are_words (codes "heading 1") refl;
      kind = (outline_level, bold);
    }

pub default_font_is_formed : IsFormedStyle default_font_style
default_font_is_formed =
    record {
      sti = omega arith;
      flags = omega arith;
      base = tt;
      next = omega arith;
      grfstd = omega arith;
      name = are_words (codes "Default Paragraph Font") refl;
      kind = IsPropertyMap-empty character_groups;
    }

-- ---- the document

pub blank_slots_are_formed : All IsFormedSlot blank_sheet.styles
blank_slots_are_formed =
    let last : List (Option Style) = Some default_font_style ∷ replicate 4 None in
    let rest : List (Option Style) = replicate 8 None ++ last in
    All-cons IsFormedSlot (Some normal_style) (Some heading_style ∷ rest) normal_is_formed
    (All-cons IsFormedSlot (Some heading_style) rest heading_is_formed
    (All-append IsFormedSlot (replicate 8 None) last (All-replicate IsFormedSlot 8 None tt)
    (All-cons IsFormedSlot (Some default_font_style) (replicate 4 None) default_font_is_formed
    (All-replicate IsFormedSlot 4 None tt))))

pub blank_sheet_is_formed : IsFormedSheet blank_sheet
blank_sheet_is_formed =
    record {
      head = refl;
      words = are_words blank_sheet.head refl;
      some = omega arith;
      few = omega arith;
      styles = blank_slots_are_formed;
    }

pub blank_item_is_formed : IsFormedItem blank_item
blank_item_is_formed =
    record {
      maps = blank_item_maps;
      unit = omega arith;
      style = λ mark is. subst (λ m. m.istd < 2 ^ 16) (ap (λ o. unwrap_or o mark) is) (omega arith);
      field = λ byte is. absurd (grind (arith, is));
    }

pub no_streams_are_streams : AreStreams []
no_streams_are_streams =
    record {
      some = λ i s here. absurd (grind (arith, here));
      short = λ i s here. absurd (grind (arith, here));
      order = λ i j s t less here there. absurd (grind (arith, here));
      total = omega arith;
    }

-- numbers that a test finds to have 8 bits
are_bytes : (xs : List ℕ) → list_all (λ x. ltb x 256) xs ≡ true → AreBytes xs
are_bytes xs tested i = elim (cases_lt i (length xs)) [
  | inl below ↦ ltb-true _ _ (AllPass-from_list_all (λ x. ltb x 256) xs tested i 0 below)
  | inr past ↦ let none : slice_index xs i ≡ 0 = get_or_past xs i 0 past in omega (arith, none)
]

blank_bytes : All AreBytes (word_clsid ∷ carried_parts blank_carried)
blank_bytes =
    All-cons AreBytes word_clsid (carried_parts blank_carried) (are_bytes word_clsid refl)
    (All-replicate AreBytes 6 [] no_bytes)

pub blank_document_is_formed : IsFormed blank_document
blank_document_is_formed =
    record {
      main = record { few = omega arith; each = All-one IsFormedItem blank_item blank_item_is_formed };
      notes = record { few = omega arith; each = All-nil IsFormedText };
      heads =
          record {
            few = omega arith;
            each = All-replicate IsFormedText 12 []
                (record { few = omega arith; each = All-nil IsFormedItem });
          };
      sheet = blank_sheet_is_formed;
      bookmarks = All-nil HasFileNumbers;
      carried = record {
        parts = empty_parts_are_short;
        bytes = blank_bytes;
        lists = no_lists;
        clsid = refl;
        languages = (omega arith, omega arith);
        flags = no_flags;
        ordered = no_streams_are_streams;
        stored = λ i s here. absurd (grind (arith, here));
        streams = no_streams;
      };
    }
