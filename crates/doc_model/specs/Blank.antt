-- The blank document: one paragraph and one section, three styles, and no text in twelve headers.
use Rattle.std.specs.Prelude.{ℕ, List, [], ◌∷◌, ◌++◌, replicate, codes, Some, None}
use Rattle.std.specs.FinMap.{insert, empty}
use Rattle.text_codes.specs.Paragraph.{paragraph_mark}
use Rattle.prop_map.specs.Settings.{Properties}
use Rattle.style_sheet.specs.declared.styles.Style.{Style}
use Rattle.style_sheet.specs.declared.styles.Kind.TheVariants.{Para, Char}
use Rattle.style_sheet.specs.Sheet.{Sheet}
use Rattle.doc_model.specs.declared.item.Item.{Item}
use Rattle.doc_model.specs.declared.carried.Carried.{Carried}
use Rattle.doc_model.specs.declared.document.Document.{Document}
use Rattle.doc_model.specs.NothingCarried.{empty_parts_are_short, no_lists, no_flags, no_streams}

-- the mark of a paragraph of style 0, which ends a section too
abbrev pub blank_item : Item
blank_item = record {
  unit = paragraph_mark;
  chp = empty;
  mark = Some (record { istd = 0; pap = empty });
  sect = Some empty;
  fld = None;
  note = None;
}

-- [MS-DOC] sprmPOutLvl 2640, sprmCFBold 0835
abbrev pub one_property : ℕ → ℕ → Properties
one_property code byte = insert empty code (byte ∷ [])

abbrev pub normal_style : Style
normal_style = record {
  sti = 0;
  flags = 0;
  base = None;
  next = 0;
  grfstd = 0;
  name = codes "Normal";
  kind = Para empty empty;
}

abbrev pub heading_style : Style
heading_style = record {
  sti = 1;
  flags = 0;
  base = Some 0;
  next = 0;
  grfstd = 0;
  name = codes "heading 1";
  kind = Para (one_property 0x2640 0) (one_property 0x0835 1);
}

abbrev pub default_font_style : Style
default_font_style = record {
  sti = 65;
  flags = 0;
  base = None;
  next = 0;
  grfstd = 0;
  name = codes "Default Paragraph Font";
  kind = Char empty;
}

-- flags 1, stiMax 91, istdMaxFixed 15, nVer and the fonts 0; 15 slots, with styles in 0, 1 and 10
abbrev pub blank_sheet : Sheet
blank_sheet = record {
  head = 1 ∷ 91 ∷ 15 ∷ 0 ∷ 0 ∷ 0 ∷ 0 ∷ [];
  styles = Some normal_style ∷ Some heading_style ∷ replicate 8 None ++ Some default_font_style ∷ replicate 4 None;
}

-- the CLSID of documents of Word 97
abbrev pub word_clsid : List ℕ
word_clsid = 0x06 ∷ 0x09 ∷ 0x02 ∷ 0 ∷ 0 ∷ 0 ∷ 0 ∷ 0 ∷ 0xC0 ∷ 0 ∷ 0 ∷ 0 ∷ 0 ∷ 0 ∷ 0 ∷ 0x46 ∷ []

abbrev pub blank_carried : Carried
blank_carried = record {
  fonts = [];
  dop = [];
  assoc = [];
  lst = [];
  levels = [];
  lfo = [];
  clsid = word_clsid;
  lid = 0x0409;
  lid_fe = 0;
  flags = 0;
  streams = [];
  short = empty_parts_are_short;
  lists = no_lists;
  kept = no_flags;
  others = no_streams;
}

abbrev pub blank_document : Document
blank_document = record {
  main = blank_item ∷ [];
  notes = [];
  heads = replicate 12 [];
  sheet = blank_sheet;
  carried = blank_carried;
  bookmarks = [];
}
