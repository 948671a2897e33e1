-- [MS-DOC] PlcfSed: the sections of the main text. Section k begins at CP k, and its Sed has fcSepx at 2.
use Rattle.std.specs.Prelude.{◌⊎◌, ℕ, ◌+◌, ◌*◌, ◌<◌, ◌≤◌, ◌^◌, List, ◌++◌, length, map, Some, true, replicate, All}
use Rattle.doc_bits.specs.Number.{u16_at, u32_at, number_bytes}
use Rattle.doc_bits.specs.Plc.{PlcPart}
use Rattle.doc_bits.specs.Rules.{Rules, rule, Hold}
use Rattle.doc_parts.specs.declared.lists.Sed.{Sed}
use Rattle.doc_parts.specs.declared.cps.CpForm.{CpForm}
use Rattle.doc_parts.specs.declared.cps.CpOrder.TheVariants.{Ascend}
use Rattle.doc_parts.specs.Cps.{AreCpsInOrder}
use Rattle.doc_parts.specs.Table.{EntryForm, plc_part, IsWholePlc, IsMalformedPart, HasWrongEntry, AreTableEntries}
use Rattle.doc_parts.specs.Table.{IsOnly}
use Rattle.doc_parts.specs.Table.{printed_entries}

-- [MS-DOC] Sed: 12 bytes with fcSepx at 2. Profile: the other bytes are not read, and written 0.
abbrev pub sed_form : EntryForm Sed
sed_form = record {
  size = 12;
  cp_of = λ sed. sed.start;
  bytes_of = λ sed. replicate 2 0 ++ (number_bytes 4 sed.sepx ++ replicate 6 0);
  read_from = λ cp bytes. Some (record { start = cp; sepx = u32_at bytes 2 });
}

-- the place of fcSepx of a section in the table stream
abbrev pub place_of_fc_sepx : ℕ → ℕ → ℕ → ℕ
place_of_fc_sepx at count k = at + 4 * (count + 1) + 12 * k + 2

-- the sections begin with CP 0, ascend, and begin below the length of the main text
abbrev pub sed_cps : ℕ → CpForm
sed_cps main_len = record { order = Ascend; from_zero = true; story_len = main_len }

-- at least one section
abbrev pub IsSedTable : PlcPart → Type 0
IsSedTable table = IsWholePlc table × (1 ≤ table.count)

-- rule 33
abbrev pub section_rules : List ℕ → ℕ → ℕ → Rules ℕ
section_rules plc at main_len =
    let table = plc_part 12 plc in
    rule 33 (λ place. IsMalformedPart (IsSedTable table) at place ⊎ HasWrongEntry sed_form (sed_cps main_len) table at
    place)

-- the list has the sections of the part
abbrev pub AreSections : List ℕ → ℕ → List Sed → Type 0
AreSections plc main_len list = AreTableEntries sed_form (sed_cps main_len) (plc_part 12 plc) list

-- the part as it is printed
abbrev pub printed_sections : List Sed → ℕ → List ℕ
printed_sections = printed_entries sed_form

-- [MS-DOC] Sepx: a 16-bit count and the list. Profile: none is in the first 1,024 bytes (rule 35).
pub record HasSepx (wd : List ℕ) (fc : ℕ) : Type 0 where
  pub after_fib : 1024 ≤ fc
  pub within : fc + 2 + u16_at wd fc ≤ length wd

-- fcSepx of each section has 32 bits
abbrev pub HaveFileNumbers : List Sed → Type 0
HaveFileNumbers list = All (λ sed. sed.sepx < 2 ^ 32) list

-- the sections break no part of their rule in a main text of this length, and their numbers have 32 bits
pub record ArePrintableSections (list : List Sed) (main_len : ℕ) : Type 0 where
  pub some : 0 < length list
  pub in_order : AreCpsInOrder (sed_cps main_len) (map (λ sed. sed.start) list)
  pub numbers : HaveFileNumbers list

-- printed sections break no rule, and they alone are read back
abbrev pub SectionsAreReadBack : Type 0
SectionsAreReadBack =
    (list : List Sed) (at main_len : ℕ) →
    main_len < 2 ^ 32 → ArePrintableSections list main_len →
    let bytes = printed_sections list main_len in
    Hold (section_rules bytes at main_len) × IsOnly (AreSections bytes main_len) list
