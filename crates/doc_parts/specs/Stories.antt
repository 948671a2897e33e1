-- [MS-DOC] PlcffndRef, PlcffndTxt and PlcfHdd: the references to notes, and the CPs that cut a story into its texts.
use Rattle.std.specs.Prelude.{ℕ, List, [], Some, true, false, not, ◌==◌, if◌then◌else◌, map, ◌<◌, ◌^◌}
use Rattle.doc_bits.specs.Number.{u16_at, number_bytes}
use Rattle.doc_bits.specs.Rules.{Rules, rule, Hold}
use Rattle.doc_parts.specs.declared.lists.NoteRef.{NoteRef}
use Rattle.doc_parts.specs.declared.cps.CpForm.{CpForm}
use Rattle.doc_parts.specs.declared.cps.CpOrder.TheVariants.{Ascend, NeverFall}
use Rattle.doc_parts.specs.Cps.{AreCpsInOrder}
use Rattle.doc_parts.specs.Table.{EntryForm, plc_part, BreaksTable, AreTableEntries, IsOnly, printed_entries}

-- [MS-DOC] FRD: a 16-bit number, 0 where the note has a mark of its own. Profile: another one is written 1.
abbrev pub ref_form : EntryForm NoteRef
ref_form = record {
  size = 2;
  cp_of = λ reference. reference.cp;
  bytes_of = λ reference. number_bytes 2 (if reference.auto then 1 else 0);
  read_from = λ cp bytes. Some (record { cp = cp; auto = not (u16_at bytes 0 == 0) });
}

-- the CPs ascend and are below the length of the main text
abbrev pub ref_cps : ℕ → CpForm
ref_cps main_len = record { order = Ascend; from_zero = false; story_len = main_len }

-- the references' part of rule 53
abbrev pub ref_rules : List ℕ → ℕ → ℕ → Rules ℕ
ref_rules plc at main_len = rule 53 (BreaksTable ref_form (ref_cps main_len) plc at)

-- the list has the references of the part
abbrev pub AreRefs : List ℕ → ℕ → List NoteRef → Type 0
AreRefs plc main_len list = AreTableEntries ref_form (ref_cps main_len) (plc_part 2 plc) list

-- the part as it is printed
abbrev pub printed_refs : List NoteRef → ℕ → List ℕ
printed_refs = printed_entries ref_form

-- references in order are printed without a broken rule, and they alone are read back
abbrev pub RefsAreReadBack : Type 0
RefsAreReadBack =
    (list : List NoteRef) (at main_len : ℕ) →
    main_len < 2 ^ 32 → AreCpsInOrder (ref_cps main_len) (map (λ reference. reference.cp) list) →
    let bytes = printed_refs list main_len in
    Hold (ref_rules bytes at main_len) × IsOnly (AreRefs bytes main_len) list

-- a CP alone
abbrev pub cut_form : EntryForm ℕ
cut_form = record { size = 0; cp_of = λ cp. cp; bytes_of = λ cp. []; read_from = λ cp bytes. Some cp }

-- the CPs begin with 0, never fall, and are at most the length of the story
abbrev pub cut_cps : ℕ → CpForm
cut_cps story_len = record { order = NeverFall; from_zero = true; story_len = story_len }

-- the part of rule 53 or 54 on the CPs of the texts, but for their number
abbrev pub cut_rules : ℕ → List ℕ → ℕ → ℕ → Rules ℕ
cut_rules number plc at story_len = rule number (BreaksTable cut_form (cut_cps story_len) plc at)

-- the list has the CPs of the part, all but the last
abbrev pub AreCuts : List ℕ → ℕ → List ℕ → Type 0
AreCuts plc story_len list = AreTableEntries cut_form (cut_cps story_len) (plc_part 0 plc) list

-- the part as it is printed
abbrev pub printed_texts : List ℕ → ℕ → List ℕ
printed_texts = printed_entries cut_form

-- CPs of texts in order are printed without a broken rule, and they alone are read back
abbrev pub CutsAreReadBack : Type 0
CutsAreReadBack =
    (number : ℕ) (list : List ℕ) (at story_len : ℕ) → story_len < 2 ^ 32 → AreCpsInOrder (cut_cps story_len) list →
    let bytes = printed_texts list story_len in
    Hold (cut_rules number bytes at story_len) × IsOnly (AreCuts bytes story_len) list
