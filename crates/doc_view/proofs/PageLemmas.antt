-- A page that is put whole.
use Rattle.std.proofs.Common.{◌≡◌, ◌≢◌, ℕ, Bool, true, false, List, [], ◌++◌, refl, sym, subst, inl, inr}
use Rattle.std.proofs.Common.{append-nil, arith, Some, None, length, Result, Ok, Err}
use Rattle.std.specs.Prelude.{encode_utf8_all, ◌==◌, OnOk, OnErr}
use Rattle.std.proofs.lemmas.Bool.Decides.{nat_tests}
use Rattle.prop_map.specs.Settings.{Properties}
use Rattle.style_sheet.specs.Sheet.{Sheet}
use Rattle.style_sheet.specs.Chain.{style_kind_at, HasSoundBases}
use Rattle.doc_outer.specs.Counts.{Rose, CountGoesOn}
use Rattle.doc_outer.specs.Written.{Appends, AppendsPrefix}
use Rattle.doc_outer.specs.declared.sink.Sink.{Ghosts}
use Rattle.doc_outer.proofs.Public.{Sends-ends}
use Rattle.char_formats.specs.declared.format.CharFormat.{CharFormat}
use Rattle.char_formats.specs.Formats.{IsCharFormat, format_in}
use Rattle.char_formats.proofs.Public.{format_there}
use Rattle.page_out.specs.declared.page.Page.{Page}
use Rattle.list_numbers.specs.declared.paragraph_values.ParagraphValues.{ParagraphValues}
use Rattle.list_numbers.specs.ParagraphValues.{AreParagraphValuesOf}
use Rattle.doc_view.specs.Page.{AreFormats, IsPage, page_text}
use Rattle.page_out.specs.Printed.{FailsIn, Prints, PrintsBytes}
use Rattle.doc_view.specs.declared.view.Options.{Options}
use Rattle.doc_bits.specs.declared.places.Where.{Where}
use Rattle.doc_model.specs.declared.document.Document.{Document}
use Rattle.doc_model.specs.declared.item.Item.{Item}
use Rattle.plain_doc.specs.RightDocument.{HoldsAtItems}
use Rattle.plain_doc.specs.RulesOfSheet.{note_count}
use Rattle.plain_doc.specs.RulesOfTexts.{HasParagraphStyle, text_of_place}
use Rattle.plain_doc.specs.Sound.{IsSound}
use Rattle.plain_doc.proofs.Public.{sound_is_valid}
use Rattle.doc_view.specs.Seen.{Formats}
use Rattle.page_out.proofs.Public.{failed_before, failed_behind, flag_cases}

-- what was put at first is what the sink has taken at the end
pub whole_page : {K : Type 0} (sink : Ghosts K) (a b c : K) (p q : Page) (bytes : List ℕ) → p.block ≡ [] →
    PrintsBytes sink a p b q bytes → q.failed ≡ false → Appends (sink.written b) (sink.written c) q.block →
    Appends (sink.written a) (sink.written c) bytes
whole_page sink a b c p q bytes empty put right ends =
    subst (λ (block : List ℕ). Appends (sink.written a) (sink.written c) (block ++ bytes)) empty
    (Sends-ends (sink.written a) (sink.written b) (sink.written c) p.block bytes q.block (put.ok right).sends ends)

-- a sink that failed has taken a prefix of it
pub failed_page : {K : Type 0} (sink : Ghosts K) (a b c : K) (p q : Page) (bytes : List ℕ) → p.failed ≡ false →
    PrintsBytes sink a p b q bytes → (q.failed ≡ false → FailsIn sink b q c []) →
    (q.failed ≡ true → sink.written c ≡ sink.written b) → CountGoesOn (sink.faults b) (sink.faults c) →
    FailsIn sink a p c (bytes ++ [])
failed_page sink a b c p q bytes right put fails stays on = elim (flag_cases q.failed) [
  | inl failed ↦ failed_before sink a b c p bytes [] (put.fails right failed) (stays failed) on
  | inr fine ↦ failed_behind sink a b c p q bytes [] (put.ok fine) put.faults (fails fine)
]

pub prefix_page : {K : Type 0} (sink : Ghosts K) (a c : K) (p : Page) (bytes : List ℕ) → p.block ≡ [] →
    FailsIn sink a p c (bytes ++ []) → AppendsPrefix (sink.written a) (sink.written c) bytes
prefix_page sink a c p bytes empty fails =
    subst (λ (all : List ℕ). AppendsPrefix (sink.written a) (sink.written c) all)
    ((λ i. empty i ++ append-nil bytes i)) fails.prefix

-- ---- formats

there : (sheet : Sheet) (istd : ℕ) (direct : Properties) → HasSoundBases sheet → style_kind_at sheet istd ≡ 1 →
    (format : CharFormat) × IsCharFormat sheet istd direct format
there sheet istd direct bases kind = format_there sheet istd direct bases kind

pub is_one : (n : ℕ) → (n == 1) ≡ true → n ≡ 1
is_one n is = grind (arith, nat_tests)

pub is_other : (n : ℕ) → (n == 1) ≡ false → n ≢ 1
is_other n is = λ same. absurd (grind (arith, nat_tests))

format_or : (sheet : Sheet) → HasSoundBases sheet → (istd : ℕ) (direct : Properties) (is_paragraph : Bool) →
    (style_kind_at sheet istd == 1) ≡ is_paragraph → CharFormat
format_or sheet bases istd direct true is = (there sheet istd direct bases (is_one (style_kind_at sheet istd) is)).0
format_or sheet bases istd direct false is = format_in None (λ code. None)

right_or : (sheet : Sheet) (bases : HasSoundBases sheet) (istd : ℕ) (direct : Properties) (is_paragraph : Bool)
    (is : (style_kind_at sheet istd == 1) ≡ is_paragraph) → style_kind_at sheet istd ≡ 1 →
    IsCharFormat sheet istd direct (format_or sheet bases istd direct is_paragraph is)
unfolding format_or
right_or sheet bases istd direct true is kind = (there sheet istd direct bases (is_one (style_kind_at sheet istd) is)).1
right_or sheet bases istd direct false is kind = absurd (is_other (style_kind_at sheet istd) is kind)

none_or : (sheet : Sheet) (bases : HasSoundBases sheet) (istd : ℕ) (direct : Properties) (is_paragraph : Bool)
    (is : (style_kind_at sheet istd == 1) ≡ is_paragraph) → style_kind_at sheet istd ≢ 1 →
    format_or sheet bases istd direct is_paragraph is ≡ format_in None (λ code. None)
unfolding format_or
none_or sheet bases istd direct true is other = absurd (other (is_one (style_kind_at sheet istd) is))
none_or sheet bases istd direct false is other = refl

-- there are formats of a sheet
pub formats_there : (sheet : Sheet) → HasSoundBases sheet → (formats : Formats) × AreFormats sheet formats
formats_there sheet bases = (
  λ istd direct. format_or sheet bases istd direct (style_kind_at sheet istd == 1) refl,
  record {
    right = λ istd direct kind. right_or sheet bases istd direct (style_kind_at sheet istd == 1) refl kind;
    none = λ istd direct other. none_or sheet bases istd direct (style_kind_at sheet istd == 1) refl other;
  },
)

-- ---- what a sound document says

pub sound_normal : (document : Document) (sheet : Sheet) → IsSound document → sheet ≡ document.sheet → style_kind_at
    sheet 0 ≡ 1
sound_normal document sheet sound is =
    subst (λ (s : Sheet). style_kind_at s 0 ≡ 1) (sym is) (sound_is_valid document sound).bases.normal

pub sound_styles : (document : Document) (sheet : Sheet) (part : Where) (text : List Item) → IsSound document →
    sheet ≡ document.sheet → text_of_place document part ≡ Some text →
    HoldsAtItems text (λ i item. HasParagraphStyle sheet item)
sound_styles document sheet part text sound is there =
    subst (λ (s : Sheet). HoldsAtItems text (λ i item. HasParagraphStyle s item)) (sym is)
    ((sound_is_valid document sound).texts part text there).styles

-- as many notes as references
pub sound_room : (document : Document) → IsSound document → length document.notes ≡ note_count document.main
sound_room document sound = (sound_is_valid document sound).notes

-- ---- the page

pub page_ok : {K E : Type 0} (sink : Ghosts K) (a b c : K) (p q : Page) (document : Document) (values : List ParagraphValues)
    (options : Options) (taken : Result (Unit {0}) E) → AreParagraphValuesOf document values → IsSound document → p.block ≡ [] → p.failed ≡ false →
    ((formats : Formats) → AreFormats document.sheet formats → Prints sink a p b q (page_text formats values options document)) →
    OnOk taken (q.failed ≡ false) → OnOk taken (Appends (sink.written b) (sink.written c) q.block) →
    OnOk taken ((bytes : List ℕ) × (IsPage options document bytes × Appends (sink.written a) (sink.written c) bytes))
page_ok sink a b c p q document values options (Err e) are sound empty right put fine ends = tt
page_ok sink a b c p q document values options (Ok u) are sound empty right put fine ends =
    let there = formats_there document.sheet (sound_is_valid document sound).bases in
    let bytes = encode_utf8_all (page_text there.0 values options document) in (
      bytes,
      (
        record { formats = there.0; are = there.1; values = values; are_values = are; text = refl },
        whole_page sink a b c p q bytes empty (put there.0 there.1) fine ends,
      ),
    )

pub page_prefix : {K E : Type 0} (sink : Ghosts K) (a b c : K) (p q : Page) (document : Document) (values : List ParagraphValues)
    (options : Options) (taken : Result (Unit {0}) E) → AreParagraphValuesOf document values → IsSound document → p.block ≡ [] → p.failed ≡ false →
    ((formats : Formats) → AreFormats document.sheet formats → Prints sink a p b q (page_text formats values options document)) →
    OnErr taken (q.failed ≡ false → FailsIn sink b q c []) →
    OnErr taken (q.failed ≡ true → sink.written c ≡ sink.written b) → CountGoesOn (sink.faults b) (sink.faults c) →
    OnErr taken ((bytes : List ℕ) × (IsPage options document bytes
    × AppendsPrefix (sink.written a) (sink.written c) bytes))
page_prefix sink a b c p q document values options (Ok u) are sound empty right put fails stays on = tt
page_prefix sink a b c p q document values options (Err e) are sound empty right put fails stays on =
    let there = formats_there document.sheet (sound_is_valid document sound).bases in
    let bytes = encode_utf8_all (page_text there.0 values options document) in (
      bytes,
      (
        record { formats = there.0; are = there.1; values = values; are_values = are; text = refl },
        prefix_page sink a c p bytes empty (failed_page sink a b c p q bytes right (put there.0 there.1) fails stays on),
      ),
    )

pub page_rose : {K E : Type 0} (sink : Ghosts K) (a b c : K) (p q : Page) (document : Document) (values : List ParagraphValues)
    (options : Options) (taken : Result (Unit {0}) E) → AreParagraphValuesOf document values → IsSound document → p.failed ≡ false →
    ((formats : Formats) → AreFormats document.sheet formats → Prints sink a p b q (page_text formats values options document)) →
    OnErr taken (q.failed ≡ false → FailsIn sink b q c []) →
    OnErr taken (q.failed ≡ true → sink.written c ≡ sink.written b) → CountGoesOn (sink.faults b) (sink.faults c) →
    OnErr taken (Rose (sink.faults a) (sink.faults c))
page_rose sink a b c p q document values options (Ok u) are sound right put fails stays on = tt
page_rose sink a b c p q document values options (Err e) are sound right put fails stays on =
    let there = formats_there document.sheet (sound_is_valid document sound).bases in
    let bytes = encode_utf8_all (page_text there.0 values options document) in
    (failed_page sink a b c p q bytes right (put there.0 there.1) fails stays on).rose
