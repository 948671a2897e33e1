-- A document that breaks no rule has no mends.
use Rattle.std.proofs.Common.{◌≡◌, ◌∙◌, sym, ap, refl, subst, ℕ, zero, suc, ◌<◌, ◌==◌, inl, inr}
use Rattle.std.proofs.Common.{Bool, true, false, List, [], ◌∷◌, ◌++◌, length, map, arith, Option, Some, None, slice_get}
use Rattle.std.specs.Prelude.{◌&&◌, ◌||◌, not, nat_lt, option_map, if◌then◌else◌}
use Rattle.std.specs.Option.{option_and_then, unwrap_or}
use Rattle.std.proofs.lemmas.Bool.{eq-eqb}
use Rattle.std.proofs.lemmas.Option.{same_Some}
use Rattle.std.proofs.lemmas.List.Elements.{All-head}
use Rattle.doc_bits.proofs.Public.{there_is, and_false, or_first}
use Rattle.doc_bits.specs.declared.places.Where.{Where}
use Rattle.doc_bits.specs.declared.places.Where.TheVariants as places
use Rattle.doc_bits.specs.declared.places.Story.{Story}
use Rattle.doc_bits.specs.declared.places.Story.TheVariants.{Main}
use Rattle.text_codes.specs.Paragraph.{paragraph_mark}
use Rattle.style_sheet.specs.Sheet.{Sheet}
use Rattle.style_sheet.specs.Chain.{style_kind_at, base_at, HasNoChain, HasSoundBases}
use Rattle.style_sheet.proofs.Public.{climbed_none, next_kind}
use Rattle.doc_model.specs.declared.item.Item.{Item}
use Rattle.doc_model.specs.declared.item.Mark.{Mark}
use Rattle.doc_model.specs.declared.document.Document.{Document}
use Rattle.plain_doc.specs.declared.rules_texts.Side.{Side}
use Rattle.plain_doc.specs.declared.rules_texts.Side.TheVariants.{Notes, Heads}
use Rattle.plain_doc.specs.Sound.{IsSound}
use Rattle.plain_doc.specs.RulesOfTexts.{EndsRight, IsHead, HasParagraphStyle}
use Rattle.plain_doc.specs.RightDocument.{HoldsAtItems, IsValidDocument}
use Rattle.plain_doc.proofs.Public.{sound_is_valid}
use Rattle.doc_mends.specs.declared.mends.WrongMark.{WrongMark}
use Rattle.doc_mends.specs.declared.mends.BrokenRow.{BrokenRow}
use Rattle.doc_mends.specs.declared.mends.Mend.{Mend}
use Rattle.text_losses.specs.declared.features.Reference.{Reference}
use Rattle.doc_losses.specs.References.{Names, references}
use Rattle.doc_mends.specs.declared.mends.Mend.TheVariants.{DropBase, NormalMark, PlainRow, CutReference, EndText}
use Rattle.doc_mends.specs.Sides.{side_name}
use Rattle.doc_mends.specs.Bases.{is_other_kind, has_other_base, other_bases, bases_dropped, AreEndless, IsDropOf}
use Rattle.doc_mends.specs.Bases.{DropsBases}
use Rattle.doc_mends.specs.NormalMarks.{with_normal_marks, wrong_mark, wrong_mark_at, text_wrong_marks}
use Rattle.doc_mends.specs.NormalMarks.{texts_wrong_marks, wrong_marks}
use Rattle.doc_mends.specs.Ends.{is_ending, is_ended, is_heads, last_item, with_end, with_ends, open_text, open_texts}
use Rattle.doc_mends.specs.Ends.{open_stories}
use Rattle.doc_mends.specs.BrokenRows.{broken_rows}
use Rattle.doc_mends.specs.PlainRows.{with_plain_rows}
use Rattle.doc_mends.specs.Cuts.{references_cut}
use Rattle.doc_mends.specs.Mending.{mended_in_place, mends_in_place, mends_of_texts, SoundHasNoMends}
use Rattle.doc_losses.proofs.Public.{none_kept, nothing_listed, nothing_joined}
use Rattle.doc_mends.proofs.TextLemmas.{same_map}
use Rattle.doc_mends.proofs.NormalLemmas.{right_document}
use Rattle.doc_mends.proofs.TableLemmas.{document_stays}
use Rattle.doc_mends.proofs.FitRowLemmas.{no_broken_rows}
use Rattle.doc_mends.proofs.EndLemmas.{stays_ended}
use Rattle.doc_mends.proofs.OneLemmas.{mends_after}
use Rattle.doc_mends.proofs.UncutLemmas.{uncut}

-- ---- bases

and_not : (x y : Bool) → y ≡ true → (x && not y) ≡ false
and_not x true is = and_false x
and_not x false is = absurd (cc is)

-- a base is of the kind of its style
base_kind : (sheet : Sheet) (istd base : ℕ) → HasSoundBases sheet → 0 < style_kind_at sheet istd →
    base_at sheet istd ≡ Some base → style_kind_at sheet base ≡ style_kind_at sheet istd
base_kind sheet istd base sound some is =
    let chain = sound.chains istd some in
    next_kind sheet istd 0 istd base chain.0 (climbed_none sheet istd some) is chain.1

by_base : (sheet : Sheet) (kind : ℕ) (o : Option ℕ) →
    ((base : ℕ) → o ≡ Some base → 0 < kind → style_kind_at sheet base ≡ kind) →
    (nat_lt 0 kind && is_other_kind sheet kind o) ≡ false
by_base sheet kind None same = and_false (nat_lt 0 kind)
by_base sheet zero (Some base) same = refl
by_base sheet (suc kind) (Some base) same =
    and_not (nat_lt 0 (suc kind)) (style_kind_at sheet base == suc kind) (eq-eqb (style_kind_at sheet base) (suc kind)
    (same base refl (omega arith)))

no_other_base : (sheet : Sheet) → HasSoundBases sheet → (istd : ℕ) → has_other_base sheet istd ≡ false
no_other_base sheet sound istd =
    by_base sheet (style_kind_at sheet istd) (base_at sheet istd) (λ base is some. base_kind sheet istd base sound some
    is)

no_endless : (sheet : Sheet) (count : ℕ) (istds : List ℕ) → HasSoundBases sheet → AreEndless sheet count istds →
    istds ≡ []
no_endless sheet count [] sound are = refl
no_endless sheet count (istd ∷ istds) sound are =
    let none : HasNoChain sheet istd = All-head (HasNoChain sheet) istd istds are.each in
    let chain = sound.chains istd none.properties in
    absurd (none.none chain.0 chain.1)

no_drop : (sheet : Sheet) (istds : List ℕ) → HasSoundBases sheet → IsDropOf sheet istds → istds ≡ []
no_drop sheet istds sound drop =
    let other : other_bases sheet ≡ [] = none_kept (has_other_base sheet) (length sheet.styles) (no_other_base sheet
    sound) in
    let same : bases_dropped (other_bases sheet) sheet ≡ sheet = ap (λ (l : List ℕ). bases_dropped l sheet) other in
    let endless : drop.endless ≡ [] =
    no_endless sheet (length sheet.styles) drop.endless sound (subst (λ (s : Sheet). AreEndless s (length sheet.styles)
    drop.endless) same drop.are) in
    drop.list ∙ (ap (λ (l : List ℕ). l ++ drop.endless) other ∙ endless)

bases_stay : (meant based : Document) (mends : List Mend) → HasSoundBases meant.sheet → DropsBases meant based mends →
    (based ≡ meant) × (mends ≡ [])
bases_stay meant based mends sound drops =
    let none : drops.istds ≡ [] = no_drop meant.sheet drops.istds sound drops.drop in (
      drops.document ∙ ap (λ (l : List ℕ). record meant { sheet = bases_dropped l meant.sheet }) none,
      drops.named ∙ ap (λ (l : List ℕ). map DropBase l) none,
    )

-- ---- marks

if_right : (same : Bool) (mark : WrongMark) → same ≡ true →
    if◌then◌else◌ {A = Option WrongMark} (not same) (Some mark) None ≡ None
if_right true mark is = refl
if_right false mark is = absurd (cc is)

right_mark : (sheet : Sheet) (story : Story) (at : ℕ) (o : Option Mark) →
    ((mark : Mark) → o ≡ Some mark → style_kind_at sheet mark.istd ≡ 1) →
    option_and_then (wrong_mark sheet story at) o ≡ None
right_mark sheet story at None right = refl
right_mark sheet story at (Some mark) right =
    if_right (style_kind_at sheet mark.istd == 1) (record { story = story; at = at; istd = mark.istd })
    (eq-eqb (style_kind_at sheet mark.istd) 1 (right mark refl))

no_marks : (sheet : Sheet) (story : Story) (text : List Item) →
    HoldsAtItems text (λ i item. HasParagraphStyle sheet item) → text_wrong_marks sheet story text ≡ []
no_marks sheet story text right =
    nothing_listed (wrong_mark_at sheet story text) (length text) (λ at low.
    let it = there_is text at low in
    ap (option_and_then (λ (item : Item). option_and_then (wrong_mark sheet story at) item.mark)) it.1
    ∙ right_mark sheet story at it.0.mark (λ mark is. right at it.0 it.1 mark is))

no_marks_in : (sheet : Sheet) (side : Side) (texts : List (List Item)) →
    ((n : ℕ) (text : List Item) → slice_get texts n ≡ Some text →
    HoldsAtItems text (λ i item. HasParagraphStyle sheet item)) → texts_wrong_marks sheet side texts ≡ []
no_marks_in sheet side texts right =
    nothing_joined (λ (n : ℕ). text_wrong_marks sheet (side_name side n) (unwrap_or (slice_get texts n) []))
    (length texts) (λ n low.
    let it = there_is texts n low in
    ap (λ (o : Option (List Item)). text_wrong_marks sheet (side_name side n) (unwrap_or o [])) it.1
    ∙ no_marks sheet (side_name side n) it.0 (right n it.0 it.1))

no_wrong_marks : (document : Document) → IsValidDocument document → wrong_marks document ≡ []
no_wrong_marks document right =
    let sheet = document.sheet in
    let notes : List WrongMark = texts_wrong_marks sheet Notes document.notes in
    let heads : List WrongMark = texts_wrong_marks sheet Heads document.heads in
    ap (λ (l : List WrongMark). l ++ (notes ++ heads))
    (no_marks sheet Main document.main (right.texts places.Main document.main refl).styles)
    ∙ (ap (λ (l : List WrongMark). l ++ heads)
    (no_marks_in sheet Notes document.notes (λ n text is. (right.texts (places.Note n) text is).styles))
    ∙ no_marks_in sheet Heads document.heads (λ n text is. (right.texts (places.Head n) text is).styles))

-- ---- ends

by_last : (o : Option Item) (rest : Bool) → option_map (λ item. item.unit) o ≡ Some paragraph_mark →
    (is_ending o || rest) ≡ true
by_last None rest is = absurd (cc is)
by_last (Some item) rest is =
    or_first (item.unit == paragraph_mark) rest (eq-eqb item.unit paragraph_mark (same_Some item.unit paragraph_mark
    is))

ends_so : (part : Where) (is_head : Bool) (text : List Item) → (IsHead part → is_head ≡ true) → EndsRight part text →
    is_ended is_head text ≡ true
ends_so part is_head text head (inl unit) = by_last (last_item text) (is_head && length text == 0) unit
ends_so part is_head text head (inr none) =
    ap (is_ended is_head) none.1 ∙ ap (λ (b : Bool). is_ended b []) (head none.0)

main_ends : (document : Document) → IsValidDocument document → is_ended false document.main ≡ true
main_ends document right =
    ends_so places.Main false document.main (λ head. absurd (cc (head.1)))
    (right.texts places.Main document.main refl).ends

note_ends : (document : Document) → IsValidDocument document → (n : ℕ) (text : List Item) →
    slice_get document.notes n ≡ Some text → is_ended (is_heads Notes) text ≡ true
note_ends document right n text is =
    ends_so (places.Note n) false text (λ head. absurd (cc (head.1))) (right.texts (places.Note n) text is).ends

head_ends : (document : Document) → IsValidDocument document → (n : ℕ) (text : List Item) →
    slice_get document.heads n ≡ Some text → is_ended (is_heads Heads) text ≡ true
head_ends document right n text is =
    ends_so (places.Head n) true text (λ head. refl) (right.texts (places.Head n) text is).ends

ends_stay : (document : Document) → IsValidDocument document → with_ends document ≡ document
ends_stay document right =
    ap (λ (t : List Item). record document {
      main = t;
      notes = map (with_end (is_heads Notes)) document.notes;
      heads = map (with_end (is_heads Heads)) document.heads;
    }) (stays_ended false document.main (main_ends document right))
    ∙ (ap (λ (t : List (List Item)). record document {
      notes = t;
      heads = map (with_end (is_heads Heads)) document.heads;
    }) (same_map (with_end (is_heads Notes)) document.notes
    (λ n text is. stays_ended (is_heads Notes) text (note_ends document right n text is)))
    ∙ ap (λ (t : List (List Item)). record document { heads = t })
    (same_map (with_end (is_heads Heads)) document.heads
    (λ n text is. stays_ended (is_heads Heads) text (head_ends document right n text is))))

if_ended : (is : Bool) (story : Story) → is ≡ true → if◌then◌else◌ {A = List Story} is [] (story ∷ []) ≡ []
if_ended true story is = refl
if_ended false story is = absurd (cc is)

none_open : (side : Side) (texts : List (List Item)) →
    ((n : ℕ) (text : List Item) → slice_get texts n ≡ Some text → is_ended (is_heads side) text ≡ true) →
    open_texts side texts ≡ []
none_open side texts right =
    nothing_joined (λ (n : ℕ). open_text (is_heads side) (side_name side n) (unwrap_or (slice_get texts n) []))
    (length texts) (λ n low.
    let it = there_is texts n low in
    ap (λ (o : Option (List Item)). open_text (is_heads side) (side_name side n) (unwrap_or o [])) it.1
    ∙ if_ended (is_ended (is_heads side) it.0) (side_name side n) (right n it.0 it.1))

no_open_stories : (document : Document) → IsValidDocument document → open_stories document ≡ []
no_open_stories document right =
    let notes : List Story = open_texts Notes document.notes in
    let heads : List Story = open_texts Heads document.heads in
    ap (λ (l : List Story). l ++ (notes ++ heads))
    (if_ended (is_ended false document.main) Main (main_ends document right))
    ∙ (ap (λ (l : List Story). l ++ heads) (none_open Notes document.notes (note_ends document right))
    ∙ none_open Heads document.heads (head_ends document right))

-- ---- all mends

-- items that are right where they are are not mended
in_place : (document : Document) → IsValidDocument document → mended_in_place document ≡ document
in_place document right =
    ap with_plain_rows (right_document document (no_wrong_marks document right))
    ∙ document_stays document (no_broken_rows document right)

none_in_place : (document : Document) → IsValidDocument document → mends_in_place document ≡ []
none_in_place document right =
    ap (λ (l : List WrongMark). map NormalMark l ++ map PlainRow (broken_rows (with_normal_marks document)))
    (no_wrong_marks document right)
    ∙ (ap (λ (d : Document). map PlainRow (broken_rows d)) (right_document document (no_wrong_marks document right))
    ∙ ap (λ (l : List BrokenRow). map PlainRow l) (no_broken_rows document right))

none_of_texts : (names : Names) (document : Document) → IsValidDocument document → references names document ≡ [] →
    references_cut names document ≡ document → mends_of_texts names document ≡ []
none_of_texts names document right none cut =
    ap (λ (l : List Reference). map CutReference l ++ map EndText (open_stories (references_cut names document))) none
    ∙ (ap (λ (d : Document). map EndText (open_stories d)) cut
    ∙ ap (λ (l : List Story). map EndText l) (no_open_stories document right))

pub no_mends : SoundHasNoMends
no_mends names meant mended mends sound none is =
    let right : IsValidDocument meant = sound_is_valid meant sound in
    let bases = bases_stay meant is.based is.bases right.bases is.drops in
    let same : mended_in_place meant ≡ meant = in_place meant right in
    let cut : references_cut names meant ≡ meant = uncut names meant sound.bookmarks none in
    let rest : mends_after names meant ≡ [] =
    ap (λ (l : List Mend). l ++ mends_of_texts names (mended_in_place meant)) (none_in_place meant right)
    ∙ (ap (mends_of_texts names) same ∙ none_of_texts names meant right none cut) in (
      is.document_is
          ∙ (ap (λ (d : Document). with_ends (references_cut names (mended_in_place d))) bases.0
          ∙ (ap (λ (d : Document). with_ends (references_cut names d)) same
          ∙ (ap with_ends cut ∙ ends_stay meant right))),
      is.mends_are
          ∙ (ap (λ (l : List Mend). l ++ mends_after names is.based) bases.1
          ∙ (ap (mends_after names) bases.0 ∙ rest)),
    )

-- what breaks no rule, and has no marks of stories that are left out, stays as it is
pub right_stays : (names : Names) (based : Document) → IsSound based → references names based ≡ [] →
    (based ≡ with_ends (references_cut names (mended_in_place based)))
    × (mends_in_place based ++ mends_of_texts names (mended_in_place based) ≡ [])
right_stays names based sound none =
    let right : IsValidDocument based = sound_is_valid based sound in
    let same : mended_in_place based ≡ based = in_place based right in
    let cut : references_cut names based ≡ based = uncut names based sound.bookmarks none in (
      sym (ap (λ (d : Document). with_ends (references_cut names d)) same ∙ (ap with_ends cut ∙ ends_stay based right)),
      ap (λ (l : List Mend). l ++ mends_of_texts names (mended_in_place based)) (none_in_place based right)
          ∙ (ap (mends_of_texts names) same ∙ none_of_texts names based right none cut),
    )
