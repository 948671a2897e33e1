-- What a sound document says of the paragraph that an item of its main text is in.
use Rattle.std.proofs.Common.{◌≡◌, sym, subst, refl, ℕ, ◌<◌, List, length, Option, Some, None, Bor}
use Rattle.std.specs.Prelude.{IsSome}
use Rattle.std.specs.Option.{MatchOption}
use Rattle.prop_map.specs.Formed.{IsPropertyMap, paragraph_groups}
use Rattle.style_sheet.specs.Chain.{style_kind_at, HasSoundBases}
use Rattle.doc_model.specs.declared.item.Item.{Item}
use Rattle.doc_model.specs.declared.item.Mark.{Mark}
use Rattle.doc_model.specs.declared.document.Document.{Document}
use Rattle.doc_model.specs.Document.{IsFormedText}
use Rattle.doc_model.specs.Paragraphs.{HasNoParagraphEnd}
use Rattle.plain_doc.specs.Sound.{IsSound}
use Rattle.plain_doc.proofs.Public.{sound_is_valid, main_right, some_end, maps_there}
use Rattle.doc_columns.proofs.Public.{EndsAt}
use Rattle.doc_show.specs.Properties.{IsMarkFrom}

pub sound_bases : (document : Document) → IsSound document → HasSoundBases document.sheet
sound_bases document sound = (sound_is_valid document sound).bases

-- the style of a mark is one of paragraphs
pub mark_style : (document : Document) (pos : ℕ) (mark : Mark) → IsSound document →
    IsMarkFrom document.main pos mark → style_kind_at document.sheet mark.istd ≡ 1
mark_style document pos mark sound m =
    (main_right document (sound_is_valid document sound)).styles m.end m.item m.there mark m.has

pub mark_map : (items : List Item) (from : ℕ) (mark : Mark) → IsFormedText items → IsMarkFrom items from mark →
    IsPropertyMap paragraph_groups mark.pap
mark_map items from mark formed m =
    (maps_there items m.end m.item formed m.there).pap mark m.has

-- ---- the mark by what is beside

-- where the paragraph ends is the first mark
pub mark_from : (text : List Item) (pos place : ℕ) (found : Option (Bor Mark)) →
    MatchOption found (HasNoParagraphEnd text pos) (λ mark. EndsAt text pos place mark.now)
    → MatchOption found (HasNoParagraphEnd text pos) (λ mark. IsMarkFrom text pos mark.now)
mark_from text pos place None none = none
mark_from text pos place (Some mark) there =
    record { end = place; is_end = there.is_end; item = there.item; there = there.here; has = there.has }

-- ---- the document that its columns are seen as

pub within_seen : (seen document : Document) (pos : ℕ) → seen ≡ document → pos < length document.main →
    pos < length seen.main
within_seen seen document pos is within = subst (λ (d : Document). pos < length d.main) (sym is) within

-- the mark that is found for an item of a sound document
pub there_some : (document : Document) (pos : ℕ) (items : List Item) (found : Option (Bor Mark)) → IsSound document →
    pos < length document.main → items ≡ document.main →
    MatchOption found (HasNoParagraphEnd items pos) (λ mark. IsMarkFrom items pos mark.now) → IsSome found
there_some document pos items None sound h e m =
    absurd (some_end document pos (sound_is_valid document sound) h (subst (λ i. HasNoParagraphEnd i pos) e m))
there_some document pos items (Some mark) sound h e m = refl

pub mark_there : (pos : ℕ) (items : List Item) (found : Option (Bor Mark)) (mark : Bor Mark) → found ≡ Some mark →
    MatchOption found (HasNoParagraphEnd items pos) (λ mark. IsMarkFrom items pos mark.now) →
    IsMarkFrom items pos mark.now
mark_there pos items found mark is m =
    subst (λ o. MatchOption o (HasNoParagraphEnd items pos) (λ mark. IsMarkFrom items pos mark.now)) is m
