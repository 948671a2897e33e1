-- Changes as the calls of documents make them.
use Rattle.std.proofs.Common.{◌≡◌, ◌∙◌, refl, sym, ap, ℕ, zero, suc, List, [], ◌∷◌, set, Some}
use Rattle.std.proofs.Common.{subst, Result, Ok, Err, IsOk, OnOk, IfOk, MatchResult}
use Rattle.std.specs.Prelude.{slice_get}
use Rattle.std.proofs.lemmas.List.{set-get_or}
use Rattle.std.proofs.lemmas.Option.{get_or_from_slice_get}
use Rattle.prop_map.specs.Settings.{Properties}
use Rattle.prop_map.specs.Overlay.{overlay}
use Rattle.prop_map.proofs.Public.{is_overlay}
use Rattle.style_sheet.specs.Sheet.{Sheet}
use Rattle.style_sheet.specs.Changes.{SetsCharacters, SetsParagraphs, kind_characters, with_characters, pap_of_style}
use Rattle.style_sheet.specs.Changes.{with_paragraphs, with_kind, with_style}
use Rattle.doc_patch.specs.Changes.{changed_at, put_changed, with_kind_at, put_style}
use Rattle.doc_patch.specs.Changes.{characters_set, paragraphs_set}

-- ---- an entry put back

pub set_twice : {A : Type 0} (entries : List A) (at : ℕ) (hole entry : A) → set (set entries at hole) at entry ≡ set
    entries at entry
set_twice [] at hole entry = refl
set_twice (x ∷ xs) zero hole entry = refl
set_twice (x ∷ xs) (suc at) hole entry = ap (λ more. x ∷ more) (set_twice xs at hole entry)

pub put_back : {A : Type 0} (entries : List A) (at : ℕ) (hole entry : A) → slice_get entries at ≡ Some entry →
    set (set entries at hole) at entry ≡ entries
put_back entries at hole entry there =
    set_twice entries at hole entry
    ∙ (ap (λ x. set entries at x) (sym (get_or_from_slice_get entries at entry entry there)) ∙ set-get_or entries at
    entry)

pub changed_back : {A : Type 0} (change : A → A) (entries : List A) (at : ℕ) (hole entry made : A) → slice_get entries
    at ≡ Some entry → made ≡ change entry → set (set entries at hole) at made ≡ changed_at entries at change
changed_back change entries at hole entry made there is =
    set_twice entries at hole made
    ∙ (ap (λ x. set entries at x) is ∙ sym (ap (put_changed entries at change) there))

-- ---- a range of a text, changed

-- ---- properties of styles

pub characters_are_set : (istd : ℕ) (put : Properties) (old new : Sheet) → SetsCharacters istd put old new →
    new ≡ with_kind_at old istd (characters_set put)
characters_are_set istd put old new sets =
    let map : sets.changed.map ≡ overlay put (kind_characters sets.style.kind) = is_overlay put (kind_characters
    sets.style.kind) sets.changed.map sets.changed.over in
    let kind : sets.kind ≡ characters_set put sets.style.kind = sets.changed.kind ∙ ap (with_characters
    sets.style.kind) map in
    sets.sheet ∙ (ap (λ k. with_style old istd (with_kind sets.style k)) kind ∙ sym
    (ap (put_style old istd (characters_set put)) sets.there))

pub paragraphs_are_set : (istd : ℕ) (put : Properties) (old new : Sheet) → SetsParagraphs istd put old new →
    new ≡ with_kind_at old istd (paragraphs_set put)
paragraphs_are_set istd put old new sets =
    let map : sets.changed.map ≡ overlay put (pap_of_style sets.style.kind) = is_overlay put (pap_of_style
    sets.style.kind) sets.changed.map sets.changed.over in
    let kind : sets.kind ≡ paragraphs_set put sets.style.kind = sets.changed.kind ∙ ap (with_paragraphs
    sets.style.kind) map in
    sets.sheet ∙ (ap (λ k. with_style old istd (with_kind sets.style k)) kind ∙ sym
    (ap (put_style old istd (paragraphs_set put)) sets.there))

-- what is made, and nothing failed
pub given_right : {T E : Type 0} (made : T) (done : Result Unit E) (result : Result T E) (P : T → Type 0) →
    OnOk done (P made) → MatchResult result (λ given. (given ≡ made) × IsOk done) (λ fault. done ≡ Err fault) →
    IfOk result P
given_right made (Ok nothing) (Ok given) P so right = subst P (sym right.0) so
given_right made (Err fault) (Ok given) P so right = absurd (let none = right.1 in cc (none))
given_right made done (Err fault) P so right = tt
