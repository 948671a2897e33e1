-- What a file has, it has once.
use Rattle.std.proofs.Common.{◌≡◌, ◌∙◌, inl, inr, sym, subst, ℕ, List, [], ◌∷◌, length, get_or, arith, Option, Some}
use Rattle.std.specs.Prelude.{slice_get}
use Rattle.std.specs.FinMap.{empty}
use Rattle.std.proofs.lemmas.List.{ext_get_or, nil_from_length}
use Rattle.std.proofs.lemmas.Option.{slice_get-get_or}
use Rattle.sprm_table.proofs.Public.{spelt_unique}
use Rattle.prop_map.specs.Settings.{Properties}
use Rattle.prop_map.specs.Acting.{ArePropertiesAfter}
use Rattle.prop_map.proofs.Public.{acting_one}
use Rattle.direct_props.specs.Direct.{MakesProperties}
use Rattle.cfb_streams.proofs.Public.{contents_unique}
use Rattle.doc_parts.specs.declared.lists.Sed.{Sed}
use Rattle.file_rules.specs.SectionRules.{section_fc, sepx_list}
use Rattle.prop_map.specs.Formed.{section_groups}
use Rattle.file_rules.specs.PartRules.{HasPartLists}
use Rattle.file_rules.specs.FileRules.{HasFileText, doc_source_of}
use Rattle.file_rules.proofs.Public.{parts_one, text_one}
use Rattle.doc_read.specs.Sections.{IsSectionProperties, HaveProperties}
use Rattle.doc_read.specs.Holds.{FileParts, HasFileParts}

-- lists of one length, each of whose elements is the only one at its place, are the same
pub same_lists : {A : Type 0} (Is : ℕ → A → Type 0) → ((i : ℕ) (x y : A) → Is i x → Is i y → x ≡ y) → (xs ys : List A) →
    length xs ≡ length ys
    → ((i : ℕ) (x : A) → slice_get xs i ≡ Some x → Is i x) → ((i : ℕ) (y : A) → slice_get ys i ≡ Some y → Is i y) →
    xs ≡ ys
same_lists Is one [] ys len ha hb = sym (nil_from_length ys (sym len))
same_lists Is one (x ∷ xs) ys len ha hb =
    ext_get_or x (x ∷ xs) ys len (λ i below.
    one i (get_or (x ∷ xs) i x) (get_or ys i x)
    (ha i (get_or (x ∷ xs) i x) (slice_get-get_or (x ∷ xs) i x below))
    (hb i (get_or ys i x) (slice_get-get_or ys i x (omega (arith, len, below)))))

-- a list of sprms makes one map
pub properties_one : (list : List ℕ) (groups : ℕ) (one other : Properties) (style named : Option ℕ) →
    MakesProperties list groups one style → MakesProperties list groups other named → one ≡ other
properties_one list groups one other style named a b =
    let prls = spelt_unique list a.prls b.prls a.spelt b.spelt in
    acting_one a.prls groups empty one other a.map (subst (λ ps. ArePropertiesAfter ps groups empty other) (sym prls)
    b.map)

-- a section has one map of properties
section_one : (wd : List ℕ) (fc : ℕ) (one other : Properties) → IsSectionProperties wd fc one →
    IsSectionProperties wd fc other → one ≡ other
section_one wd fc one other (inl a) (inl b) = a.1 ∙ sym b.1
section_one wd fc one other (inl a) (inr b) = absurd (b.there a.0)
section_one wd fc one other (inr a) (inl b) = absurd (a.there b.0)
section_one wd fc one other (inr a) (inr b) =
    properties_one (sepx_list wd fc) section_groups one other a.style b.style a.makes b.makes

pub section_maps_one : (wd : List ℕ) (sections : List Sed) (one other : List Properties) → HaveProperties wd sections
    one →
    HaveProperties wd sections other → one ≡ other
section_maps_one wd sections one other a b =
    same_lists (λ k. IsSectionProperties wd (section_fc sections k)) (λ k. section_one wd (section_fc sections k)) one
    other (a.len ∙ sym b.len) a.each b.each

-- what a file has is the same where each part of it is
same_parts : (a b : FileParts) → a.contents ≡ b.contents → a.text ≡ b.text → a.lists ≡ b.lists →
    a.sections ≡ b.sections → a ≡ b
same_parts a b e0 e1 e2 e3 = λ i. record { contents = e0 i; text = e1 i; lists = e2 i; sections = e3 i }

-- a file has one of each
pub file_parts_one : (file : List ℕ) (a b : FileParts) → HasFileParts file a → HasFileParts file b → a ≡ b
file_parts_one file a b ha hb =
    let contents : a.contents ≡ b.contents =
    contents_unique file a.contents b.contents ha.has_contents hb.has_contents in
    let text_there : HasFileText b.contents a.text = subst (λ c. HasFileText c a.text) contents ha.has_text in
    let text : a.text ≡ b.text = text_one file b.contents a.text b.text hb.has_contents text_there hb.has_text in
    let lists_there : HasPartLists (doc_source_of b.text) a.lists =
    subst (λ t. HasPartLists (doc_source_of t) a.lists) text ha.has_lists in
    let lists : a.lists ≡ b.lists = parts_one (doc_source_of b.text) a.lists b.lists lists_there hb.has_lists in
    let near : HaveProperties b.text.wd a.lists.sections a.sections =
    subst (λ t. HaveProperties t.wd a.lists.sections a.sections) text ha.has_sections in
    let there : HaveProperties b.text.wd b.lists.sections a.sections =
    subst (λ l. HaveProperties b.text.wd l.sections a.sections) lists near in
    same_parts a b contents text lists (section_maps_one b.text.wd b.lists.sections a.sections b.sections there
    hb.has_sections)
