-- Lists of what is at CPs, one entry more in each turn.
use Rattle.std.proofs.Common.{◌≡◌, ◌∙◌, refl, sym, ap, ℕ, ◌<◌, ◌≤◌, ◌+◌, ◌-◌, List, [], ◌∷◌, ◌++◌, length, map}
use Rattle.std.proofs.Common.{take, drop, slice_get, Some, arith, append_assoc, length-take}
use Rattle.std.specs.Prelude.{slice_index}
use Rattle.std.proofs.lemmas.Option.{slice_get_within, get_or_from_slice_get}
use Rattle.std.proofs.lemmas.List.{length-map, map-append, map_more, get_or-map, take_all, drop-append-le}
use Rattle.doc_parts.specs.declared.lists.Sed.{Sed}
use Rattle.doc_parts.specs.declared.lists.Fld.{Fld}
use Rattle.doc_parts.specs.Cps.{AreCpsInOrder}
use Rattle.doc_parts.specs.Fields.{fld_cps}
use Rattle.fib_form.specs.declared.stories.StoryKind.TheVariants.{Main, Notes}
use Rattle.file_rules.specs.Source.{DocSource, story_length}
use Rattle.file_rules.specs.PartRules.{PartLists}
use Rattle.doc_read.specs.Sections.{section_lasts}
use Rattle.doc_read.specs.Marked.{story_bytes, field_mark_bytes}
use Rattle.doc_bits.proofs.Public.{map-map}
use Rattle.doc_read.proofs.MarkListLemmas.{three_parts}

-- the starts of the later sections, one more
later-more : (sections : List Sed) (k : ℕ) (sed : Sed) → 1 ≤ k → slice_get sections k ≡ Some sed →
    drop 1 (map (λ sed. sed.start) (take (k + 1) sections)) ≡ drop 1 (map (λ sed. sed.start) (take k sections))
    ++ sed.start ∷ []
later-more sections k sed some here =
    let start : Sed → ℕ = λ sed. sed.start in
    let below = slice_get_within sections k sed here in
    let len = length-map (take k sections) start in
    let len_taken = length-take k sections in
    let enough : 1 ≤ length (map start (take k sections)) = omega arith in
    ap (drop 1) (map_more start sections k sed below) ∙ (drop-append-le 1 (map start (take k sections)) _ enough
    ∙ ap (λ s. drop 1 (map start (take k sections)) ++ s ∷ []) (ap start
    (get_or_from_slice_get sections k sed sed here)))

-- what is made of one more of the entries
pub pushed_more : {A B : Type 0} (f : A → B) (xs : List A) (i : ℕ) (a : A) (x : B) (start old new : List B) →
    slice_get xs i ≡ Some a → x ≡ f a → new ≡ old ++ x ∷ [] → old ≡ start ++ map f (take i xs) →
    new ≡ start ++ map f (take (i + 1) xs)
pushed_more f xs i a x start old new here x_is new_is old_is =
    let below = slice_get_within xs i a here in
    let it = get_or_from_slice_get xs i a a here in
    new_is ∙ (ap (λ l. l ++ x ∷ []) old_is ∙ (append_assoc start (map f (take i xs)) (x ∷ [])
    ∙ (ap (λ y. start ++ (map f (take i xs) ++ y ∷ [])) (x_is ∙ ap f (sym it)) ∙ ap (λ l. start ++ l)
    (sym (map_more f xs i a below)))))

-- what is made of all
pub pushed_all : {A B : Type 0} (f : A → B) (xs : List A) (i : ℕ) (start new : List B) → length xs ≤ i →
    new ≡ start ++ map f (take i xs) → new ≡ start ++ map f xs
pushed_all f xs i start new all is = is ∙ ap (λ l. start ++ map f l) (take_all i xs all)

-- ---- sections

-- no section before the second one gives an end
pub lasts_none : (sections : List Sed) → map (λ end. end - 1) (drop 1 (map (λ sed. sed.start) (take 1 sections))) ≡ []
lasts_none [] = refl
lasts_none (sed ∷ sections) = refl

pub lasts_more : (sections : List Sed) (k : ℕ) (sed : Sed) (old new : List ℕ) (x : ℕ) → 1 ≤ k →
    slice_get sections k ≡ Some sed → x ≡ sed.start - 1 → new ≡ old ++ x ∷ [] →
    old ≡ map (λ end. end - 1) (drop 1 (map (λ sed. sed.start) (take k sections)))
    → new ≡ map (λ end. end - 1) (drop 1 (map (λ sed. sed.start) (take (k + 1) sections)))
lasts_more sections k sed old new x some here x_is new_is old_is =
    let before = drop 1 (map (λ (sed : Sed). sed.start) (take k sections)) in
    new_is ∙ (ap (λ l. l ++ x ∷ []) old_is ∙ (ap (λ y. map (λ end. end - 1) before ++ y ∷ []) x_is ∙
    (sym (map-append (λ end. end - 1) before (sed.start ∷ [])) ∙ ap (map (λ end. end - 1))
    (sym (later-more sections k sed some here)))))

pub lasts_all : (sections : List Sed) (k main_len : ℕ) (old new : List ℕ) (x : ℕ) → length sections ≤ k →
    x ≡ main_len - 1 → new ≡ old ++ x ∷ [] →
    old ≡ map (λ end. end - 1) (drop 1 (map (λ sed. sed.start) (take k sections))) →
    new ≡ section_lasts sections main_len
lasts_all sections k main_len old new x all x_is new_is old_is =
    let later = drop 1 (map (λ (sed : Sed). sed.start) sections) in
    new_is ∙ (ap (λ l. l ++ x ∷ []) (old_is ∙ ap (λ l. map (λ end. end - 1) (drop 1 (map (λ (sed : Sed). sed.start)
    l))) (take_all k sections all))
    ∙ (ap (λ y. map (λ end. end - 1) later ++ y ∷ []) x_is ∙ sym (map-append (λ end. end - 1) later (main_len ∷ []))))

-- ---- field characters

-- their CPs are within the story
pub fields_within : (len : ℕ) (fields : List Fld) → AreCpsInOrder (fld_cps len) (map (λ fld. fld.cp) fields) →
    (k : ℕ) (fld : Fld) → slice_get fields k ≡ Some fld → fld.cp < len
fields_within len fields in_order k fld here =
    let cp_of : Fld → ℕ = λ fld. fld.cp in
    let below = slice_get_within fields k fld here in
    let at : slice_index (map cp_of fields) k ≡ fld.cp =
    get_or-map cp_of fields k fld 0 below ∙ ap cp_of (get_or_from_slice_get fields k fld fld here) in
    let within = (in_order k (omega (arith, length-map fields cp_of))).within in
    omega (arith, at, within)

joined : {A : Type 0} (one two three c0 c1 c2 c3 : List A) → c0 ≡ [] → c1 ≡ c0 ++ one → c2 ≡ c1 ++ two →
    c3 ≡ c2 ++ three → c3 ≡ one ++ (two ++ three)
joined one two three c0 c1 c2 c3 e0 e1 e2 e3 =
    e3 ∙ (ap (λ l. l ++ three) (e2 ∙ ap (λ l. l ++ two) (e1 ∙ ap (λ l. l ++ one) e0)) ∙ append_assoc one two three)

-- what f reads of those of all stories
pub collected : (f : ℕ × ℕ → ℕ) (source : DocSource) (lists : PartLists) (one two : ℕ) (main notes heads : List Fld)
    (c0 c1 c2 c3 : List ℕ) →
    one ≡ story_length source Main → two ≡ story_length source Notes → main ≡ lists.main_fields →
    notes ≡ lists.note_fields → heads ≡ lists.head_fields
    → c0 ≡ [] → c1 ≡ c0 ++ map (λ fld. f (0 + fld.cp, fld.byte)) main →
    c2 ≡ c1 ++ map (λ fld. f (one + fld.cp, fld.byte)) notes →
    c3 ≡ c2 ++ map (λ fld. f (one + two + fld.cp, fld.byte)) heads → c3 ≡ map f (field_mark_bytes source lists)
collected f source lists one two main notes heads c0 c1 c2 c3 one_is two_is main_is notes_is heads_is e0 e1 e2 e3 =
    let first = story_length source Main in
    let next = story_length source Notes in
    let part : ℕ → List Fld → List ℕ = λ begin fields. map (λ (fld : Fld). f (begin + fld.cp, fld.byte)) fields in
    let a : part 0 main ≡ map f (story_bytes 0 lists.main_fields) =
    ap (part 0) main_is ∙ sym (map-map f (λ (fld : Fld). (0 + fld.cp, fld.byte)) lists.main_fields) in
    let b : part one notes ≡ map f (story_bytes first lists.note_fields) = ap (part one) notes_is ∙
    (ap (λ n. part n lists.note_fields) one_is ∙ sym (map-map f (λ (fld : Fld). (first + fld.cp, fld.byte))
    lists.note_fields)) in
    let c : part (one + two) heads ≡ map f (story_bytes (first + next) lists.head_fields) =
    ap (part (one + two)) heads_is ∙ (ap (λ n. part (n + two) lists.head_fields) one_is ∙ (ap (λ n. part (first + n)
    lists.head_fields) two_is ∙ sym (map-map f (λ (fld : Fld). (first + next + fld.cp, fld.byte))
    lists.head_fields))) in
    joined (part 0 main) (part one notes) (part (one + two) heads) c0 c1 c2 c3 e0 e1 e2 e3
    ∙ (ap (λ l. l ++ (part one notes ++ part (one + two) heads)) a
    ∙ (ap (λ l. map f (story_bytes 0 lists.main_fields) ++ (l ++ part (one + two) heads)) b
    ∙ (ap (λ l. map f (story_bytes 0 lists.main_fields) ++ (map f (story_bytes first lists.note_fields) ++ l)) c
    ∙ sym (three_parts f (story_bytes 0 lists.main_fields) (story_bytes first lists.note_fields) (story_bytes
    (first + next) lists.head_fields)))))
