-- Lists that are grouped by the texts that they are of: which entries of one text pass a test.
use Rattle.std.proofs.Common.{◌≡◌, ◌≢◌, ◌∙◌, ap, sym, refl, ℕ, zero, suc, ◌<◌, Bool, true, false, ◌&&◌, ◌||◌}
use Rattle.std.proofs.Common.{List, [], ◌∷◌, ◌++◌, arith, inl, inr, Option, Some, None}
use Rattle.std.specs.Prelude.{All}
use Rattle.std.specs.List.{filter_map, flat_map, list_any}
use Rattle.std.proofs.lemmas.Bool.{and_left, cases_lt, eq-eqb, ne_eqb, or_from}
use Rattle.std.proofs.lemmas.List.{append-nil}
use Rattle.std.proofs.lemmas.List.Concat.{flat_map-append}
use Rattle.std.proofs.lemmas.List.Elements.{All-head, All-tail, All-weaker, filter_map-append}
use Rattle.std.proofs.lemmas.List.Folds.{list_any-append, list_any_none}
use Rattle.doc_bits.specs.declared.places.Story.{Story}
use Rattle.doc_bits.specs.declared.places.Story.TheVariants.{Main, Note, Head}
use Rattle.doc_bits.proofs.Public.{or_false}
use Rattle.doc_parts.specs.Tabulated.{tabulate}
use Rattle.doc_mends.specs.UnitsStay.{is_story}

-- ---- places that pass

unfoldable any_below : (ℕ → Bool) → ℕ → Bool
any_below place zero = false
any_below place (suc n) = any_below place n || place n

any_none : (place : ℕ → Bool) (n : ℕ) → ((k : ℕ) → k < n → place k ≡ false) → any_below place n ≡ false
unfolding any_below
any_none place zero none = refl
any_none place (suc n) none =
    or_from (any_below place n) (place n) (any_none place n (λ k low. none k (omega (arith, low))))
    (none n (omega arith))

-- one place alone
any_at : (place : ℕ → Bool) (n at : ℕ) → at < n → ((k : ℕ) → k ≢ at → place k ≡ false) → any_below place n ≡ place at
unfolding any_below
any_at place zero at low others = absurd (omega (arith, low))
any_at place (suc n) at low others = elim (cases_lt at n) [
  | inl before ↦
      ap (λ (b : Bool). b || place n) (any_at place n at before others)
      ∙ (ap (λ (b : Bool). place at || b) (others n (λ same. omega (arith, before, same))) ∙ or_false (place at))
  | inr last ↦
      let here : n ≡ at = omega (arith, low, last) in
      ap (λ (b : Bool). b || place n)
      (any_none place n (λ k below. others k (λ same. omega (arith, below, same, here))))
      ∙ ap place here
]

any_same : (place other : ℕ → Bool) (n : ℕ) → ((k : ℕ) → place k ≡ other k) → any_below place n ≡ any_below other n
unfolding any_below
any_same place other zero same = refl
any_same place other (suc n) same =
    ap (λ (b : Bool). b || place n) (any_same place other n same)
    ∙ ap (λ (b : Bool). any_below other n || b) (same n)

-- ---- lists by their places

-- an entry that may be there
abbrev pub passes : {A : Type 0} → (A → Bool) → Option A → Bool
passes p None = false
passes p (Some x) = p x

one_passes : {A : Type 0} (p : A → Bool) (o : Option A) → list_any p (filter_map (λ x. x) (o ∷ [])) ≡ passes p o
one_passes p None = refl
one_passes p (Some x) = or_false (p x)

listed_any : {A : Type 0} (p : A → Bool) (f : ℕ → Option A) (n : ℕ) →
    list_any p (filter_map (λ o. o) (tabulate f n)) ≡ any_below (λ k. passes p (f k)) n
unfolding tabulate any_below
listed_any p f zero = refl
listed_any {A = A} p f (suc n) =
    let front : List A = filter_map (λ (o : Option A). o) (tabulate f n) in
    ap (list_any p) (filter_map-append (λ (o : Option A). o) (tabulate f n) (f n ∷ []))
    ∙ (list_any-append p front (filter_map (λ (o : Option A). o) (f n ∷ []))
    ∙ (ap (λ (b : Bool). list_any p front || b) (one_passes p (f n))
    ∙ ap (λ (b : Bool). b || passes p (f n)) (listed_any p f n)))

joined_any : {A : Type 0} (p : A → Bool) (f : ℕ → List A) (n : ℕ) →
    list_any p (flat_map (λ l. l) (tabulate f n)) ≡ any_below (λ k. list_any p (f k)) n
unfolding tabulate any_below
joined_any p f zero = refl
joined_any {A = A} p f (suc n) =
    let front : List A = flat_map (λ (l : List A). l) (tabulate f n) in
    ap (list_any p) (flat_map-append (λ (l : List A). l) (tabulate f n) (f n ∷ []))
    ∙ (list_any-append p front (f n ++ [])
    ∙ (ap (λ (l : List A). list_any p front || list_any p l) (append-nil (f n))
    ∙ ap (λ (b : Bool). b || list_any p (f n)) (joined_any p f n)))

-- one place alone passes
pub listed_at : {A : Type 0} (p : A → Bool) (f : ℕ → Option A) (n at : ℕ) → at < n →
    ((k : ℕ) → k ≢ at → passes p (f k) ≡ false) →
    list_any p (filter_map (λ o. o) (tabulate f n)) ≡ passes p (f at)
listed_at p f n at low others = listed_any p f n ∙ any_at (λ k. passes p (f k)) n at low others

-- the same places pass
pub listed_same : {A B : Type 0} (p : A → Bool) (q : B → Bool) (f : ℕ → Option A) (g : ℕ → Option B) (n : ℕ) →
    ((k : ℕ) → passes p (f k) ≡ passes q (g k)) →
    list_any p (filter_map (λ o. o) (tabulate f n)) ≡ list_any q (filter_map (λ o. o) (tabulate g n))
listed_same p q f g n same =
    listed_any p f n
    ∙ (any_same (λ k. passes p (f k)) (λ k. passes q (g k)) n same ∙ sym (listed_any q g n))

-- ---- texts by their names

same_story : (story : Story) → is_story story story ≡ true
same_story Main = refl
same_story (Note number) = eq-eqb number number refl
same_story (Head number) = eq-eqb number number refl

-- an entry of a text
abbrev pub is_of : {A : Type 0} → (A → Story) → (A → Bool) → Story → A → Bool
is_of story_of test story x = is_story (story_of x) story && test x

of_others : {A : Type 0} (story_of : A → Story) (test : A → Bool) (story other : Story) (xs : List A) →
    is_story other story ≡ false → All (λ x. story_of x ≡ other) xs → list_any (is_of story_of test story) xs ≡ false
of_others {A = A} story_of test story other xs apart all =
    list_any_none (is_of story_of test story) xs
    (All-weaker (λ (x : A). story_of x ≡ other) (λ (x : A). is_of story_of test story x ≡ false)
    (λ x is.
    ap (λ (s : Story). is_story s story && test x) is ∙ and_left (is_story other story) (test x) apart) xs all)

of_own : {A : Type 0} (story_of : A → Story) (test : A → Bool) (story : Story) (xs : List A) →
    All (λ x. story_of x ≡ story) xs → list_any (is_of story_of test story) xs ≡ list_any test xs
of_own story_of test story [] all = refl
of_own {A = A} story_of test story (x ∷ xs) all =
    let here : is_of story_of test story x ≡ test x =
    ap (λ (s : Story). is_story s story && test x) (All-head (λ (y : A). story_of y ≡ story) x xs all)
    ∙ ap (λ (b : Bool). b && test x) (same_story story) in
    ap (λ (b : Bool). b || list_any (is_of story_of test story) xs) here
    ∙ ap (λ (b : Bool). test x || b)
    (of_own story_of test story xs (All-tail (λ (y : A). story_of y ≡ story) x xs all))

-- entries of the main text, of the notes and of the header texts, one text after the other
pub record Groups {A : Type 0} (story_of : A → Story) (all : List A) : Type 0 where
  pub main : List A
  pub notes : ℕ → List A
  pub note_count : ℕ
  pub heads : ℕ → List A
  pub head_count : ℕ
  pub all_are :
      all
      ≡ main
      ++ (flat_map (λ l. l) (tabulate notes note_count) ++ flat_map (λ l. l) (tabulate heads head_count))
  pub of_main : All (λ x. story_of x ≡ Main) main
  pub of_note : (k : ℕ) → All (λ x. story_of x ≡ Note k) (notes k)
  pub of_head : (k : ℕ) → All (λ x. story_of x ≡ Head k) (heads k)

-- what passes of all, in three parts
in_parts : {A : Type 0} (story_of : A → Story) (p : A → Bool) (all : List A) (groups : Groups story_of all) →
    list_any p all
    ≡ (list_any p groups.main
    || (any_below (λ k. list_any p (groups.notes k)) groups.note_count
    || any_below (λ k. list_any p (groups.heads k)) groups.head_count))
in_parts {A = A} story_of p all groups =
    let notes : List A = flat_map (λ (l : List A). l) (tabulate groups.notes groups.note_count) in
    let heads : List A = flat_map (λ (l : List A). l) (tabulate groups.heads groups.head_count) in
    let head_part : Bool = any_below (λ k. list_any p (groups.heads k)) groups.head_count in
    ap (list_any p) groups.all_are
    ∙ (list_any-append p groups.main (notes ++ heads)
    ∙ ap (λ (b : Bool). list_any p groups.main || b)
    (list_any-append p notes heads
    ∙ (ap (λ (b : Bool). list_any p notes || b) (joined_any p groups.heads groups.head_count)
    ∙ ap (λ (b : Bool). b || head_part) (joined_any p groups.notes groups.note_count))))

three : (a b c x y z : Bool) → a ≡ x → b ≡ y → c ≡ z → (a || (b || c)) ≡ (x || (y || z))
three a b c x y z first second third =
    ap (λ (t : Bool). t || (b || c)) first
    ∙ (ap (λ (t : Bool). x || (t || c)) second ∙ ap (λ (t : Bool). x || (y || t)) third)

pub main_group : {A : Type 0} (story_of : A → Story) (test : A → Bool) (all : List A) (groups : Groups story_of all) →
    list_any (is_of story_of test Main) all ≡ list_any test groups.main
main_group story_of test all groups =
    let p = is_of story_of test Main in
    in_parts story_of p all groups
    ∙ (three (list_any p groups.main) (any_below (λ k. list_any p (groups.notes k)) groups.note_count)
    (any_below (λ k. list_any p (groups.heads k)) groups.head_count) (list_any test groups.main) false false
    (of_own story_of test Main groups.main groups.of_main)
    (any_none (λ k. list_any p (groups.notes k)) groups.note_count
    (λ k low. of_others story_of test Main (Note k) (groups.notes k) refl (groups.of_note k)))
    (any_none (λ k. list_any p (groups.heads k)) groups.head_count
    (λ k low. of_others story_of test Main (Head k) (groups.heads k) refl (groups.of_head k)))
    ∙ or_false (list_any test groups.main))

pub note_group : {A : Type 0} (story_of : A → Story) (test : A → Bool) (all : List A) (groups : Groups story_of all)
    (number : ℕ) → number < groups.note_count →
    list_any (is_of story_of test (Note number)) all ≡ list_any test (groups.notes number)
note_group story_of test all groups number low =
    let p = is_of story_of test (Note number) in
    in_parts story_of p all groups
    ∙ (three (list_any p groups.main) (any_below (λ k. list_any p (groups.notes k)) groups.note_count)
    (any_below (λ k. list_any p (groups.heads k)) groups.head_count) false (list_any test (groups.notes number)) false
    (of_others story_of test (Note number) Main groups.main refl groups.of_main)
    (any_at (λ k. list_any p (groups.notes k)) groups.note_count number low
    (λ k other. of_others story_of test (Note number) (Note k) (groups.notes k) (ne_eqb k number other)
    (groups.of_note k))
    ∙ of_own story_of test (Note number) (groups.notes number) (groups.of_note number))
    (any_none (λ k. list_any p (groups.heads k)) groups.head_count
    (λ k below. of_others story_of test (Note number) (Head k) (groups.heads k) refl (groups.of_head k)))
    ∙ or_false (list_any test (groups.notes number)))

pub head_group : {A : Type 0} (story_of : A → Story) (test : A → Bool) (all : List A) (groups : Groups story_of all)
    (number : ℕ) → number < groups.head_count →
    list_any (is_of story_of test (Head number)) all ≡ list_any test (groups.heads number)
head_group story_of test all groups number low =
    let p = is_of story_of test (Head number) in
    in_parts story_of p all groups
    ∙ three (list_any p groups.main) (any_below (λ k. list_any p (groups.notes k)) groups.note_count)
    (any_below (λ k. list_any p (groups.heads k)) groups.head_count) false false (list_any test (groups.heads number))
    (of_others story_of test (Head number) Main groups.main refl groups.of_main)
    (any_none (λ k. list_any p (groups.notes k)) groups.note_count
    (λ k below. of_others story_of test (Head number) (Note k) (groups.notes k) refl (groups.of_note k)))
    (any_at (λ k. list_any p (groups.heads k)) groups.head_count number low
    (λ k other. of_others story_of test (Head number) (Head k) (groups.heads k) (ne_eqb k number other)
    (groups.of_head k))
    ∙ of_own story_of test (Head number) (groups.heads number) (groups.of_head number))
