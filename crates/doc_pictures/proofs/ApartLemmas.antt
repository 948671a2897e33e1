-- Pictures of other numbers have other paths.
use Rattle.std.proofs.Common.{◌≡◌, ◌≢◌, ◌∙◌, ℕ, zero, suc, ◌+◌, ◌^◌, ◌/◌, ◌%◌, ◌<◌, ◌≤◌, Bool, true, false, not, List, []}
use Rattle.std.proofs.Common.{◌∷◌, ◌++◌, refl, sym, ap, subst, arith, append_assoc, Option, None, Some, true≢false}
use Rattle.std.specs.Prelude.{◌==◌, ◌&&◌, codes, if◌then◌else◌}
use Rattle.std.specs.Fmt.{decimal, digits, digits_onto, digit_glyph}
use Rattle.std.specs.List.{list_all}
use Rattle.std.proofs.lemmas.Bool.{eq-eqb}
use Rattle.std.proofs.lemmas.Bool.Decides.{nat_tests}
use Rattle.std.proofs.lemmas.Fmt.{decimal_injective}
use Rattle.std.proofs.lemmas.List.{append_cancel_left}
use Rattle.doc_bits.proofs.Public.{and_true, and_first, and_second, not_true}
use Rattle.doc_outer.specs.Held.{Files, ReadsPart, StaysAt, Told}
use Rattle.doc_outer.proofs.Public.{Told-map}
use Rattle.inline_pictures.specs.declared.kind.PictureKind.{PictureKind}
use Rattle.doc_pictures.specs.Album.{IsThere}
use Rattle.doc_pictures.specs.Names.{picture_path, suffix_of}

-- ---- what is before the first full stop

abbrev HasNoStop : List ℕ → Type 0
HasNoStop text = list_all (λ code. not (code == 46)) text ≡ true

stop-less : (code : ℕ) (text : List ℕ) → HasNoStop (code ∷ text) → code ≢ 46
stop-less code text none = λ is.
    true≢false (sym (eq-eqb code 46 is) ∙ not_true (code == 46)
    (and_first (not (code == 46)) (list_all (λ c. not (c == 46)) text) none))

stop-more : (code : ℕ) (text : List ℕ) → HasNoStop (code ∷ text) → HasNoStop text
stop-more code text none = and_second (not (code == 46)) (list_all (λ c. not (c == 46)) text) none

first-alike : (x y : ℕ) (xs ys : List ℕ) → x ∷ xs ≡ y ∷ ys → x ≡ y
first-alike x y xs ys is = cc (is)

rest-alike : (x y : ℕ) (xs ys : List ℕ) → x ∷ xs ≡ y ∷ ys → xs ≡ ys
rest-alike x y xs ys is = cc (is)

up-to-stop : (xs ys s t : List ℕ) → HasNoStop xs → HasNoStop ys → xs ++ 46 ∷ s ≡ ys ++ 46 ∷ t → xs ≡ ys
up-to-stop [] [] s t none other is = refl
up-to-stop [] (y ∷ ys) s t none other is = absurd (stop-less y ys other (sym (first-alike 46 y s (ys ++ 46 ∷ t) is)))
up-to-stop (x ∷ xs) [] s t none other is = absurd (stop-less x xs none (first-alike x 46 (xs ++ 46 ∷ s) t is))
up-to-stop (x ∷ xs) (y ∷ ys) s t none other is =
    let one = first-alike x y (xs ++ 46 ∷ s) (ys ++ 46 ∷ t) is in
    let more = up-to-stop xs ys s t (stop-more x xs none) (stop-more y ys other)
    (rest-alike x y (xs ++ 46 ∷ s) (ys ++ 46 ∷ t) is) in
    (λ i. one i ∷ more i)

digit-is_no_stop : (d : ℕ) → not (digit_glyph false d == 46) ≡ true
digit-is_no_stop d = grind (arith, nat_tests)

no_stop-digits_onto : (k n : ℕ) (acc : List ℕ) → HasNoStop acc → HasNoStop (digits_onto k 10 false n acc)
no_stop-digits_onto zero n acc h = h
no_stop-digits_onto (suc k) n acc h =
    let next : HasNoStop (digit_glyph false (n % 10) ∷ acc) =
    and_true (not (digit_glyph false (n % 10) == 46)) (list_all (λ code. not (code == 46)) acc)
    (digit-is_no_stop (n % 10)) h in
    elim (n / 10 == 0) as (λ (b : Bool). HasNoStop (if b then digit_glyph false (n % 10) ∷ acc else
    digits_onto k 10 false (n / 10) (digit_glyph false (n % 10) ∷ acc))) [
      | true ↦ next
      | false ↦ no_stop-digits_onto k (n / 10) (digit_glyph false (n % 10) ∷ acc) next
    ]

no_stop-decimal : (n : ℕ) → HasNoStop (decimal n)
unfolding digits
no_stop-decimal n = no_stop-digits_onto 64 n [] refl

-- ---- paths

path-number : (folder : List ℕ) (m n : ℕ) (a b : PictureKind) → m < 2 ^ 64 → n < 2 ^ 64 →
    picture_path folder m a ≡ picture_path folder n b → m ≡ n
path-number folder m n a b few many is =
    let one = decimal m ++ 46 ∷ suffix_of a in
    let other = decimal n ++ 46 ∷ suffix_of b in
    let names : codes "/picture-" ++ one ≡ codes "/picture-" ++ other =
    append_cancel_left folder (codes "/picture-" ++ one) (codes "/picture-" ++ other) is in
    let rests : one ≡ other = append_cancel_left (codes "/picture-") one other names in
    decimal_injective m n few many
    (up-to-stop (decimal m) (decimal n) (suffix_of a) (suffix_of b) (no_stop-decimal m) (no_stop-decimal n) rests)

pub paths-apart : (folder : List ℕ) (m n : ℕ) (a b : PictureKind) → m < 2 ^ 64 → n < 2 ^ 64 → m ≢ n →
    picture_path folder m a ≢ picture_path folder n b
paths-apart folder m n a b few many other = λ is. other (path-number folder m n a b few many is)

-- ---- a file that is there

-- it was there before, where the name stayed
pub there-before : (name : List ℕ) (before now : Option Files) → StaysAt name before now → Told now name IsThere →
    Told before name IsThere
there-before name None None stays there = tt
there-before name None (Some now) stays there = absurd stays
there-before name (Some before) None stays there = absurd stays
there-before name (Some before) (Some now) stays there =
    subst (λ (held : Option (List ℕ)). IsThere held) stays there

reads-there : (count : ℕ) (buffer : List ℕ) (there : Option (List ℕ)) → ReadsPart 0 count buffer there → IsThere there
reads-there count buffer None is = absurd is
reads-there count buffer (Some bytes) is = tt

-- what is read is there
pub told-there : (held : Option Files) (name : List ℕ) (count : ℕ) (buffer : List ℕ) →
    Told held name (ReadsPart 0 count buffer) → Told held name IsThere
told-there held name count buffer is =
    Told-map held name (ReadsPart 0 count buffer) IsThere (reads-there count buffer) is
