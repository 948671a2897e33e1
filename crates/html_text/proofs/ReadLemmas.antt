-- What is printed is read back.
use Rattle.std.proofs.Common.{◌≡◌, ℕ, ◌==◌, Bool, true, false, not, cond, ◌&&◌, List, [], ◌∷◌, ◌++◌, refl, sym, ap, ◌∙◌}
use Rattle.std.proofs.Common.{append_assoc}
use Rattle.std.proofs.lemmas.List.{append-nil}
use Rattle.std.specs.Prelude.{codes}
use Rattle.std.specs.List.{list_all}
use Rattle.std.proofs.lemmas.Bool.{eqb-true}
use Rattle.html_text.specs.Tokens.{Token, Character, Tag, escaped, escaped_text, printed}
use Rattle.html_text.specs.Tokens.{printed_token, is_closed_token}
use Rattle.std.proofs.lemmas.List.Folds.{list_all-append}
use Rattle.html_text.specs.Reading.{In_text, In_tag, In_reference, read_from}
use Rattle.html_text.specs.Safe.{is_safe}
use Rattle.html_text.specs.Laws.{HtmlIsReadBack, TextsAreReadBack, TextsAreNoMarkup}
use Rattle.doc_bits.proofs.Public.{and_first, and_second, not_true}

-- a tag is read up to its end
read-tag : (so_far inner rest : List ℕ) → list_all (λ code. not (code == 62)) inner ≡ true → read_from (In_tag so_far)
    (inner ++ 62 ∷ rest) ≡ Tag (so_far ++ inner) ∷ read_from In_text rest
read-tag so_far [] rest closed = ap (λ t. Tag t ∷ read_from In_text rest) (sym (append-nil so_far))
read-tag so_far (code ∷ inner) rest closed =
    let here : (code == 62) ≡ false = not_true (code == 62) (and_first (not (code == 62)) (list_all (λ c. not (c ==
    62)) inner) closed) in
    let more : list_all (λ c. not (c == 62)) inner ≡ true = and_second (not (code == 62)) (list_all (λ c. not (c ==
    62)) inner) closed in
    ap (λ b. cond b (Tag so_far ∷ read_from In_text (inner ++ 62 ∷ rest)) (read_from (In_tag (so_far ++ code ∷ []))
    (inner ++ 62 ∷ rest))) here
    ∙ (read-tag (so_far ++ code ∷ []) inner rest more
    ∙ ap (λ t. Tag t ∷ read_from In_text rest) (append_assoc so_far (code ∷ []) inner))

-- a character is read from its text
plain : (code : ℕ) (rest : List ℕ) → (code == 60) ≡ false → (code == 38) ≡ false → read_from In_text (code ∷ rest) ≡
    Character code ∷ read_from In_text rest
plain code rest first second =
    ap (λ b. cond b (read_from (In_tag []) rest) (cond (code == 38) (read_from (In_reference []) rest) (Character code ∷
    read_from In_text rest))) first
    ∙ ap (λ b. cond b (read_from (In_reference []) rest) (Character code ∷ read_from In_text rest)) second

read-character : (code : ℕ) (rest : List ℕ) → read_from In_text (escaped code ++ rest) ≡ Character code ∷ read_from
    In_text rest
read-character code rest =
    elim (code == 38) as (λ a. (code == 38) ≡ a → read_from In_text (cond a (codes "&amp;") (cond (code == 60) (codes
    "&lt;") (cond (code == 62) (codes "&gt;") (cond (code == 34) (codes "&quot;") (code ∷ [])))) ++ rest) ≡ Character
    code ∷ read_from In_text rest) [
      | true ↦ λ e. ap (λ c. Character c ∷ read_from In_text rest) (sym (eqb-true code 38 e))
      | false ↦ λ amp. elim (code == 60) as (λ b. (code == 60) ≡ b → read_from In_text (cond b (codes "&lt;") (cond
          (code == 62) (codes "&gt;") (cond (code == 34) (codes "&quot;") (code ∷ []))) ++ rest) ≡ Character code ∷
          read_from In_text rest) [
            | true ↦ λ e. ap (λ c. Character c ∷ read_from In_text rest) (sym (eqb-true code 60 e))
            | false ↦ λ lt. elim (code == 62) as (λ c. (code == 62) ≡ c → read_from In_text (cond c (codes "&gt;") (cond
                (code == 34) (codes "&quot;") (code ∷ [])) ++ rest) ≡ Character code ∷ read_from In_text rest) [
                  | true ↦ λ e. ap (λ c. Character c ∷ read_from In_text rest) (sym (eqb-true code 62 e))
                  | false ↦ λ _. elim (code == 34) as (λ d. (code == 34) ≡ d → read_from In_text (cond d (codes
                      "&quot;") (code ∷ []) ++ rest) ≡ Character code ∷ read_from In_text rest) [
                        | true ↦ λ e. ap (λ c. Character c ∷ read_from In_text rest) (sym (eqb-true code 34 e))
                        | false ↦ λ _. plain code rest lt amp
                      ] refl
                ] refl
          ] refl
    ] refl

read-token : (token : Token) (rest : List ℕ) → is_closed_token token ≡ true → read_from In_text (printed_token token ++
    rest)
    ≡ token ∷ read_from In_text rest
read-token (Character code) rest closed = read-character code rest
read-token (Tag inner) rest closed =
    ap (λ l. read_from (In_tag []) l) (append_assoc inner (62 ∷ []) rest) ∙ read-tag [] inner rest closed

pub read_back : HtmlIsReadBack
read_back [] closed = refl
read_back (token ∷ tokens) closed =
    read-token token (printed tokens) (and_first (is_closed_token token) (list_all is_closed_token tokens) closed)
    ∙ ap (λ more. token ∷ more) (read_back tokens (and_second (is_closed_token token) (list_all is_closed_token tokens)
    closed))

no_or : (a b : Bool) → a ≡ false → b ≡ false → not (cond a true b) ≡ true
no_or a b e f = rw (e, f) refl

safe-escaped : (code : ℕ) → list_all is_safe (escaped code) ≡ true
safe-escaped code =
    elim (code == 38) as (λ a. list_all is_safe (cond a (codes "&amp;") (cond (code == 60) (codes "&lt;") (cond (code ==
    62) (codes "&gt;") (cond (code == 34) (codes "&quot;") (code ∷ []))))) ≡ true) [
      | true ↦ refl
      | false ↦ elim (code == 60) as (λ b. (code == 60) ≡ b → list_all is_safe (cond b (codes "&lt;") (cond (code == 62)
          (codes "&gt;") (cond (code == 34) (codes "&quot;") (code ∷ [])))) ≡ true) [
            | true ↦ λ _. refl
            | false ↦ λ lt. elim (code == 62) as (λ c. (code == 62) ≡ c → list_all is_safe (cond c (codes "&gt;") (cond
                (code == 34) (codes "&quot;") (code ∷ []))) ≡ true) [
                  | true ↦ λ _. refl
                  | false ↦ λ gt. elim (code == 34) as (λ d. (code == 34) ≡ d → list_all is_safe (cond d (codes
                      "&quot;") (code ∷ [])) ≡ true) [
                        | true ↦ λ _. refl
                        | false ↦ λ quote. rw (lt, gt, quote)
                      ] refl
                ] refl
          ] refl
    ]

-- what is printed for a text is safe
pub no_markup : TextsAreNoMarkup
no_markup [] = refl
no_markup (code ∷ text) =
    list_all-append is_safe (escaped code) (escaped_text text)
    ∙ (ap (λ b. b && list_all is_safe (escaped_text text)) (safe-escaped code) ∙ no_markup text)

-- a text is read back
pub text_back : TextsAreReadBack
text_back [] = refl
text_back (code ∷ text) =
    read-character code (escaped_text text) ∙ ap (λ more. Character code ∷ more) (text_back text)
