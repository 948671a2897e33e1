-- What is printed is read back.
use Rattle.std.proofs.Common.{◌≡◌, ℕ, ◌==◌, Bool, true, false, not, cond, ◌&&◌, ◌||◌, List, [], ◌∷◌, ◌++◌, refl}
use Rattle.std.proofs.Common.{sym, ap, subst, ◌∙◌}
use Rattle.std.proofs.Common.{append_assoc}
use Rattle.std.proofs.lemmas.List.{append-nil}
use Rattle.std.proofs.lemmas.Bool.{eqb-true}
use Rattle.std.specs.Prelude.{Option, None, map}
use Rattle.std.specs.List.{list_all}
use Rattle.markdown_text.specs.declared.line.LineState.{LineState}
use Rattle.markdown_text.specs.declared.line.LineState.TheVariants.{Start, Digits, Within, Bracket, Colon}
use Rattle.markdown_text.specs.Lines.{is_special, after_character, after_markup, after_markups, after_tag}
use Rattle.markdown_text.specs.Tokens.{Token, Character, Markup, Tag, Destination, after_token, after_tokens, are_valid}
use Rattle.markdown_text.specs.Tokens.{destination_code, destination_text, escaped_in_line, escaped_by, is_bracket}
use Rattle.markdown_text.specs.Tokens.{is_destination_markup, is_valid, printed_from, printed_token, reference}
use Rattle.markdown_text.specs.Reading.{In_text, In_tag, In_destination, all_as_read, as_read, read_from}
use Rattle.markdown_text.specs.Laws.{MarkdownIsReadBack, TextsAreReadBack}
use Rattle.doc_bits.proofs.Public.{and_true, and_first, and_second, not_true}

-- none of four
record NoneOf (a b c d : Bool) : Type 0 where
  one : a ≡ false
  two : b ≡ false
  three : c ≡ false
  four : d ≡ false

none_of : (a b c d : Bool) → (a || (b || (c || (d || false)))) ≡ false → NoneOf a b c d
none_of true b c d e = absurd (cc (e))
none_of false true c d e = absurd (cc (e))
none_of false false true d e = absurd (cc (e))
none_of false false false true e = absurd (cc (e))
none_of false false false false e = record { one = refl; two = refl; three = refl; four = refl }

-- ---- characters

-- a character is read from what is printed for it
abbrev IsRead : LineState → List ℕ → ℕ → Type 0
IsRead state rest code =
    read_from (In_text state) (escaped_in_line state code ++ rest) ≡ Character code ∷ read_from (In_text
    (after_character state
    code)) rest

feed : (state : LineState) (rest : List ℕ) → IsRead state rest 10
feed Start rest = refl
feed Digits rest = refl
feed Within rest = refl
feed Bracket rest = refl
feed Colon rest = refl

return : (state : LineState) (rest : List ℕ) → IsRead state rest 13
return Start rest = refl
return Digits rest = refl
return Within rest = refl
return Bracket rest = refl
return Colon rest = refl

tab : (state : LineState) (rest : List ℕ) → IsRead state rest 9
tab Start rest = refl
tab Digits rest = refl
tab Within rest = refl
tab Bracket rest = refl
tab Colon rest = refl

space : (state : LineState) (rest : List ℕ) → IsRead state rest 32
space Start rest = refl
space Digits rest = refl
space Within rest = refl
space Bracket rest = refl
space Colon rest = refl

-- behind a reverse solidus
behind_escape : (state : LineState) (code : ℕ) (rest : List ℕ) → read_from (In_text state) (92 ∷ code ∷ rest) ≡
    Character code ∷ read_from (In_text (after_character state code)) rest
behind_escape Start code rest = refl
behind_escape Digits code rest = refl
behind_escape Within code rest = refl
behind_escape Bracket code rest = refl
behind_escape Colon code rest = refl

-- by itself
plain : (state : LineState) (code : ℕ) (rest : List ℕ) → is_special state code ≡ false →
    read_from (In_text state) (code ∷ rest) ≡ Character code ∷ read_from (In_text (after_character state code)) rest
plain state code rest e = rw e refl

written : (state : LineState) (code : ℕ) (rest : List ℕ) (special : Bool) → is_special state code ≡ special →
    read_from (In_text state) (escaped_by None special code ++ rest) ≡ Character code ∷ read_from (In_text
    (after_character state code)) rest
written state code rest true e = behind_escape state code rest
written state code rest false e = plain state code rest e

no_reference : (state : LineState) (code : ℕ) → (code == 10) ≡ false → (code == 13) ≡ false → (code == 9) ≡ false →
    (code == 32) ≡ false → reference state code ≡ None
no_reference state code a b c d = rw (a, b, c, d) refl

other : (state : LineState) (rest : List ℕ) (code : ℕ) → (code == 10) ≡ false → (code == 13) ≡ false →
    (code == 9) ≡ false → (code == 32) ≡ false → IsRead state rest code
other state rest code a b c d =
    ap (λ (text : Option (List ℕ)). read_from (In_text state) (escaped_by text (is_special state code) code ++ rest))
    (no_reference state code a b c d)
    ∙ written state code rest (is_special state code) refl

-- one that is known, or another
one_of : (P : ℕ → Type 0) (code known : ℕ) → P known → ((code == known) ≡ false → P code) → P code
one_of P code known here more =
    elim (code == known) as (λ b. (code == known) ≡ b → P code) [
      | true ↦ λ e. subst P (sym (eqb-true code known e)) here
      | false ↦ more
    ] refl

read-character : (state : LineState) (rest : List ℕ) (code : ℕ) → IsRead state rest code
read-character state rest code =
    one_of (IsRead state rest) code 10 (feed state rest) (λ a.
    one_of (IsRead state rest) code 13 (return state rest) (λ b.
    one_of (IsRead state rest) code 9 (tab state rest) (λ c.
    one_of (IsRead state rest) code 32 (space state rest) (λ d.
    other state rest code a b c d))))

-- ---- markup

-- markup is read as it is, or as a character where it is none
read-markup : (state : LineState) (code : ℕ) (rest : List ℕ) (special : Bool) → is_special state code ≡ special →
    NoneOf (code == 92) (code == 38) (code == 60) (code == 40) → read_from (In_text state) (code ∷ rest) ≡
    as_read state (Markup code) ∷ read_from (In_text (after_markup state code)) rest
read-markup state code rest false e none = rw e refl
read-markup state code rest true e none = rw (e, none.one, none.two, none.three, none.four) refl

-- a tag is read up to its end
read-tag : (state : LineState) (so_far inner rest : List ℕ) → list_all (λ code. not (code == 62)) inner ≡ true →
    read_from (In_tag state so_far) (inner ++ 62 ∷ rest) ≡ Tag (so_far ++ inner) ∷ read_from (In_text (after_tag
    state)) rest
read-tag state so_far [] rest closed =
    ap (λ t. Tag t ∷ read_from (In_text (after_tag state)) rest) (sym (append-nil so_far))
read-tag state so_far (code ∷ inner) rest closed =
    let here : (code == 62) ≡ false = not_true (code == 62) (and_first (not (code == 62)) (list_all (λ c. not (c ==
    62)) inner) closed) in
    let more : list_all (λ c. not (c == 62)) inner ≡ true = and_second (not (code == 62)) (list_all (λ c. not (c ==
    62)) inner) closed in
    ap (λ b. cond b (Tag so_far ∷ read_from (In_text (after_tag state)) (inner ++ 62 ∷ rest)) (read_from (In_tag state
    (so_far ++ code ∷ [])) (inner ++ 62 ∷ rest))) here
    ∙ (read-tag state (so_far ++ code ∷ []) inner rest more
    ∙ ap (λ t. Tag t ∷ read_from (In_text (after_tag state)) rest) (append_assoc so_far (code ∷ []) inner))

tag_begins : (state : LineState) (text : List ℕ) → read_from (In_text state) (60 ∷ text) ≡ read_from (In_tag state []) text
tag_begins Start text = refl
tag_begins Digits text = refl
tag_begins Within text = refl
tag_begins Bracket text = refl
tag_begins Colon text = refl

-- a character of a destination
read-code : (so_far : List ℕ) (code : ℕ) (rest : List ℕ) (markup : Bool) → is_destination_markup code ≡ markup →
    read_from (In_destination so_far) ((cond markup (92 ∷ code ∷ []) (code ∷ [])) ++ rest) ≡ read_from
    (In_destination (so_far ++ code ∷ [])) rest
read-code so_far code rest true e = refl
read-code so_far code rest false e =
    let none = none_of (code == 92) (code == 38) (code == 40) (code == 41) e in rw (none.one, none.four) refl

-- a destination is read up to its end
read-destination : (so_far url rest : List ℕ) → read_from (In_destination so_far) (destination_text url ++ 41 ∷ rest) ≡
    Destination (so_far ++ url) ∷ read_from (In_text Within) rest
read-destination so_far [] rest = ap (λ t. Destination t ∷ read_from (In_text Within) rest) (sym (append-nil so_far))
read-destination so_far (code ∷ url) rest =
    ap (read_from (In_destination so_far)) (append_assoc (destination_code code) (destination_text url) (41 ∷ rest))
    ∙ (read-code so_far code (destination_text url ++ 41 ∷ rest) (is_destination_markup code) refl
    ∙ (read-destination (so_far ++ code ∷ []) url rest
    ∙ ap (λ t. Destination t ∷ read_from (In_text Within) rest) (append_assoc so_far (code ∷ []) url)))

destination_begins : (state : LineState) (text : List ℕ) → is_bracket state ≡ true →
    read_from (In_text state) (40 ∷ text) ≡ read_from (In_destination []) text
destination_begins Start text e = absurd (cc (e))
destination_begins Digits text e = absurd (cc (e))
destination_begins Within text e = absurd (cc (e))
destination_begins Bracket text e = refl
destination_begins Colon text e = absurd (cc (e))

-- ---- tokens

read-token : (state : LineState) (token : Token) (rest : List ℕ) → is_valid state token ≡ true →
    read_from (In_text state) (printed_token state token ++ rest) ≡ as_read state token ∷ read_from (In_text
    (after_token state token)) rest
read-token state (Character code) rest right = read-character state rest code
read-token state (Markup code) rest right =
    read-markup state code rest (is_special state code) refl
    (none_of (code == 92) (code == 38) (code == 60) (code == 40)
    (not_true ((code == 92) || ((code == 38) || ((code == 60) || ((code == 40) || false)))) right))
read-token state (Tag inner) rest right =
    tag_begins state ((inner ++ 62 ∷ []) ++ rest)
    ∙ (ap (read_from (In_tag state [])) (append_assoc inner (62 ∷ []) rest) ∙ read-tag state [] inner rest right)
read-token state (Destination url) rest right =
    destination_begins state ((destination_text url ++ 41 ∷ []) ++ rest) right
    ∙ (ap (read_from (In_destination [])) (append_assoc (destination_text url) (41 ∷ []) rest)
    ∙ read-destination [] url rest)

read_all : (state : LineState) (tokens : List Token) → are_valid state tokens ≡ true →
    read_from (In_text state) (printed_from state tokens) ≡ all_as_read state tokens
read_all state [] right = refl
read_all state (token ∷ tokens) right =
    read-token state token (printed_from (after_token state token) tokens)
    (and_first (is_valid state token) (are_valid (after_token state token) tokens) right)
    ∙ ap (λ more. as_read state token ∷ more) (read_all (after_token state token) tokens
    (and_second (is_valid state token) (are_valid (after_token state token) tokens) right))

pub read_back : MarkdownIsReadBack
read_back tokens right = read_all Start tokens right

-- ---- texts

text_is_valid : (state : LineState) (text : List ℕ) → are_valid state (map Character text) ≡ true
text_is_valid state [] = refl
text_is_valid state (code ∷ text) = text_is_valid (after_character state code) text

text_as_read : (state : LineState) (text : List ℕ) → all_as_read state (map Character text) ≡ map Character text
text_as_read state [] = refl
text_as_read state (code ∷ text) =
    ap (λ more. Character code ∷ more) (text_as_read (after_character state code) text)

-- a text is read back
pub text_back : TextsAreReadBack
text_back text = read_all Start (map Character text) (text_is_valid Start text) ∙ text_as_read Start text

-- ---- for callers: tokens one behind the other

pub after_tokens-append : (state : LineState) (one more : List Token) → after_tokens state (one ++ more) ≡
    after_tokens (after_tokens state one) more
after_tokens-append state [] more = refl
after_tokens-append state (token ∷ one) more = after_tokens-append (after_token state token) one more

pub printed_from-append : (state : LineState) (one more : List Token) → printed_from state (one ++ more) ≡
    printed_from state one ++ printed_from (after_tokens state one) more
printed_from-append state [] more = refl
printed_from-append state (token ∷ one) more =
    ap (λ text. printed_token state token ++ text) (printed_from-append (after_token state token) one more)
    ∙ sym (append_assoc (printed_token state token) (printed_from (after_token state token) one)
    (printed_from (after_tokens (after_token state token) one) more))

pub are_valid-append : (state : LineState) (one more : List Token) → are_valid state (one ++ more) ≡
    (are_valid state one && are_valid (after_tokens state one) more)
are_valid-append state [] more = refl
are_valid-append state (token ∷ one) more =
    elim (is_valid state token) as (λ b. (b && are_valid (after_token state token) (one ++ more)) ≡ ((b && are_valid
    (after_token state token) one) && are_valid (after_tokens (after_token state token) one) more)) [
      | true ↦ are_valid-append (after_token state token) one more
      | false ↦ refl
    ]

-- markup is printed as it is
pub printed_from-markup : (state : LineState) (text : List ℕ) → printed_from state (map Markup text) ≡ text
printed_from-markup state [] = refl
printed_from-markup state (code ∷ text) = ap (λ more. code ∷ more) (printed_from-markup (after_markup state code) text)

pub after_tokens-markup : (state : LineState) (text : List ℕ) → after_tokens state (map Markup text) ≡ after_markups state
    text
after_tokens-markup state [] = refl
after_tokens-markup state (code ∷ text) = after_tokens-markup (after_markup state code) text

pub are_valid-markup : (state : LineState) (text : List ℕ) → list_all (λ code. is_valid state (Markup code)) text ≡ true
    →
    are_valid state (map Markup text) ≡ true
are_valid-markup state [] right = refl
are_valid-markup state (code ∷ text) right =
    and_true (is_valid state (Markup code)) (are_valid (after_markup state code) (map Markup text))
    (and_first (is_valid state (Markup code)) (list_all (λ c. is_valid state (Markup c)) text) right)
    (are_valid-markup (after_markup state code) text
    (and_second (is_valid state (Markup code)) (list_all (λ c. is_valid state (Markup c)) text) right))
