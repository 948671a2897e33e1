-- Tokens put one behind the other.
use Rattle.std.proofs.Common.{◌≡◌, ℕ, zero, suc, Bool, true, false, ◌+◌, ◌/◌, ◌%◌, ◌^◌, ◌<◌, ◌≤◌, List, [], ◌∷◌, ◌++◌, map, refl, sym, ap}
use Rattle.std.proofs.Common.{subst, ◌∙◌, arith, append_assoc, length, take}
use Rattle.std.specs.Prelude.{None, if◌then◌else◌, slice_index}
use Rattle.std.specs.Fmt.{decimal}
use Rattle.std.proofs.lemmas.Fmt.{decimal_digit, decimal_step}
use Rattle.std.proofs.lemmas.List.{append-nil, map-append, take_more}
use Rattle.doc_outer.specs.declared.sink.Sink.{Ghosts}
use Rattle.page_out.specs.declared.page.Page.{Page}
use Rattle.page_out.specs.Printed.{Prints}
use Rattle.page_out.proofs.Public.{put_none, put_then, three_put}
use Rattle.markdown_text.specs.declared.line.LineState.{LineState}
use Rattle.markdown_text.specs.Lines.{after_character, after_markups, after_tag}
use Rattle.markdown_text.specs.declared.line.LineState.TheVariants.{Within}
use Rattle.markdown_text.specs.Tokens.{Token, Character, Markup, Tag, Destination, after_tokens, destination_text}
use Rattle.markdown_text.specs.Tokens.{escaped_in_line}
use Rattle.markdown_text.specs.Tokens.{escaped_by, printed_from}
use Rattle.markdown_text.proofs.Public.{after_tokens-append, after_tokens-markup, printed_from-append}
use Rattle.markdown_text.proofs.Public.{printed_from-markup}
use Rattle.markdown_page.specs.declared.pen.Pen.{Pen}
use Rattle.markdown_page.specs.Pieces.{characters, markup, marks_text}
use Rattle.markdown_page.specs.declared.marks.Mark.{Mark}
use Rattle.markdown_page.specs.declared.context.Seam.{Seam}
use Rattle.markdown_page.specs.Contexts.{character_seam}
use Rattle.markdown_page.specs.Marks.{mark_text}
use Rattle.markdown_page.specs.Pages.{character_tokens, text_seam, text_tokens}
use Rattle.markdown_page.specs.Printed.{PutsTokens}

-- tokens that are the same
pub tokens_as : {K : Type 0} (sink : Ghosts K) (a b : K) (p q : Pen) (xs ys : List Token) → xs ≡ ys →
    PutsTokens sink a p b q xs → PutsTokens sink a p b q ys
tokens_as sink a b p q xs ys is puts = subst (λ (tokens : List Token). PutsTokens sink a p b q tokens) is puts

pub tokens_none : {K : Type 0} (sink : Ghosts K) (at : K) (pen : Pen) → PutsTokens sink at pen at pen []
tokens_none sink at pen = record { prints = put_none sink at pen.page; line = refl }

-- some, and then others
pub tokens_then : {K : Type 0} (sink : Ghosts K) (a b c : K) (p q r : Pen) (xs ys : List Token) →
    PutsTokens sink a p b q xs → PutsTokens sink b q c r ys → PutsTokens sink a p c r (xs ++ ys)
tokens_then sink a b c p q r xs ys one other = record {
  prints =
      subst (λ (text : List ℕ). Prints sink a p.page c r.page text)
      (ap (λ (line : LineState). printed_from p.line xs ++ printed_from line ys) one.line
      ∙ sym (printed_from-append p.line xs ys))
      (put_then sink a b c p.page q.page r.page (printed_from p.line xs) (printed_from q.line ys) one.prints other.prints);
  line =
      other.line ∙ ap (λ (line : LineState). after_tokens line ys) one.line ∙ sym (after_tokens-append p.line xs ys);
}

pub three_tokens : {K : Type 0} (sink : Ghosts K) (a b c d : K) (p q r s : Pen) (xs ys zs : List Token) →
    PutsTokens sink a p b q xs → PutsTokens sink b q c r ys → PutsTokens sink c r d s zs →
    PutsTokens sink a p d s (xs ++ (ys ++ zs))
three_tokens sink a b c d p q r s xs ys zs one two three =
    tokens_then sink a b d p q s xs (ys ++ zs) one (tokens_then sink b c d q r s ys zs two three)

-- characters that were put, and where the line is behind them
pub tokens_put : {K : Type 0} (sink : Ghosts K) (a b : K) (pen : Pen) (page : Page) (line : LineState) (text : List ℕ)
    (tokens : List Token) → text ≡ printed_from pen.line tokens → Prints sink a pen.page b page text →
    line ≡ after_tokens pen.line tokens → PutsTokens sink a pen b (record { page = page; line = line }) tokens
tokens_put sink a b pen page line text tokens is put behind = record {
  prints = subst (λ (t : List ℕ). Prints sink a pen.page b page t) is put;
  line = behind;
}

pub character_put : {K : Type 0} (sink : Ghosts K) (a b : K) (pen : Pen) (page : Page) (line : LineState) (code : ℕ) →
    Prints sink a pen.page b page (escaped_in_line pen.line code) → line ≡ after_character pen.line code →
    PutsTokens sink a pen b (record { page = page; line = line }) (Character code ∷ [])
character_put sink a b pen page line code put is =
    tokens_put sink a b pen page line (escaped_in_line pen.line code) (Character code ∷ [])
    (sym (append-nil (escaped_in_line pen.line code))) put is

-- a character behind a reverse solidus or without it
written_pieces : (special : Bool) (code : ℕ) → (if special then 92 ∷ [] else []) ++ code ∷ [] ≡ escaped_by None special
    code
written_pieces true code = refl
written_pieces false code = refl

pub written_put : {K : Type 0} (sink : Ghosts K) (a b c : K) (p q r : Page) (special : Bool) (code : ℕ) →
    Prints sink a p b q (if special then 92 ∷ [] else []) → Prints sink b q c r (code ∷ []) →
    Prints sink a p c r (escaped_by None special code)
written_put sink a b c p q r special code one other =
    subst (λ (text : List ℕ). Prints sink a p c r text) (written_pieces special code)
    (put_then sink a b c p q r (if special then 92 ∷ [] else []) (code ∷ []) one other)

pub markup_put : {K : Type 0} (sink : Ghosts K) (a b : K) (pen : Pen) (page : Page) (line : LineState) (text : List ℕ) →
    Prints sink a pen.page b page text → line ≡ after_markups pen.line text →
    PutsTokens sink a pen b (record { page = page; line = line }) (markup text)
markup_put sink a b pen page line text put is =
    tokens_put sink a b pen page line text (markup text) (sym (printed_from-markup pen.line text)) put
    (is ∙ sym (after_tokens-markup pen.line text))

pub tag_put : {K : Type 0} (sink : Ghosts K) (a b c d : K) (pen : Pen) (q r page : Page) (line : LineState)
    (name : List ℕ) → Prints sink a pen.page b q (60 ∷ []) → Prints sink b q c r name →
    Prints sink c r d page (62 ∷ []) → line ≡ after_tag pen.line →
    PutsTokens sink a pen d (record { page = page; line = line }) (Tag name ∷ [])
tag_put sink a b c d pen q r page line name one two three is =
    tokens_put sink a d pen page line (60 ∷ (name ++ 62 ∷ [])) (Tag name ∷ [])
    (sym (append-nil (60 ∷ (name ++ 62 ∷ []))))
    (three_put sink a b c d pen.page q r page (60 ∷ []) name (62 ∷ []) one two three) is

pub destination_put : {K : Type 0} (sink : Ghosts K) (a b c d : K) (pen : Pen) (q r page : Page) (line : LineState)
    (url : List ℕ) → Prints sink a pen.page b q (40 ∷ []) → Prints sink b q c r (destination_text url) →
    Prints sink c r d page (41 ∷ []) → line ≡ Within →
    PutsTokens sink a pen d (record { page = page; line = line }) (Destination url ∷ [])
destination_put sink a b c d pen q r page line url one two three is =
    let text = destination_text url in
    tokens_put sink a d pen page line (40 ∷ (text ++ 41 ∷ [])) (Destination url ∷ [])
    (sym (append-nil (40 ∷ (text ++ 41 ∷ []))))
    (three_put sink a b c d pen.page q r page (40 ∷ []) text (41 ∷ []) one two three) is

-- a number of one digit, and one of more
pub digit_put : {K : Type 0} (sink : Ghosts K) (a b : K) (p q : Pen) (number : ℕ) → number < 10 →
    PutsTokens sink a p b q (markup ((48 + number) ∷ [])) → PutsTokens sink a p b q (markup (decimal number))
digit_put sink a b p q number small put =
    tokens_as sink a b p q (markup ((48 + number) ∷ [])) (markup (decimal number))
    (ap markup (sym (decimal_digit number small))) put

pub digits_put : {K : Type 0} (sink : Ghosts K) (a b c : K) (p q r : Pen) (number : ℕ) → 10 ≤ number →
    number < 2 ^ 64 → PutsTokens sink a p b q (markup (decimal (number / 10))) →
    PutsTokens sink b q c r (markup ((48 + number % 10) ∷ [])) → PutsTokens sink a p c r (markup (decimal number))
digits_put sink a b c p q r number large fits one other =
    let front = decimal (number / 10) in
    let last = (48 + number % 10) ∷ [] in
    tokens_as sink a c p r (markup front ++ markup last) (markup (decimal number))
    (sym (map-append {B = Token} Markup front last) ∙ ap markup (sym (decimal_step number large fits)))
    (tokens_then sink a b c p q r (markup front) (markup last) one other)

-- markup that is one text
pub markups_then : {K : Type 0} (sink : Ghosts K) (a b c : K) (p q r : Pen) (xs ys : List ℕ) →
    PutsTokens sink a p b q (markup xs) → PutsTokens sink b q c r (markup ys) →
    PutsTokens sink a p c r (markup (xs ++ ys))
markups_then sink a b c p q r xs ys one other =
    tokens_as sink a c p r (markup xs ++ markup ys) (markup (xs ++ ys)) (sym (map-append {B = Token} Markup xs ys))
    (tokens_then sink a b c p q r (markup xs) (markup ys) one other)

-- a text character by character
pub characters_next : (text : List ℕ) (i : ℕ) → i < length text →
    characters (take i text) ++ (Character (slice_index text i) ∷ []) ≡ characters (take (i + 1) text)
characters_next text i within =
    sym (ap characters (take_more text i 0 within)
    ∙ map-append {B = Token} Character (take i text) (slice_index text i ∷ []))

-- a mark once more
pub marks_next : {K : Type 0} (sink : Ghosts K) (a b : K) (p q : Pen) (mark : Mark) (done : ℕ) →
    PutsTokens sink a p b q (markup (marks_text mark done ++ mark_text mark)) →
    PutsTokens sink a p b q (markup (marks_text mark (done + 1)))
marks_next sink a b p q mark done puts =
    let next : suc done ≡ done + 1 = omega arith in
    tokens_as sink a b p q (markup (marks_text mark (suc done))) (markup (marks_text mark (done + 1)))
    (ap (λ (count : ℕ). markup (marks_text mark count)) next) puts

-- a text in two
pub text_tokens-append : (seam : Seam) (one other : List ℕ) → text_tokens seam (one ++ other) ≡ text_tokens seam one ++
    text_tokens (text_seam seam one) other
text_tokens-append seam [] other = refl
text_tokens-append seam (code ∷ one) other =
    ap (λ (more : List Token). character_tokens seam code ++ more) (text_tokens-append (character_seam code) one other)
    ∙ sym (append_assoc (character_tokens seam code) (text_tokens (character_seam code) one)
    (text_tokens (text_seam (character_seam code) one) other))
