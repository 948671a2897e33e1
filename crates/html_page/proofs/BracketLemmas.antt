-- The tags of a page nest.
use Rattle.std.proofs.Common.{◌≡◌, ℕ, ◌==◌, Bool, true, false, not, List, [], ◌∷◌, ◌++◌, map, Option, Some, None}
use Rattle.std.proofs.Common.{refl, sym, ap, subst, ◌∙◌, append_assoc}
use Rattle.std.specs.Prelude.{if◌then◌else◌, codes}
use Rattle.std.specs.Fmt.{decimal}
use Rattle.std.specs.List.{flat_map, list_all}
use Rattle.std.proofs.lemmas.List.{append-nil}
use Rattle.std.proofs.lemmas.List.Concat.{flat_map-append}
use Rattle.html_text.specs.Tokens.{Token, Character, Tag}
use Rattle.html_text.specs.Reading.{read}
use Rattle.view_paths.specs.Events.{Event, Turn, Leaf, Open, Close, events_from}
use Rattle.view_paths.specs.Laws.{AreNested}
use Rattle.view_paths.proofs.Public.{nested-events_from}
use Rattle.view_places.specs.declared.element.Element.{Element}
use Rattle.view_places.specs.declared.glyph.Glyph.{Glyph}
use Rattle.view_places.specs.declared.glyph.Glyph.TheVariants.{Unit, Tab, LineBreak, PageBreak, NoteMark, Picture}
use Rattle.view_places.specs.declared.glyph.Glyph.TheVariants.{Object}
use Rattle.view_places.specs.Same.{same}
use Rattle.view_places.specs.SameLaws.{same_exact}
use Rattle.html_page.specs.Tags.{attribute, attributes_of, attributes_text, ends_line, has_tags, element_name}
use Rattle.html_page.specs.Tags.{start_text}
use Rattle.glyph_units.specs.Units.{unit_text}
use Rattle.html_page.specs.Pages.{Events, Head, Places, characters, start_tag, end, close_tokens, open_tokens}
use Rattle.html_page.specs.Pages.{other_tokens}
use Rattle.html_page.specs.Pages.{end_tokens, start_tokens}
use Rattle.html_page.specs.Pages.{glyph_tokens, image, style_text}
use Rattle.html_page.specs.Pages.{event_tokens, event_half, tokens_of, half_of, body_tokens, front_tokens, style_tokens}
use Rattle.html_page.specs.Pages.{back_tokens, page_tokens, page_text, picture_tokens}
use Rattle.html_page.specs.Brackets.{AreBrackets, IsBehindTag, End, Start, TagKind, Void, tag_kind, kind_of_word}
use Rattle.html_page.specs.Brackets.{tag_name}
use Rattle.html_page.specs.Laws.{PagesNest}
use Rattle.html_page.proofs.CloseLemmas.{by_name, page_read}
use Rattle.doc_model.specs.declared.document.Document.{Document}
use Rattle.doc_pictures.specs.declared.names.PictureName.{PictureName}
use Rattle.doc_pictures.specs.Files.{ImageFiles, picture_name_at}
use Rattle.html_page.specs.Sources.{PageSource}
use Rattle.html_page.specs.Languages.{language_attributes}
use Rattle.html_page.specs.Pages.{meta_tokens}
use Rattle.doc_bits.proofs.Public.{and_first, and_second, not_true}
use Rattle.text_codes.specs.Halves.{half_text}

abbrev Names : Type 0
Names = List (List ℕ)

brackets-append : (a b c : Names) (xs ys : List Token) → AreBrackets a xs b → AreBrackets b ys c → AreBrackets a (xs
    ++ ys) c
brackets-append a b c [] ys one other = subst (λ (p : Names). AreBrackets p ys c) (sym one) other
brackets-append a b c (Character code ∷ xs) ys one other = brackets-append a b c xs ys one other
brackets-append a b c (Tag inner ∷ xs) ys one other =
    (one.0, (one.1.0, brackets-append one.0 b c xs ys one.1.1 other))

brackets-characters : (a : Names) (text : List ℕ) → AreBrackets a (characters text) a
brackets-characters a [] = refl
brackets-characters a (code ∷ text) = brackets-characters a text

-- ---- the names of tags

abbrev IsWord : List ℕ → Type 0
IsWord name = list_all (λ code. not (code == 32)) name ≡ true

word-attributes : (name : List ℕ) (attributes : List (List ℕ)) → IsWord name → tag_name (name ++ attributes_text
    attributes) ≡
    name
word-attributes [] [] h = refl
word-attributes [] (attribute ∷ attributes) h = refl
word-attributes (code ∷ name) attributes h =
    let here : (code == 32) ≡ false =
    not_true (code == 32) (and_first (not (code == 32)) (list_all (λ c. not (c == 32)) name) h) in
    let more : IsWord name = and_second (not (code == 32)) (list_all (λ c. not (c == 32)) name) h in
    ap (λ (b : Bool). if b then [] else code ∷ tag_name (name ++ attributes_text attributes)) here ∙ ap (λ (w : List
    ℕ). code
    ∷ w) (word-attributes name attributes more)

kind-start : (name : List ℕ) (attributes : List (List ℕ)) → IsWord name → kind_of_word name ≡ Start name → tag_kind
    (start_text name attributes) ≡ Start name
kind-start name attributes word kind = ap kind_of_word (word-attributes name attributes word) ∙ kind

kind-end : (name : List ℕ) → IsWord name → tag_kind (47 ∷ name) ≡ End name
kind-end name word =
    ap (λ (w : List ℕ). End w) (ap tag_name (sym (append-nil name)) ∙ word-attributes name [] word)

brackets-start : (a : Names) (name : List ℕ) (attributes : List (List ℕ)) (more : List Token) (b : Names) → IsWord
    name →
    kind_of_word name ≡ Start name → AreBrackets (a ++ name ∷ []) more b → AreBrackets a (start_tag name attributes ∷
    more) b
brackets-start a name attributes more b word kind rest = (
  a ++ name ∷ [],
  (
    subst (λ (k : TagKind). IsBehindTag k a (a ++ name ∷ [])) (sym (kind-start name attributes word kind)) refl,
    rest,
  ),
)

brackets-end : (a : Names) (name : List ℕ) (more : List Token) (b : Names) → IsWord name → AreBrackets a more b →
    AreBrackets (a ++ name ∷ []) (end name ∷ more) b
brackets-end a name more b word rest =
    (a, (subst (λ (k : TagKind). IsBehindTag k (a ++ name ∷ []) a) (sym (kind-end name word)) refl, rest))

is_word : (e : Element) → IsWord (element_name e)
is_word e =
    by_name e IsWord refl refl refl refl refl refl refl refl refl refl refl refl refl refl refl refl refl refl refl refl
    refl refl refl refl refl refl

starts : (e : Element) → kind_of_word (element_name e) ≡ Start (element_name e)
starts e =
    by_name e (λ (name : List ℕ). kind_of_word name ≡ Start name) refl refl refl refl refl refl refl refl refl refl refl
    refl refl refl refl refl refl refl refl refl refl refl refl refl refl refl

-- ---- events

brackets-line : (a : Names) (line : Bool) → AreBrackets a (if line then Character 10 ∷ [] else []) a
brackets-line a true = refl
brackets-line a false = refl

-- the names of elements, and of one
abbrev own_names : Element → Names
own_names e = if has_tags e then element_name e ∷ [] else []

abbrev names_of : List Element → Names
names_of path = flat_map own_names path

brackets-name : (document : Document) (a : Names) (e : Element) → AreBrackets a (start_tokens document e) (a ++
    element_name e ∷ [])
brackets-name document a e = brackets-start a (element_name e) (attributes_of document e) [] (a ++ element_name e ∷ [])
    (is_word e) (starts e) refl

brackets-open : (document : Document) (a : Names) (e : Element) → AreBrackets a (open_tokens document e) (a ++ own_names e)
brackets-open document a e =
    elim (has_tags e) as (λ (b : Bool). AreBrackets a (if b then start_tokens document e else []) (a ++ (if b then
    element_name e ∷ [] else []))) [ true ↦ brackets-name document a e | false ↦ sym (append-nil a) ]

brackets-ended : (a : Names) (e : Element) → AreBrackets (a ++ element_name e ∷ []) (end_tokens e) a
brackets-ended a e =
    brackets-end a (element_name e) (if ends_line e then Character 10 ∷ [] else []) a (is_word e) (brackets-line a
    (ends_line e))

brackets-close : (a : Names) (e : Element) → AreBrackets (a ++ own_names e) (close_tokens e) a
brackets-close a e =
    elim (has_tags e) as (λ (b : Bool). AreBrackets (a ++ (if b then element_name e ∷ [] else [])) (if b then end_tokens
    e
    else []) a) [ true ↦ brackets-ended a e | false ↦ append-nil a ]

brackets-image : (a : Names) (name : List ℕ) → AreBrackets a (image name) a
brackets-image a name =
    let inside = a ++ codes "span" ∷ [] in
    let text = 91 ∷ (name ++ 93 ∷ []) in
    brackets-start a (codes "span") (attribute (codes "role") (codes "img") ∷ attribute (codes "aria-label") name ∷ [])
    (characters text ++ end (codes "span") ∷ []) a refl refl (brackets-append inside inside a (characters text) (end
    (codes
    "span") ∷ []) (brackets-characters inside text) (brackets-end a (codes "span") [] a refl refl))

brackets-picture : (a : Names) (folder : List ℕ) (name : Option PictureName) → AreBrackets a (picture_tokens folder
    name) a
brackets-picture a folder None = brackets-image a (codes "picture")
brackets-picture a folder (Some name) = (a, (refl, refl))

brackets-other : (a : Names) (images : ImageFiles) (g : Glyph) → AreBrackets a (other_tokens images g) a
brackets-other a images (Unit unit) = refl
brackets-other a images Tab = refl
brackets-other a images LineBreak = (a, (refl, refl))
brackets-other a images PageBreak = (a, (refl, refl))
brackets-other a images (NoteMark number) = brackets-characters a (decimal number)
brackets-other a images (Picture place) = brackets-picture a images.folder (picture_name_at images.pictures place)
brackets-other a images Object = brackets-image a (codes "object")

brackets-behind : (a b : Names) (half : Option ℕ) (tokens : List Token) → AreBrackets a tokens b → AreBrackets a
    (characters
    (half_text half) ++ tokens) b
brackets-behind a b half tokens h =
    brackets-append a a b (characters (half_text half)) tokens (brackets-characters a (half_text half)) h

brackets-glyph : (a : Names) (images : ImageFiles) (half : Option ℕ) (g : Glyph) → AreBrackets a (glyph_tokens images
    half g) a
brackets-glyph a images half (Unit unit) = brackets-characters a (unit_text half unit)
brackets-glyph a images half Tab = brackets-behind a a half (other_tokens images Tab) (brackets-other a images Tab)
brackets-glyph a images half LineBreak =
    brackets-behind a a half (other_tokens images LineBreak) (brackets-other a images LineBreak)
brackets-glyph a images half PageBreak =
    brackets-behind a a half (other_tokens images PageBreak) (brackets-other a images PageBreak)
brackets-glyph a images half (NoteMark number) =
    brackets-behind a a half (other_tokens images (NoteMark number)) (brackets-other a images (NoteMark number))
brackets-glyph a images half (Picture place) =
    brackets-behind a a half (other_tokens images (Picture place)) (brackets-other a images (Picture place))
brackets-glyph a images half Object =
    brackets-behind a a half (other_tokens images Object) (brackets-other a images Object)

names-push : (outer : Names) (path : List Element) (e : Element) → outer ++ names_of (path ++ e ∷ []) ≡ (outer ++
    names_of path) ++ own_names e
names-push outer path e =
    ap (λ (names : Names). outer ++ names) (flat_map-append own_names path (e ∷ []) ∙ ap (λ (names : Names). names_of
    path ++ names) (append-nil (own_names e))) ∙ sym (append_assoc outer (names_of path) (own_names e))

-- the tags of events that nest
brackets-events : (source : PageSource) (outer : Names) (half : Option ℕ) (around behind : List Element) (events : Events) → AreNested
    around events
    behind → AreBrackets (outer ++ names_of around) (tokens_of source half events) (outer ++ names_of behind)
unfolding tokens_of
brackets-events source outer half around behind [] nested = ap (λ (path : List Element). outer ++ names_of path) nested
brackets-events source outer half around behind (Turn (Open front e) ∷ events) nested =
    let a = outer ++ names_of around in
    let b = outer ++ names_of (around ++ e ∷ []) in
    let here : AreBrackets a (open_tokens source.document e) b =
    subst (λ (names : Names). AreBrackets a (open_tokens source.document e) names) (sym (names-push outer around e)) (brackets-open source.document a
    e) in
    brackets-append a b (outer ++ names_of behind) (characters (half_text half) ++ open_tokens source.document e) (tokens_of source None
    events)
    (brackets-behind a b half (open_tokens source.document e) here) (brackets-events source outer None (around ++ e ∷ []) behind events
    nested.1)
brackets-events source outer half around behind (Turn (Close front e) ∷ events) nested =
    let a = outer ++ names_of around in
    let b = outer ++ names_of front in
    let is : a ≡ b ++ own_names e =
    ap (λ (path : List Element). outer ++ names_of path) nested.0 ∙ names-push outer front e in
    let here : AreBrackets a (close_tokens e) b =
    subst (λ (names : Names). AreBrackets names (close_tokens e) b) (sym is) (brackets-close b e) in
    brackets-append a b (outer ++ names_of behind) (characters (half_text half) ++ close_tokens e) (tokens_of source None
    events)
    (brackets-behind a b half (close_tokens e) here) (brackets-events source outer None front behind events nested.1)
brackets-events source outer half around behind (Leaf path g ∷ events) nested =
    let a = outer ++ names_of around in
    brackets-append a a (outer ++ names_of behind) (glyph_tokens source.images half g) (tokens_of source (event_half half (Leaf path g))
    events) (brackets-glyph a source.images half g) (brackets-events source outer (event_half half (Leaf path g)) around behind events
    nested.1)

-- ---- the page

abbrev in_page : Names
in_page = codes "html" ∷ []

abbrev in_head : Names
in_head = codes "html" ∷ codes "head" ∷ []

abbrev in_title : Names
in_title = codes "html" ∷ codes "head" ∷ codes "title" ∷ []

abbrev in_style : Names
in_style = codes "html" ∷ codes "head" ∷ codes "style" ∷ []

abbrev in_body : Names
in_body = codes "html" ∷ codes "body" ∷ []

brackets-metas : AreBrackets in_page meta_tokens in_title
brackets-metas = (in_head, (refl, (in_head, (refl, (in_head, (refl, (in_title, (refl, refl))))))))

brackets-front : (language : Option ℕ) → AreBrackets [] (front_tokens language) in_title
brackets-front language = (
  [],
  (
    refl,
    brackets-start [] (codes "html") (language_attributes language) (Character 10 ∷ meta_tokens) in_title refl refl
        brackets-metas,
  ),
)

abbrev behind_style : List Token
behind_style =
    end (codes "style") ∷ Character 10 ∷ end (codes "head") ∷ Character 10 ∷ start_tag (codes "body") [] ∷ Character 10 ∷ []

brackets-style : AreBrackets in_title style_tokens in_body
brackets-style = (
  in_head,
  (
    refl,
    (
      in_style,
      (
        refl,
        brackets-append in_style in_style in_body (characters style_text) behind_style
            (brackets-characters in_style style_text) (in_head, (refl, (in_page, (refl, (in_body, (refl, refl)))))),
      ),
    ),
  ),
)

brackets-body : (source : PageSource) (places : Places) → AreBrackets in_body (body_tokens source places) in_body
brackets-body source places =
    let events = events_from same [] places in
    brackets-append in_body in_body in_body (tokens_of source None events) (characters (half_text (half_of None events)))
    (brackets-events source in_body None [] [] events (nested-events_from same same_exact [] places)) (brackets-characters
    in_body
    (half_text (half_of None events)))

brackets-back : AreBrackets in_body back_tokens []
brackets-back = (in_page, (refl, ([], (refl, refl))))

brackets-page : (source : PageSource) (head : Head) (places : Places) → AreBrackets [] (page_tokens source head places)
    []
brackets-page source head places =
    brackets-append [] in_title [] (front_tokens head.language) (characters head.title ++ (style_tokens ++ (body_tokens
    source places ++ back_tokens)))
    (brackets-front head.language) (brackets-append in_title in_title [] (characters head.title) (style_tokens ++
    (body_tokens source places ++ back_tokens)) (brackets-characters in_title head.title) (brackets-append in_title
    in_body [] style_tokens (body_tokens source places ++ back_tokens) brackets-style (brackets-append in_body in_body
    [] (body_tokens source places) back_tokens (brackets-body source places) brackets-back)))

pub page_nests : PagesNest
page_nests source head places =
    subst (λ (tokens : List Token). AreBrackets [] tokens []) (sym (page_read source head places)) (brackets-page
    source head places)
