-- Units that are put together.
use Rattle.std.proofs.Common.{◌≡◌, ◌∙◌, ℕ, ◌+◌, ◌-◌, ◌<◌, ◌≤◌, ◌==◌, Bool, true, false, ◌||◌, List, [], ◌∷◌, ◌++◌, length, take, drop}
use Rattle.std.proofs.Common.{map, Option, Some, None, refl, sym, ap, subst, arith, length-take}
use Rattle.std.specs.Prelude.{if◌then◌else◌, codes, slice_index, slice_range}
use Rattle.std.specs.Char.{IsScalar}
use Rattle.std.specs.List.{All}
use Rattle.std.proofs.lemmas.List.{get_or-drop, get_or-take}
use Rattle.std.proofs.lemmas.List.Elements.{All-from_get_or, All-get_or, All-head, All-tail}
use Rattle.doc_outer.specs.declared.sink.Sink.{Ghosts}
use Rattle.page_out.specs.Printed.{Prints}
use Rattle.html_text.specs.Tokens.{Character, Token, escaped, printed}
use Rattle.html_page.specs.Sources.{PageSource, page_source_of}
use Rattle.view_paths.specs.Events.{turns}
use Rattle.view_paths.specs.Paths.{last_path}
use Rattle.view_paths.specs.Events.{events_up_to}
use Rattle.view_places.specs.declared.element.Element.{Element}
use Rattle.view_places.specs.Same.{same}
use Rattle.glyph_units.specs.Glyphs.{leaves, unit_places}
use Rattle.glyph_units.specs.Units.{unit_half, unit_text}
use Rattle.glyph_units.proofs.Public.{events-units, last-units, scalar_half, scalar_text}
use Rattle.html_page.specs.declared.printer.HtmlPage.{HtmlPage}
use Rattle.html_page.specs.Pages.{Events, characters, half_of, is_referred, tokens_of}
use Rattle.html_page.specs.Printed.{PutsEvents, PutsPlaces}
use Rattle.html_page.proofs.PutLemmas.{characters_then, events_then, puts_as}
use Rattle.text_codes.specs.Halves.{half_text}

-- ---- ranges

pub scalar_at : (units : List ℕ) (at : ℕ) → at < length units → All IsScalar units → IsScalar (slice_index units at)
scalar_at units at within all = All-get_or IsScalar units at 0 within all

-- ---- units that represent themselves

abbrev IsPlain : ℕ → Type 0
IsPlain code = is_referred code ≡ false

record NoneOf (a b c d : Bool) : Type 0 where
  one : a ≡ false
  two : b ≡ false
  three : c ≡ false
  four : d ≡ false

none_of : (a b c d : Bool) → (a || (b || (c || d))) ≡ false → NoneOf a b c d
none_of true b c d e = absurd (cc (e))
none_of false true c d e = absurd (cc (e))
none_of false false true d e = absurd (cc (e))
none_of false false false d e = record { one = refl; two = refl; three = refl; four = e }

plain_code : (code : ℕ) → IsPlain code → escaped code ≡ code ∷ []
plain_code code e =
    let none = none_of (code == 38) (code == 60) (code == 62) (code == 34) e in
    rw (none.one, none.two, none.three, none.four) refl

plain_text : (text : List ℕ) → All IsPlain text → printed (characters text) ≡ text
plain_text [] all = refl
plain_text (code ∷ text) all =
    λ i. plain_code code (All-head IsPlain code text all) i ++ plain_text text (All-tail IsPlain code text all) i

pub plain_range : (units : List ℕ) (from until : ℕ) → until ≤ length units → ((k : ℕ) → from ≤ k → k < until →
    is_referred (slice_index units k) ≡ false) → printed (characters (slice_range units from until)) ≡ slice_range units
    from until
plain_range units from until within are =
    let rest = drop from units in
    plain_text (take (until - from) rest) (All-from_get_or IsPlain (take (until - from) rest) 0 (λ i below.
    let inside : i < until - from = omega (arith, below, length-take (until - from) rest) in
    subst IsPlain (sym (get_or-take (until - from) rest i 0 inside ∙ get_or-drop from units i 0))
    (are (from + i) (omega arith) (omega (arith, inside)))))

-- ---- units on one path

whole_tokens : (source : PageSource) (path : List Element) (units : List ℕ) → All IsScalar units →
    tokens_of source None (leaves path units) ≡ characters units
unfolding tokens_of
whole_tokens source path [] all = refl
whole_tokens source path (unit ∷ units) all =
    let scalar = All-head IsScalar unit units all in
    (λ i. characters (scalar_text None unit scalar i) ++ tokens_of source (scalar_half None unit scalar i) (leaves path
    units))
    ∙ ap (λ (more : List Token). Character unit ∷ more) (whole_tokens source path units (All-tail IsScalar unit units
    all))

whole_half : (path : List Element) (units : List ℕ) → All IsScalar units → half_of None (leaves path units) ≡ None
unfolding half_of
whole_half path [] all = refl
whole_half path (unit ∷ units) all =
    (λ i. half_of (scalar_half None unit (All-head IsScalar unit units all) i) (leaves path units))
    ∙ whole_half path units (All-tail IsScalar unit units all)

characters-append : (xs ys : List ℕ) → characters (xs ++ ys) ≡ characters xs ++ characters ys
characters-append [] ys = refl
characters-append (x ∷ xs) ys = ap (λ (more : List Token). Character x ∷ more) (characters-append xs ys)

run_pieces : (front : List ℕ) (unit : ℕ) (units : List ℕ) → (characters front ++ characters (unit ∷ [])) ++ characters
    units ≡ characters (front ++ (unit ∷ units))
run_pieces [] unit units = refl
run_pieces (x ∷ front) unit units = ap (λ (more : List Token). Character x ∷ more) (run_pieces front unit units)

run_tokens : (source : PageSource) (path : List Element) (half : Option ℕ) (unit : ℕ) (units : List ℕ) → All IsScalar
    (unit ∷ units) → characters (half_text half ++ (unit ∷ units)) ≡ tokens_of source half (leaves path (unit ∷ units))
unfolding tokens_of
run_tokens source path half unit units all =
    let scalar = All-head IsScalar unit units all in
    let front = half_text half in
    sym ((λ i. characters (scalar_text half unit scalar i) ++ tokens_of source (scalar_half half unit scalar i) (leaves
    path units))
    ∙ (λ i. characters-append front (unit ∷ []) i ++ whole_tokens source path units (All-tail IsScalar unit units all) i)
    ∙ run_pieces front unit units)

run_half : (path : List Element) (half : Option ℕ) (unit : ℕ) (units : List ℕ) → All IsScalar (unit ∷ units) →
    half_of half (leaves path (unit ∷ units)) ≡ None
unfolding half_of
run_half path half unit units all =
    (λ i. half_of (scalar_half half unit (All-head IsScalar unit units all) i) (leaves path units))
    ∙ whole_half path units (All-tail IsScalar unit units all)

-- units were put on a path, behind the half that waited
pub run_put : {K : Type 0} (sink : Ghosts K) (a b c d : K) (html next mid left : HtmlPage) (to : List Element) (units :
    List ℕ) → All IsScalar units → 0 < length units → PutsEvents sink a html b next (turns same html.path to) to →
    Prints sink b next.page c mid.page (printed (characters (half_text next.half))) →
    Prints sink c mid.page d left.page (printed (characters units)) → left.path ≡ next.path → left.half ≡ None →
    left.source ≡ next.source → PutsPlaces sink a html d left (unit_places to units)
run_put sink a b c d html next mid left to [] all some puts before after path half source = absurd (omega (arith, some))
run_put sink a b c d html next mid left to (unit ∷ units) all some puts before after path half source =
    let run = unit ∷ units in
    let turned : Events = turns same html.path to in
    let shown : PutsEvents sink b next d left (leaves to run) to = record {
      prints =
          subst (λ (tokens : List Token). Prints sink b next.page d left.page (printed tokens)) (run_tokens
          (page_source_of next.source) to next.half unit units all)
          (characters_then sink b c d next.page mid.page left.page (half_text next.half) run before after);
      half = half ∙ sym (run_half to next.half unit units all);
      path = path ∙ puts.path;
      source = source;
    } in
    puts_as sink a d html left (turned ++ leaves to run) (events_up_to same html.path (unit_places to run)) to (last_path
    html.path (unit_places to run)) (sym (events-units html.path to unit units)) (sym (last-units html.path to unit
    units)) (events_then sink a b d html next left turned (leaves to run) to to puts shown)
