-- Units that are put together.
use Rattle.std.proofs.Common.{◌≡◌, ◌∙◌, ℕ, zero, suc, ◌+◌, ◌-◌, ◌<◌, ◌≤◌, ◌==◌, Bool, true, false, not, ◌&&◌, ◌||◌, List, [], ◌∷◌, ◌++◌}
use Rattle.std.proofs.Common.{length, length-take, take, drop, map, Option, Some, None, refl, sym, ap, subst, arith}
use Rattle.std.specs.Prelude.{codes, filter, get_or, if◌then◌else◌, slice_get, slice_index, slice_range}
use Rattle.std.specs.Char.{IsScalar}
use Rattle.std.specs.List.{All, list_any}
use Rattle.std.proofs.lemmas.List.{append-nil, drop_more, get_or-drop, get_or-take, map-append, take_more}
use Rattle.std.proofs.lemmas.List.Elements.{All-from_get_or, All-head, All-tail}
use Rattle.std.proofs.lemmas.List.Folds.{list_any-append}
use Rattle.std.proofs.lemmas.Option.{slice_get-get_or}
use Rattle.std.proofs.Math.Seq.{take-add}
use Rattle.doc_outer.specs.declared.sink.Sink.{Ghosts}
use Rattle.page_out.specs.declared.page.Page.{Page}
use Rattle.page_out.specs.Printed.{Prints}
use Rattle.doc_model.specs.declared.document.Document.{Document}
use Rattle.markdown_text.specs.declared.line.LineState.{LineState}
use Rattle.markdown_text.specs.declared.line.LineState.TheVariants.{Start, Digits, Within, Bracket, Colon}
use Rattle.markdown_text.specs.Lines.{after_character, after_text, is_among, is_break, is_special}
use Rattle.markdown_text.specs.Tokens.{Character, Token, after_tokens, break_reference, escaped_in_line, escaped_by}
use Rattle.markdown_text.specs.Tokens.{printed_from, reference}
use Rattle.view_paths.specs.Events.{Event, Leaf, events_up_to}
use Rattle.view_paths.specs.Paths.{PathPlace, last_path}
use Rattle.view_places.specs.declared.element.Element.{Element}
use Rattle.view_places.specs.declared.element.Element.TheVariants.{Notes}
use Rattle.view_places.specs.declared.glyph.Glyph.{Glyph}
use Rattle.view_places.specs.declared.glyph.Glyph.TheVariants.{Unit}
use Rattle.view_places.specs.Same.{same as same_element}
use Rattle.glyph_units.specs.Glyphs.{leaves, unit_place, unit_places}
use Rattle.glyph_units.proofs.Public.{last-on, leaves-on, scalar_half, scalar_text}
use Rattle.markdown_page.specs.declared.context.Context.{Context}
use Rattle.markdown_page.specs.declared.context.Seam.{Seam}
use Rattle.markdown_page.specs.declared.context.Seam.TheVariants.{Other, Word, Closed}
use Rattle.markdown_page.specs.declared.pen.Pen.{Pen}
use Rattle.markdown_page.specs.declared.printer.MarkdownPage.{MarkdownPage}
use Rattle.markdown_page.specs.declared.shape.Kind.{Kind}
use Rattle.markdown_page.specs.declared.shape.Kind.TheVariants.{Block, ToNote, FromNote, Emphasis, Tagged, Unmarked}
use Rattle.markdown_page.specs.Contexts.{character_seam, is_word}
use Rattle.markdown_page.specs.Pages.{Events, State, behind_event, event_tokens, state_behind, text_seam, text_tokens}
use Rattle.markdown_page.specs.Pages.{tokens_from}
use Rattle.markdown_page.specs.Pieces.{characters}
use Rattle.markdown_page.specs.Printed.{PutsEvents, PutsPlaces, PutsTokens, state_in}
use Rattle.markdown_page.specs.Runs.{IsPlainCharacter, goes_on, has_emphasis, is_closed_seam, is_emphasis}
use Rattle.markdown_page.specs.Runs.{is_emphasis_in, is_none, is_open_line}
use Rattle.markdown_page.specs.Runs.{is_plain, is_within_line}
use Rattle.markdown_page.specs.Shape.{Places, all_shaped, inner_kind, is_from_note, is_white, keeps, element_kind}
use Rattle.markdown_page.specs.Shape.{shaped_path}
use Rattle.markdown_page.specs.Shape.{unnumbered_glyph}
use Rattle.markdown_page.proofs.PutLemmas.{places_then, puts_as}
use Rattle.markdown_page.proofs.TokenLemmas.{tokens_put}
use Rattle.doc_bits.proofs.Public.{and_first, and_second, not_true}

or_first : (a b : Bool) → (a || b) ≡ false → a ≡ false
or_first true b e = absurd (cc (e))
or_first false b e = refl

or_second : (a b : Bool) → (a || b) ≡ false → b ≡ false
or_second true b e = absurd (cc (e))
or_second false b e = e

-- ---- ranges

pub range_next : (units : List ℕ) (at end : ℕ) → at < length units → at < end → slice_range units at end ≡ slice_index
    units at ∷ slice_range units (at + 1) end
range_next units at end within ahead =
    let long : end - at ≡ suc (end - (at + 1)) = omega (arith, ahead) in
    ap (λ (n : ℕ). take n (drop at units)) long ∙ ap (take (suc (end - (at + 1)))) (drop_more units at 0 within)

front_range : (units : List ℕ) (at end : ℕ) → at ≤ end → take at units ++ slice_range units at end ≡ take end units
front_range units at end ahead =
    let sum : at + (end - at) ≡ end = omega (arith, ahead) in
    sym (take-add at (end - at) units) ∙ ap (λ (n : ℕ). take n units) sum

pub places_more : (path : List Element) (units : List ℕ) (at end : ℕ) → at ≤ end → unit_places path (take at units) ++
    unit_places path (slice_range units at end) ≡ unit_places path (take end units)
places_more path units at end ahead =
    sym (map-append {B = PathPlace Element Glyph} (unit_place path) (take at units) (slice_range units at end))
    ∙ ap (unit_places path) (front_range units at end ahead)

pub range_plain : (in_emphasis space : Bool) (units : List ℕ) (from until : ℕ) → until ≤ length units → ((k : ℕ) → from < k
    → k < until → goes_on in_emphasis space (slice_index units k) ≡ true) → All IsPlainCharacter (slice_range units
    (from + 1) until)
range_plain in_emphasis space units from until within are =
    let rest = drop (from + 1) units in
    All-from_get_or IsPlainCharacter (take (until - (from + 1)) rest) 0 (λ i below.
    let inside : i < until - (from + 1) = omega (arith, below, length-take (until - (from + 1)) rest) in
    let unit = slice_index units (from + 1 + i) in
    subst IsPlainCharacter (sym (get_or-take (until - (from + 1)) rest i 0 inside ∙ get_or-drop (from + 1) units i 0))
    (and_first (is_plain unit) (not in_emphasis || (if space then is_white unit else not (is_white unit))) (are (from + 1 + i)
    (omega arith) (omega (arith, inside)))))

-- ---- the elements that a unit is in

pub emphasis_next : (path : List Element) (i : ℕ) (element : Option Element) → i < length path → has_emphasis (take i path)
    ≡ false → element ≡ slice_get path i → is_emphasis_in element ≡ false → has_emphasis (take (i + 1) path) ≡ false
emphasis_next path i element within none here other =
    let f : Element → Bool = λ e. is_emphasis (element_kind e) in
    let next = get_or path i Notes in
    let last : f next ≡ false = ap is_emphasis_in (sym (here ∙ slice_get-get_or path i Notes within)) ∙ other in
    ap has_emphasis (take_more path i Notes within) ∙ list_any-append f (take i path) (next ∷ [])
    ∙ (λ j. none j || (last j || false))

keeps_same : (inner kind : Kind) (one other : Bool) → is_emphasis kind ≡ false → keeps inner one kind ≡ keeps inner other
    kind
keeps_same inner Block one other e = refl
keeps_same inner ToNote one other e = refl
keeps_same inner FromNote one other e = refl
keeps_same inner Emphasis one other e = absurd (cc (e))
keeps_same inner Tagged one other e = refl
keeps_same inner Unmarked one other e = refl

filter_same : (inner : Kind) (one other : Bool) (path : List Element) → has_emphasis path ≡ false → filter (λ e. keeps inner
    one (element_kind e)) path ≡ filter (λ e. keeps inner other (element_kind e)) path
filter_same inner one other [] none = refl
filter_same inner one other (e ∷ path) none =
    let rest = filter_same inner one other path (or_second (is_emphasis (element_kind e)) (has_emphasis path) none) in
    let here = keeps_same inner (element_kind e) one other (or_first (is_emphasis (element_kind e)) (has_emphasis path)
    none) in
    λ i. if here i then e ∷ rest i else rest i

alike_by : (space white : Bool) → (if space then white else not white) ≡ true → space ≡ white
alike_by true white e = sym e
alike_by false true e = absurd (cc (e))
alike_by false false e = refl

shaped_same : (to : List Element) (in_emphasis : Bool) (one unit : ℕ) → (in_emphasis ≡ false → has_emphasis to ≡ false) →
    goes_on in_emphasis (is_white one) unit ≡ true → shaped_path (Some (Unit unit)) to ≡ shaped_path (Some (Unit one)) to
shaped_same to true one unit none goes =
    let space = is_white one in
    let white = is_white unit in
    let alike = alike_by space white (and_second (is_plain unit) (if space then white else not white) goes) in
    ap (λ (b : Bool). filter (λ e. keeps (inner_kind to) b (element_kind e)) to) (sym alike)
shaped_same to false one unit none goes = filter_same (inner_kind to) (is_white unit) (is_white one) to (none refl)

-- ---- characters that are written as they are

within_is : (line : LineState) → is_within_line line ≡ true → line ≡ Within
within_is Start e = absurd (cc (e))
within_is Digits e = absurd (cc (e))
within_is Within e = refl
within_is Bracket e = absurd (cc (e))
within_is Colon e = absurd (cc (e))

not_special : (code : ℕ) → is_plain code ≡ true → is_special Within code ≡ false
not_special code plain =
    not_true (is_special Within code) (and_first (not (is_special Within code)) (not (code == 58)) plain)

no_colon : (code : ℕ) → is_plain code ≡ true → (code == 58) ≡ false
no_colon code plain = not_true (code == 58) (and_second (not (is_special Within code)) (not (code == 58)) plain)

either_same : (b : Bool) (none : Option (List ℕ)) → (if b then none else none) ≡ none
either_same true none = refl
either_same false none = refl

no_reference : (code : ℕ) → is_plain code ≡ true → reference Within code ≡ None
no_reference code plain =
    let none : Option (List ℕ) = None in
    let break : is_break code ≡ false = or_first (is_break code) (is_among (codes "\\`*_[]<>&|~$#!^") code) (not_special code
    plain) in
    (λ i. if break i then Some (break_reference code) else (if is_among (9 ∷ 32 ∷ []) code then none else none))
    ∙ either_same (is_among (9 ∷ 32 ∷ []) code) none

escaped_plain : (code : ℕ) → is_plain code ≡ true → escaped_in_line Within code ≡ code ∷ []
escaped_plain code plain = λ i. escaped_by (no_reference code plain i) (not_special code plain i) code

after_plain : (code : ℕ) → is_plain code ≡ true → after_character Within code ≡ Within
after_plain code plain = λ i. if no_colon code plain i then Colon else Within

plain_printed : (text : List ℕ) → All IsPlainCharacter text → printed_from Within (characters text) ≡ text
plain_printed [] all = refl
plain_printed (code ∷ text) all =
    let plain = All-head IsPlainCharacter code text all in
    (λ i. escaped_plain code plain i ++ printed_from (after_plain code plain i) (characters text))
    ∙ ap (λ (more : List ℕ). code ∷ more) (plain_printed text (All-tail IsPlainCharacter code text all))

plain_after : (text : List ℕ) → All IsPlainCharacter text → after_tokens Within (characters text) ≡ Within
plain_after [] all = refl
plain_after (code ∷ text) all =
    ap (λ (line : LineState). after_tokens line (characters text)) (after_plain code (All-head IsPlainCharacter code
    text all))
    ∙ plain_after text (All-tail IsPlainCharacter code text all)

pub plain_put : {K : Type 0} (sink : Ghosts K) (a b : K) (pen : Pen) (page : Page) (units : List ℕ) → is_within_line
    pen.line ≡
    true → All IsPlainCharacter units → Prints sink a pen.page b page units → PutsTokens sink a pen b (record {
      page = page;
      line =
          pen.line;
    }) (characters units)
plain_put sink a b pen page units within all put =
    let line = within_is pen.line within in
    tokens_put sink a b pen page pen.line units (characters units) (sym (ap (λ (l : LineState). printed_from l (characters
    units)) line ∙ plain_printed units all)) put (line ∙ sym (ap (λ (l : LineState). after_tokens l (characters units)) line ∙
    plain_after units all))

-- ---- what is shown of them

-- within a line, behind a character of a word or another one
abbrev within_line : Document → Context → Bool → State
within_line document context word = record {
  document = document;
  line = Within;
  context = record context { half = None; seam = if word then Word else Other };
}

open_text : (word : Bool) (unit : ℕ) → text_tokens (if word then Word else Other) (unit ∷ []) ≡ Character unit ∷ []
open_text true unit = refl
open_text false unit = refl

leaf_tokens : (document : Document) (context : Context) (word : Bool) (path : List Element) (unit : ℕ) → IsScalar unit →
    event_tokens (within_line document context word) (Leaf path (Unit unit)) ≡ Character unit ∷ []
leaf_tokens document context word path unit scalar =
    ap (text_tokens (if word then Word else Other)) (scalar_text None unit scalar) ∙ open_text word unit

behind_leaf : (document : Document) (context : Context) (word : Bool) (path : List Element) (unit : ℕ) → IsScalar unit →
    is_plain unit ≡ true → behind_event (within_line document context word) (Leaf path (Unit unit)) ≡ within_line document
    context (is_word unit)
behind_leaf document context word path unit scalar plain =
    (λ i. record {
      document = document;
      line = after_tokens Within (leaf_tokens document context word path unit scalar i);
      context = record context {
        half = scalar_half None unit scalar i;
        seam = text_seam (if word then Word else Other) (scalar_text None unit scalar i);
      };
    })
    ∙ (λ i. record {
      document = document;
      line = after_plain unit plain i;
      context = record context { half = None; seam = character_seam unit };
    })

run_tokens : (document : Document) (context : Context) (word : Bool) (path : List Element) (units : List ℕ) → All IsScalar
    units → All IsPlainCharacter units → tokens_from (within_line document context word) (leaves path units) ≡
    characters units
unfolding tokens_from
run_tokens document context word path [] all plain = refl
run_tokens document context word path (unit ∷ units) all plain =
    let scalar = All-head IsScalar unit units all in
    let here = All-head IsPlainCharacter unit units plain in
    (λ i. leaf_tokens document context word path unit scalar i ++ tokens_from (behind_leaf document context word path
    unit
    scalar here i) (leaves path units))
    ∙ ap (λ (more : List Token). Character unit ∷ more) (run_tokens document context (is_word unit) path units (All-tail
    IsScalar unit units all) (All-tail IsPlainCharacter unit units plain))

-- the last unit is one of a word
abbrev last_word : Bool → List ℕ → Bool
last_word word [] = word
last_word word (unit ∷ units) = last_word (is_word unit) units

run_state : (document : Document) (context : Context) (word : Bool) (path : List Element) (units : List ℕ) → All IsScalar
    units → All IsPlainCharacter units → state_behind (within_line document context word) (leaves path units) ≡
    within_line document
    context (last_word word units)
unfolding state_behind
run_state document context word path [] all plain = refl
run_state document context word path (unit ∷ units) all plain =
    ap (λ (state : State). state_behind state (leaves path units)) (behind_leaf document context word path unit
    (All-head
    IsScalar unit units all) (All-head IsPlainCharacter unit units plain))
    ∙ run_state document context (is_word unit) path units (All-tail IsScalar unit units all) (All-tail IsPlainCharacter
    unit units
    plain)

last_of : (word : Bool) (unit : ℕ) (units : List ℕ) → last_word word (unit ∷ units) ≡ is_word (slice_index (unit ∷ units)
    (length units))
last_of word unit [] = refl
last_of word unit (next ∷ units) = last_of (is_word unit) next units

last_is : (word : Bool) (units : List ℕ) → 0 < length units → last_word word units ≡ is_word (slice_index units (length
    units - 1))
last_is word [] some = absurd (omega (arith, some))
last_is word (unit ∷ units) some =
    let end : length units ≡ length (unit ∷ units) - 1 = omega arith in
    last_of word unit units ∙ ap (λ (n : ℕ). is_word (slice_index (unit ∷ units) n)) end

-- ---- a page that is open for them

pub open_within : (line : LineState) (context : Context) → is_open_line line context ≡ true → is_within_line line ≡ true
open_within line context clear =
    and_first (is_within_line line) (is_none context.half && not (is_closed_seam context.seam)) clear

none_is : (half : Option ℕ) → is_none half ≡ true → half ≡ None
none_is None e = refl
none_is (Some unit) e = absurd (cc (e))

abbrev seam_word : Seam → Bool
seam_word Other = false
seam_word Word = true
seam_word Closed = false

seam_is : (seam : Seam) → is_closed_seam seam ≡ false → seam ≡ (if seam_word seam then Word else Other)
seam_is Other e = refl
seam_is Word e = refl
seam_is Closed e = absurd (cc (e))

open_half : (line : LineState) (context : Context) → is_open_line line context ≡ true → context.half ≡ None
open_half line context clear =
    let more = and_second (is_within_line line) (is_none context.half && not (is_closed_seam context.seam)) clear in
    none_is context.half (and_first (is_none context.half) (not (is_closed_seam context.seam)) more)

open_seam : (line : LineState) (context : Context) → is_open_line line context ≡ true → context.seam ≡ (if seam_word
    context.seam
    then Word else Other)
open_seam line context clear =
    let more = and_second (is_within_line line) (is_none context.half && not (is_closed_seam context.seam)) clear in
    seam_is context.seam (not_true (is_closed_seam context.seam) (and_second (is_none context.half) (not (is_closed_seam
    context.seam))
    more))

state_open : (page : MarkdownPage) → is_open_line page.pen.line page.context ≡ true → state_in page ≡ within_line
    page.document.now page.context (seam_word page.context.seam)
state_open page clear =
    let line = page.pen.line in
    let context = page.context in
    λ i. record {
      document = page.document.now;
      line = within_is line (open_within line context clear) i;
      context = record context { half = open_half line context clear i; seam = open_seam line context clear i };
    }

pub run_put : {K : Type 0} (sink : Ghosts K) (a b : K) (page left : MarkdownPage) (units : List ℕ) → is_open_line
    page.pen.line
    page.context ≡ true → All IsScalar units → All IsPlainCharacter units → 0 < length units → PutsTokens sink a
    page.pen b left.pen
    (characters units) → left.path ≡ page.path → left.document.now ≡ page.document.now → left.context ≡ record page.context {
      seam = character_seam (slice_index units (length units - 1));
    } → PutsEvents sink a page b left (leaves page.path units) page.path
run_put sink a b page left units clear all plain some puts path document context =
    let events : Events = leaves page.path units in
    let line = page.pen.line in
    let word = seam_word page.context.seam in
    let state = state_open page clear in
    let tokens : characters units ≡ tokens_from (state_in page) events =
    sym (ap (λ (s : State). tokens_from s events) state ∙ run_tokens page.document.now page.context word page.path units
    all
    plain) in
    let within = within_is line (open_within line page.context clear) in
    let end : left.pen.line ≡ Within =
    puts.line ∙ ap (λ (l : LineState). after_tokens l (characters units)) within ∙ plain_after units plain in
    let half = open_half line page.context clear in
    let last = last_is word units some in
    record {
      prints =
          subst (λ (ts : List Token). Prints sink a page.pen.page b left.pen.page (printed_from page.pen.line ts)) tokens
          puts.prints;
      state =
          (λ i. record { document = document i; line = end i; context = context i })
          ∙ (λ i. record {
            document = page.document.now;
            line = Within;
            context = record page.context { half = half i; seam = if sym last i then Word else Other };
          })
          ∙ sym (ap (λ (s : State). state_behind s events) state ∙ run_state page.document.now page.context word
          page.path units
          all plain);
      path = path;
    }

-- ---- places

unit_shaped : (to path : List Element) (units : List ℕ) → is_from_note (inner_kind to) ≡ false → ((k : ℕ) → k < length units
    → shaped_path (Some (Unit (slice_index units k))) to ≡ path) → all_shaped (unit_places to units) ≡ unit_places path units
unit_shaped to path [] shown same = refl
unit_shaped to path (unit ∷ units) shown same =
    let none : Option Glyph = None in
    (λ i. record {
      path = same 0 (omega arith) i;
      glyph = if shown i then none else unnumbered_glyph (Some (Unit unit));
    } ∷ all_shaped (unit_places to units))
    ∙ ap (λ (more : Places). unit_place path unit ∷ more) (unit_shaped to path units shown (λ k below. same (suc k) (omega
    (arith, below))))

range_at : (units : List ℕ) (from until k : ℕ) → k < length (slice_range units from until) → slice_index (slice_range units
    from until) k ≡ slice_index units (from + k)
range_at units from until k below =
    let rest = drop from units in
    get_or-take (until - from) rest k 0 (omega (arith, below, length-take (until - from) rest)) ∙ get_or-drop from units k 0

-- a unit was put, and those that go on behind it
pub some_put : {K : Type 0} (sink : Ghosts K) (a b c : K) (page mid left : MarkdownPage) (to : List Element) (in_emphasis
    space : Bool) (units : List ℕ) (from end : ℕ) → (in_emphasis ≡ false → has_emphasis to ≡ false) → not (is_from_note
    (inner_kind to)) ≡ true → space ≡ is_white (slice_index units from) → end ≤ length units → ((k : ℕ) → from < k → k < end →
    goes_on in_emphasis space (slice_index units k) ≡ true) → PutsPlaces sink a page b mid (unit_places to (slice_index units from ∷ [])) → PutsEvents
    sink b mid c left (leaves mid.path (slice_range units (from + 1) end)) mid.path → PutsPlaces sink a page c left
    (unit_places to (slice_index units from ∷ slice_range units (from + 1) end))
some_put sink a b c page mid left to in_emphasis space units from end none shown is within goes first second =
    let one = slice_index units from in
    let rest = slice_range units (from + 1) end in
    let there : mid.path ≡ shaped_path (Some (Unit one)) to = first.path in
    let same : (k : ℕ) → k < length rest → shaped_path (Some (Unit (slice_index rest k))) to ≡ mid.path =
    λ k below.
    let inside : k < end - (from + 1) = omega (arith, below, length-take (end - (from + 1)) (drop (from + 1) units)) in
    let unit = slice_index units (from + 1 + k) in
    ap (λ (u : ℕ). shaped_path (Some (Unit u)) to) (range_at units (from + 1) end k below)
    ∙ shaped_same to in_emphasis one unit none (subst (λ (b : Bool). goes_on in_emphasis b unit ≡ true) is (goes (from + 1 +
    k) (omega arith) (omega (arith, inside))))
    ∙ sym there in
    let shape : all_shaped (unit_places to rest) ≡ unit_places mid.path rest =
    unit_shaped to mid.path rest (not_true (is_from_note (inner_kind to)) shown) same in
    let other : PutsPlaces sink b mid c left (unit_places to rest) =
    puts_as sink b c mid left (leaves mid.path rest) (events_up_to same_element mid.path (all_shaped (unit_places to rest)))
    mid.path (last_path mid.path (all_shaped (unit_places to rest)))
    (sym (ap (λ (places : Places). events_up_to same_element mid.path places) shape ∙ leaves-on mid.path rest))
    (sym (ap (λ (places : Places). last_path mid.path places) shape ∙ last-on mid.path rest)) second in
    places_then sink a b c page mid left (unit_places to (one ∷ [])) (unit_places to rest) first other
