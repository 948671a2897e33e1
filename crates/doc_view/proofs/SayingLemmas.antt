-- What a paragraph says glyph by glyph.
use Rattle.std.proofs.Common.{◌≡◌, ◌∙◌, ℕ, Bool, true, false, ◌&&◌, ◌||◌, List, [], ◌∷◌, ◌++◌, refl, sym, ap, subst}
use Rattle.std.proofs.Common.{append_assoc, append-nil, arith, Option, Some, None}
use Rattle.std.specs.Prelude.{if◌then◌else◌, nat_le, nat_lt}
use Rattle.std.specs.List.{cons_option}
use Rattle.std.proofs.lemmas.Bool.Decides.{nat_tests}
use Rattle.text_codes.specs.Shown.{is_pair, pair_code}
use Rattle.view_places.specs.declared.glyph.Glyph.{Glyph}
use Rattle.view_places.specs.declared.glyph.Glyph.TheVariants.{Unit, Tab, LineBreak, PageBreak, NoteMark, Picture, Object}
use Rattle.doc_view.specs.declared.paragraph.Saying.{Saying}
use Rattle.doc_view.specs.declared.reading.Seen.{Seen}
use Rattle.doc_view.specs.Glyphs.{glyph_text, glyphs_text, are_halves, halves_text}
use Rattle.doc_view.specs.Seen.{some_shown, glyphs_in}
use Rattle.doc_view.specs.Lines.{waiting, first_unit_said, unit_in, unit_said, unit_waits, other_said}
use Rattle.doc_view.specs.Lines.{glyph_said, waits_after, saying_front, shown_said, shown_after, unsaid_text}
use Rattle.doc_view.specs.Lines.{IsSaying, Says}
use Rattle.doc_bits.proofs.Public.{or_true, or_false}
use Rattle.text_codes.proofs.Public.{apart_low}
use Rattle.text_codes.specs.Halves.{replacement, is_high, is_surrogate, half_text, first_half}

-- ---- glyphs one by one

-- a glyph that is no half of the next one
alone : (in_table : Bool) (g : Glyph) (rest : List Glyph) → ((next : Glyph) → are_halves g next ≡ false) →
    glyphs_text in_table (g ∷ rest) ≡ glyph_text in_table g ++ glyphs_text in_table rest
unfolding glyphs_text
alone in_table g [] apart = sym (append-nil (glyph_text in_table g))
alone in_table g (next ∷ more) apart = λ i.
    if apart next i then halves_text g next ++ glyphs_text in_table more else glyph_text in_table g ++ glyphs_text
    in_table
    (next ∷ more)

no_half : (unit : ℕ) → is_high unit ≡ false → (next : Glyph) → are_halves (Unit unit) next ≡ false
no_half unit low (Unit other) =
    apart_low (nat_le 0xD800 unit) (nat_lt unit 0xDC00) (nat_le 0xDC00 other && nat_lt other 0xE000) low
no_half unit low Tab = refl
no_half unit low LineBreak = refl
no_half unit low PageBreak = refl
no_half unit low (NoteMark number) = refl
no_half unit low (Picture place) = refl
no_half unit low Object = refl

high_surrogate : (unit : ℕ) → is_high unit ≡ true → is_surrogate unit ≡ true
high_surrogate unit high = grind (arith, nat_tests)

high_alone : (unit : ℕ) → is_high unit ≡ true → glyph_text false (Unit unit) ≡ replacement ∷ []
high_alone unit high = ap (λ (b : Bool). (if b then replacement else unit) ∷ []) (high_surrogate unit high)

-- a unit that no half waits for
first_on : (in_table : Bool) (unit : ℕ) (rest : List Glyph) (high : Bool) → is_high unit ≡ high →
    glyphs_text in_table (Unit unit ∷ rest)
    ≡ (if high then [] else glyph_text false (Unit unit)) ++ glyphs_text in_table
    (waiting (if high then Some unit else None) ++ rest)
first_on in_table unit rest true is = refl
first_on in_table unit rest false is = alone in_table (Unit unit) rest (no_half unit is)

-- a unit behind a half that waits
half_on : (in_table : Bool) (first unit : ℕ) (rest : List Glyph) (pair : Bool) → is_high first ≡ true →
    is_pair first unit ≡ pair →
    glyphs_text in_table (Unit first ∷ Unit unit ∷ rest)
    ≡ (if pair then pair_code first unit ∷ [] else replacement ∷ [] ++ first_unit_said unit) ++ glyphs_text in_table
    (waiting (if pair then None else first_half unit) ++ rest)
unfolding glyphs_text
half_on in_table first unit rest true high is = λ i.
    if is i then (pair_code first unit ∷ glyphs_text in_table rest) else (glyph_text in_table (Unit first) ++ glyphs_text
    in_table (Unit unit ∷ rest))
half_on in_table first unit rest false high is =
    (λ i. if is i then (pair_code first unit ∷ glyphs_text in_table rest) else (glyph_text in_table (Unit first) ++
    glyphs_text in_table (Unit unit ∷ rest)))
    ∙ (λ i. high_alone first high i ++ first_on in_table unit rest (is_high unit) refl i)

-- another glyph behind a half that waits
other_on : (in_table : Bool) (first : ℕ) (g : Glyph) (rest : List Glyph) → is_high first ≡ true →
    are_halves (Unit first) g ≡ false → ((next : Glyph) → are_halves g next ≡ false) →
    glyphs_text in_table (Unit first ∷ g ∷ rest)
    ≡ (replacement ∷ [] ++ glyph_text in_table g) ++ glyphs_text in_table rest
unfolding glyphs_text
other_on in_table first g rest high apart lone =
    (λ i. if apart i then halves_text (Unit first) g ++ glyphs_text in_table rest else glyph_text in_table (Unit first)
    ++
    glyphs_text in_table (g ∷ rest))
    ∙ (λ i. high_alone first high i ++ alone in_table g rest lone i)

abbrev pub IsHalf : Option ℕ → Type 0
IsHalf half = (unit : ℕ) → half ≡ Some unit → is_high unit ≡ true

pub glyph_on : (in_table : Bool) (half : Option ℕ) (g : Glyph) (rest : List Glyph) → IsHalf half →
    glyphs_text in_table (waiting half ++ (g ∷ rest))
    ≡ glyph_said in_table half g ++ glyphs_text in_table (waiting (waits_after half g) ++ rest)
glyph_on in_table None (Unit unit) rest is = first_on in_table unit rest (is_high unit) refl
glyph_on in_table None Tab rest is = alone in_table Tab rest (λ next. refl)
glyph_on in_table None LineBreak rest is = alone in_table LineBreak rest (λ next. refl)
glyph_on in_table None PageBreak rest is = alone in_table PageBreak rest (λ next. refl)
glyph_on in_table None (NoteMark number) rest is = alone in_table (NoteMark number) rest (λ next. refl)
glyph_on in_table None (Picture place) rest is = alone in_table (Picture place) rest (λ next. refl)
glyph_on in_table None Object rest is = alone in_table Object rest (λ next. refl)
glyph_on in_table (Some first) (Unit unit) rest is =
    half_on in_table first unit rest (is_pair first unit) (is first refl) refl
glyph_on in_table (Some first) Tab rest is = other_on in_table first Tab rest (is first refl) refl (λ next. refl)
glyph_on in_table (Some first) LineBreak rest is =
    other_on in_table first LineBreak rest (is first refl) refl (λ next. refl)
glyph_on in_table (Some first) PageBreak rest is =
    other_on in_table first PageBreak rest (is first refl) refl (λ next. refl)
glyph_on in_table (Some first) (NoteMark number) rest is =
    other_on in_table first (NoteMark number) rest (is first refl) refl (λ next. refl)
glyph_on in_table (Some first) (Picture place) rest is = other_on in_table first (Picture place) rest (is first refl) refl (λ next. refl)
glyph_on in_table (Some first) Object rest is = other_on in_table first Object rest (is first refl) refl (λ next. refl)

-- ---- what waits is a half

first_waits : (unit : ℕ) (high : Bool) → is_high unit ≡ high → IsHalf (if high then Some unit else None)
first_waits unit true is = λ other same.
    let e : unit ≡ other = cc (same) in subst (λ (u : ℕ). is_high u ≡ true) e is
first_waits unit false is = λ other same. absurd (cc (same))

pair_waits : (unit : ℕ) (pair : Bool) → IsHalf (if pair then None else first_half unit)
pair_waits unit true = λ other same. absurd (cc (same))
pair_waits unit false = first_waits unit (is_high unit) refl

unit_still : (half : Option ℕ) (unit : ℕ) → IsHalf (unit_waits half unit)
unit_still None unit = first_waits unit (is_high unit) refl
unit_still (Some first) unit = pair_waits unit (is_pair first unit)

pub glyph_still : (half : Option ℕ) (g : Glyph) → IsHalf (waits_after half g)
glyph_still half (Unit unit) = unit_still half unit
glyph_still half Tab = λ unit same. absurd (cc (same))
glyph_still half LineBreak = λ unit same. absurd (cc (same))
glyph_still half PageBreak = λ unit same. absurd (cc (same))
glyph_still half (NoteMark number) = λ unit same. absurd (cc (same))
glyph_still half (Picture place) = λ unit same. absurd (cc (same))
glyph_still half Object = λ unit same. absurd (cc (same))

-- ---- items one by one

or_assoc : (a b c : Bool) → ((a || b) || c) ≡ (a || (b || c))
or_assoc true b c = refl
or_assoc false b c = refl

some_append : (xs ys : List Seen) → some_shown (xs ++ ys) ≡ (some_shown xs || some_shown ys)
some_append [] ys = refl
some_append (x ∷ xs) ys = ap (λ b. x.is_shown || b) (some_append xs ys)
    ∙ sym (or_assoc x.is_shown (some_shown xs) (some_shown ys))

pub says_none : (p : Saying) → IsSaying p → Says p [] p []
says_none p is = record { goes_on = λ more. refl; begun = sym (or_false p.begun); still = is }

pub says_then : (p q r : Saying) (xs ys : List Seen) (t u : List ℕ) → Says p xs q t → Says q ys r u →
    Says p (xs ++ ys) r (t ++ u)
says_then p q r xs ys t u one other = record {
  goes_on = λ more.
      ap (unsaid_text p) (append_assoc xs ys more)
      ∙ one.goes_on (ys ++ more)
      ∙ ap (λ (x : List ℕ). t ++ x) (other.goes_on more)
      ∙ sym (append_assoc t u (unsaid_text r more));
  begun =
      other.begun
      ∙ ap (λ b. b || some_shown ys) one.begun
      ∙ or_assoc p.begun (some_shown xs) (some_shown ys)
      ∙ ap (λ b. p.begun || b) (sym (some_append xs ys));
  still = other.still;
}

-- what is not shown says nothing
pub says_hidden : (p : Saying) (s : Seen) → IsSaying p → s.is_shown ≡ false → Says p (s ∷ []) p []
says_hidden p s is hidden = record {
  goes_on = λ more. λ i.
      if p.begun then glyphs_text p.in_table
      (waiting p.half ++ cons_option (if hidden i then s.glyph else None) (glyphs_in more)) else
      if (hidden i || some_shown more) then saying_front p ++ glyphs_text p.in_table
      (cons_option (if hidden i then s.glyph else None) (glyphs_in more)) else [];
  begun = sym (ap (λ b. p.begun || (b || false)) hidden ∙ or_false p.begun);
  still = is;
}

-- what is shown next, and what waits then
abbrev said_behind : List ℕ → Bool → Option ℕ → Option Glyph → List ℕ
said_behind front in_table half None = front
said_behind front in_table half (Some g) = front ++ glyph_said in_table half g

abbrev waits_behind : Option ℕ → Option Glyph → Option ℕ
waits_behind half None = half
waits_behind half (Some g) = waits_after half g

on_begun : (front : List ℕ) (in_table : Bool) (half : Option ℕ) (glyph : Option Glyph) (rest : List Glyph)
    (begun : Bool) → (begun ≡ false → half ≡ None) → IsHalf half →
    (if begun then glyphs_text in_table (waiting half ++ cons_option glyph rest) else
    front ++ glyphs_text in_table (cons_option glyph rest))
    ≡ said_behind (if begun then [] else front) in_table half glyph ++ glyphs_text in_table
    (waiting (waits_behind half glyph) ++ rest)
on_begun front in_table half None rest true none is = refl
on_begun front in_table half (Some g) rest true none is = glyph_on in_table half g rest is
on_begun front in_table half None rest false none is = λ i.
    front ++ glyphs_text in_table (waiting (sym (none refl) i) ++ rest)
on_begun front in_table half (Some g) rest false none is =
    (λ i. front ++ glyphs_text in_table (waiting (sym (none refl) i) ++ (g ∷ rest)))
    ∙ ap (λ (x : List ℕ). front ++ x) (glyph_on in_table half g rest is)
    ∙ sym (append_assoc front (glyph_said in_table half g) (glyphs_text in_table (waiting (waits_after half g) ++ rest)))

-- what is left where something is shown next
shown_left : (p : Saying) (s : Seen) (more : List Seen) → s.is_shown ≡ true →
    unsaid_text p (s ∷ more)
    ≡ (if p.begun then glyphs_text p.in_table (waiting p.half ++ cons_option s.glyph (glyphs_in more)) else
    saying_front p ++ glyphs_text p.in_table (cons_option s.glyph (glyphs_in more)))
shown_left p s more shown = λ i.
    if p.begun then glyphs_text p.in_table
    (waiting p.half ++ cons_option (if shown i then s.glyph else None) (glyphs_in more)) else
    if (shown i || some_shown more) then saying_front p ++ glyphs_text p.in_table
    (cons_option (if shown i then s.glyph else None) (glyphs_in more)) else []

-- the same by the saying
behind_said : (p : Saying) (glyph : Option Glyph) (more : List Seen) →
    said_behind (if p.begun then [] else saying_front p) p.in_table p.half glyph ++ glyphs_text p.in_table
    (waiting (waits_behind p.half glyph) ++ glyphs_in more)
    ≡ shown_said p glyph ++ unsaid_text (shown_after p glyph) more
behind_said p None more = refl
behind_said p (Some g) more = refl

after_is : (p : Saying) (glyph : Option Glyph) → IsSaying p → IsSaying (shown_after p glyph)
after_is p None is = record { behind = λ same. absurd (cc (same)); half = is.half }
after_is p (Some g) is = record { behind = λ same. absurd (cc (same)); half = glyph_still p.half g }

after_begun : (p : Saying) (glyph : Option Glyph) → (shown_after p glyph).begun ≡ true
after_begun p None = refl
after_begun p (Some g) = refl

-- what is shown says its glyph, behind what is before the paragraph
pub says_shown : (p : Saying) (s : Seen) → IsSaying p → s.is_shown ≡ true →
    Says p (s ∷ []) (shown_after p s.glyph) (shown_said p s.glyph)
says_shown p s is shown = record {
  goes_on = λ more.
      shown_left p s more shown
      ∙ on_begun (saying_front p) p.in_table p.half s.glyph (glyphs_in more) p.begun is.behind is.half
      ∙ behind_said p s.glyph more;
  begun = after_begun p s.glyph ∙ sym (ap (λ b. p.begun || (b || false)) shown ∙ or_true p.begun);
  still = after_is p s.glyph is;
}

-- ---- whole paragraphs

-- at the end only a half is left
half_left : (in_table : Bool) (half : Option ℕ) → IsHalf half → glyphs_text in_table (waiting half) ≡ half_text half
unfolding glyphs_text
half_left in_table None is = refl
half_left in_table (Some unit) is = high_alone unit (is unit refl)

left_by : (in_table begun : Bool) (half : Option ℕ) → (begun ≡ false → half ≡ None) → IsHalf half →
    (if begun then glyphs_text in_table (waiting half ++ []) else []) ≡ half_text half
left_by in_table true half none is =
    ap (glyphs_text in_table) (append-nil (waiting half)) ∙ half_left in_table half is
left_by in_table false half none is = λ i. half_text (sym (none refl) i)

pub left_end : (p : Saying) → IsSaying p → unsaid_text p [] ≡ half_text p.half
left_end p is = left_by p.in_table p.begun p.half is.behind is.half

-- ---- a glyph, by the unit that it is

pub said_unit : (in_table : Bool) (half : Option ℕ) (g : Glyph) (unit : ℕ) → unit_in g ≡ Some unit →
    glyph_said in_table half g ≡ unit_said half unit
said_unit in_table half (Unit other) unit is =
    let e : other ≡ unit = cc (is) in ap (unit_said half) e
said_unit in_table half Tab unit is = absurd (cc (is))
said_unit in_table half LineBreak unit is = absurd (cc (is))
said_unit in_table half PageBreak unit is = absurd (cc (is))
said_unit in_table half (NoteMark number) unit is = absurd (cc (is))
said_unit in_table half (Picture place) unit is = absurd (cc (is))
said_unit in_table half Object unit is = absurd (cc (is))

pub waits_unit : (half : Option ℕ) (g : Glyph) (unit : ℕ) → unit_in g ≡ Some unit →
    waits_after half g ≡ unit_waits half unit
waits_unit half (Unit other) unit is =
    let e : other ≡ unit = cc (is) in ap (unit_waits half) e
waits_unit half Tab unit is = absurd (cc (is))
waits_unit half LineBreak unit is = absurd (cc (is))
waits_unit half PageBreak unit is = absurd (cc (is))
waits_unit half (NoteMark number) unit is = absurd (cc (is))
waits_unit half (Picture place) unit is = absurd (cc (is))
waits_unit half Object unit is = absurd (cc (is))

pub said_other : (in_table : Bool) (half : Option ℕ) (g : Glyph) → unit_in g ≡ None →
    glyph_said in_table half g ≡ half_text half ++ other_said in_table g
said_other in_table half (Unit other) is = absurd (cc (is))
said_other in_table half Tab is = refl
said_other in_table half LineBreak is = refl
said_other in_table half PageBreak is = refl
said_other in_table half (NoteMark number) is = refl
said_other in_table half (Picture place) is = refl
said_other in_table half Object is = refl

pub waits_other : (half : Option ℕ) (g : Glyph) → unit_in g ≡ None → waits_after half g ≡ None
waits_other half (Unit other) is = absurd (cc (is))
waits_other half Tab is = refl
waits_other half LineBreak is = refl
waits_other half PageBreak is = refl
waits_other half (NoteMark number) is = refl
waits_other half (Picture place) is = refl
waits_other half Object is = refl
