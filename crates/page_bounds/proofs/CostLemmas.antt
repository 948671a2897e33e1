-- What the places of a document cost, where each element costs something where it is opened, and each glyph where it is
-- shown.
use Rattle.std.proofs.Common.{◌≡◌, ℕ, zero, suc, ◌+◌, ◌-◌, ◌*◌, ◌<◌, ◌≤◌, ◌==◌, Bool, true, false, not, ◌&&◌, ◌||◌}
use Rattle.std.proofs.Common.{List, []}
use Rattle.std.proofs.Common.{◌∷◌, ◌++◌, map, length, Option, None, Some, refl, sym, ap, subst, ◌∙◌, arith}
use Rattle.std.proofs.Common.{if◌then◌else◌}
use Rattle.std.proofs.Common.{add-mul, mul_comm}
use Rattle.std.specs.Prelude.{⊤, nat_le, nat_lt, is_some}
use Rattle.std.specs.List.{All, cons_option, filter_map}
use Rattle.std.proofs.lemmas.Nat.{mul-le}
use Rattle.std.proofs.lemmas.List.{map-append}
use Rattle.std.proofs.lemmas.List.Elements.{All-head, All-tail}
use Rattle.list_numbers.specs.declared.paragraph_values.ListLabel.{ListLabel}
use Rattle.list_numbers.specs.declared.paragraph_values.ParagraphValues.{ParagraphValues}
use Rattle.view_paths.specs.Paths.{PathPlace, behind_shared, last_path}
use Rattle.view_paths.specs.Openings.{opened_from}
use Rattle.view_paths.proofs.Public.{behind_less, glyph_cost, opened-append, opened_less, opened_on, opened_within}
use Rattle.view_paths.proofs.Public.{shown_cost, shown_within, total, total-append, total-both, total-less, within}
use Rattle.view_places.specs.declared.element.Element.{Element}
use Rattle.view_places.specs.declared.element.Element.TheVariants.{Anchor, Label}
use Rattle.view_places.specs.declared.element.Link.{Link}
use Rattle.view_places.specs.declared.glyph.Glyph.{Glyph}
use Rattle.view_places.specs.declared.glyph.Glyph.TheVariants.{Unit, Tab, LineBreak, PageBreak}
use Rattle.view_places.specs.Same.{same}
use Rattle.view_places.specs.SameLaws.{same_exact}
use Rattle.view_places.proofs.Public.{AreFew, IsOuter, IsSmall, few_cost, heavy, outer_small}
use Rattle.doc_view.specs.declared.reading.Seen.{Seen}
use Rattle.doc_view.specs.Glyphs.{control_glyph, is_windows, unit_glyph, windows_unit}
use Rattle.doc_view.specs.Labels.{label_glyph, label_glyphs}
use Rattle.doc_view.specs.Seen.{Paragraph, is_here, some_shown}
use Rattle.doc_view.proofs.Public.{IsSmall as IsSmallGlyph, IsShort, IsShortIn, IsShortLabel, IsSmallIn, IsSmallNumber}
use Rattle.doc_view.proofs.Public.{IsSmallSeen}
use Rattle.doc_places.specs.declared.lists.ListItem.{ListItem}
use Rattle.doc_places.specs.Looks.{item_in, label_units, shown_label_units, units_of_label}
use Rattle.doc_places.specs.Places.{Hypertext, Places, anchor_places, bare_place, count_of, inline_elements}
use Rattle.doc_places.specs.Places.{item_places}
use Rattle.doc_places.specs.Places.{items_places, label_of, label_places, link_elements, paragraph_places, glyph_place}
use Rattle.doc_places.specs.Places.{shown_place}
use Rattle.doc_places.proofs.Public.{few_bare, few_inline}
use Rattle.doc_html.proofs.Public.{count_few}

-- ---- lists

-- a product of a sum
pub spread : (bound one other : ℕ) → bound * (one + other) ≡ bound * one + bound * other
spread bound one other =
    mul_comm bound (one + other) ∙ (add-mul one other bound ∙ (λ i. mul_comm one bound i + mul_comm other bound i))

pub spread-suc : (bound count : ℕ) → bound * suc count ≡ bound + bound * count
spread-suc bound count =
    let one : suc count ≡ count + 1 = omega arith in
    omega (arith, ap (λ (n : ℕ). bound * n) one, spread bound count 1)

-- the same for each
pub each : {A : Type 0} (count : ℕ) (xs : List A) → total (λ x. count) xs ≡ count * length xs
each count [] = omega arith
each {A = A} count (x ∷ xs) =
    let long : count + total (λ (x : A). count) xs ≡ count * suc (length xs) =
    omega (arith, each count xs, spread-suc count (length xs)) in
    long

-- ---- costs

-- how a page shapes its places and the blocks that they are in, what an element and a glyph cost, and the most of it:
-- of an
-- element with small numbers, of one that is heavy beyond that, of a glyph, and of one of a label
pub record Costs : Type 0 where
  pub shape : PathPlace Element Glyph → PathPlace Element Glyph
  pub outer : List Element → List Element
  pub cost : Element → ℕ
  pub show : Glyph → ℕ
  pub element : ℕ
  pub extra : ℕ
  pub glyph : ℕ
  pub unit : ℕ

pub record AreSmall (c : Costs) : Type 0 where
  pub elements : (e : Element) → IsSmall e → c.cost e ≤ c.element + c.extra * heavy e
  pub glyphs : (one : Glyph) → IsSmallGlyph one → c.show one ≤ c.glyph
  pub units : (code : ℕ) → c.show (Unit code) ≤ c.unit
  pub tab : c.show Tab ≤ c.unit
  pub line_break : c.show LineBreak ≤ c.unit

-- a block is shaped by itself, and nothing costs more
pub record IsShape (c : Costs) : Type 0 where
  pub inside :
      (block : List Element) → All IsOuter block → (place : PathPlace Element Glyph) →
      c.shape (within block place) ≡ within (c.outer block) (c.shape place)
  pub less_outer : (block : List Element) → total c.cost (c.outer block) ≤ total c.cost block
  pub less_path : (place : PathPlace Element Glyph) → total c.cost (c.shape place).path ≤ total c.cost place.path
  pub less_shown : (place : PathPlace Element Glyph) → glyph_cost c.show (c.shape place).glyph ≤ glyph_cost c.show
      place.glyph
  pub label : (glyph : Glyph) → (c.shape (shown_place (Label ∷ []) glyph)).path ≡ Label ∷ []

-- what places cost behind a path
abbrev pub cost_from : Costs → List Element → Places → ℕ
cost_from c before places =
    total c.cost (opened_from same before (map c.shape places)) + shown_cost c.show (map c.shape places)

-- the path behind them
abbrev pub path_behind : Costs → List Element → Places → List Element
path_behind c before places = last_path before (map c.shape places)

pub cost-append : (c : Costs) (before : List Element) (xs ys : Places) → cost_from c before (xs ++ ys) ≡ cost_from c
    before
    xs + cost_from c (path_behind c before xs) ys
cost-append c before xs ys =
    let first = map c.shape xs in
    let second = map c.shape ys in
    let both : map c.shape (xs ++ ys) ≡ first ++ second = map-append c.shape xs ys in
    omega (
      arith,
      ap (λ (places : Places). total c.cost (opened_from same before places) + shown_cost c.show places) both,
      ap (total c.cost) (opened-append same before first second),
      total-append c.cost (opened_from same before first) (opened_from same (last_path before first) second),
      total-append (λ (place : PathPlace Element Glyph). glyph_cost c.show place.glyph) first second,
    )

-- the paths of places, and what is shown there
abbrev place_cost : Costs → PathPlace Element Glyph → ℕ
place_cost c place = total c.cost place.path + glyph_cost c.show place.glyph

shaped_less : (c : Costs) → IsShape c → (places : Places) → total (place_cost c) (map c.shape places) ≤ total
    (place_cost c)
    places
shaped_less c shape [] = omega arith
shaped_less c shape (place ∷ places) =
    let long : place_cost c (c.shape place) + total (place_cost c) (map c.shape places) ≤ place_cost c place + total
    (place_cost c) places =
    omega (arith, shape.less_path place, shape.less_shown place, shaped_less c shape places) in
    long

cost_each : (c : Costs) → IsShape c → (before : List Element) (places : Places) → cost_from c before places ≤ total
    (place_cost c) places
cost_each c shape before places =
    let all = map c.shape places in
    omega (
      arith,
      opened_less same c.cost before all,
      total-both (λ (place : PathPlace Element Glyph). total c.cost place.path) (λ place. glyph_cost c.show place.glyph)
          all,
      shaped_less c shape places,
    )

-- one place
pub one_cost : (c : Costs) → IsShape c → (before path : List Element) (glyph : Glyph) → cost_from c before (shown_place
    path
    glyph ∷
    []) ≤ total c.cost path + c.show glyph
one_cost c shape before path glyph =
    let long : total (place_cost c) (shown_place path glyph ∷ []) ≤ total c.cost path + c.show glyph = omega arith in
    omega (arith, long, cost_each c shape before (shown_place path glyph ∷ []))

-- ---- items

-- an item inside of its paragraph
abbrev pub item_cost : Costs → ℕ
item_cost c = c.element * 8 + c.glyph

small_cost : (c : Costs) → AreSmall c → (path : List Element) → AreFew IsSmall 8 0 path → total c.cost path ≤
    c.element * 8
small_cost c small path few = omega (arith, few_cost IsSmall c.cost c.element c.extra small.elements 8 0 path few)

one_item : (c : Costs) → AreSmall c → (link : Option Link) (count : ℕ) (seen : Seen) → IsSmallSeen seen → count + 1 <
    1000000 → total (place_cost c) (item_places [] link count seen) ≤ item_cost c
one_item c small link count seen few low =
    where_shown seen.is_shown seen.glyph few.glyph
  where
    some : (there : Option Glyph) → IsSmallIn there → total (place_cost c) (glyph_place [] link count seen there ∷ []) ≤
        item_cost c
    some None few =
        let path = link_elements link in
        let long : (total c.cost path + 0) + 0 ≤ c.element * 8 + c.glyph =
        omega (arith, small_cost c small path (few_bare link)) in
        long
    some (Some one) few =
        let path = inline_elements link count seen.format seen.reference in
        let long : (total c.cost path + c.show one) + 0 ≤ c.element * 8 + c.glyph =
        omega (
          arith,
          small_cost c small path (few_inline link count seen.format seen.reference low),
          small.glyphs one few,
        ) in
        long

    where_shown : (is_shown : Bool) (there : Option Glyph) → IsSmallIn there → total (place_cost c) (if is_shown then
        glyph_place
        [] link count seen there ∷ [] else []) ≤ item_cost c
    where_shown true there few = some there few
    where_shown false there few = omega arith

items_cost : (c : Costs) → AreSmall c → (links : ℕ → Option Link) (count place : ℕ) (seen : List Seen) → All
    IsSmallSeen seen
    → count + length seen < 999999 → total (place_cost c) (items_places links [] count place seen) ≤ total (λ one.
    item_cost
    c) seen
unfolding items_places
items_cost c small links count place [] few low = omega arith
items_cost c small links count place (seen ∷ more) few low =
    let here = item_places [] (links place) count seen in
    let behind_shared = count + count_of seen.reference in
    let rest = items_places links [] behind_shared (place + 1) more in
    let long : total (place_cost c) (here ++ rest) ≤ item_cost c + total (λ (one : Seen). item_cost c) more =
    omega (
      arith,
      one_item c small (links place) count seen (All-head IsSmallSeen seen more few) (omega (arith, low)),
      items_cost c small links behind_shared (place + 1) more (All-tail IsSmallSeen seen more few) (omega (
        arith,
        low,
        count_few
            seen.reference,
      )),
      total-append (place_cost c) here rest,
    ) in
    long

-- ---- labels

either_glyph : (show : Glyph → ℕ) (bound : ℕ) (test : Bool) (one other : Option Glyph) → glyph_cost show one ≤ bound →
    glyph_cost show other ≤ bound → glyph_cost show (if test then one else other) ≤ bound
either_glyph show bound true one other a b = a
either_glyph show bound false one other a b = b

label_glyph_cost : (c : Costs) → AreSmall c → (code : ℕ) → glyph_cost c.show (label_glyph code) ≤ c.unit
label_glyph_cost c small code =
    let plain : Option Glyph = Some (Unit (if is_windows code then windows_unit code else code)) in
    either_glyph c.show c.unit (nat_le 0xF000 code && nat_le code 0xF0FF) (Some (Unit 0x2022)) (unit_glyph code true)
    (small.units 0x2022)
    (either_glyph c.show c.unit (nat_lt code 0x20) (control_glyph code true) plain
    (either_glyph c.show c.unit (code == 0x09) (Some Tab)
    (if code == 0x0B || code == 0x0E then Some LineBreak else
    if code == 0x0C && not true then Some PageBreak else if code == 0x1E then Some (Unit 0x2011) else None)
    small.tab
    (either_glyph c.show c.unit (code == 0x0B || code == 0x0E) (Some LineBreak)
    (if code == 0x0C && not true then Some PageBreak else if code == 0x1E then Some (Unit 0x2011) else None)
    small.line_break
    (no_break (code == 0x0C) (if code == 0x1E then Some (Unit 0x2011) else None)
    (either_glyph c.show c.unit (code == 0x1E) (Some (Unit 0x2011)) None (small.units 0x2011) (omega arith)))))
    (small.units (if is_windows code then windows_unit code else code)))
  where
    no_break : (test : Bool) (other : Option Glyph) → glyph_cost c.show other ≤ c.unit → glyph_cost c.show (if test &&
        not
        true then Some PageBreak else other) ≤ c.unit
    no_break true other few = few
    no_break false other few = few

some_more : (show : Glyph → ℕ) (found : Option Glyph) (more : List Glyph) → total show (cons_option found more) ≡
    glyph_cost show found + total show more
some_more show None more = omega arith
some_more show (Some one) more = refl

glyphs_cost : (c : Costs) → AreSmall c → (units : List ℕ) → total c.show (filter_map label_glyph units) ≤ total (λ code.
    c.unit) units
glyphs_cost c small [] = omega arith
glyphs_cost c small (code ∷ units) =
    let long : total c.show (cons_option (label_glyph code) (filter_map label_glyph units)) ≤ c.unit + total (λ (code
    : ℕ).
    c.unit) units =
    omega (
      arith,
      some_more c.show (label_glyph code) (filter_map label_glyph units),
      label_glyph_cost c small code,
      glyphs_cost c small units,
    ) in
    long

-- glyphs of a label, one by one
abbrev label_place : Costs → Glyph → PathPlace Element Glyph
label_place c glyph = c.shape (shown_place (Label ∷ []) glyph)

shown_label : (c : Costs) → IsShape c → (glyphs : List Glyph) → shown_cost c.show (map (label_place c) glyphs) ≤ total
    c.show
    glyphs
shown_label c shape [] = omega arith
shown_label c shape (glyph ∷ glyphs) =
    let long : glyph_cost c.show (label_place c glyph).glyph + shown_cost c.show (map (label_place c) glyphs) ≤ c.show
    glyph +
    total c.show glyphs =
    omega (arith, shape.less_shown (shown_place (Label ∷ []) glyph), shown_label c shape glyphs) in
    long

opened_label : (c : Costs) → IsShape c → (before : List Element) (glyphs : List Glyph) → total c.cost (opened_from same
    before (map (label_place c) glyphs)) ≤ c.cost Label
opened_label c shape before [] = omega arith
opened_label c shape before (glyph ∷ glyphs) =
    let path = Label ∷ [] in
    let new : List Element → ℕ = λ there. total c.cost (behind_shared same there before ++ opened_from same there (map
    (label_place
    c) glyphs)) in
    let there : new (label_place c glyph).path ≡ new path = ap new (shape.label glyph) in
    let none : opened_from same path (map (label_place c) glyphs) ≡ [] =
    opened_on same same_exact path (label_place c) shape.label glyphs in
    let one : total c.cost path ≡ c.cost Label + 0 = refl in
    let end : total c.cost [] ≡ 0 = refl in
    let long : new (label_place c glyph).path ≤ c.cost Label =
    omega (
      arith,
      there,
      one,
      end,
      behind_less same c.cost path before,
      total-append c.cost (behind_shared same path before) (opened_from same path (map (label_place c) glyphs)),
      ap (total c.cost) none,
    ) in
    long

mapped : (c : Costs) (glyphs : List Glyph) → map c.shape (map (shown_place (Label ∷ [])) glyphs) ≡ map (label_place c)
    glyphs
mapped c [] = refl
mapped c (glyph ∷ glyphs) = ap (λ (more : Places). label_place c glyph ∷ more) (mapped c glyphs)

-- a label
abbrev pub label_cost : Costs → ℕ
label_cost c = c.element + c.unit * 65

label_places_cost : (c : Costs) → AreSmall c → IsShape c → (before : List Element) (units : List ℕ) → length units ≤
    64 →
    cost_from c before (label_places [] units) ≤ label_cost c
label_places_cost c small shape before [] few = omega arith
label_places_cost c small shape before (code ∷ units) few =
    let all = code ∷ units in
    let glyphs = label_glyphs all in
    let last : total c.show (Unit 0x20 ∷ []) ≡ c.show (Unit 0x20) + 0 = refl in
    let long : cost_from c before (map (shown_place (Label ∷ [])) glyphs) ≤ c.element + c.unit * 65 =
    omega (
      arith,
      last,
      ap (λ (places : Places). total c.cost (opened_from same before places) + shown_cost c.show places) (mapped c
          glyphs),
      opened_label c shape before glyphs,
      shown_label c shape glyphs,
      total-append c.show (filter_map label_glyph all) (Unit 0x20 ∷ []),
      glyphs_cost c small all,
      each c.unit all,
      mul-le c.unit (length all) c.unit 64 (omega arith) few,
      small.units 0x20,
      small.elements Label tt,
    ) in
    long

-- ---- a paragraph

-- its places inside of itself
abbrev inner_places : (ℕ → Option Link) → ℕ → ℕ → List ℕ → Bool → List ℕ → List Seen → Places
inner_places links count begin numbers here units seen =
    anchor_places [] numbers ++ ((if here then label_places [] units else []) ++ items_places links [] count begin seen)

anchors_within : (block : List Element) (numbers : List ℕ) → anchor_places block numbers ≡ map (within block)
    (anchor_places [] numbers)
anchors_within block [] = refl
anchors_within block (number ∷ numbers) =
    ap (λ (more : Places). bare_place (block ++ Anchor number ∷ []) ∷ more) (anchors_within block numbers)

label_within : (block : List Element) (glyphs : List Glyph) → map (shown_place (block ++ Label ∷ [])) glyphs ≡ map
    (within
    block)
    (map (shown_place (Label ∷ [])) glyphs)
label_within block [] = refl
label_within block (glyph ∷ glyphs) =
    ap (λ (more : Places). shown_place (block ++ Label ∷ []) glyph ∷ more) (label_within block glyphs)

where_within : (block : List Element) (here : Bool) (units : List ℕ) → (if here then label_places block units else []) ≡
    map (within block) (if here then label_places [] units else [])
where_within block false units = refl
where_within block true [] = refl
where_within block true (unit ∷ units) = label_within block (label_glyphs (unit ∷ units))

place_within : (block : List Element) (link : Option Link) (count : ℕ) (seen : Seen) (glyph : Option Glyph) →
    glyph_place block link count seen glyph ≡ within block (glyph_place [] link count seen glyph)
place_within block link count seen None = refl
place_within block link count seen (Some glyph) = refl

item_within : (block : List Element) (link : Option Link) (count : ℕ) (seen : Seen) → item_places block link count
    seen ≡
    map (within block) (item_places [] link count seen)
item_within block link count seen =
    elim seen.is_shown as (λ (b : Bool). (if b then glyph_place block link count seen seen.glyph ∷ [] else []) ≡ map
    (within
    block) (if b then glyph_place [] link count seen seen.glyph ∷ [] else [])) [
      | true ↦ ap (λ (place : PathPlace Element Glyph). place ∷ []) (place_within block link count seen seen.glyph)
      | false ↦ refl
    ]

items_within : (block : List Element) (links : ℕ → Option Link) (count place : ℕ) (seen : List Seen) →
    items_places links block count place seen ≡ map (within block) (items_places links [] count place seen)
unfolding items_places
items_within block links count place [] = refl
items_within block links count place (seen ∷ more) =
    let here = item_places [] (links place) count seen in
    let rest = items_places links [] (count + count_of seen.reference) (place + 1) more in
    (λ i. item_within block (links place) count seen i ++ items_within block links (count + count_of seen.reference)
    (place + 1) more i) ∙ sym (map-append (within block) here rest)

places_within : (block : List Element) (links : ℕ → Option Link) (count begin : ℕ) (numbers : List ℕ) (here : Bool)
    (units :
    List ℕ) (seen : List Seen) → anchor_places block numbers ++ ((if here then label_places block units else []) ++
    items_places links block count begin seen) ≡ map (within block) (inner_places links count begin numbers here units
    seen)
places_within block links count begin numbers here units seen =
    let anchors = anchor_places [] numbers in
    let label : Places = if here then label_places [] units else [] in
    let items = items_places links [] count begin seen in
    (λ i. anchors_within block numbers i ++ (where_within block here units i ++ items_within block links count begin
    seen i))
    ∙ (ap (λ (more : Places). map (within block) anchors ++ more) (sym (map-append (within block) label items))
    ∙ sym (map-append (within block) anchors (label ++ items)))

anchors_cost : (c : Costs) (numbers : List ℕ) → total (place_cost c) (anchor_places [] numbers) ≡ total (λ number.
    c.cost
    (Anchor number)) numbers
anchors_cost c [] = refl
anchors_cost c (number ∷ numbers) =
    let long : ((c.cost (Anchor number) + 0) + 0) + total (place_cost c) (anchor_places [] numbers) ≡ c.cost (Anchor
    number)
    + total (λ (number : ℕ). c.cost (Anchor number)) numbers =
    omega (arith, anchors_cost c numbers) in
    long

where_here : (c : Costs) → AreSmall c → IsShape c → (before : List Element) (here : Bool) (units : List ℕ) → length
    units ≤
    64 → cost_from c before (if here then label_places [] units else []) ≤ label_cost c
where_here c small shape before true units few = label_places_cost c small shape before units few
where_here c small shape before false units few = omega arith

inner_cost : (c : Costs) → AreSmall c → IsShape c → (links : ℕ → Option Link) (count begin : ℕ) (numbers : List ℕ)
    (here :
    Bool) (units : List ℕ) (seen : List Seen) → All IsSmallSeen seen → length units ≤ 64 → count + length seen <
    999999 →
    cost_from c [] (inner_places links count begin numbers here units seen) ≤ total (λ number. c.cost (Anchor number))
    numbers + (label_cost c + total (λ one. item_cost c) seen)
inner_cost c small shape links count begin numbers here units seen few short low =
    let anchors = anchor_places [] numbers in
    let label : Places = if here then label_places [] units else [] in
    let items = items_places links [] count begin seen in
    let first = path_behind c [] anchors in
    omega (
      arith,
      cost-append c [] anchors (label ++ items),
      cost-append c first label items,
      cost_each c shape [] anchors,
      anchors_cost c numbers,
      where_here c small shape first here units short,
      cost_each c shape (path_behind c first label) items,
      items_cost c small links count begin seen few low,
    )

-- places inside of a block are shaped inside of what is kept of it
shaped_inside : (c : Costs) → IsShape c → (block : List Element) → All IsOuter block → (places : Places) → map c.shape
    (map
    (within block) places) ≡ map (within (c.outer block)) (map c.shape places)
shaped_inside c shape block outer [] = refl
shaped_inside c shape block outer (place ∷ places) =
    λ i. shape.inside block outer place i ∷ shaped_inside c shape block outer places i

-- the most that a block costs
abbrev pub block_cost : Costs → ℕ
block_cost c = c.element * 15 + c.extra * 6

inside_cost : (c : Costs) → AreSmall c → IsShape c → (before block : List Element) → AreFew IsOuter 15 6 block →
    (places :
    Places) → cost_from c before (map (within block) places) ≤ block_cost c + cost_from c [] places
inside_cost c small shape before block few places =
    let inner = map c.shape places in
    omega (
      arith,
      ap (λ (all : Places). total c.cost (opened_from same before all) + shown_cost c.show all) (shaped_inside c shape
          block
          few.small places),
      opened_within same same_exact c.cost before (c.outer block) inner,
      shown_within c.show (c.outer block) inner,
      shape.less_outer block,
      few_cost IsOuter c.cost c.element c.extra (λ e outer. small.elements e (outer_small e outer)) 15 6 block few,
    )

-- each item of a text pays for a paragraph and its label
abbrev pub text_cost : Costs → ℕ
text_cost c = block_cost c + (label_cost c + item_cost c)

within_cost : (c : Costs) → AreSmall c → IsShape c → (before block : List Element) → AreFew IsOuter 15 6 block →
    (links : ℕ →
    Option Link) (count begin : ℕ) (numbers : List ℕ) (here : Bool) (units : List ℕ) (seen : List Seen) → All
    IsSmallSeen
    seen → length units ≤ 64 → count + length seen < 999999 → here ≡ some_shown seen → (seen ≡ [] → numbers ≡ []) →
    cost_from c before (map (within block) (inner_places links count begin numbers here units seen)) ≤ total (λ one.
    text_cost c) seen + total (λ number. c.cost (Anchor number)) numbers
unfolding items_places
within_cost c small shape before block blocks links count begin numbers here units [] few short low is none =
    let nothing : inner_places links count begin numbers here units [] ≡ [] =
    λ i. anchor_places [] (none refl i) ++ ((if is i then label_places [] units else []) ++ []) in
    omega (arith, ap (λ (places : Places). cost_from c before (map (within block) places)) nothing)
within_cost c small shape before block blocks links count begin numbers here units (one ∷ more) few short low is none =
    let seen = one ∷ more in
    let inner = inner_places links count begin numbers here units seen in
    let item : total (λ (one : Seen). item_cost c) seen ≡ item_cost c + total (λ (one : Seen). item_cost c) more =
    refl in
    let all : total (λ (one : Seen). text_cost c) seen ≡ text_cost c + total (λ (one : Seen). text_cost c) more = refl
    in
    omega (
      arith,
      item,
      all,
      inside_cost c small shape before block blocks inner,
      inner_cost c small shape links count begin numbers here units seen few short low,
      total-less (λ (one : Seen). item_cost c) (λ one. text_cost c) (λ one. omega arith) more,
    )

label_short : (item : Option ListItem) (values : Option ParagraphValues) → IsShortIn values → length (label_units item
    values) ≤ 64
label_short item None short = omega arith
label_short item (Some values) short = by values.label short.label
  where
    by : (label : Option ListLabel) → IsShortLabel label → length (shown_label_units item label) ≤ 64
    by None short = omega arith
    by (Some label) short =
        elim (is_some item && label.is_bullet) as (λ (b : Bool). length (if b then [] else label.units) ≤ 64)
        [ true ↦ omega arith | false ↦ short ]

pub paragraph_cost : (c : Costs) → AreSmall c → IsShape c → (before block : List Element) → AreFew IsOuter 15 6 block →
    (hypertext : Hypertext) (count begin : ℕ) (paragraph : Paragraph) → IsShort paragraph → count + length
    paragraph.items <
    999999 → (paragraph.items ≡ [] → hypertext.anchors begin (begin + length paragraph.items) ≡ []) → cost_from c before
    (paragraph_places hypertext block count begin paragraph) ≤ total (λ one. text_cost c) paragraph.items + total (λ
    number.
    c.cost (Anchor number)) (hypertext.anchors begin (begin + length paragraph.items))
paragraph_cost c small shape before block blocks hypertext count begin paragraph short low none =
    let numbers = hypertext.anchors begin (begin + length paragraph.items) in
    let units = units_of_label paragraph in
    let links = hypertext.links begin in
    let few = label_short (item_in paragraph) paragraph.values short.values in
    omega (
      arith,
      within_cost c small shape before block blocks links count begin numbers (is_here paragraph) units paragraph.items
          short.items few low refl none,
      ap (λ (places : Places). cost_from c before places) (places_within block links count begin numbers (is_here
          paragraph)
          units paragraph.items),
    )
