-- The items of a main text that refer to notes, and where their notes come from.
use Rattle.std.proofs.Common.{◌≡◌, ◌∙◌, ap, sym, refl, ℕ, zero, suc, ◌+◌, ◌-◌, ◌<◌, ◌≤◌, Bool, true, false}
use Rattle.std.proofs.Common.{List, [], ◌∷◌, ◌++◌, length, arith, inl, inr, cond, Option, Some, None, slice_get}
use Rattle.std.specs.Prelude.{is_some}
use Rattle.std.specs.Option.{unwrap_or}
use Rattle.std.specs.List.{count_by, filter_map}
use Rattle.std.proofs.lemmas.Bool.{cases_lt, cases_order}
use Rattle.std.proofs.lemmas.List.{append-nil, length-append, length-map}
use Rattle.std.proofs.lemmas.Option.{same_Some, slice_get_past, slice_get_within}
use Rattle.doc_bits.proofs.Public.{get-map, in_front, slice_get_before, slice_get_push, there_is}
use Rattle.doc_parts.specs.Tabulated.{tabulate}
use Rattle.doc_losses.proofs.Public.{listed_more}
use Rattle.doc_model.specs.declared.item.Item.{Item}
use Rattle.doc_model.specs.declared.item.NoteKind.{NoteKind}
use Rattle.doc_mends.specs.declared.mends.NoteStory.{NoteStory}
use Rattle.further_notes.specs.declared.sources.NoteSource.{NoteSource}
use Rattle.further_notes.specs.declared.sources.NoteSource.TheVariants.{Own, Other}
use Rattle.further_notes.specs.Sources.{note_kinds, note_kind_at, notes_before, source_by, source_at, note_sources}
use Rattle.further_notes.specs.Splices.{item_noted, text_noted}
use Rattle.further_notes.specs.UnitsStay.{RefersTo}
use Rattle.further_notes.proofs.KindLemmas.{before_more, changed_at_place, one_counted}

abbrev pub Kinds : Type 0
Kinds = List (Option NoteKind)

-- ---- lists by their places, of which some are listed

abbrev pub listed : {A : Type 0} → (ℕ → Option A) → ℕ → List A
listed f n = filter_map (λ o. o) (tabulate f n)

one_more : {A : Type 0} (f : ℕ → Option A) (n : ℕ) →
    listed f (suc n) ≡ listed f n ++ filter_map (λ o. o) (f n ∷ [])
one_more {A = A} f n = let next : suc n ≡ n + 1 = omega arith in ap (λ (k : ℕ). listed f k) next ∙ listed_more f n

-- what is at a place is behind what is listed of those before
pub listed_there : {A : Type 0} (f : ℕ → Option A) (n at : ℕ) (x : A) → at < n → f at ≡ Some x →
    slice_get (listed f n) (length (listed f at)) ≡ Some x
listed_there f zero at x low is = absurd (omega (arith, low))
listed_there {A = A} f (suc n) at x low is =
    ap (λ (l : List A). slice_get l (length (listed f at))) (one_more f n)
    ∙ elim (cases_lt at n) [
      | inl before ↦
          in_front (listed f n) (filter_map (λ (o : Option A). o) (f n ∷ [])) (length (listed f at)) x
          (listed_there f n at x before is)
      | inr last ↦
          let same : at ≡ n = omega (arith, low, last) in
          ap (λ (k : ℕ). slice_get (listed f n ++ filter_map (λ (o : Option A). o) (f n ∷ [])) (length (listed f k)))
          same
          ∙ (ap (λ (o : Option A). slice_get (listed f n ++ filter_map (λ (p : Option A). p) (o ∷ []))
          (length (listed f n))) (sym (ap f same) ∙ is)
          ∙ slice_get_push (listed f n) x)
    ]

-- where an entry that is listed was
pub record WasAt {A : Type 0} (f : ℕ → Option A) (n i : ℕ) (x : A) : Type 0 where
  pub at : ℕ
  pub low : at < n
  pub is : f at ≡ Some x
  pub before : length (listed f at) ≡ i

last_listed : {A : Type 0} (f : ℕ → Option A) (n i : ℕ) (x : A) (o : Option A) → f n ≡ o → length (listed f n) ≤ i →
    slice_get (listed f n ++ filter_map (λ p. p) (o ∷ [])) i ≡ Some x → WasAt f (suc n) i x
last_listed {A = A} f n i x None is past there =
    let back : slice_get (listed f n) i ≡ Some x =
    sym (ap (λ (l : List A). slice_get l i) (append-nil (listed f n))) ∙ there in
    let low = slice_get_within (listed f n) i x back in
    absurd (omega (arith, low, past))
last_listed {A = A} f n i x (Some y) is past there =
    let all = length-append (listed f n) (y ∷ []) in
    let low = slice_get_within (listed f n ++ y ∷ []) i x there in
    let end : length (listed f n) ≡ i = omega (arith, all, low, past) in
    let same : y ≡ x =
    same_Some y x
    (sym (slice_get_push (listed f n) y) ∙ (ap (slice_get (listed f n ++ y ∷ [])) end ∙ there)) in
    record { at = n; low = omega arith; is = is ∙ ap (λ (z : A). Some z) same; before = end }

pub listed_from : {A : Type 0} (f : ℕ → Option A) (n i : ℕ) (x : A) → slice_get (listed f n) i ≡ Some x → WasAt f n i x
unfolding tabulate
listed_from f zero i x there = absurd (cc there)
listed_from {A = A} f (suc n) i x there =
    let rest : List A = filter_map (λ (o : Option A). o) (f n ∷ []) in
    let parts : slice_get (listed f n ++ rest) i ≡ Some x =
    sym (ap (λ (l : List A). slice_get l i) (one_more f n)) ∙ there in
    elim (cases_lt i (length (listed f n))) [
      | inl front ↦
          let was = listed_from f n i x (sym (slice_get_before (listed f n) rest i front) ∙ parts) in
          let low = was.low in
          record { at = was.at; low = omega (arith, low); is = was.is; before = was.before }
      | inr past ↦ last_listed f n i x (f n) refl past parts
    ]

-- ---- references of a text

kind_within : (kinds : Kinds) (at : ℕ) → is_some (note_kind_at kinds at) ≡ true → at < length kinds
kind_within kinds at some = elim (cases_lt at (length kinds)) [
  | inl low ↦ low
  | inr past ↦
      absurd (cc (sym (ap (λ (o : Option (Option NoteKind)). is_some (unwrap_or o None)) (slice_get_past kinds at past))
      ∙ some))
]

one_more_reference : (kinds : Kinds) (at : ℕ) → is_some (note_kind_at kinds at) ≡ true →
    notes_before kinds (at + 1) ≡ notes_before kinds at + 1
one_more_reference kinds at some =
    let more = before_more kinds at in
    let one : count_by is_some (note_kind_at kinds at ∷ []) ≡ 1 =
    one_counted (note_kind_at kinds at) ∙ ap (λ (b : Bool). cond b 1 0) some in
    omega (arith, more, one)

never_fewer : (kinds : Kinds) (at more : ℕ) → notes_before kinds at ≤ notes_before kinds (at + more)
never_fewer kinds at zero =
    let same : at + 0 ≡ at = omega arith in
    let is = ap (notes_before kinds) same in
    omega (arith, is)
never_fewer kinds at (suc more) =
    let rest = never_fewer kinds at more in
    let next : at + suc more ≡ (at + more) + 1 = omega arith in
    let is = ap (notes_before kinds) next in
    let step = before_more kinds (at + more) in
    omega (arith, rest, is, step)

-- fewer references are before an earlier one
earlier : (kinds : Kinds) (one other : ℕ) → is_some (note_kind_at kinds one) ≡ true → one < other →
    notes_before kinds one < notes_before kinds other
earlier kinds one other some low =
    let next = one_more_reference kinds one some in
    let rest = never_fewer kinds (one + 1) (other - (one + 1)) in
    let there : (one + 1) + (other - (one + 1)) ≡ other = omega (arith, low) in
    let is = ap (notes_before kinds) there in
    omega (arith, next, rest, is)

-- one item refers to a note
pub place_of_reference : (main : List Item) (one other number : ℕ) → RefersTo main one number →
    RefersTo main other number → one ≡ other
place_of_reference main one other number a b =
    let first = a.before in
    let second = b.before in
    elim (cases_order one other) [
      | inl same ↦ same
      | inr (inl low) ↦
          let fewer = earlier (note_kinds main) one other a.some low in absurd (omega (arith, fewer, first, second))
      | inr (inr high) ↦
          let fewer = earlier (note_kinds main) other one b.some high in absurd (omega (arith, fewer, first, second))
    ]

-- each of the references before a place is somewhere
pub record RefersBefore (kinds : Kinds) (end number : ℕ) : Type 0 where
  pub at : ℕ
  pub low : at < end
  pub some : is_some (note_kind_at kinds at) ≡ true
  pub before : notes_before kinds at ≡ number

last_reference : (kinds : Kinds) (end number : ℕ) (some : Bool) → is_some (note_kind_at kinds end) ≡ some →
    notes_before kinds end ≤ number → number < notes_before kinds (suc end) → RefersBefore kinds (suc end) number
last_reference kinds end number true is low high =
    let next : suc end ≡ end + 1 = omega arith in
    let all = ap (notes_before kinds) next in
    let more = one_more_reference kinds end is in
    record { at = end; low = omega arith; some = is; before = omega (arith, low, high, all, more) }
last_reference kinds end number false is low high =
    let next : suc end ≡ end + 1 = omega arith in
    let all = ap (notes_before kinds) next in
    let more = before_more kinds end in
    let none : count_by is_some (note_kind_at kinds end ∷ []) ≡ 0 =
    one_counted (note_kind_at kinds end) ∙ ap (λ (b : Bool). cond b 1 0) is in
    absurd (omega (arith, low, high, all, more, none))

pub refers_before : (kinds : Kinds) (end number : ℕ) → number < notes_before kinds end → RefersBefore kinds end number
refers_before kinds zero number low = absurd (omega (arith, low))
refers_before kinds (suc end) number low = elim (cases_lt number (notes_before kinds end)) [
  | inl before ↦
      let found = refers_before kinds end number before in
      let within = found.low in
      record { at = found.at; low = omega (arith, within); some = found.some; before = found.before }
  | inr past ↦ last_reference kinds end number (is_some (note_kind_at kinds end)) refl past low
]

-- ---- references behind a splice

-- the note of an item, where it refers to one of the other document, or else its own
abbrev kind_either : Option NoteKind → Option NoteKind → Option NoteKind
kind_either None own = own
kind_either (Some other) own = Some other

kind_noted : (story : NoteStory) (kind : Option NoteKind) (item : Item) →
    (item_noted story kind item).note ≡ kind_either kind item.note
kind_noted story None item = refl
kind_noted story (Some kind) item = refl

pub noted_there : (story : NoteStory) (others : Kinds) (main : List Item) (at : ℕ) (item : Item) →
    slice_get main at ≡ Some item →
    slice_get (text_noted story others main) at ≡ Some (item_noted story (note_kind_at others at) item)
noted_there story others main at item here =
    changed_at_place (item_noted story) others main at item (λ y. refl) here

pub own_kind : (main : List Item) (at : ℕ) (item : Item) → slice_get main at ≡ Some item →
    note_kind_at (note_kinds main) at ≡ item.note
own_kind main at item here =
    ap (λ (o : Option (Option NoteKind)). unwrap_or o None) (get-map (λ (i : Item). i.note) main at item here)

some_source : (own other : Option NoteKind) (before more : ℕ) →
    is_some (source_by own other before more) ≡ is_some (kind_either other own)
some_source (Some kind) None before more = refl
some_source (Some kind) (Some other) before more = refl
some_source None (Some kind) before more = refl
some_source None None before more = refl

-- an item refers to a note then where it has a source
some_after : (story : NoteStory) (others : Kinds) (main : List Item) (at : ℕ) → at < length main →
    is_some (source_at (note_kinds main) others at)
    ≡ is_some (note_kind_at (note_kinds (text_noted story others main)) at)
some_after story others main at low =
    let it = there_is main at low in
    let own : Option NoteKind = note_kind_at (note_kinds main) at in
    let other : Option NoteKind = note_kind_at others at in
    some_source own other (notes_before (note_kinds main) at) (notes_before others at)
    ∙ (ap (λ (k : Option NoteKind). is_some (kind_either other k)) (own_kind main at it.0 it.1)
    ∙ sym (ap is_some (own_kind (text_noted story others main) at (item_noted story other it.0)
    (noted_there story others main at it.0 it.1)
    ∙ kind_noted story other it.0)))

one_source : (o : Option NoteSource) → length (filter_map (λ s. s) (o ∷ [])) ≡ cond (is_some o) 1 0
one_source None = refl
one_source (Some source) = refl

-- as many references are before an item then as sources are listed before it
pub sources_before : (story : NoteStory) (others : Kinds) (main : List Item) (at : ℕ) → at ≤ length main →
    length (listed (source_at (note_kinds main) others) at)
    ≡ notes_before (note_kinds (text_noted story others main)) at
unfolding tabulate
sources_before story others main zero low = refl
sources_before story others main (suc at) low =
    let f : ℕ → Option NoteSource = source_at (note_kinds main) others in
    let after : Kinds = note_kinds (text_noted story others main) in
    let rest = sources_before story others main at (omega (arith, low)) in
    let last : List NoteSource = filter_map (λ (s : Option NoteSource). s) (f at ∷ []) in
    let all = ap length (one_more f at) ∙ length-append (listed f at) last in
    let next : suc at ≡ at + 1 = omega arith in
    let whole = ap (notes_before after) next in
    let more = before_more after at in
    let one : length last ≡ count_by is_some (note_kind_at after at ∷ []) =
    one_source (f at)
    ∙ (ap (λ (b : Bool). cond b 1 0) (some_after story others main at (omega (arith, low)))
    ∙ sym (one_counted (note_kind_at after at))) in
    omega (arith, rest, all, whole, more, one)

-- the note that an item with a source refers to then
pub record HasSource (story : NoteStory) (others : Kinds) (main : List Item) (at number : ℕ) (source : NoteSource) :
    Type 0 where
  pub refers : RefersTo (text_noted story others main) at number
  pub here : slice_get (note_sources (note_kinds main) others) number ≡ Some source

pub kinds_long : (main : List Item) → length (note_kinds main) ≡ length main
kinds_long main = length-map main (λ (i : Item). i.note)

pub source_refers : (story : NoteStory) (others : Kinds) (main : List Item) (at : ℕ) (source : NoteSource) →
    at < length main → source_at (note_kinds main) others at ≡ Some source →
    HasSource story others main at (notes_before (note_kinds (text_noted story others main)) at) source
source_refers story others main at source low is =
    let own : Kinds = note_kinds main in
    let long = kinds_long main in
    record {
      refers = record {
        some = sym (some_after story others main at low) ∙ ap is_some is;
        before = refl;
      };
      here =
          sym (ap (slice_get (note_sources own others)) (sources_before story others main at (omega (arith, low))))
          ∙ listed_there (source_at own others) (length own) at source (omega (arith, low, long)) is;
    }

-- and where it was
pub record CameFrom (story : NoteStory) (others : Kinds) (main : List Item) (number : ℕ) (source : NoteSource) : Type 0
  where
    pub at : ℕ
    pub low : at < length main
    pub is : source_at (note_kinds main) others at ≡ Some source
    pub refers : RefersTo (text_noted story others main) at number

pub source_from : (story : NoteStory) (others : Kinds) (main : List Item) (number : ℕ) (source : NoteSource) →
    slice_get (note_sources (note_kinds main) others) number ≡ Some source → CameFrom story others main number source
source_from story others main number source here =
    let own : Kinds = note_kinds main in
    let long = kinds_long main in
    let was = listed_from (source_at own others) (length own) number source here in
    let within = was.low in
    let low : was.at < length main = omega (arith, within, long) in
    record {
      at = was.at;
      low = low;
      is = was.is;
      refers = record {
        some = sym (some_after story others main was.at low) ∙ ap is_some was.is;
        before = sym (sources_before story others main was.at (omega (arith, low))) ∙ was.before;
      };
    }

-- ---- which source

pub refers_within : (main : List Item) (at number : ℕ) → RefersTo main at number → at < length main
refers_within main at number refers =
    let low = kind_within (note_kinds main) at refers.some in
    let long = kinds_long main in
    omega (arith, low, long)

own_first : (own other : Option NoteKind) (before more : ℕ) → is_some own ≡ true →
    source_by own other before more ≡ Some (Own before)
own_first (Some kind) other before more some = refl
own_first None other before more some = absurd (cc some)

pub own_source : (others : Kinds) (main : List Item) (at number : ℕ) → RefersTo main at number →
    source_at (note_kinds main) others at ≡ Some (Own number)
own_source others main at number refers =
    own_first (note_kind_at (note_kinds main) at) (note_kind_at others at) (notes_before (note_kinds main) at)
    (notes_before others at) refers.some
    ∙ ap (λ (n : ℕ). Some (Own n)) refers.before

other_alone : (own other : Option NoteKind) (before more : ℕ) → is_some own ≡ false → is_some other ≡ true →
    source_by own other before more ≡ Some (Other more)
other_alone (Some kind) other before more none some = absurd (cc none)
other_alone None (Some kind) before more none some = refl
other_alone None None before more none some = absurd (cc some)

pub other_source : (others : Kinds) (main : List Item) (at number : ℕ) →
    is_some (note_kind_at (note_kinds main) at) ≡ false → is_some (note_kind_at others at) ≡ true →
    notes_before others at ≡ number → source_at (note_kinds main) others at ≡ Some (Other number)
other_source others main at number none some before =
    other_alone (note_kind_at (note_kinds main) at) (note_kind_at others at) (notes_before (note_kinds main) at)
    (notes_before others at) none some
    ∙ ap (λ (n : ℕ). Some (Other n)) before

-- what a source says of its item
own_said : (own other : Option NoteKind) (before more number : ℕ) →
    source_by own other before more ≡ Some (Own number) → (is_some own ≡ true) × (before ≡ number)
own_said (Some kind) other before more number is = (refl, cc is)
own_said None (Some kind) before more number is = absurd (cc is)
own_said None None before more number is = absurd (cc is)

other_said : (own other : Option NoteKind) (before more number : ℕ) →
    source_by own other before more ≡ Some (Other number) → (is_some other ≡ true) × (more ≡ number)
other_said (Some kind) other before more number is = absurd (cc is)
other_said None (Some kind) before more number is = (refl, cc is)
other_said None None before more number is = absurd (cc is)

pub source_own : (others : Kinds) (main : List Item) (at number : ℕ) →
    source_at (note_kinds main) others at ≡ Some (Own number) → RefersTo main at number
source_own others main at number is =
    let said = own_said (note_kind_at (note_kinds main) at) (note_kind_at others at)
    (notes_before (note_kinds main) at) (notes_before others at) number is in
    record { some = said.0; before = said.1 }

pub source_other : (main other : List Item) (at number : ℕ) →
    source_at (note_kinds main) (note_kinds other) at ≡ Some (Other number) → RefersTo other at number
source_other main other at number is =
    let said = other_said (note_kind_at (note_kinds main) at) (note_kind_at (note_kinds other) at)
    (notes_before (note_kinds main) at) (notes_before (note_kinds other) at) number is in
    record { some = said.0; before = said.1 }

-- fewer references are before an item that refers to a note than before the end
pub fewer_before : (kinds : Kinds) (at number end : ℕ) → is_some (note_kind_at kinds at) ≡ true →
    notes_before kinds at ≡ number → at < end → number < notes_before kinds end
fewer_before kinds at number end some is low = let fewer = earlier kinds at end some low in omega (arith, fewer, is)
