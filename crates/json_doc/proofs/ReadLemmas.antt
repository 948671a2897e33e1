-- From what a reader found to what it answers, and lists of values.
use Rattle.std.proofs.Common.{◌≡◌, ◌≢◌, ◌<◌, ℕ, zero, suc, List, [], ◌∷◌, ◌++◌, Option, Some, None, Ok, Err}
use Rattle.std.proofs.Common.{refl, sym, ap, ◌∙◌, subst, length, map, get_or, drop, arith, All}
use Rattle.std.specs.Prelude.{⊤}
use Rattle.std.proofs.lemmas.Option.{none-some, same_Some}
use Rattle.serde_json.specs.Data.{Data, null, array, Items, no_items, item}
use Rattle.serde_json.specs.View.{items_of}
use Rattle.edit_script.specs.declared.faults.ShapeError.{ShapeError}
use Rattle.edit_script.specs.declared.faults.ShapeError.TheVariants.{Shape, Memory}
use Rattle.edit_script.specs.Json.{GivesReading}
use Rattle.json_values.specs.Plain.{HasKeysInOrder, ItemsHaveKeysInOrder}
use Rattle.json_doc.specs.ReadValues.{ReadsValue}
use Rattle.json_doc.proofs.RowLemmas.{AreOne}

-- ---- one value

-- what is formed can be written and read
module _ {A : Type 0} {of : Data → Option A} {json : A → Data} {Is : A → Type 0} (laws : AreOne of json Is)
    (Formed : A → Type 0) (weaker : (x : A) → Formed x → Is x) where
  -- nothing is read of the value
  pub unread : (value : Data) → of value ≡ None → (x : A) → Formed x → value ≢ json x
  unread value none x formed e = none-some x (sym none ∙ ap of e ∙ laws.back x (weaker x formed))

  -- what is read of it is not formed
  pub refused : (value : Data) (found : A) → of value ≡ Some found → ¬ (Formed found) → (x : A) → Formed x →
      value ≢ json x
  refused value found read wrong x formed e =
      wrong (subst Formed (same_Some x found (sym (laws.back x (weaker x formed)) ∙ ap of (sym e) ∙ read)) formed)

  -- what comes of a reader's misfit
  pub misfit : (value : Data) (e : ShapeError) → GivesReading {A = A} (Err e) (of value) → ReadsValue json Formed value
      (Err e)
  misfit value Shape none = unread value none
  misfit value Memory none = tt

  -- what is read of it is formed
  pub accepted : (value : Data) (found : A) → of value ≡ Some found → Formed found → ReadsValue json Formed value (Ok
      found)
  accepted value found read formed = (formed, λ order. (laws.one value found order read).1)

-- ---- lists of values

-- each value was read
abbrev pub AreRead : {A : Type 0} → (A → Data) → (A → Type 0) → List Data → List A → Type 0
AreRead json Is [] [] = ⊤
AreRead json Is [] (x ∷ xs) = ⊥
AreRead json Is (d ∷ ds) [] = ⊥
AreRead json Is (d ∷ ds) (x ∷ xs) = ReadsValue json Is d (Ok x) × AreRead json Is ds xs

pub read_more : {A : Type 0} (json : A → Data) (Is : A → Type 0) (ds : List Data) (xs : List A) (d : Data) (x : A) →
    AreRead json Is ds xs → ReadsValue json Is d (Ok x) → AreRead json Is (ds ++ d ∷ []) (xs ++ x ∷ [])
read_more json Is [] [] d x before one = (one, tt)
read_more json Is [] (y ∷ ys) d x before one = absurd before
read_more json Is (c ∷ cs) [] d x before one = absurd before
read_more json Is (c ∷ cs) (y ∷ ys) d x before one = (before.0, read_more json Is cs ys d x before.1 one)

pub read_length : {A : Type 0} (json : A → Data) (Is : A → Type 0) (ds : List Data) (xs : List A) →
    AreRead json Is ds xs → length xs ≡ length ds
read_length json Is [] [] read = refl
read_length json Is [] (x ∷ xs) read = absurd read
read_length json Is (d ∷ ds) [] read = absurd read
read_length json Is (d ∷ ds) (x ∷ xs) read = ap suc (read_length json Is ds xs read.1)

pub All-cons : {A : Type 0} (P : A → Type 0) (x : A) (xs : List A) → P x → All P xs → All P (x ∷ xs)
All-cons P x xs first more zero d within = first
All-cons P x xs first more (suc k) d within = more k d (omega (arith, within))

pub all_right : {A : Type 0} (json : A → Data) (Is : A → Type 0) (ds : List Data) (xs : List A) →
    AreRead json Is ds xs → All Is xs
all_right json Is [] [] read = λ k d within. absurd (omega (arith, within))
all_right json Is [] (x ∷ xs) read = absurd read
all_right json Is (d ∷ ds) [] read = absurd read
all_right json Is (d ∷ ds) (x ∷ xs) read = All-cons Is x xs read.0.0 (all_right json Is ds xs read.1)

items_same : {A : Type 0} (json : A → Data) (Is : A → Type 0) (ds : List Data) (xs : List A) →
    AreRead json Is ds xs → ItemsHaveKeysInOrder (items_of ds) → items_of ds ≡ items_of (map json xs)
items_same json Is [] [] read order = refl
items_same json Is [] (x ∷ xs) read order = absurd read
items_same json Is (d ∷ ds) [] read order = absurd read
items_same json Is (d ∷ ds) (x ∷ xs) read order =
    let first = read.0.1 order.0 in
    let rest = items_same json Is ds xs read.1 order.1 in
    λ i. item (first i) (rest i)

-- all of them are read
pub list_read : {A : Type 0} (json : A → Data) (Is : A → Type 0) (ds : List Data) (xs : List A) →
    AreRead json Is ds xs →
    All Is xs × (HasKeysInOrder (array (items_of ds)) → array (items_of ds) ≡ array (items_of (map json xs)))
list_read json Is ds xs read =
    (all_right json Is ds xs read, λ order. ap array (items_same json Is ds xs read order))

-- the values of an array are those that it was made of
abbrev items_back : Items → List Data
items_back no_items = []
items_back (item d more) = d ∷ items_back more

back_of : (ds : List Data) → items_back (items_of ds) ≡ ds
back_of [] = refl
back_of (d ∷ ds) = ap (λ more. d ∷ more) (back_of ds)

abbrev array_items : Data → Items
array_items (array items) = items
array_items _ = no_items

pub same_items : (ds es : List Data) → array (items_of ds) ≡ array (items_of es) → ds ≡ es
same_items ds es e = sym (back_of ds) ∙ ap (λ d. items_back (array_items d)) e ∙ back_of es

-- one of them represents nothing that is so
unread_at : {A : Type 0} (json : A → Data) (Is : A → Type 0) (ds : List Data) (i : ℕ) → i < length ds →
    ((x : A) → Is x → get_or ds i null ≢ json x) → (xs : List A) → All Is xs → ds ≡ map json xs → ⊥
unread_at json Is [] i within none xs all e = omega (arith, within)
unread_at json Is (d ∷ ds) i within none [] all e = let same = ap length e in omega (arith, same)
unread_at json Is (d ∷ ds) zero within none (x ∷ xs) all e =
    none x (all zero x (omega arith)) (ap (λ l. get_or l 0 null) e)
unread_at json Is (d ∷ ds) (suc i) within none (x ∷ xs) all e =
    unread_at json Is ds i (omega (arith, within)) none xs (λ k y less. all (suc k) y (omega (arith, less)))
    (ap (drop 1) e)

pub list_unread : {A : Type 0} (json : A → Data) (Is : A → Type 0) (ds : List Data) (i : ℕ) → i < length ds →
    ((x : A) → Is x → get_or ds i null ≢ json x) → (xs : List A) → All Is xs →
    array (items_of ds) ≢ array (items_of (map json xs))
list_unread json Is ds i within none xs all e = unread_at json Is ds i within none xs all
    (same_items ds (map json xs) e)
