-- What is written piece by piece is the text of the whole.
use Rattle.std.proofs.Common.{◌≡◌, ◌+◌, ◌≤◌, ℕ, Bool, true, false, List, [], ◌∷◌, ◌++◌, Option, Some, None}
use Rattle.std.proofs.Common.{Result, Ok, Err, OnOk, drop, length, map, slice_get, refl, sym, ap, ◌∙◌, subst}
use Rattle.std.proofs.Common.{append_assoc, arith}
use Rattle.std.specs.Prelude.{nat_lt}
use Rattle.std.proofs.lemmas.Bool.{lt-ltb}
use Rattle.std.proofs.lemmas.List.{drop_all}
use Rattle.json.specs.Print.{quoted}
use Rattle.serde_json.specs.Data.{Data, array, Members}
use Rattle.serde_json.specs.View.{items_of}
use Rattle.serde_json.specs.Written.{compact_text, comma_if, items_text, members_text}
use Rattle.json_values.specs.Out.{Output, Adds}
use Rattle.json_values.specs.Rows.{member_if}
use Rattle.json_values.proofs.Public.{Adds-Adds, Adds-same}
use Rattle.json_doc.specs.Frames.{later_text}
use Rattle.run_lists.proofs.Public.{run_and_rest}

-- two pieces are one
pub adds : {a b c : Output} {one other : List ℕ} → Adds a b one → Adds b c other → Adds a c (one ++ other)
adds {a} {b} {c} {one} {other} first second = Adds-Adds a b c one other first second

-- what holds where a call answers
pub where_ok : {A E P Q : Type 0} (r : Result A E) → (P → Q) → OnOk r P → OnOk r Q
where_ok (Ok a) step p = step p
where_ok (Err e) step p = tt

-- a member behind others, and what is behind it
joined_later : (key : List ℕ) (value : Option Data) (more : Members) →
    later_text key value ++ members_text true more ≡ members_text true (member_if key value more)
joined_later key None more = refl
joined_later key (Some value) more =
    ap (λ text. 44 ∷ text) (append_assoc (quoted key) (58 ∷ compact_text value) (members_text true more))

pub later : {a b c : Output} (key : List ℕ) (value : Option Data) (more : Members) → Adds a b (later_text key value) →
    Adds b c (members_text true more) → Adds a c (members_text true (member_if key value more))
later {a} {b} {c} key value more first second =
    Adds-same a c (later_text key value ++ members_text true more) _ (joined_later key value more) (adds first second)

-- two members behind others
pub later_two : {a b c : Output} (key other : List ℕ) (value second : Option Data) (more : Members) →
    Adds a b (later_text key value ++ later_text other second) → Adds b c (members_text true more) →
    Adds a c (members_text true (member_if key value (member_if other second more)))
later_two {a} {b} {c} key other value second more both rest =
    Adds-same a c ((later_text key value ++ later_text other second) ++ members_text true more) _
    (append_assoc (later_text key value) (later_text other second) (members_text true more)
    ∙ ap (λ text. later_text key value ++ text) (joined_later other second more)
    ∙ joined_later key value (member_if other second more)) (adds both rest)

-- ---- arrays

-- so much of a text was written, and the items that are left belong behind it
pub record HasWritten (old now : Output) (later : Bool) (left : List Data) (whole : List ℕ) : Type 0 where
  pub written : List ℕ
  pub adds : Adds old now written
  pub rest : written ++ items_text later (items_of left) ≡ whole

-- the bracket was written
pub begun : {old now : Output} (items : List Data) → Adds old now (91 ∷ []) →
    HasWritten old now false items (compact_text (array (items_of items)))
begun items bracket = record { written = 91 ∷ []; adds = bracket; rest = refl }

-- one item more
pub one_written : {old now between new : Output} {later : Bool} {left : List Data} {whole : List ℕ} (d : Data)
    (more : List Data) → left ≡ d ∷ more → HasWritten old now later left whole →
    Adds now between (comma_if later) → Adds between new (compact_text d) → HasWritten old new true more whole
one_written {later = later} {whole = whole} d more is so_far comma text = record {
  written = so_far.written ++ (comma_if later ++ compact_text d);
  adds = adds so_far.adds (adds comma text);
  rest =
      append_assoc so_far.written (comma_if later ++ compact_text d) (items_text true (items_of more))
      ∙ ap (λ t. so_far.written ++ t) (append_assoc (comma_if later) (compact_text d) (items_text true (items_of more)))
      ∙ ap (λ ds. so_far.written ++ items_text later (items_of ds)) (sym is) ∙ so_far.rest;
}

-- no item is left
pub all_written : {old now new : Output} {later : Bool} {left : List Data} {whole : List ℕ} → left ≡ [] →
    HasWritten old now later left whole → Adds now new (93 ∷ []) → Adds old new whole
all_written {old} {new = new} {later} is so_far bracket =
    Adds-same old new (so_far.written ++ 93 ∷ []) _ (ap (λ ds. so_far.written ++ items_text later (items_of ds))
    (sym is) ∙ so_far.rest) (adds so_far.adds bracket)

-- the values of the items from a place on
abbrev pub left_from : {A : Type 0} → (A → Data) → List A → ℕ → List Data
left_from json items i = map json (drop i items)

-- the items before this one were written
abbrev pub ArePlaced : {A : Type 0} → (A → Data) → List A → ℕ → Output → Output → Type 0
ArePlaced json items i old now =
    HasWritten old now (nat_lt 0 i) (left_from json items i) (compact_text (array (items_of (map json items))))

pub next_placed : {A : Type 0} (json : A → Data) (items : List A) (i : ℕ) {old now between new : Output} (x : A) →
    slice_get items i ≡ Some x → ArePlaced json items i old now → Adds now between (comma_if (nat_lt 0 i)) →
    Adds between new (compact_text (json x)) → ArePlaced json items (i + 1) old new
next_placed json items i {old} {new = new} x here so_far comma text =
    subst (λ later. HasWritten old new later (left_from json items (i + 1)) (compact_text (array
    (items_of (map json items))))) (sym (lt-ltb 0 (i + 1) (omega arith)))
    (one_written (json x) (left_from json items (i + 1)) (ap (map json) (run_and_rest items i x here)) so_far comma
    text)

pub all_placed : {A : Type 0} (json : A → Data) (items : List A) (i : ℕ) {old now new : Output} →
    length items ≤ i → ArePlaced json items i old now → Adds now new (93 ∷ []) →
    Adds old new (compact_text (array (items_of (map json items))))
all_placed json items i all so_far bracket =
    all_written (ap (map json) (drop_all i items all)) so_far bracket
