-- What holds of all values holds of that of a CP; field bytes and units are small.
use Rattle.std.proofs.Common.{◌≡◌, refl, sym, subst, ℕ, ◌+◌, ◌*◌, ◌<◌, ◌==◌, Bool, true, false, cond, List, []}
use Rattle.std.proofs.Common.{◌∷◌, ◌++◌, Option, Some, None, option_map, arith}
use Rattle.std.specs.Prelude.{slice_index, zip}
use Rattle.std.specs.List.{All, find, list_all}
use Rattle.std.proofs.Math.Dec.{ltb}
use Rattle.std.proofs.lemmas.List.Sums.{AllPass-from_list_all}
use Rattle.std.proofs.lemmas.Bool.{ltb-true}
use Rattle.std.proofs.lemmas.List.Elements.{All-nil, All-cons, All-head, All-tail, All-append, All-map}
use Rattle.std.proofs.lemmas.Option.{same_Some}
use Rattle.doc_bits.specs.Number.{number_at}
use Rattle.doc_bits.proofs.Public.{number_at-bound, found_has, All-from_slice_get, AreBytes-range}
use Rattle.doc_bits.specs.Number.{AreBytes}
use Rattle.text_codes.specs.Compressed.{compressed_text, unit_by, compressed_unit}
use Rattle.piece_table.specs.Piece.{UnitPlace}
use Rattle.doc_parts.specs.declared.lists.Fld.{Fld}
use Rattle.doc_parts.specs.Table.{plc_part}
use Rattle.doc_parts.specs.Fields.{AreFieldCharacters}
use Rattle.fib_form.specs.declared.stories.StoryKind.TheVariants.{Main, Notes, Heads}
use Rattle.file_rules.specs.Units.{unit_at}
use Rattle.file_rules.specs.Source.{DocSource, story_begin}
use Rattle.file_rules.specs.PartRules.{PartLists}
use Rattle.doc_model.specs.Entries.{entry_at_cp}
use Rattle.doc_read.specs.Marked.{story_bytes, field_mark_bytes}
use Rattle.doc_read.proofs.ExistTables.{fld_byte}

-- ---- what holds of all entries holds of that of a CP

mapped_has : {A B : Type 0} (Q : B → Type 0) (f : A → B) (o : Option A) (x : B) → ((a : A) → o ≡ Some a → Q (f a)) →
    option_map f o ≡ Some x → Q x
mapped_has Q f None x has e = absurd (cc (e))
mapped_has Q f (Some a) x has e = subst Q (same_Some (f a) x e) (has a refl)

pub entry_has : {A : Type 0} (Q : A → Type 0) (entries : List (ℕ × A)) (cp : ℕ) (x : A) →
    All (λ (e : ℕ × A). Q e.1) entries → entry_at_cp entries cp ≡ Some x → Q x
entry_has {A = A} Q entries cp x all e =
    mapped_has Q (λ (e : ℕ × A). e.1) (find (λ e. e.0 == cp) entries) x (λ a is. found_has (λ (e : ℕ × A). Q e.1)
    (λ e. e.0 == cp) entries a all is) e

pub zipped_has : {A : Type 0} (Q : A → Type 0) (cps : List ℕ) (values : List A) → All Q values →
    All (λ (e : ℕ × A). Q e.1) (zip cps values)
zipped_has {A = A} Q [] values all = All-nil (λ (e : ℕ × A). Q e.1)
zipped_has {A = A} Q (c ∷ cps) [] all = All-nil (λ (e : ℕ × A). Q e.1)
zipped_has {A = A} Q (c ∷ cps) (v ∷ values) all =
    All-cons (λ (e : ℕ × A). Q e.1) (c, v) (zip cps values) (All-head Q v values all) (zipped_has Q cps values
    (All-tail Q v values all))

-- ---- field bytes

pub fields_are_bytes : (bytes : List ℕ) (story_len : ℕ) (list : List Fld) → AreBytes bytes →
    AreFieldCharacters bytes story_len list → All (λ (fld : Fld). fld.byte < 256) list
fields_are_bytes bytes story_len list are fields =
    All-from_slice_get (λ (fld : Fld). fld.byte < 256) list (λ k fld here.
    let table = plc_part 2 bytes in
    let from = 4 * (table.count + 1) + table.size * k in
    subst (λ n. n < 256) (sym (fld_byte bytes story_len k list fld fields here)) (AreBytes-range bytes from
    (from + table.size) are 1))

story_has : (begin : ℕ) (list : List Fld) → All (λ (fld : Fld). fld.byte < 256) list →
    All (λ (e : ℕ × ℕ). e.1 < 256) (story_bytes begin list)
story_has begin list all = All-map (λ (e : ℕ × ℕ). e.1 < 256) (λ (fld : Fld). (begin + fld.cp, fld.byte)) list all

-- the fields of the three stories have bytes
pub record AreByteFields (lists : PartLists) : Type 0 where
  pub main : All (λ (fld : Fld). fld.byte < 256) lists.main_fields
  pub notes : All (λ (fld : Fld). fld.byte < 256) lists.note_fields
  pub heads : All (λ (fld : Fld). fld.byte < 256) lists.head_fields

pub all_bytes : (source : DocSource) (lists : PartLists) → AreByteFields lists →
    All (λ (e : ℕ × ℕ). e.1 < 256) (field_mark_bytes source lists)
all_bytes source lists are =
    let P : ℕ × ℕ → Type 0 = λ e. e.1 < 256 in
    All-append P (story_bytes (story_begin source Main) lists.main_fields) (story_bytes (story_begin source Notes)
    lists.note_fields ++ story_bytes (story_begin source Heads) lists.head_fields)
    (story_has (story_begin source Main) lists.main_fields are.main)
    (All-append P (story_bytes (story_begin source Notes) lists.note_fields) (story_bytes (story_begin source Heads)
    lists.head_fields)
    (story_has (story_begin source Notes) lists.note_fields are.notes) (story_has (story_begin source Heads)
    lists.head_fields are.heads))

-- ---- units

unit_small : (rows : List (ℕ × ℕ)) (byte : ℕ) → All (λ (row : ℕ × ℕ). row.1 < 65536) rows → byte < 256 →
    unit_by rows byte < 65536
unit_small [] byte all small = omega arith
unit_small (row ∷ rows) byte all small =
    let P : ℕ × ℕ → Type 0 = λ r. r.1 < 65536 in
    pick (byte == row.0) (All-head P row rows all) (unit_small rows byte (All-tail P row rows all) small)
  where
    pick : (b : Bool) → row.1 < 65536 → unit_by rows byte < 65536 → cond b row.1 (unit_by rows byte) < 65536
    pick true here later = here
    pick false here later = later

-- the units of a table of at most so many
all_small : (rows : List (ℕ × ℕ)) → list_all (λ (row : ℕ × ℕ). ltb row.1 65536) rows ≡ true →
    All (λ (row : ℕ × ℕ). row.1 < 65536) rows
all_small rows tested k d below =
    ltb-true _ _ (AllPass-from_list_all (λ (row : ℕ × ℕ). ltb row.1 65536) rows tested k d below)

pub place_unit_small : (wd : List ℕ) (place : UnitPlace) → AreBytes wd → unit_at wd place < 65536
place_unit_small wd place are = pick place.wide
  where
    pick : (b : Bool) → cond b (number_at wd place.at 2) (compressed_unit (slice_index wd place.at)) < 65536
    pick true = number_at-bound wd place.at 2 are
    pick false = unit_small compressed_text (slice_index wd place.at) (all_small compressed_text refl) (are place.at)
