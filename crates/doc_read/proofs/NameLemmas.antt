-- The names of streams that are carried.
use Rattle.std.proofs.Common.{◌≡◌, ℕ, Bool, true, false, not, ◌&&◌, if◌then◌else◌, List, sym, ◌∙◌}
use Rattle.std.proofs.lemmas.Bool.{and_parts, and_left, and_right, not_from_true, true≢false}
use Rattle.cfb_directory.specs.Directory.{AreSameNames}
use Rattle.cfb_streams.specs.Names.{wd_name, first_table_name, second_table_name, is_same_name}
use Rattle.cfb_streams.proofs.Public.{same_name-is}
use Rattle.doc_model.specs.Carried.{IsCarriedName}
use Rattle.doc_read.specs.CarriedParts.{is_carried}

-- the three tests of a name
three : (name : List ℕ) → is_carried name ≡ true
    → (not (is_same_name name wd_name) ≡ true) × ((not (is_same_name name first_table_name) ≡ true) ×
    (not (is_same_name name second_table_name) ≡ true))
three name carried =
    let parts = and_parts (not (is_same_name name wd_name)) (not (is_same_name name first_table_name) && not
    (is_same_name name second_table_name)) carried in
    (parts.0, and_parts (not (is_same_name name first_table_name)) (not (is_same_name name second_table_name)) parts.1)

is_not : (name other : List ℕ) → AreSameNames name other → not (is_same_name name other) ≡ false
is_not name other same = not_from_true (is_same_name name other) ((same_name-is name other).1 same)

apart : (name other : List ℕ) → not (is_same_name name other) ≡ true → ¬ AreSameNames name other
apart name other differs same = true≢false (sym differs ∙ is_not name other same)

-- a stream that is carried has none of the three names
pub carried_name : (name : List ℕ) → is_carried name ≡ true → IsCarriedName name
carried_name name carried =
    let all = three name carried in
    record {
      no_wd = λ same. apart name wd_name all.0 same;
      no_first_table = λ same. apart name first_table_name all.1.0 same;
      no_second_table = λ same. apart name second_table_name all.1.1 same;
    }

-- one that has one of them is not carried
pub wd-not_carried : (name : List ℕ) → AreSameNames name wd_name → is_carried name ≡ false
wd-not_carried name same =
    and_left (not (is_same_name name wd_name)) (not (is_same_name name first_table_name) && not (is_same_name name
    second_table_name))
    (is_not name wd_name same)

pub table-not_carried : (name : List ℕ) (first : Bool) →
    AreSameNames name (if first then second_table_name else first_table_name) → is_carried name ≡ false
table-not_carried name true same =
    and_right (not (is_same_name name wd_name)) (not (is_same_name name first_table_name) && not (is_same_name name
    second_table_name))
    (and_right (not (is_same_name name first_table_name)) (not (is_same_name name second_table_name)) (is_not name
    second_table_name same))
table-not_carried name false same =
    and_right (not (is_same_name name wd_name)) (not (is_same_name name first_table_name) && not (is_same_name name
    second_table_name))
    (and_left (not (is_same_name name first_table_name)) (not (is_same_name name second_table_name)) (is_not name
    first_table_name same))
