-- A broken rule is mended in one way, and what is read are bytes.
use Rattle.std.proofs.Common.{◌≡◌, ◌≢◌, ◌⊎◌, ◌∙◌, inl, inr, sym, ap, subst, ℕ, ◌+◌, ◌*◌, ◌<◌, List, [], ◌∷◌, ◌++◌, arith, length}
use Rattle.std.proofs.Common.{Some, take, drop, slice_index, slice_get}
use Rattle.std.proofs.lemmas.Option.{same_Some}
use Rattle.std.proofs.lemmas.List.{get_or-replicate, get_or_past, length-replicate}
use Rattle.std.proofs.lemmas.Bool.{cases_lt}
use Rattle.std.specs.Prelude.{replicate}
use Rattle.doc_bits.specs.Number.{AreBytes, zeros}
use Rattle.doc_bits.specs.Rules.{Hold}
use Rattle.doc_bits.proofs.Public.{AreBytes-take, AreBytes-drop, joined_bytes}
use Rattle.cfb_streams.specs.Contents.{Contents, Stream}
use Rattle.cfb_streams.specs.Container.{HasContents, outer_rules}
use Rattle.cfb_streams.specs.Names.{wd_name}
use Rattle.cfb_streams.proofs.Public.{named_place, contents_unique}
use Rattle.cfb_in_place.specs.InPlace.{byte_place}
use Rattle.fib_form.specs.Fib.{fib_pair_place}
use Rattle.file_mends.specs.declared.mends.FileMend.{FileMend}
use Rattle.file_mends.specs.declared.mends.FileMend.TheVariants.{LastSectorFilled, PartEmptied}
use Rattle.file_mends.specs.declared.part_places.PartPlace.{PartPlace}
use Rattle.file_mends.specs.Parts.{IsFieldPart, IsPartOfRule, emptied_pairs}
use Rattle.file_mends.specs.Places.{ArePairsAt, IsPartPlaceIn, IsPlaceAmong, IsPartPlace, zeroed}
use Rattle.file_mends.specs.Sectors.{FillsSector, missing_bytes}
use Rattle.file_mends.specs.declared.sheet_changes.SheetChange.{SheetChange}
use Rattle.file_mends.specs.Rewritten.{rewritten}
use Rattle.file_mends.specs.SheetPlaces.{SheetPlace}
use Rattle.file_mends.specs.SheetChanges.{ChangesSheet, IsSheetRule}
use Rattle.file_mends.specs.Mends.{MendsPart, MendsSheet, MendsRule}
use Rattle.file_mends.proofs.RewrittenLemmas.{rewritten_bytes}
use Rattle.file_mends.proofs.SlotLemmas.{change_bytes, sheet_change_one}
use Rattle.file_mends.proofs.SheetLemmas.{sheet_bytes, sheet_one}

-- ---- the part

field_one : (wd : List ℕ) (offset m n : ℕ) → IsFieldPart wd offset m → IsFieldPart wd offset n → m ≡ n
field_one wd offset m n (inl x) (inl y) = x.0 ∙ sym y.0
field_one wd offset m n (inl x) (inr (inl y)) = let other = y.1 in absurd (other.no_main x.1)
field_one wd offset m n (inl x) (inr (inr y)) = let other = y.1 in absurd (other.no_main x.1)
field_one wd offset m n (inr (inl x)) (inl y) = let one = x.1 in absurd (one.no_main y.1)
field_one wd offset m n (inr (inl x)) (inr (inl y)) = x.0 ∙ sym y.0
field_one wd offset m n (inr (inl x)) (inr (inr y)) =
    let one = x.1 in let other = y.1 in absurd (other.no_notes one.here)
field_one wd offset m n (inr (inr x)) (inl y) = let one = x.1 in absurd (one.no_main y.1)
field_one wd offset m n (inr (inr x)) (inr (inl y)) =
    let one = x.1 in let other = y.1 in absurd (one.no_notes other.here)
field_one wd offset m n (inr (inr x)) (inr (inr y)) = x.0 ∙ sym y.0

-- two rules are not one
apart : (P : Type 0) (rule a b : ℕ) → rule ≡ a → rule ≡ b → a ≢ b → P
apart P rule a b one other differ = absurd (differ (sym one ∙ other))

pub part_one : (wd : List ℕ) (rule offset m n : ℕ) → IsPartOfRule wd rule offset m → IsPartOfRule wd rule offset n → m ≡ n
part_one wd rule offset m n (inl x) (inl y) = field_one wd offset m n x.1 y.1
part_one wd rule offset m n (inl x) (inr (inl y)) = apart (m ≡ n) rule 52 54 x.0 y.0 (λ e. omega (arith, e))
part_one wd rule offset m n (inl x) (inr (inr (inl y))) = apart (m ≡ n) rule 52 56 x.0 y.0 (λ e. omega (arith, e))
part_one wd rule offset m n (inl x) (inr (inr (inr y))) = apart (m ≡ n) rule 52 57 x.0 y.0 (λ e. omega (arith, e))
part_one wd rule offset m n (inr (inl x)) (inl y) = apart (m ≡ n) rule 54 52 x.0 y.0 (λ e. omega (arith, e))
part_one wd rule offset m n (inr (inl x)) (inr (inl y)) = x.1 ∙ sym y.1
part_one wd rule offset m n (inr (inl x)) (inr (inr (inl y))) = apart (m ≡ n) rule 54 56 x.0 y.0 (λ e. omega (arith, e))
part_one wd rule offset m n (inr (inl x)) (inr (inr (inr y))) = apart (m ≡ n) rule 54 57 x.0 y.0 (λ e. omega (arith, e))
part_one wd rule offset m n (inr (inr (inl x))) (inl y) = apart (m ≡ n) rule 56 52 x.0 y.0 (λ e. omega (arith, e))
part_one wd rule offset m n (inr (inr (inl x))) (inr (inl y)) = apart (m ≡ n) rule 56 54 x.0 y.0 (λ e. omega (arith, e))
part_one wd rule offset m n (inr (inr (inl x))) (inr (inr (inl y))) = x.1 ∙ sym y.1
part_one wd rule offset m n (inr (inr (inl x))) (inr (inr (inr y))) =
    apart (m ≡ n) rule 56 57 x.0 y.0 (λ e. omega (arith, e))
part_one wd rule offset m n (inr (inr (inr x))) (inl y) = apart (m ≡ n) rule 57 52 x.0 y.0 (λ e. omega (arith, e))
part_one wd rule offset m n (inr (inr (inr x))) (inr (inl y)) = apart (m ≡ n) rule 57 54 x.0 y.0 (λ e. omega (arith, e))
part_one wd rule offset m n (inr (inr (inr x))) (inr (inr (inl y))) =
    apart (m ≡ n) rule 57 56 x.0 y.0 (λ e. omega (arith, e))
part_one wd rule offset m n (inr (inr (inr x))) (inr (inr (inr y))) = x.1 ∙ sym y.1

-- ---- its place

abbrev place_by : ℕ → ℕ → ℕ → PartPlace
place_by pair at len = record { pair = pair; at = at; len = len }

pairs_one : (sectors : List ℕ) (file_len : ℕ) (a b : PartPlace) → a.pair ≡ b.pair → ArePairsAt sectors file_len a →
    ArePairsAt sectors file_len b → a ≡ b
pairs_one sectors file_len a b pair x y =
    let at : a.at ≡ b.at =
    x.at_is ∙ (ap (λ n. byte_place sectors (fib_pair_place n)) pair ∙ sym y.at_is) in
    let len : a.len ≡ b.len = x.len_is ∙ (ap (λ n. 8 * emptied_pairs n) pair ∙ sym y.len_is) in
    let first : a ≡ place_by b.pair a.at a.len = ap (λ n. place_by n a.at a.len) pair in
    let second : place_by b.pair a.at a.len ≡ place_by b.pair b.at a.len = ap (λ k. place_by b.pair k a.len) at in
    first ∙ (second ∙ ap (λ k. place_by b.pair b.at k) len)

in_one : (stream : Stream) (file_len rule offset : ℕ) (a b : PartPlace) → IsPartPlaceIn stream file_len rule offset a →
    IsPartPlaceIn stream file_len rule offset b → a ≡ b
in_one stream file_len rule offset a b x y =
    let pair : a.pair ≡ b.pair = part_one stream.bytes rule offset a.pair b.pair x.part y.part in
    let sectors : x.sectors ≡ y.sectors = same_Some x.sectors y.sectors (sym x.chain ∙ y.chain) in
    pairs_one y.sectors file_len a b pair (subst (λ s. ArePairsAt s file_len a) sectors x.pairs) y.pairs

among_one : (file : List ℕ) (contents : Contents) (file_len rule offset : ℕ) (a b : PartPlace) →
    HasContents file contents → IsPlaceAmong contents file_len rule offset a →
    IsPlaceAmong contents file_len rule offset b → a ≡ b
among_one file contents file_len rule offset a b has x y =
    let one = x.is in
    let other = y.is in
    let index : x.index ≡ y.index =
    named_place file contents has wd_name x.index y.index x.stream y.stream x.here y.here one.named other.named in
    let there : slice_get contents.streams y.index ≡ Some x.stream =
    subst (λ i. slice_get contents.streams i ≡ Some x.stream) index x.here in
    let stream : x.stream ≡ y.stream = same_Some x.stream y.stream (sym there ∙ y.here) in
    in_one y.stream file_len rule offset a b (subst (λ (s : Stream). IsPartPlaceIn s file_len rule offset a) stream one)
    other

pub place_one : (file : List ℕ) (rule offset : ℕ) (a b : PartPlace) → IsPartPlace file rule offset a →
    IsPartPlace file rule offset b → a ≡ b
place_one file rule offset a b x y =
    let contents : x.contents ≡ y.contents = contents_unique file x.contents y.contents x.has y.has in
    among_one file y.contents (length file) rule offset a b y.has
    (subst (λ (c : Contents). IsPlaceAmong c (length file) rule offset a) contents x.among) y.among

-- ---- mends

part_mend_one : (file : List ℕ) (rule offset : ℕ) (mend other : FileMend) (mended others : List ℕ) →
    MendsPart file rule offset mend mended → MendsPart file rule offset other others →
    (mend ≡ other) × (mended ≡ others)
part_mend_one file rule offset mend other mended others x y =
    let place : x.place ≡ y.place = place_one file rule offset x.place y.place x.is_place y.is_place in (
      x.mend_is ∙ (ap (λ (p : PartPlace). PartEmptied p.pair) place ∙ sym y.mend_is),
      x.mended_is ∙ (ap (λ (p : PartPlace). zeroed p.at p.len file) place ∙ sym y.mended_is),
    )

sheet_mend_one : (file : List ℕ) (rule offset : ℕ) (mend other : FileMend) (mended others : List ℕ) →
    MendsSheet file rule offset mend mended → MendsSheet file rule offset other others →
    (mend ≡ other) × (mended ≡ others)
sheet_mend_one file rule offset mend other mended others x y =
    let sheet : x.sheet ≡ y.sheet = sheet_one file x.sheet y.sheet x.is_sheet y.is_sheet in
    let change : x.change ≡ y.change =
    sheet_change_one y.sheet rule offset x.change y.change
    (subst (λ (s : SheetPlace). ChangesSheet s rule offset x.change) sheet x.changes) y.changes in (
      x.mend_is ∙ (ap (λ (c : SheetChange). c.mend) change ∙ sym y.mend_is),
      x.mended_is
          ∙ (ap (λ (s : SheetPlace). rewritten s.sectors (x.change).at (x.change).bytes file) sheet
          ∙ (ap (λ (c : SheetChange). rewritten (y.sheet).sectors c.at c.bytes file) change ∙ sym y.mended_is)),
    )

-- the rules on parts are none on slots
part_no_sheet : (wd : List ℕ) (rule offset n : ℕ) → IsPartOfRule wd rule offset n → ¬ IsSheetRule rule
part_no_sheet wd rule offset n (inl x) (inl y) = apart ⊥ rule 52 50 x.0 y (λ e. omega (arith, e))
part_no_sheet wd rule offset n (inl x) (inr y) = apart ⊥ rule 52 51 x.0 y (λ e. omega (arith, e))
part_no_sheet wd rule offset n (inr (inl x)) (inl y) = apart ⊥ rule 54 50 x.0 y (λ e. omega (arith, e))
part_no_sheet wd rule offset n (inr (inl x)) (inr y) = apart ⊥ rule 54 51 x.0 y (λ e. omega (arith, e))
part_no_sheet wd rule offset n (inr (inr (inl x))) (inl y) = apart ⊥ rule 56 50 x.0 y (λ e. omega (arith, e))
part_no_sheet wd rule offset n (inr (inr (inl x))) (inr y) = apart ⊥ rule 56 51 x.0 y (λ e. omega (arith, e))
part_no_sheet wd rule offset n (inr (inr (inr x))) (inl y) = apart ⊥ rule 57 50 x.0 y (λ e. omega (arith, e))
part_no_sheet wd rule offset n (inr (inr (inr x))) (inr y) = apart ⊥ rule 57 51 x.0 y (λ e. omega (arith, e))

pub place_no_sheet : (file : List ℕ) (rule offset : ℕ) (place : PartPlace) → IsPartPlace file rule offset place →
    ¬ IsSheetRule rule
place_no_sheet file rule offset place is =
    let among = is.among in
    let one = among.is in part_no_sheet (among.stream).bytes rule offset place.pair one.part

pub mend_one : (file : List ℕ) (rule offset : ℕ) (mend other : FileMend) (mended others : List ℕ) →
    MendsRule file rule offset mend mended → MendsRule file rule offset other others →
    (mend ≡ other) × (mended ≡ others)
mend_one file rule offset mend other mended others (inl x) (inl y) =
    part_mend_one file rule offset mend other mended others x y
mend_one file rule offset mend other mended others (inl x) (inr y) =
    let changes = y.changes in absurd (place_no_sheet file rule offset x.place x.is_place changes.rule_is)
mend_one file rule offset mend other mended others (inr x) (inl y) =
    let changes = x.changes in absurd (place_no_sheet file rule offset y.place y.is_place changes.rule_is)
mend_one file rule offset mend other mended others (inr x) (inr y) =
    sheet_mend_one file rule offset mend other mended others x y

-- what is mended breaks none of the rules 1 to 14 but for rule 10
pub mend_hold : (file : List ℕ) (rule offset : ℕ) (mend : FileMend) (mended : List ℕ) →
    MendsRule file rule offset mend mended → Hold (outer_rules file)
mend_hold file rule offset mend mended (inl x) = let place = x.is_place in place.hold
mend_hold file rule offset mend mended (inr x) = let sheet = x.is_sheet in sheet.hold

pub fill_one : (file : List ℕ) (mends others : List FileMend) (a b : List ℕ) → FillsSector file mends a →
    FillsSector file others b → (mends ≡ others) × (a ≡ b)
fill_one file mends others a b (inl x) (inl y) = (x.mends_are ∙ sym y.mends_are, x.filled_is ∙ sym y.filled_is)
fill_one file mends others a b (inl x) (inr y) = absurd (y.whole x.cut)
fill_one file mends others a b (inr x) (inl y) = absurd (x.whole y.cut)
fill_one file mends others a b (inr x) (inr y) = (x.none ∙ sym y.none, x.same ∙ sym y.same)

-- ---- bytes

zeros_bytes : (n : ℕ) → AreBytes (zeros n)
unfolding zeros
zeros_bytes n i = elim (cases_lt i n) [
  | inl low ↦ subst (λ b. b < 256) (sym (get_or-replicate n i 0 0 low)) (omega arith)
  | inr high ↦
      let len = length-replicate {A = ℕ} n 0 in
      subst (λ b. b < 256) (sym (get_or_past (replicate n 0) i 0 (omega (arith, high, len)))) (omega arith)
]

zeroed_bytes : (at count : ℕ) (bytes : List ℕ) → AreBytes bytes → AreBytes (zeroed at count bytes)
zeroed_bytes at count bytes are =
    joined_bytes (take at bytes) (zeros count ++ drop (at + count) bytes) (AreBytes-take at bytes are)
    (joined_bytes (zeros count) (drop (at + count) bytes) (zeros_bytes count) (AreBytes-drop (at + count) bytes are))

-- what is mended is a list of bytes
pub mend_bytes : (file : List ℕ) (rule offset : ℕ) (mend : FileMend) (mended : List ℕ) → AreBytes file →
    MendsRule file rule offset mend mended → AreBytes mended
mend_bytes file rule offset mend mended are (inl x) =
    let place = x.place in subst AreBytes (sym x.mended_is) (zeroed_bytes place.at place.len file are)
mend_bytes file rule offset mend mended are (inr x) =
    let sheet = x.sheet in
    let change = x.change in
    let small = change_bytes sheet rule offset change (sheet_bytes file sheet are x.is_sheet) x.changes in
    subst AreBytes (sym x.mended_is) (rewritten_bytes sheet.sectors change.at change.bytes file small are)

pub fill_bytes : (file : List ℕ) (mends : List FileMend) (filled : List ℕ) → AreBytes file →
    FillsSector file mends filled → AreBytes filled
fill_bytes file mends filled are (inl x) =
    subst AreBytes (sym x.filled_is)
    (joined_bytes file (zeros (missing_bytes file)) are (zeros_bytes (missing_bytes file)))
fill_bytes file mends filled are (inr x) = subst AreBytes (sym x.same) are
