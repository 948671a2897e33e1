-- What was written is read again.
use Rattle.std.proofs.Common.{◌≡◌, ℕ, ◌+◌, ◌*◌, ◌/◌, ◌%◌, ◌^◌, ◌<◌, ◌≤◌, ◌==◌, Bool, List, [], ◌∷◌, ◌++◌, length, sum}
use Rattle.std.proofs.Common.{slice_index, flat_map, All, refl, sym, ap, subst, zero-add, inl, inr, ◌∙◌, arith}
use Rattle.std.proofs.Common.{append_assoc, length-append, lit<, lit≤}
use Rattle.doc_bits.specs.Number.{number_at, u16_at, u32_at}
use Rattle.doc_bits.specs.Rules.{Hold}
use Rattle.fib_form.specs.Fib.{WIdent, NFib, Lid, Flags, Csw, LidFE, Cslw, CbMac, CcpText, CcpFtn, CcpHdd, CbRgFcLcb}
use Rattle.fib_form.specs.Fib.{fib_pair, fib_pairs, fib_flags, fib_lid, fib_lid_fe, fib_quick_saves, fib_complex}
use Rattle.fib_form.specs.Fib.{fib_which_table, fib_cb_mac, fib_ccp_text, fib_ccp_ftn, fib_ccp_hdd, kept_flags}
use Rattle.fib_form.specs.Fib.{CswNew, LaterCswNew, NFibNew, CQuickSavesNew, form_size, form_pairs, fib_form}
use Rattle.fib_form.specs.Fib.{quick_saves_in}
use Rattle.fib_form.specs.declared.form.Form.{Form}
use Rattle.fib_form.specs.declared.form.Form.TheVariants.{Early, Later}
use Rattle.fib_form.specs.FibFields.{FibFields, IsWidePair, fib_fields, listed_pair, IsFib}
use Rattle.fib_form.specs.FibRules.{fib_rules, IsOtherForm, IsWrongTail}
use Rattle.fib_form.specs.FibBytes.{written_fib, written_fields, written_flags, spelled, fc_lcb_bytes, field, Field}
use Rattle.fib_form.specs.FibBytes.{base_saves, tail_fields}
use Rattle.fib_form.proofs.FlagLemmas.{ReadsFlags, reads_flags}
use Rattle.fib_form.proofs.FieldLemmas.{Follow, Has, read_field, read_gap, length-spelled}
use Rattle.fib_form.proofs.PairLemmas.{read_pair, length-flat_map-pair_bytes, fib_pairs-by_place}

-- fields by their values
abbrev pub fields_of : Form → ℕ → ℕ → ℕ → ℕ → ℕ → ℕ → Bool → List ℕ → List (ℕ × ℕ) → FibFields
fields_of form lid lid_fe flags quick_saves table mac complex ccps pairs = record {
  form = form;
  kept = record { lid = lid; lid_fe = lid_fe; flags = flags };
  quick_saves = quick_saves;
  complex = complex;
  which_table = table;
  cb_mac = mac;
  ccps = ccps;
  pairs = pairs;
}

-- the numbers behind the pairs
abbrev pub HasTail : Form → ℕ → List ℕ → Type 0
HasTail Early quick_saves wd = u16_at wd 898 ≡ 0
HasTail Later quick_saves wd = (u16_at wd 1018 ≡ 2) × ((u16_at wd 1020 ≡ 0x00D9) × (u16_at wd 1022 ≡ quick_saves))

-- the numbers that are in a stream that begins with a written FIB
pub record IsWritten (fib : FibFields) (wd : List ℕ) : Type 0 where
  pub long : form_size fib.form ≤ length wd
  pub ident : u16_at wd 0 ≡ 0xA5EC
  pub nfib : u16_at wd 2 ≡ 0x00C1
  pub lid : u16_at wd 6 ≡ fib.kept.lid
  pub flags : u16_at wd 10 ≡ written_flags fib
  pub csw : u16_at wd 32 ≡ 14
  pub lid_fe : u16_at wd 60 ≡ fib.kept.lid_fe
  pub cslw : u16_at wd 62 ≡ 22
  pub cb_mac : u32_at wd 64 ≡ fib.cb_mac
  pub text : u32_at wd 76 ≡ slice_index fib.ccps 0
  pub notes : u32_at wd 80 ≡ slice_index fib.ccps 1
  pub heads : u32_at wd 84 ≡ slice_index fib.ccps 2
  pub others : (k : ℕ) → k < 4 → u32_at wd (92 + 4 * k) ≡ 0
  pub sizes : u16_at wd 152 ≡ form_pairs fib.form
  pub pairs : (n : ℕ) → n < 93 → fib_pair wd n ≡ listed_pair fib.pairs n
  pub tail : HasTail fib.form fib.quick_saves wd

-- the fields are in order
pub followed : (fib : FibFields) → Follow 0 (written_fields fib) 154
followed fib = (
  lit≤ tt,
  (
    lit≤ tt,
    (
      lit≤ tt,
      (
        lit≤ tt,
        (lit≤ tt, (lit≤ tt, (lit≤ tt, (lit≤ tt, (lit≤ tt, (lit≤ tt, (lit≤ tt, (lit≤ tt, (lit≤ tt, lit≤ tt))))))))),
      ),
    ),
  ),
)

pub followed_tail : (form : Form) (quick_saves : ℕ) → Follow 898 (tail_fields form quick_saves) (form_size form)
followed_tail Early quick_saves = (lit≤ tt, lit≤ tt)
followed_tail Later quick_saves = (lit≤ tt, (lit≤ tt, (lit≤ tt, lit≤ tt)))

pub length-tail_fields : (form : Form) (quick_saves : ℕ) → 898 + length (spelled 898 (tail_fields form quick_saves)) ≡
    form_size form
length-tail_fields Early quick_saves = length-spelled (tail_fields Early quick_saves) 898 900 (followed_tail Early
    quick_saves)
length-tail_fields Later quick_saves = length-spelled (tail_fields Later quick_saves) 898 1024 (followed_tail Later
    quick_saves)

-- a form has at least 900 bytes and at most 1,024
pub form_size-least : (form : Form) → 900 ≤ form_size form
form_size-least Early = lit≤ tt
form_size-least Later = lit≤ tt

pub form_size-most : (form : Form) → form_size form ≤ 1024
form_size-most Early = lit≤ tt
form_size-most Later = lit≤ tt

-- the form is that whose number of pairs is there
pub fib_form-by_pairs : (form : Form) (wd : List ℕ) → u16_at wd 152 ≡ form_pairs form → fib_form wd ≡ form
fib_form-by_pairs Early wd e = rw e refl
fib_form-by_pairs Later wd e = rw e refl

-- the fields behind the pairs are read
tail_written : (form : Form) (quick_saves : ℕ) (front more : List ℕ) → length front ≡ 898 → quick_saves < 16 →
    HasTail form quick_saves (front ++ (spelled 898 (tail_fields form quick_saves) ++ more))
tail_written Early quick_saves front more size fits = read_field 0 (tail_fields Early quick_saves) (field CswNew 0) 898
    900 front more size (followed_tail Early quick_saves) refl (lit< tt)
tail_written Later quick_saves front more size fits =
    let fields = tail_fields Later quick_saves in
    let follow = followed_tail Later quick_saves in (
      read_field 0 fields (field LaterCswNew 2) 898 1024 front more size follow refl (lit< tt),
      (
        read_field 1 fields (field NFibNew 0x00D9) 898 1024 front more size follow refl (lit< tt),
        read_field 2 fields (field CQuickSavesNew quick_saves) 898 1024 front more size follow refl (omega arith),
      ),
    )

-- a form's number of pairs is right
pub not_other_form : (form : Form) (wd : List ℕ) (p : ℕ) → u16_at wd 152 ≡ form_pairs form → IsOtherForm wd p → ⊥
not_other_form Early wd p e h = h.1.0 e
not_other_form Later wd p e h = h.1.1 e

-- what is written behind the pairs breaks no rule, and has the number of quick saves
no_wrong_tail : (form : Form) (quick_saves : ℕ) (wd : List ℕ) (p : ℕ) → quick_saves < 16 → HasTail form quick_saves
    wd → IsWrongTail form wd p → ⊥
no_wrong_tail Early quick_saves wd p fits has h = h.1 has
no_wrong_tail Later quick_saves wd p fits has h = elim h [
  | inl x ↦ x.1 has.0
  | inr y ↦ elim y [ inl x ↦ x.1 has.1.0 | inr x ↦ let over = x.1 in omega (arith, has.1.1) ]
]

count_written : (form : Form) (quick_saves : ℕ) (wd : List ℕ) → fib_flags wd / 16 % 16 ≡ base_saves form quick_saves →
    HasTail form quick_saves wd → quick_saves_in form wd ≡ quick_saves
count_written Early quick_saves wd base has = base
count_written Later quick_saves wd base has = has.1.1

base_saves-bound : (form : Form) (quick_saves : ℕ) → quick_saves < 16 → base_saves form quick_saves < 16
base_saves-bound Early quick_saves fits = fits
base_saves-bound Later quick_saves fits = lit< tt

-- a sum of three counts
pub sum-three : (ccps : List ℕ) → length ccps ≡ 3 → sum ccps ≡ slice_index ccps 0 + slice_index ccps 1 + slice_index
    ccps 2
sum-three [] e = absurd (omega arith)
sum-three (a ∷ []) e = absurd (omega arith)
sum-three (a ∷ b ∷ []) e = absurd (omega arith)
sum-three (a ∷ b ∷ c ∷ []) e = omega arith
sum-three (a ∷ b ∷ c ∷ d ∷ more) e = absurd (omega arith)

pub three_of : (ccps : List ℕ) → length ccps ≡ 3 → ccps ≡ slice_index ccps 0 ∷ slice_index ccps 1 ∷ slice_index ccps 2
    ∷ []
three_of [] e = absurd (omega arith)
three_of (a ∷ []) e = absurd (omega arith)
three_of (a ∷ b ∷ []) e = absurd (omega arith)
three_of (a ∷ b ∷ c ∷ []) e = refl
three_of (a ∷ b ∷ c ∷ d ∷ more) e = absurd (omega arith)

-- the flags of a FIB
abbrev pub FlagsAre : FibFields → ℕ → Type 0
FlagsAre fib flags = ReadsFlags fib.kept.flags (base_saves fib.form fib.quick_saves) fib.which_table fib.complex flags

pub flags_of : (fib : FibFields) → IsFib fib → FlagsAre fib (written_flags fib)
flags_of fib is = reads_flags fib.kept.flags (base_saves fib.form fib.quick_saves) fib.which_table fib.complex is.flags
    (base_saves-bound fib.form fib.quick_saves is.quick_saves) is.which_table

-- a pair of a written FIB
pair_written : (pairs : List (ℕ × ℕ)) (n : ℕ) (front tail : List ℕ) → length front ≡ 154 → length pairs ≡ 93 →
    n < 93 → All IsWidePair pairs → fib_pair (front ++ (flat_map fc_lcb_bytes pairs ++ tail)) n ≡ listed_pair pairs n
pair_written pairs n front tail size count h wide =
    let wd = front ++ (flat_map fc_lcb_bytes pairs ++ tail) in
    let read = read_pair pairs n front tail (omega arith) wide in
    let fc : number_at wd (154 + 8 * n) 4 ≡ (listed_pair pairs n).0 = subst (λ l. number_at wd (l + 8 * n) 4 ≡
    (listed_pair pairs n).0) size read.0 in
    let lcb : number_at wd (154 + 8 * n + 4) 4 ≡ (listed_pair pairs n).1 = subst (λ l. number_at wd (l + 8 * n + 4) 4 ≡
    (listed_pair pairs n).1) size read.1 in
    rw (fc, lcb) refl

form_pairs-bound : (form : Form) → form_pairs form < 256 ^ 2
form_pairs-bound Early = lit< tt
form_pairs-bound Later = lit< tt

pub is_written : (fib : FibFields) (more : List ℕ) → IsFib fib → IsWritten fib (written_fib fib ++ more)
unfolding written_fib
is_written fib more is =
    let fields = written_fields fib in
    let pairs = flat_map fc_lcb_bytes fib.pairs in
    let last = spelled 898 (tail_fields fib.form fib.quick_saves) in
    let tail = pairs ++ (last ++ more) in
    let whole : (spelled 0 fields ++ (pairs ++ last)) ++ more ≡ spelled 0 fields ++ tail = simp append_assoc in
    let follow = followed fib in
    let front : length (spelled 0 fields) ≡ 154 = sym (zero-add (length (spelled 0 fields))) ∙ length-spelled fields 0
    154 follow in
    let size : length pairs ≡ 744 = omega (arith, length-flat_map-pair_bytes fib.pairs, is.pairs.count) in
    let size_last = length-tail_fields fib.form fib.quick_saves in
    let behind : (spelled 0 fields ++ pairs) ++ (last ++ more) ≡ spelled 0 fields ++ tail = append_assoc (spelled 0
    fields) pairs (last ++ more) in
    let counts = is.counts in
    let all : slice_index fib.ccps 0 + slice_index fib.ccps 1 + slice_index fib.ccps 2 ≤ 500000 = omega (
      arith,
      sum-three fib.ccps counts.three,
      counts.all,
    ) in
    let read : (k : ℕ) (f : Field) → Has k fields f → f.number < 256 ^ f.width → number_at (spelled 0 fields ++ tail)
    f.place f.width ≡ f.number =
    λ k f has fits. read_field k fields f 0 154 [] tail refl follow has fits in
    rw whole (record {
      long = omega (
        arith,
        length-append (spelled 0 fields) tail,
        length-append pairs (last ++ more),
        length-append last more,
      );
      ident = read 0 (field WIdent 0xA5EC) refl (lit< tt);
      nfib = read 1 (field NFib 0x00C1) refl (lit< tt);
      lid = read 2 (field Lid fib.kept.lid) refl is.languages.0;
      flags = read 3 (field Flags (written_flags fib)) refl ((flags_of fib is).fit);
      csw = read 5 (field Csw 14) refl (lit< tt);
      lid_fe = read 6 (field LidFE fib.kept.lid_fe) refl is.languages.1;
      cslw = read 7 (field Cslw 22) refl (lit< tt);
      cb_mac = read 8 (field CbMac fib.cb_mac) refl is.cb_mac;
      text = read 9 (field CcpText (slice_index fib.ccps 0)) refl (omega arith);
      notes = read 10 (field CcpFtn (slice_index fib.ccps 1)) refl (omega arith);
      heads = read 11 (field CcpHdd (slice_index fib.ccps 2)) refl (omega arith);
      others = λ k h. read_gap 12 fields (field CbRgFcLcb (form_pairs fib.form)) 0 154 (92 + 4 * k) 4 [] tail refl
          follow refl (omega arith) (omega arith);
      sizes = read 12 (field CbRgFcLcb (form_pairs fib.form)) refl (form_pairs-bound fib.form);
      pairs = λ n h. pair_written fib.pairs n (spelled 0 fields) (last ++ more) front is.pairs.count h is.wide;
      tail = subst (λ wd. HasTail fib.form fib.quick_saves wd) behind (tail_written fib.form fib.quick_saves
          (spelled 0 fields ++ pairs) more (omega (arith, length-append (spelled 0 fields) pairs)) is.quick_saves);
    })

-- fields that are equal one by one
pub same_fields : (form : Form) (lid lid_fe flags quick_saves table mac : ℕ) (complex : Bool) (ccps : List ℕ)
    (pairs : List (ℕ × ℕ)) (fib : FibFields) → form ≡ fib.form → lid ≡ fib.kept.lid → lid_fe ≡ fib.kept.lid_fe →
    flags ≡ fib.kept.flags → quick_saves ≡ fib.quick_saves → table ≡ fib.which_table → mac ≡ fib.cb_mac →
    complex ≡ fib.complex → ccps ≡ fib.ccps → pairs ≡ fib.pairs →
    fields_of form lid lid_fe flags quick_saves table mac complex ccps pairs ≡ fib
same_fields form lid lid_fe flags quick_saves table mac complex ccps pairs fib e e1 e2 e3 e4 e5 e6 e7 e8 e9 = rw (
  e,
  e1,
  e2,
  e3,
  e4,
  e5,
  e6,
  e7,
  e8,
  e9,
) refl

pub hold_written : (fib : FibFields) (wd : List ℕ) → IsFib fib → IsWritten fib wd → Hold (fib_rules wd)
hold_written fib wd is w =
    let flags = subst (λ n. FlagsAre fib n) (sym w.flags) (flags_of fib is) in
    let form : fib_form wd ≡ fib.form = fib_form-by_pairs fib.form wd w.sizes in
    let fits = is.pairs in
    let counts = is.counts in
    let all : slice_index fib.ccps 0 + slice_index fib.ccps 1 + slice_index fib.ccps 2 ≤ 500000 = omega (
      arith,
      sum-three fib.ccps counts.three,
      counts.all,
    ) in
    let text = w.text in
    let notes = w.notes in
    let heads = w.heads in
    let lcb : (n : ℕ) → n < 93 → (fib_pair wd n).1 ≡ (listed_pair fib.pairs n).1 = λ n h. ap (λ pair. pair.1)
    (w.pairs n h) in (
      λ p h. let short : length wd < form_size fib.form = subst (λ form. length wd < form_size form) form h.1 in
          let long = w.long in omega arith,
      (
        λ p h. h.1 w.ident,
        (
          λ p h. h.1 w.nfib,
          (
            λ p h. elim h.1 [ inl x ↦ omega (arith, x, flags.encrypted) | inr x ↦ omega (arith, x, flags.obfuscated) ],
            (
              λ p h. let x = h.1 in omega (arith, x, flags.glossary),
              (
                λ p h. elim h [
                  | inl x ↦ x.1 w.csw
                  | inr y ↦ elim y [
                    | inl x ↦ x.1 w.cslw
                    | inr z ↦ elim z [
                      | inl x ↦ not_other_form fib.form wd p w.sizes x
                      | inr x ↦ no_wrong_tail fib.form fib.quick_saves wd p is.quick_saves w.tail (subst (λ form.
                          IsWrongTail form wd p) form x)
                    ]
                  ]
                ],
                (
                  λ p h. h.broken.1 (w.others h.entry h.below),
                  (
                    λ p h. elim h.1 [ inl x ↦ let main = counts.main in omega arith | inr x ↦ omega arith ],
                    λ p h. elim h [
                      | inl x ↦ let over = x.1 in let most = fits.main_drawings in omega (arith, lcb 40 (lit< tt))
                      | inr y ↦ elim y [
                        | inl x ↦ let over = x.1 in let most = fits.header_drawings in omega (arith, lcb 41 (lit< tt))
                        | inr x ↦ let over = x.1 in let most = fits.endnotes in omega (arith, lcb 46 (lit< tt))
                      ]
                    ],
                  ),
                ),
              ),
            ),
          ),
        ),
      ),
    )

pub fields_written : (fib : FibFields) (wd : List ℕ) → IsFib fib → IsWritten fib wd → fib_fields wd ≡ fib
fields_written fib wd is w =
    let flags = subst (λ n. FlagsAre fib n) (sym w.flags) (flags_of fib is) in
    let form : fib_form wd ≡ fib.form = fib_form-by_pairs fib.form wd w.sizes in
    let pairs : fib_pairs wd ≡ fib.pairs = sym (fib_pairs-by_place wd fib.pairs is.pairs.count
    (λ n h. sym (w.pairs n h))) in
    let three : fib_ccp_text wd ∷ fib_ccp_ftn wd ∷ fib_ccp_hdd wd ∷ [] ≡ fib.ccps = rw (w.text, w.notes, w.heads)
    (sym (three_of fib.ccps is.counts.three)) in
    let count : fib_quick_saves wd ≡ fib.quick_saves = rw form (count_written fib.form fib.quick_saves wd flags.count
    w.tail) in
    same_fields (fib_form wd) (fib_lid wd) (fib_lid_fe wd) (kept_flags (fib_flags wd)) (fib_quick_saves wd)
    (fib_which_table wd) (fib_cb_mac wd) (fib_complex wd == 1) (fib_ccp_text wd ∷ fib_ccp_ftn wd ∷ fib_ccp_hdd wd ∷ [])
    (fib_pairs wd) fib form w.lid w.lid_fe flags.keeps count flags.table w.cb_mac flags.is_complex three pairs

pub read_back : (fib : FibFields) (more : List ℕ) → IsFib fib → Hold (fib_rules (written_fib fib ++ more)) ×
    (fib_fields (written_fib fib ++ more) ≡ fib)
read_back fib more is =
    let w = is_written fib more is in
    (hold_written fib (written_fib fib ++ more) is w, fields_written fib (written_fib fib ++ more) is w)
