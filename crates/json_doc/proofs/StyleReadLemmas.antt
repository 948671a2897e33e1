-- Styles and the two parts of a sheet are read as what they were written for, and from no other value.
use Rattle.std.proofs.Common.{◌≡◌, ◌<◌, ◌^◌, ℕ, zero, suc, Bool, true, false, List, [], ◌∷◌, Option, Some, None, inl}
use Rattle.std.proofs.Common.{inr}
use Rattle.std.proofs.Common.{refl, ap, ◌∙◌, subst, arith, All, is_some}
use Rattle.std.specs.Prelude.{codes, option_map, if◌then◌else◌}
use Rattle.std.specs.Option.{ForSome}
use Rattle.std.proofs.lemmas.Option.{none-some, same_Some}
use Rattle.serde_json.specs.Data.{Data, object, Members, no_members, member}
use Rattle.serde_json.specs.Find.{as_object, as_null}
use Rattle.edit_script.specs.Json.{◌>>=◌}
use Rattle.edit_script.specs.Values.{byte_number, short_number, properties_of, bytes_of}
use Rattle.doc_bits.specs.Number.{AreBytes}
use Rattle.prop_map.specs.Settings.{Properties}
use Rattle.prop_map.specs.Formed.{character_groups, paragraph_groups}
use Rattle.style_sheet.specs.declared.styles.Style.{Style}
use Rattle.style_sheet.specs.declared.styles.Kind.{Kind}
use Rattle.style_sheet.specs.declared.styles.Kind.TheVariants.{Para, Char, Other}
use Rattle.style_sheet.specs.Formed.{IsFormedBase, IsFormedKind, IsFormedStyle}
use Rattle.json_values.specs.Digits.{units_json, hex_units_of, AreUnits}
use Rattle.json_values.specs.Plain.{HasKeysInOrder, MembersHaveKeysInOrder}
use Rattle.json_values.specs.Rows.{number_json, member_if, taken, need, may, no_member_left}
use Rattle.json_values.specs.Settings.{properties_json, AreSpelt}
use Rattle.json_values.proofs.Public.{properties_one, object_is, step_found}
use Rattle.json_doc.specs.Styles.{base_json, chp_of_kind, pap_of_kind, stk_of_kind, upxes_of_kind, lists_json}
use Rattle.json_doc.specs.Styles.{style_json, style_members, numbers_json}
use Rattle.json_doc.specs.StyleReading.{list_as, base_of, kind_of_parts, read_style_of, sheet_values}
use Rattle.json_doc.proofs.FieldLemmas.{numbers_one, bytes_are_one, units_are_one, properties_are_one}
use Rattle.json_doc.proofs.ListLemmas.{lists_one, null_is}
use Rattle.json_doc.proofs.RowLemmas.{AreOne, then_found, need_one, need_back, may_one, may_back, taken_is}
use Rattle.json_doc.proofs.RowLemmas.{lacks_if, ended_is, for_none, for_some, each_by}

-- ---- a base

abbrev IsSpeltBase : Option ℕ → Type 0
IsSpeltBase base = ForSome base (λ b. b < 2 ^ 16)

base_back : (base : Option ℕ) → IsSpeltBase base → base_of (base_json base) ≡ Some base
base_back None is = refl
base_back (Some b) is = ap (option_map Some) ((numbers_one (2 ^ 16)).back b (is b refl))

abbrev base_where : Bool → Data → Option (Option ℕ)
base_where b value = if b then Some None else option_map Some (short_number value)

base_by : (b : Bool) (value : Data) (base : Option ℕ) → is_some (as_null value) ≡ b → HasKeysInOrder value →
    base_where b value ≡ Some base → IsSpeltBase base × (value ≡ base_json base)
base_by true value base test order e =
    subst (λ x. IsSpeltBase x × (value ≡ base_json x)) (same_Some None base e) (for_none _, null_is value test)
base_by false value base test order e =
    let k = each_by (short_number value) base e in
    let one = (numbers_one (2 ^ 16)).one value k.0 order k.1 in
    subst (λ x. IsSpeltBase x × (value ≡ base_json x)) k.2 (for_some _ k.0 one.0, one.1)

bases_one : AreOne base_of base_json IsSpeltBase
bases_one = record {
  back = base_back;
  one = λ value base order e. base_by (is_some (as_null value)) value base refl order e;
}

upxes_one : AreOne (list_as bytes_of) lists_json (All AreBytes)
upxes_one = lists_one bytes_are_one

-- ---- a kind

record HasKindParts (chp pap : Option Properties) (stk : Option ℕ) (upxes : Option (List (List ℕ))) (kind : Kind) :
    Type 0 where
  chp_is : chp ≡ chp_of_kind kind
  pap_is : pap ≡ pap_of_kind kind
  stk_is : stk ≡ stk_of_kind kind
  upxes_is : upxes ≡ upxes_of_kind kind

kind_made : (chp pap : Option Properties) (stk : Option ℕ) (upxes : Option (List (List ℕ))) (made kind : Kind) →
    HasKindParts chp pap stk upxes made → Some made ≡ Some kind → HasKindParts chp pap stk upxes kind
kind_made chp pap stk upxes made kind has e = subst (HasKindParts chp pap stk upxes) (same_Some made kind e) has

kind_parts : (chp pap : Option Properties) (stk : Option ℕ) (upxes : Option (List (List ℕ))) (kind : Kind) →
    kind_of_parts chp pap stk upxes ≡ Some kind → HasKindParts chp pap stk upxes kind
kind_parts (Some c) (Some p) None None kind e =
    kind_made _ _ _ _ (Para p c) kind (record { chp_is = refl; pap_is = refl; stk_is = refl; upxes_is = refl }) e
kind_parts (Some c) None None None kind e =
    kind_made _ _ _ _ (Char c) kind (record { chp_is = refl; pap_is = refl; stk_is = refl; upxes_is = refl }) e
kind_parts None None (Some s) (Some u) kind e =
    kind_made _ _ _ _ (Other s u) kind (record { chp_is = refl; pap_is = refl; stk_is = refl; upxes_is = refl }) e
kind_parts (Some c) (Some p) (Some s) upxes kind e = absurd (none-some kind e)
kind_parts (Some c) (Some p) None (Some u) kind e = absurd (none-some kind e)
kind_parts (Some c) None (Some s) upxes kind e = absurd (none-some kind e)
kind_parts (Some c) None None (Some u) kind e = absurd (none-some kind e)
kind_parts None (Some p) stk upxes kind e = absurd (none-some kind e)
kind_parts None None None upxes kind e = absurd (none-some kind e)
kind_parts None None (Some s) None kind e = absurd (none-some kind e)

kind_back : (kind : Kind) → kind_of_parts (chp_of_kind kind) (pap_of_kind kind) (stk_of_kind kind) (upxes_of_kind kind)
    ≡
    Some kind
kind_back (Para pap chp) = refl
kind_back (Char chp) = refl
kind_back (Other stk upxes) = refl

-- ---- a style

-- its numbers and properties can be written
pub record IsSpeltStyle (style : Style) : Type 0 where
  pub sti : style.sti < 2 ^ 16
  pub flags : style.flags < 2 ^ 8
  pub base : ForSome style.base (λ b. b < 2 ^ 16)
  pub next : style.next < 2 ^ 16
  pub grfstd : style.grfstd < 2 ^ 16
  pub name : AreUnits style.name
  pub chp : ForSome (chp_of_kind style.kind) AreSpelt
  pub pap : ForSome (pap_of_kind style.kind) AreSpelt
  pub stk : ForSome (stk_of_kind style.kind) (λ stk. stk < 2 ^ 8)
  pub upxes : ForSome (upxes_of_kind style.kind) (All AreBytes)

style_back : (style : Style) → IsSpeltStyle style → read_style_of (style_json style) ≡ Some style
style_back s is =
    let k = s.kind in
    let from_upxes = member_if (codes "upxes") (option_map lists_json (upxes_of_kind k)) no_members in
    let from_stk = member_if (codes "stk") (option_map number_json (stk_of_kind k)) from_upxes in
    let from_sti = member (codes "sti") (number_json s.sti) from_stk in
    let from_par = member_if (codes "par") (option_map properties_json (pap_of_kind k)) from_sti in
    let from_next = member (codes "next") (number_json s.next) from_par in
    let from_name = member (codes "name") (units_json s.name) from_next in
    let from_grfstd = member (codes "grfstd") (number_json s.grfstd) from_name in
    let from_flags = member (codes "flags") (number_json s.flags) from_grfstd in
    let from_char = member_if (codes "char") (option_map properties_json (chp_of_kind k)) from_flags in
    then_found (need (codes "base") base_of (style_members s)) _ (s.base, from_char) s
    (need_back bases_one (codes "base") s.base from_char is.base)
    (then_found (may (codes "char") properties_of from_char) _ (chp_of_kind k, from_flags) s
    (may_back properties_are_one (codes "char") (chp_of_kind k) from_flags is.chp refl)
    (then_found (need (codes "flags") byte_number from_flags) _ (s.flags, from_grfstd) s
    (need_back (numbers_one (2 ^ 8)) (codes "flags") s.flags from_grfstd is.flags)
    (then_found (need (codes "grfstd") short_number from_grfstd) _ (s.grfstd, from_name) s
    (need_back (numbers_one (2 ^ 16)) (codes "grfstd") s.grfstd from_name is.grfstd)
    (then_found (need (codes "name") hex_units_of from_name) _ (s.name, from_next) s
    (need_back units_are_one (codes "name") s.name from_next is.name)
    (then_found (need (codes "next") short_number from_next) _ (s.next, from_par) s
    (need_back (numbers_one (2 ^ 16)) (codes "next") s.next from_par is.next)
    (then_found (may (codes "par") properties_of from_par) _ (pap_of_kind k, from_sti) s
    (may_back properties_are_one (codes "par") (pap_of_kind k) from_sti is.pap refl)
    (then_found (need (codes "sti") short_number from_sti) _ (s.sti, from_stk) s
    (need_back (numbers_one (2 ^ 16)) (codes "sti") s.sti from_stk is.sti)
    (then_found (may (codes "stk") byte_number from_stk) _ (stk_of_kind k, from_upxes) s
    (may_back (numbers_one (2 ^ 8)) (codes "stk") (stk_of_kind k) from_upxes is.stk
    (lacks_if (codes "stk") (codes "upxes") (option_map lists_json (upxes_of_kind k)) no_members refl tt))
    (then_found (may (codes "upxes") (list_as bytes_of) from_upxes) _ (upxes_of_kind k, no_members) s
    (may_back upxes_one (codes "upxes") (upxes_of_kind k) no_members is.upxes tt)
    (then_found (kind_of_parts (chp_of_kind k) (pap_of_kind k) (stk_of_kind k) (upxes_of_kind k)) _ k s (kind_back k)
    refl))))))))))

-- what is read behind the name
abbrev after_name : Style → Members
after_name s =
    member (codes "next") (number_json s.next)
    (member_if (codes "par") (option_map properties_json (pap_of_kind s.kind))
    (member (codes "sti") (number_json s.sti)
    (member_if (codes "stk") (option_map number_json (stk_of_kind s.kind))
    (member_if (codes "upxes") (option_map lists_json (upxes_of_kind s.kind)) no_members))))

-- what was read up to the name
record Front : Type 0 where
  base : Option ℕ
  chp : Option Properties
  flags : ℕ
  grfstd : ℕ
  name : List ℕ

abbrev rest_of : Front → Members → Option Style
rest_of front ms = do
  next ← need (codes "next") short_number ms
  pap ← may (codes "par") properties_of next.1
  sti ← need (codes "sti") short_number pap.1
  stk ← may (codes "stk") byte_number sti.1
  upxes ← may (codes "upxes") (list_as bytes_of) stk.1
  end ← no_member_left upxes.1
  kind ← kind_of_parts front.chp pap.0 stk.0 upxes.0
  Some (record {
    sti = sti.0;
    flags = front.flags;
    base = front.base;
    next = next.0;
    grfstd = front.grfstd;
    name = front.name;
    kind = kind;
  })

record IsRest (front : Front) (ms : Members) (s : Style) : Type 0 where
  base_is : front.base ≡ s.base
  chp_is : front.chp ≡ chp_of_kind s.kind
  flags_is : front.flags ≡ s.flags
  grfstd_is : front.grfstd ≡ s.grfstd
  name_is : front.name ≡ s.name
  next : s.next < 2 ^ 16
  sti : s.sti < 2 ^ 16
  pap : ForSome (pap_of_kind s.kind) AreSpelt
  stk : ForSome (stk_of_kind s.kind) (λ stk. stk < 2 ^ 8)
  upxes : ForSome (upxes_of_kind s.kind) (All AreBytes)
  members : ms ≡ after_name s

rest_one : (front : Front) (ms : Members) (style : Style) → MembersHaveKeysInOrder ms → rest_of front ms ≡ Some style →
    IsRest front ms style
rest_one front ms style order e =
    let g = step_found (need (codes "next") short_number ms) _ style e in
    let next = need_one (numbers_one (2 ^ 16)) (codes "next") ms g.0 order g.1 in
    let h = step_found (may (codes "par") properties_of g.0.1) _ style g.2 in
    let pap = may_one properties_are_one (codes "par") g.0.1 h.0 next.order h.1 in
    let i = step_found (need (codes "sti") short_number h.0.1) _ style h.2 in
    let sti = need_one (numbers_one (2 ^ 16)) (codes "sti") h.0.1 i.0 pap.order i.1 in
    let j = step_found (may (codes "stk") byte_number i.0.1) _ style i.2 in
    let stk = may_one (numbers_one (2 ^ 8)) (codes "stk") i.0.1 j.0 sti.order j.1 in
    let l = step_found (may (codes "upxes") (list_as bytes_of) j.0.1) _ style j.2 in
    let upxes = may_one upxes_one (codes "upxes") j.0.1 l.0 stk.order l.1 in
    let m = step_found (no_member_left l.0.1) _ style l.2 in
    let last = ended_is l.0.1 m.0 m.1 in
    let n = step_found (kind_of_parts front.chp h.0.0 j.0.0 l.0.0) _ style m.2 in
    let has = kind_parts front.chp h.0.0 j.0.0 l.0.0 n.0 n.1 in
    let found : Style = record {
      sti = i.0.0;
      flags = front.flags;
      base = front.base;
      next = g.0.0;
      grfstd = front.grfstd;
      name = front.name;
      kind = n.0;
    } in
    let made : found ≡ style = same_Some found style n.2 in
    let raw : ms ≡ member (codes "next") (number_json g.0.0)
    (member_if (codes "par") (option_map properties_json h.0.0)
    (member (codes "sti") (number_json i.0.0)
    (member_if (codes "stk") (option_map number_json j.0.0)
    (member_if (codes "upxes") (option_map lists_json l.0.0) no_members)))) =
    next.members ∙ ap (member (codes "next") (number_json g.0.0))
    (pap.members ∙ ap (member_if (codes "par") (option_map properties_json h.0.0))
    (sti.members ∙ ap (member (codes "sti") (number_json i.0.0))
    (stk.members ∙ ap (member_if (codes "stk") (option_map number_json j.0.0))
    (upxes.members ∙ ap (member_if (codes "upxes") (option_map lists_json l.0.0)) last)))) in
    let kept : ms ≡ after_name found =
    raw ∙ (λ t. member (codes "next") (number_json g.0.0)
    (member_if (codes "par") (option_map properties_json (has.pap_is t))
    (member (codes "sti") (number_json i.0.0)
    (member_if (codes "stk") (option_map number_json (has.stk_is t))
    (member_if (codes "upxes") (option_map lists_json (has.upxes_is t)) no_members))))) in
    subst (IsRest front ms) made (record {
      base_is = refl;
      chp_is = has.chp_is;
      flags_is = refl;
      grfstd_is = refl;
      name_is = refl;
      next = next.right;
      sti = sti.right;
      pap = subst (λ o. ForSome o AreSpelt) has.pap_is pap.right;
      stk = subst (λ o. ForSome o (λ s. s < 2 ^ 8)) has.stk_is stk.right;
      upxes = subst (λ o. ForSome o (All AreBytes)) has.upxes_is upxes.right;
      members = kept;
    })

style_one : (value : Data) (style : Style) → HasKeysInOrder value → read_style_of value ≡ Some style →
    IsSpeltStyle style × (value ≡ style_json style)
style_one value style order e =
    let start = step_found (as_object value) _ style e in
    let is = object_is value start.0 start.1 in
    let ordered : MembersHaveKeysInOrder start.0 = (subst HasKeysInOrder is order).0 in
    let a = step_found (need (codes "base") base_of start.0) _ style start.2 in
    let base = need_one bases_one (codes "base") start.0 a.0 ordered a.1 in
    let b = step_found (may (codes "char") properties_of a.0.1) _ style a.2 in
    let chp = may_one properties_are_one (codes "char") a.0.1 b.0 base.order b.1 in
    let c = step_found (need (codes "flags") byte_number b.0.1) _ style b.2 in
    let flags = need_one (numbers_one (2 ^ 8)) (codes "flags") b.0.1 c.0 chp.order c.1 in
    let d = step_found (need (codes "grfstd") short_number c.0.1) _ style c.2 in
    let grfstd = need_one (numbers_one (2 ^ 16)) (codes "grfstd") c.0.1 d.0 flags.order d.1 in
    let f = step_found (need (codes "name") hex_units_of d.0.1) _ style d.2 in
    let name = need_one units_are_one (codes "name") d.0.1 f.0 grfstd.order f.1 in
    let front : Front = record { base = a.0.0; chp = b.0.0; flags = c.0.0; grfstd = d.0.0; name = f.0.0 } in
    let rest = rest_one front f.0.1 style name.order f.2 in
    let raw : value ≡ object (member (codes "base") (base_json a.0.0)
    (member_if (codes "char") (option_map properties_json b.0.0)
    (member (codes "flags") (number_json c.0.0)
    (member (codes "grfstd") (number_json d.0.0)
    (member (codes "name") (units_json f.0.0) (after_name style)))))) =
    is ∙ ap object (base.members ∙ ap (member (codes "base") (base_json a.0.0))
    (chp.members ∙ ap (member_if (codes "char") (option_map properties_json b.0.0))
    (flags.members ∙ ap (member (codes "flags") (number_json c.0.0))
    (grfstd.members ∙ ap (member (codes "grfstd") (number_json d.0.0))
    (name.members ∙ ap (member (codes "name") (units_json f.0.0)) rest.members))))) in (
      record {
        sti = rest.sti;
        flags = subst (λ n. n < 2 ^ 8) rest.flags_is flags.right;
        base = subst (λ o. ForSome o (λ b. b < 2 ^ 16)) rest.base_is base.right;
        next = rest.next;
        grfstd = subst (λ n. n < 2 ^ 16) rest.grfstd_is grfstd.right;
        name = subst AreUnits rest.name_is name.right;
        chp = subst (λ o. ForSome o AreSpelt) rest.chp_is chp.right;
        pap = rest.pap;
        stk = rest.stk;
        upxes = rest.upxes;
      },
      raw ∙ (λ t. object (member (codes "base") (base_json (rest.base_is t))
          (member_if (codes "char") (option_map properties_json (rest.chp_is t))
          (member (codes "flags") (number_json (rest.flags_is t))
          (member (codes "grfstd") (number_json (rest.grfstd_is t))
          (member (codes "name") (units_json (rest.name_is t)) (after_name style))))))),
    )

pub styles_one : AreOne read_style_of style_json IsSpeltStyle
styles_one = record { back = style_back; one = style_one }

-- a formed style can be written
pub all_units : (units : List ℕ) → All (λ unit. unit < 65536) units → AreUnits units
all_units [] all i = omega arith
all_units (u ∷ us) all zero = all zero u (omega arith)
all_units (u ∷ us) all (suc i) = all_units us (λ k d less. all (suc k) d (omega (arith, less))) i

base_small : (base : Option ℕ) → IsFormedBase base → ForSome base (λ b. b < 2 ^ 16)
base_small None formed = for_none _
base_small (Some b) formed = for_some _ b (omega (arith, formed))

chp_spelt : (kind : Kind) → IsFormedKind kind → ForSome (chp_of_kind kind) AreSpelt
chp_spelt (Para pap chp) formed = for_some _ chp (properties_one.formed character_groups chp formed.1)
chp_spelt (Char chp) formed = for_some _ chp (properties_one.formed character_groups chp formed)
chp_spelt (Other stk upxes) formed = for_none _

pap_spelt : (kind : Kind) → IsFormedKind kind → ForSome (pap_of_kind kind) AreSpelt
pap_spelt (Para pap chp) formed = for_some _ pap (properties_one.formed paragraph_groups pap formed.0)
pap_spelt (Char chp) formed = for_none _
pap_spelt (Other stk upxes) formed = for_none _

stk_small : (kind : Kind) → IsFormedKind kind → ForSome (stk_of_kind kind) (λ stk. stk < 2 ^ 8)
stk_small (Para pap chp) formed = for_none _
stk_small (Char chp) formed = for_none _
stk_small (Other stk upxes) formed = for_some _ stk
    (elim formed.0 [ inl e ↦ omega (arith, e) | inr e ↦ omega (arith, e) ])

upxes_bytes : (kind : Kind) → IsFormedKind kind → ForSome (upxes_of_kind kind) (All AreBytes)
upxes_bytes (Para pap chp) formed = for_none _
upxes_bytes (Char chp) formed = for_none _
upxes_bytes (Other stk upxes) formed = for_some _ upxes formed.1.1

pub style_spelt : (style : Style) → IsFormedStyle style → IsSpeltStyle style
style_spelt s formed = record {
  sti = let h = formed.sti in omega (arith, h);
  flags = let h = formed.flags in omega (arith, h);
  base = base_small s.base formed.base;
  next = let h = formed.next in omega (arith, h);
  grfstd = let h = formed.grfstd in omega (arith, h);
  name = all_units s.name formed.name;
  chp = chp_spelt s.kind formed.kind;
  pap = pap_spelt s.kind formed.kind;
  stk = stk_small s.kind formed.kind;
  upxes = upxes_bytes s.kind formed.kind;
}

-- ---- a sheet

pub heads_one : AreOne (list_as short_number) numbers_json (All (λ number. number < 2 ^ 16))
heads_one = lists_one (numbers_one (2 ^ 16))

-- the header and the value of the slots
abbrev pub sheet_made : List ℕ → Data → Data
sheet_made head slots =
    object (member (codes "head") (numbers_json head) (member (codes "styles") slots no_members))

pub sheet_back : (head : List ℕ) (slots : Data) → All (λ number. number < 2 ^ 16) head →
    sheet_values (sheet_made head slots) ≡ Some (head, slots)
sheet_back head slots words =
    let last = member (codes "styles") slots no_members in
    then_found (need (codes "head") (list_as short_number) (member (codes "head") (numbers_json head) last)) _
    (head, last) (head, slots) (need_back heads_one (codes "head") head last words) refl

pub record IsSheetMade (value : Data) (head : List ℕ) (slots : Data) : Type 0 where
  pub words : All (λ number. number < 2 ^ 16) head
  pub is : value ≡ sheet_made head slots
  pub order : HasKeysInOrder slots

pub sheet_one : (value : Data) (head : List ℕ) (slots : Data) → HasKeysInOrder value →
    sheet_values value ≡ Some (head, slots) → IsSheetMade value head slots
sheet_one value head slots order e =
    let start = step_found (as_object value) _ (head, slots) e in
    let is = object_is value start.0 start.1 in
    let ordered : MembersHaveKeysInOrder start.0 = (subst HasKeysInOrder is order).0 in
    let a = step_found (need (codes "head") (list_as short_number) start.0) _ (head, slots) start.2 in
    let first = need_one heads_one (codes "head") start.0 a.0 ordered a.1 in
    let b = step_found (taken (codes "styles") a.0.1) _ (head, slots) a.2 in
    let second = taken_is (codes "styles") a.0.1 b.0.0 b.0.1 b.1 in
    let c = step_found (no_member_left b.0.1) _ (head, slots) b.2 in
    let last = ended_is b.0.1 c.0 c.1 in
    let made : (a.0.0, b.0.0) ≡ (head, slots) = same_Some (a.0.0, b.0.0) (head, slots) c.2 in
    let rest : MembersHaveKeysInOrder (member (codes "styles") b.0.0 b.0.1) =
    subst MembersHaveKeysInOrder second first.order in
    subst (λ q. IsSheetMade value q.0 q.1) made (record {
      words = first.right;
      is = is ∙ ap object (first.members ∙ ap (member (codes "head") (numbers_json a.0.0)) (second
          ∙ ap (member (codes "styles") b.0.0) last));
      order = rest.0;
    })
