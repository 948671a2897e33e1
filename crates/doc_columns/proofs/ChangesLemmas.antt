-- Three columns, one of which is changed in a range.
use Rattle.std.proofs.Common.{◌≡◌, ℕ, zero, suc, ◌+◌, ◌-◌, ◌≤◌, List, [], ◌∷◌, ◌++◌, length, take, drop, Some, refl}
use Rattle.std.proofs.Common.{sym, ◌∙◌, ap, subst, arith}
use Rattle.std.specs.Prelude.{slice_get, slice_range}
use Rattle.std.specs.List.{All, splice}
use Rattle.std.proofs.lemmas.List.{take-append-drop, drop-drop}
use Rattle.std.proofs.Math.Seq.{drop-append_seam, take-append_seam}
use Rattle.std.proofs.lemmas.List.Edits.{length-between}
use Rattle.std.proofs.lemmas.List.Elements.{All-nil, All-cons, All-head, All-tail, All-take, All-drop}
use Rattle.doc_bits.specs.Together.{AreTogether}
use Rattle.doc_bits.proofs.Public.{All_at, same_entry}
use Rattle.prop_map.specs.Settings.{Properties}
use Rattle.run_lists.specs.Changed.{IsChanged}
use Rattle.doc_model.specs.declared.item.Item.{Item}
use Rattle.doc_model.specs.Document.{IsFormedItem, IsFormedText}
use Rattle.doc_model.proofs.Public.{length-splice, IsFormedList-splice}
use Rattle.doc_columns.specs.declared.attached.Attached.{Attached}
use Rattle.doc_columns.specs.Attached.{attached_of, IsRanged}
use Rattle.doc_columns.specs.Columns.{item_of, items_of, AreColumns}
use Rattle.doc_columns.specs.Changes.{HasOtherChp, HasOtherAttached, KeepsCharacters, KeepsMaps}
use Rattle.doc_columns.proofs.ItemsOfLemmas.{length-items_of, items_of-range, spliced_items, text_long}

-- ---- one item of three columns

-- what the columns have where the item is
pub record HasParts (units : List ℕ) (chps : List Properties) (attachments : List Attached) (k : ℕ) (item : Item) : Type
    0 where
  pub unit : slice_get units k ≡ Some item.unit
  pub chp : slice_get chps k ≡ Some item.chp
  pub attached : slice_get attachments k ≡ Some (attached_of item)

some_same : {A : Type 0} (x y : A) → Some x ≡ Some y → x ≡ y
some_same x y e = cc

pub has_parts : (units : List ℕ) (chps : List Properties) (attachments : List Attached) (k : ℕ) (item : Item) →
    slice_get (items_of units chps attachments) k ≡ Some item → HasParts units chps attachments k item
has_parts [] chps attachments k item there = absurd (cc)
has_parts (unit ∷ units) [] attachments k item there = absurd (cc)
has_parts (unit ∷ units) (chp ∷ chps) [] k item there = absurd (cc)
has_parts (unit ∷ units) (chp ∷ chps) (attached ∷ attachments) zero item there =
    let is : item_of unit chp attached ≡ item = some_same (item_of unit chp attached) item there in
    record {
      unit = ap (λ (x : Item). Some x.unit) is;
      chp = ap (λ (x : Item). Some x.chp) is;
      attached = ap (λ (x : Item). Some (attached_of x)) is;
    }
has_parts (unit ∷ units) (chp ∷ chps) (attached ∷ attachments) (suc k) item there =
    let rest = has_parts units chps attachments k item there in
    record { unit = rest.unit; chp = rest.chp; attached = rest.attached }

-- ---- ranges

-- a range in its own place
pub own_range : {A : Type 0} (xs : List A) (from to : ℕ) → from ≤ to → splice xs from to (slice_range xs from to) ≡ xs
own_range {A = A} xs from to ordered =
    let end : from + (to - from) ≡ to = omega (arith, ordered) in
    let rest : drop (to - from) (drop from xs) ≡ drop to xs =
    drop-drop (to - from) from xs ∙ ap (λ (n : ℕ). drop n xs) end in
    let back : slice_range xs from to ++ drop to xs ≡ drop from xs =
    ap (λ (t : List A). slice_range xs from to ++ t) (sym rest) ∙ take-append-drop (to - from) (drop from xs) in
    ap (λ (t : List A). take from xs ++ t) back ∙ take-append-drop from xs

-- what holds of each entry holds of those of a range
All-range : {A : Type 0} (P : A → Type 0) (xs : List A) (from to : ℕ) → All P xs → All P (slice_range xs from to)
All-range P xs from to all = All-take P (to - from) (drop from xs) (All-drop P from xs all)

-- the items of a range
pub range_columns : (units : List ℕ) (chps : List Properties) (attachments : List Attached) (us : List ℕ) (cs : List
    Properties)
    (bs : List Attached) (text : List Item) (from to : ℕ) → us ≡ slice_range units from to →
    cs ≡ slice_range chps from to → bs ≡ slice_range attachments from to → items_of units chps attachments ≡ text
    → items_of us cs bs ≡ slice_range text from to
range_columns units chps attachments us cs bs text from to us_is cs_is bs_is is =
    ap (λ (t : List ℕ). items_of t cs bs) us_is
    ∙ ap (λ (t : List Properties). items_of (slice_range units from to) t bs) cs_is
    ∙ ap (λ (t : List Attached). items_of (slice_range units from to) (slice_range chps from to) t) bs_is
    ∙ items_of-range units chps attachments from to
    ∙ ap (λ (t : List Item). slice_range t from to) is

-- the columns of a range
pub range_are : (units : List ℕ) (chps : List Properties) (attachments : List Attached) (us : List ℕ) (cs : List
    Properties)
    (bs : List Attached) (from to : ℕ) → AreColumns units chps attachments → from ≤ to → to ≤ length units →
    us ≡ slice_range units from to → cs ≡ slice_range chps from to → bs ≡ slice_range attachments from to
    → AreColumns us cs bs
range_are units chps attachments us cs bs from to are ordered within us_is cs_is bs_is =
    let us_long : length us ≡ to - from = ap length us_is ∙ length-between units from to within in
    let cs_long : length cs ≡ to - from =
    ap length cs_is ∙ length-between chps from to (omega (arith, within, are.chps_long)) in
    let bs_long : length bs ≡ to - from =
    ap length bs_is ∙ length-between attachments from to (omega (arith, within, are.attachments_long)) in
    let long : length cs ≡ length us = cs_long ∙ sym us_long in
    let also : length bs ≡ length us = bs_long ∙ sym us_long in
    let range : items_of us cs bs ≡ slice_range (items_of units chps attachments) from to =
    range_columns units chps attachments us cs bs (items_of units chps attachments) from to us_is cs_is bs_is refl in
    record {
      chps_long = long;
      attachments_long = also;
      formed =
          record {
            few =
                omega (
                  arith,
                  are.formed.few,
                  length-items_of us cs bs long also,
                  length-items_of units chps attachments are.chps_long are.attachments_long,
                  us_long,
                  within,
                );
            each =
                subst (All IsFormedItem) (sym range)
                (All-range IsFormedItem (items_of units chps attachments) from to are.formed.each);
          };
    }

-- items are formed where those before are, and each becomes a formed one
formed_together : (R : Item → Item → Type 0) (xs ys : List Item) → AreTogether R xs ys → All IsFormedItem xs →
    ((k : ℕ) (x y : Item) → slice_get xs k ≡ Some x → slice_get ys k ≡ Some y → R x y → IsFormedItem x → IsFormedItem y)
    → All IsFormedItem ys
formed_together R [] [] together formed each = All-nil IsFormedItem
formed_together R [] (y ∷ ys) together formed each = absurd (let e = together.len in omega (arith, e))
formed_together R (x ∷ xs) [] together formed each = absurd (let e = together.len in omega (arith, e))
formed_together R (x ∷ xs) (y ∷ ys) together formed each =
    All-cons IsFormedItem y ys
    (each zero x y refl refl (together.each zero x y refl refl) (All-head IsFormedItem x xs formed))
    (formed_together R xs ys (record {
      len = let e = together.len in omega (arith, e);
      each = λ k before after here there. together.each (suc k) before after here there;
    }) (All-tail IsFormedItem x xs formed) (λ k before after here there. each (suc k) before after here there))

-- ---- the properties

-- the items of a range whose properties are changed
chps_together : (becomes : Properties → Properties → Type 0) (units : List ℕ) (chps fresh : List Properties)
    (attachments : List Attached) → length chps ≡ length units → length attachments ≡ length units →
    AreTogether becomes chps fresh
    → AreTogether (HasOtherChp becomes) (items_of units chps attachments) (items_of units fresh attachments)
chps_together becomes units chps fresh attachments long also together = record {
  len =
      length-items_of units chps attachments long also
      ∙ sym (length-items_of units fresh attachments (sym together.len ∙ long) also);
  each = λ k x y here there.
      let before = has_parts units chps attachments k x here in
      let after = has_parts units fresh attachments k y there in
      let unit : y.unit ≡ x.unit = same_entry units k y.unit x.unit after.unit before.unit in
      let attached : attached_of y ≡ attached_of x =
      same_entry attachments k (attached_of y) (attached_of x) after.attached before.attached in
      record {
        chp = together.each k x.chp y.chp before.chp after.chp;
        rest =
            ap (λ (u : ℕ). item_of u y.chp (attached_of y)) unit
            ∙ ap (λ (b : Attached). item_of x.unit y.chp b) attached;
      };
}

other_chp_formed : (becomes : Properties → Properties → Type 0) → KeepsCharacters becomes → (x y : Item) →
    HasOtherChp becomes x y → IsFormedItem x → IsFormedItem y
other_chp_formed becomes kept x y other formed =
    subst IsFormedItem (sym other.rest) (record {
      maps =
          record {
            chp = kept x.chp y.chp formed.maps.chp other.chp;
            pap = formed.maps.pap;
            sect = formed.maps.sect;
          };
      unit = formed.unit;
      style = formed.style;
      field = formed.field;
    })

-- what a change of a column makes of the text
pub record ChangesText (R : Item → Item → Type 0) (from to : ℕ) (units : List ℕ) (chps : List Properties)
    (attachments : List Attached) (text : List Item) : Type 0 where
  pub are : AreColumns units chps attachments
  pub changed : IsChanged R from to text (items_of units chps attachments)

-- fresh items in place of those of a range
changed_text : (R : Item → Item → Type 0) (from to : ℕ) (units : List ℕ) (chps : List Properties) (attachments : List
    Attached)
    (text fresh : List Item) → length chps ≡ length units → length attachments ≡ length units → IsFormedText text →
    from ≤ to → to ≤ length text → items_of units chps attachments ≡ splice text from to fresh
    → AreTogether R (slice_range text from to) fresh
    → ((k : ℕ) (x y : Item) → slice_get fresh k ≡ Some y → R x y → IsFormedItem x → IsFormedItem y)
    → ChangesText R from to units chps attachments text
changed_text R from to units chps attachments text fresh long also formed ordered within is together keeps =
    let count : length fresh ≡ to - from =
    sym together.len ∙ length-between text from to within in
    record {
      are =
          record {
            chps_long = long;
            attachments_long = also;
            formed =
                IsFormedList-splice IsFormedItem text (items_of units chps attachments) fresh from to is ordered within
                (omega (arith, formed.few, count)) formed
                (record {
                  few = omega (arith, formed.few, count, within);
                  each =
                      formed_together R (slice_range text from to) fresh together
                      (All-range IsFormedItem text from to formed.each) (λ k x y here there. keeps k x y there);
                });
          };
      changed = record { fresh = fresh; spliced = is; each = together };
    }

-- the properties of a range are changed
pub chps_changed : (becomes : Properties → Properties → Type 0) (units : List ℕ) (chps new : List Properties)
    (attachments : List Attached) (text : List Item) (from to : ℕ) → KeepsCharacters becomes → AreColumns units chps
    attachments →
    items_of units chps attachments ≡ text → from ≤ to → to ≤ length text → IsChanged becomes from to chps new
    → ChangesText (HasOtherChp becomes) from to units new attachments text
chps_changed becomes units chps new attachments text from to kept are is ordered within changes =
    let fresh = changes.fresh in
    let us = slice_range units from to in
    let cs = slice_range chps from to in
    let bs = slice_range attachments from to in
    let long = text_long units chps attachments text are is in
    let us_long : length us ≡ to - from = length-between units from to (omega (arith, long, within)) in
    let cs_long : length cs ≡ to - from =
    length-between chps from to (omega (arith, long, within, are.chps_long)) in
    let bs_long : length bs ≡ to - from =
    length-between attachments from to (omega (arith, long, within, are.attachments_long)) in
    let fresh_long : length fresh ≡ length us = sym changes.each.len ∙ cs_long ∙ sym us_long in
    let new_long : length new ≡ length units =
    ap length changes.spliced
    ∙ omega (
      arith,
      length-splice chps fresh from to ordered (omega (arith, long, within, are.chps_long)),
      are.chps_long,
      fresh_long,
      us_long,
      long,
      within,
      ordered,
    ) in
    let whole : items_of units new attachments ≡ splice text from to (items_of us fresh bs) =
    ap (λ (t : List ℕ). items_of t new attachments) (sym (own_range units from to ordered))
    ∙ ap (λ (t : List Properties). items_of (splice units from to us) t attachments) changes.spliced
    ∙ ap (λ (t : List Attached). items_of (splice units from to us) (splice chps from to fresh) t)
    (sym (own_range attachments from to ordered))
    ∙ spliced_items units chps attachments us fresh bs from to are.chps_long are.attachments_long fresh_long
    (bs_long ∙ sym us_long) ordered (omega (arith, long, within))
    ∙ ap (λ (t : List Item). splice t from to (items_of us fresh bs)) is in
    let range : items_of us cs bs ≡ slice_range text from to =
    items_of-range units chps attachments from to ∙ ap (λ (t : List Item). slice_range t from to) is in
    changed_text (HasOtherChp becomes) from to units new attachments text (items_of us fresh bs) new_long
    are.attachments_long
    (subst IsFormedText is are.formed) ordered within whole
    (subst (λ (t : List Item). AreTogether (HasOtherChp becomes) t (items_of us fresh bs)) range
    (chps_together becomes us cs fresh bs (cs_long ∙ sym us_long) (bs_long ∙ sym us_long) changes.each))
    (λ k x y there. other_chp_formed becomes kept x y)

-- ---- what is beside

-- the fresh entries are among the new ones
fresh_in : {A : Type 0} (P : A → Type 0) (xs fresh new : List A) (from to : ℕ) → new ≡ splice xs from to fresh →
    All P new → All P fresh
fresh_in P xs fresh new from to is all =
    let front = take from xs in
    let back = fresh ++ drop to xs in
    let behind : All P back =
    subst (All P) (drop-append_seam front back) (All-drop P (length front) (front ++ back) (subst (All P) is all)) in
    subst (All P) (take-append_seam fresh (drop to xs)) (All-take P (length fresh) back behind)

-- the items of a range beside which something else is
attachments_together : (becomes : Attached → Attached → Type 0) (units : List ℕ) (chps : List Properties)
    (attachments fresh : List Attached) → length chps ≡ length units → length attachments ≡ length units →
    AreTogether becomes attachments fresh
    → AreTogether (HasOtherAttached becomes) (items_of units chps attachments) (items_of units chps fresh)
attachments_together becomes units chps attachments fresh long also together = record {
  len =
      length-items_of units chps attachments long also
      ∙ sym (length-items_of units chps fresh long (sym together.len ∙ also));
  each = λ k x y here there.
      let before = has_parts units chps attachments k x here in
      let after = has_parts units chps fresh k y there in
      let unit : y.unit ≡ x.unit = same_entry units k y.unit x.unit after.unit before.unit in
      let chp : y.chp ≡ x.chp = same_entry chps k y.chp x.chp after.chp before.chp in
      record {
        attached = together.each k (attached_of x) (attached_of y) before.attached after.attached;
        rest =
            ap (λ (u : ℕ). item_of u y.chp (attached_of y)) unit
            ∙ ap (λ (c : Properties). item_of x.unit c (attached_of y)) chp;
      };
}

other_attached_formed : (becomes : Attached → Attached → Type 0) → KeepsMaps becomes → (x y : Item) →
    HasOtherAttached becomes x y → IsRanged (attached_of y) → IsFormedItem x → IsFormedItem y
other_attached_formed becomes kept x y other ranged formed =
    let maps = kept (attached_of x) (attached_of y) (record { pap = formed.maps.pap; sect = formed.maps.sect })
    other.attached in
    subst IsFormedItem (sym other.rest) (record {
      maps = record { chp = formed.maps.chp; pap = maps.pap; sect = maps.sect };
      unit = formed.unit;
      style = ranged.style;
      field = ranged.field;
    })

-- what is beside the items of a range is changed
pub attachments_changed : (becomes : Attached → Attached → Type 0) (units : List ℕ) (chps : List Properties)
    (attachments new : List Attached) (text : List Item) (from to : ℕ) → KeepsMaps becomes → AreColumns units chps
    attachments →
    items_of units chps attachments ≡ text → from ≤ to → to ≤ length text → IsChanged becomes from to attachments new
    → All IsRanged new → ChangesText (HasOtherAttached becomes) from to units chps new text
attachments_changed becomes units chps attachments new text from to kept are is ordered within changes ranged =
    let fresh = changes.fresh in
    let us = slice_range units from to in
    let cs = slice_range chps from to in
    let bs = slice_range attachments from to in
    let long = text_long units chps attachments text are is in
    let us_long : length us ≡ to - from = length-between units from to (omega (arith, long, within)) in
    let cs_long : length cs ≡ to - from =
    length-between chps from to (omega (arith, long, within, are.chps_long)) in
    let bs_long : length bs ≡ to - from =
    length-between attachments from to (omega (arith, long, within, are.attachments_long)) in
    let fresh_long : length fresh ≡ length us = sym changes.each.len ∙ bs_long ∙ sym us_long in
    let new_long : length new ≡ length units =
    ap length changes.spliced
    ∙ omega (
      arith,
      length-splice attachments fresh from to ordered (omega (arith, long, within, are.attachments_long)),
      are.attachments_long,
      fresh_long,
      us_long,
      long,
      within,
      ordered,
    ) in
    let all_fresh : All IsRanged fresh = fresh_in IsRanged attachments fresh new from to changes.spliced ranged in
    let whole : items_of units chps new ≡ splice text from to (items_of us cs fresh) =
    ap (λ (t : List ℕ). items_of t chps new) (sym (own_range units from to ordered))
    ∙ ap (λ (t : List Properties). items_of (splice units from to us) t new) (sym (own_range chps from to ordered))
    ∙ ap (λ (t : List Attached). items_of (splice units from to us) (splice chps from to cs) t) changes.spliced
    ∙ spliced_items units chps attachments us cs fresh from to are.chps_long are.attachments_long (cs_long ∙ sym
    us_long)
    fresh_long ordered (omega (arith, long, within))
    ∙ ap (λ (t : List Item). splice t from to (items_of us cs fresh)) is in
    let range : items_of us cs bs ≡ slice_range text from to =
    items_of-range units chps attachments from to ∙ ap (λ (t : List Item). slice_range t from to) is in
    changed_text (HasOtherAttached becomes) from to units chps new text (items_of us cs fresh) are.chps_long new_long
    (subst IsFormedText is are.formed) ordered within whole
    (subst (λ (t : List Item). AreTogether (HasOtherAttached becomes) t (items_of us cs fresh)) range
    (attachments_together becomes us cs bs fresh (cs_long ∙ sym us_long) (bs_long ∙ sym us_long) changes.each))
    (λ k x y there other. other_attached_formed becomes kept x y other
    (All_at IsRanged fresh k (attached_of y) all_fresh (has_parts us cs fresh k y there).attached))
