-- The items of three columns: lengths, parts, places.
use Rattle.std.proofs.Common.{◌≡◌, ℕ, zero, suc, ◌+◌, ◌-◌, ◌<◌, ◌≤◌, ◌^◌, List, [], ◌∷◌, ◌++◌, length, take, drop}
use Rattle.std.proofs.Common.{map, Some, refl, sym, ◌∙◌, ap, subst, arith, length-append, length-take-le}
use Rattle.std.specs.Prelude.{slice_get, slice_range, replicate}
use Rattle.std.specs.List.{All, splice}
use Rattle.std.proofs.lemmas.List.{length-map, length-replicate}
use Rattle.std.proofs.lemmas.List.Elements.{All-nil, All-cons, All-head, All-tail, All-append}
use Rattle.prop_map.specs.Formed.{IsPropertyMap, character_groups}
use Rattle.prop_map.specs.Settings.{Properties}
use Rattle.doc_model.specs.declared.item.Item.{Item}
use Rattle.doc_model.specs.declared.item.Mark.{Mark}
use Rattle.doc_model.specs.Document.{HasPropertyMaps, IsFormedItem, IsFormedText}
use Rattle.doc_model.proofs.Public.{length-splice, IsFormedList-splice, IsFormedList-add, ForSome-from_cases}
use Rattle.doc_model.proofs.Public.{HasPropertyMaps-from_parts}
use Rattle.doc_columns.specs.declared.attached.Attached.{Attached}
use Rattle.doc_columns.specs.Attached.{attached_of, nothing, IsRanged}
use Rattle.doc_columns.specs.Columns.{item_of, items_of, bare_items, AreColumns}

-- ---- lengths

pub length-items_of : (units : List ℕ) (chps : List Properties) (attachments : List Attached) → length chps ≡ length
    units →
    length attachments ≡ length units → length (items_of units chps attachments) ≡ length units
length-items_of [] chps attachments e f = refl
length-items_of (unit ∷ units) [] attachments e f = absurd (omega (arith, e))
length-items_of (unit ∷ units) (chp ∷ chps) [] e f = absurd (omega (arith, f))
length-items_of (unit ∷ units) (chp ∷ chps) (attached ∷ attachments) e f =
    ap suc (length-items_of units chps attachments (omega (arith, e)) (omega (arith, f)))

-- as many units as items
pub text_long : (units : List ℕ) (chps : List Properties) (attachments : List Attached) (text : List Item) →
    AreColumns units chps attachments → items_of units chps attachments ≡ text → length units ≡ length text
text_long units chps attachments text are is =
    sym (length-items_of units chps attachments are.chps_long are.attachments_long) ∙ ap length is

-- ---- the columns again

pub units-items_of : (units : List ℕ) (chps : List Properties) (attachments : List Attached) → length chps ≡ length
    units →
    length attachments ≡ length units → map (λ item. item.unit) (items_of units chps attachments) ≡ units
units-items_of [] chps attachments e f = refl
units-items_of (unit ∷ units) [] attachments e f = absurd (omega (arith, e))
units-items_of (unit ∷ units) (chp ∷ chps) [] e f = absurd (omega (arith, f))
units-items_of (unit ∷ units) (chp ∷ chps) (attached ∷ attachments) e f =
    ap (λ (rest : List ℕ). unit ∷ rest) (units-items_of units chps attachments (omega (arith, e)) (omega (arith, f)))

pub chps-items_of : (units : List ℕ) (chps : List Properties) (attachments : List Attached) → length chps ≡ length units
    →
    length attachments ≡ length units → map (λ item. item.chp) (items_of units chps attachments) ≡ chps
chps-items_of [] [] attachments e f = refl
chps-items_of [] (chp ∷ chps) attachments e f = absurd (omega (arith, e))
chps-items_of (unit ∷ units) [] attachments e f = refl
chps-items_of (unit ∷ units) (chp ∷ chps) [] e f = absurd (omega (arith, f))
chps-items_of (unit ∷ units) (chp ∷ chps) (attached ∷ attachments) e f =
    ap (λ (rest : List Properties). chp ∷ rest) (chps-items_of units chps attachments (omega (arith, e)) (omega (
      arith,
      f,
    )))

pub attachments-items_of : (units : List ℕ) (chps : List Properties) (attachments : List Attached) → length chps ≡
    length units →
    length attachments ≡ length units → map attached_of (items_of units chps attachments) ≡ attachments
attachments-items_of [] chps [] e f = refl
attachments-items_of [] chps (attached ∷ attachments) e f = absurd (omega (arith, f))
attachments-items_of (unit ∷ units) [] attachments e f = absurd (omega (arith, e))
attachments-items_of (unit ∷ units) (chp ∷ chps) [] e f = refl
attachments-items_of (unit ∷ units) (chp ∷ chps) (attached ∷ attachments) e f =
    ap (λ (rest : List Attached). attached ∷ rest)
    (attachments-items_of units chps attachments (omega (arith, e)) (omega (arith, f)))

-- items are those of their columns
pub items_of-maps : (text : List Item) →
    items_of (map (λ item. item.unit) text) (map (λ item. item.chp) text) (map attached_of text) ≡ text
items_of-maps [] = refl
items_of-maps (item ∷ text) = ap (λ (rest : List Item). item ∷ rest) (items_of-maps text)

-- ---- parts

no_chps : (units : List ℕ) (attachments : List Attached) → items_of units [] attachments ≡ []
no_chps [] attachments = refl
no_chps (unit ∷ units) attachments = refl

pub no_attachments : (units : List ℕ) (chps : List Properties) → items_of units chps [] ≡ []
no_attachments [] chps = refl
no_attachments (unit ∷ units) [] = refl
no_attachments (unit ∷ units) (chp ∷ chps) = refl

pub items_of-take : (n : ℕ) (units : List ℕ) (chps : List Properties) (attachments : List Attached) →
    items_of (take n units) (take n chps) (take n attachments) ≡ take n (items_of units chps attachments)
items_of-take zero units chps attachments = refl
items_of-take (suc n) [] chps attachments = refl
items_of-take (suc n) (unit ∷ units) [] attachments = refl
items_of-take (suc n) (unit ∷ units) (chp ∷ chps) [] = refl
items_of-take (suc n) (unit ∷ units) (chp ∷ chps) (attached ∷ attachments) =
    ap (λ (rest : List Item). item_of unit chp attached ∷ rest) (items_of-take n units chps attachments)

pub items_of-drop : (n : ℕ) (units : List ℕ) (chps : List Properties) (attachments : List Attached) →
    items_of (drop n units) (drop n chps) (drop n attachments) ≡ drop n (items_of units chps attachments)
items_of-drop zero units chps attachments = refl
items_of-drop (suc n) [] chps attachments = refl
items_of-drop (suc n) (unit ∷ units) [] attachments = no_chps (drop n units) (drop (suc n) attachments)
items_of-drop (suc n) (unit ∷ units) (chp ∷ chps) [] = no_attachments (drop n units) (drop n chps)
items_of-drop (suc n) (unit ∷ units) (chp ∷ chps) (attached ∷ attachments) = items_of-drop n units chps attachments

pub items_of-append : (units : List ℕ) (chps : List Properties) (attachments : List Attached) (more_units : List ℕ)
    (more_chps : List Properties) (more_attachments : List Attached) → length chps ≡ length units →
    length attachments ≡ length units
    → items_of (units ++ more_units) (chps ++ more_chps) (attachments ++ more_attachments)
    ≡ items_of units chps attachments ++ items_of more_units more_chps more_attachments
items_of-append [] [] [] more_units more_chps more_attachments e f = refl
items_of-append [] (chp ∷ chps) attachments more_units more_chps more_attachments e f = absurd (omega (arith, e))
items_of-append [] [] (attached ∷ attachments) more_units more_chps more_attachments e f = absurd (omega (arith, f))
items_of-append (unit ∷ units) [] attachments more_units more_chps more_attachments e f = absurd (omega (arith, e))
items_of-append (unit ∷ units) (chp ∷ chps) [] more_units more_chps more_attachments e f = absurd (omega (arith, f))
items_of-append (unit ∷ units) (chp ∷ chps) (attached ∷ attachments) more_units more_chps more_attachments e f =
    ap (λ (rest : List Item). item_of unit chp attached ∷ rest)
    (items_of-append units chps attachments more_units more_chps more_attachments (omega (arith, e)) (omega (arith, f)))

-- the items of a range
pub items_of-range : (units : List ℕ) (chps : List Properties) (attachments : List Attached) (from to : ℕ) →
    items_of (slice_range units from to) (slice_range chps from to) (slice_range attachments from to)
    ≡ slice_range (items_of units chps attachments) from to
items_of-range units chps attachments from to =
    items_of-take (to - from) (drop from units) (drop from chps) (drop from attachments)
    ∙ ap (take (to - from)) (items_of-drop from units chps attachments)

-- ---- places

pub item_at : (units : List ℕ) (chps : List Properties) (attachments : List Attached) (k unit : ℕ) (chp : Properties)
    (attached : Attached) → slice_get units k ≡ Some unit → slice_get chps k ≡ Some chp →
    slice_get attachments k ≡ Some attached → slice_get (items_of units chps attachments) k ≡ Some (item_of unit chp
    attached)
item_at [] chps attachments k unit chp attached u c b = absurd (cc)
item_at (one ∷ units) [] attachments k unit chp attached u c b = absurd (cc)
item_at (one ∷ units) (two ∷ chps) [] k unit chp attached u c b = absurd (cc)
item_at (one ∷ units) (two ∷ chps) (three ∷ attachments) zero unit chp attached u c b =
    let first : one ≡ unit = cc in
    let second : two ≡ chp = cc in
    let third : three ≡ attached = cc in
    rw (first, second, third) refl
item_at (one ∷ units) (two ∷ chps) (three ∷ attachments) (suc k) unit chp attached u c b =
    item_at units chps attachments k unit chp attached u c b

-- ---- well-formed items

formed_item : (unit : ℕ) (chp : Properties) (attached : Attached) → unit < 2 ^ 16 → IsRanged attached →
    HasPropertyMaps (item_of unit chp attached) → IsFormedItem (item_of unit chp attached)
formed_item unit chp attached word ranged maps =
    record { maps = maps; unit = word; style = ranged.style; field = ranged.field }

pub formed_items : (units : List ℕ) (chps : List Properties) (attachments : List Attached) → All (λ unit. unit < 2 ^ 16)
    units →
    All IsRanged attachments → All HasPropertyMaps (items_of units chps attachments)
    → All IsFormedItem (items_of units chps attachments)
formed_items [] chps attachments words ranged maps = All-nil IsFormedItem
formed_items (unit ∷ units) [] attachments words ranged maps = All-nil IsFormedItem
formed_items (unit ∷ units) (chp ∷ chps) [] words ranged maps = All-nil IsFormedItem
formed_items (unit ∷ units) (chp ∷ chps) (attached ∷ attachments) words ranged maps =
    All-cons IsFormedItem (item_of unit chp attached) (items_of units chps attachments)
    (formed_item unit chp attached (All-head (λ n. n < 2 ^ 16) unit units words) (All-head IsRanged attached attachments
    ranged)
    (All-head HasPropertyMaps (item_of unit chp attached) (items_of units chps attachments) maps))
    (formed_items units chps attachments (All-tail (λ n. n < 2 ^ 16) unit units words)
    (All-tail IsRanged attached attachments ranged)
    (All-tail HasPropertyMaps (item_of unit chp attached) (items_of units chps attachments) maps))

-- ---- no items

pub none_columns : (units : List ℕ) (chps : List Properties) (attachments : List Attached) → units ≡ [] → chps ≡ [] →
    attachments ≡ [] → AreColumns units chps attachments
none_columns units chps attachments first second third =
    rw (first, second, third)
    (record {
      chps_long = refl;
      attachments_long = refl;
      formed = record { few = omega arith; each = All-nil IsFormedItem };
    })

pub none_items : (units : List ℕ) (chps : List Properties) (attachments : List Attached) → units ≡ [] →
    items_of units chps attachments ≡ []
none_items units chps attachments first = rw (first) refl

-- ---- a splice

spliced_chps : {A : Type 0} (xs fresh : List A) (len more from to : ℕ) → length xs ≡ len → length fresh ≡ more →
    from ≤ to → to ≤ len → length (splice xs from to fresh) ≡ from + (more + (len - to))
spliced_chps xs fresh len more from to long fresh_long ordered within =
    let short : to ≤ length xs = omega (arith, long) in
    omega (arith, length-splice xs fresh from to ordered short, long, fresh_long)

-- the items of three columns, each of which is spliced
pub spliced_items : (units : List ℕ) (chps : List Properties) (attachments : List Attached) (more_units : List ℕ)
    (more_chps : List Properties) (more_attachments : List Attached) (from to : ℕ) → length chps ≡ length units →
    length attachments ≡ length units → length more_chps ≡ length more_units → length more_attachments ≡ length
    more_units
    → from ≤ to → to ≤ length units
    → items_of (splice units from to more_units) (splice chps from to more_chps) (splice attachments from to
    more_attachments)
    ≡ splice (items_of units chps attachments) from to (items_of more_units more_chps more_attachments)
spliced_items units chps attachments more_units more_chps more_attachments from to e f g h ordered within =
    let short : from ≤ length units = omega arith in
    let front_chps : length (take from chps) ≡ length (take from units) =
    omega (arith, length-take-le from chps (omega (arith, e)), length-take-le from units short) in
    let front_attachments : length (take from attachments) ≡ length (take from units) =
    omega (arith, length-take-le from attachments (omega (arith, f)), length-take-le from units short) in
    items_of-append (take from units) (take from chps) (take from attachments) (more_units ++ drop to units)
    (more_chps ++ drop to chps) (more_attachments ++ drop to attachments) front_chps front_attachments
    ∙ rw (
      items_of-append more_units more_chps more_attachments (drop to units) (drop to chps) (drop to attachments) g h,
      items_of-take from units chps attachments,
      items_of-drop to units chps attachments,
    ) refl

pub AreColumns-splice : (units : List ℕ) (chps : List Properties) (attachments : List Attached) (more_units : List ℕ)
    (more_chps : List Properties) (more_attachments : List Attached) (from to : ℕ) → AreColumns units chps attachments →
    AreColumns more_units more_chps more_attachments → from ≤ to → to ≤ length units
    → length units + length more_units < 2 ^ 32 + (to - from)
    → AreColumns (splice units from to more_units) (splice chps from to more_chps) (splice attachments from to
    more_attachments)
AreColumns-splice units chps attachments more_units more_chps more_attachments from to are more ordered within few =
    let all = length-items_of units chps attachments are.chps_long are.attachments_long in
    let fresh = length-items_of more_units more_chps more_attachments more.chps_long more.attachments_long in
    record {
      chps_long =
          spliced_chps chps more_chps (length units) (length more_units) from to are.chps_long more.chps_long
          ordered within
          ∙ sym (length-splice units more_units from to ordered within);
      attachments_long =
          spliced_chps attachments more_attachments (length units) (length more_units) from to are.attachments_long
          more.attachments_long ordered
          within
          ∙ sym (length-splice units more_units from to ordered within);
      formed =
          IsFormedList-splice IsFormedItem (items_of units chps attachments)
          (items_of (splice units from to more_units) (splice chps from to more_chps)
          (splice attachments from to more_attachments)) (items_of more_units more_chps more_attachments) from to
          (spliced_items units chps attachments more_units more_chps more_attachments from to are.chps_long
          are.attachments_long more.chps_long more.attachments_long ordered within) ordered
          (omega (arith, all)) (omega (arith, all, fresh)) are.formed more.formed;
    }

-- the text of spliced columns
pub spliced_columns : (units : List ℕ) (chps : List Properties) (attachments : List Attached) (more_units : List ℕ)
    (more_chps : List Properties) (more_attachments : List Attached) (new_units : List ℕ) (new_chps : List Properties)
    (new_attachments : List Attached) (text fresh : List Item) (from to : ℕ) → AreColumns units chps attachments →
    AreColumns more_units more_chps more_attachments → items_of units chps attachments ≡ text
    → items_of more_units more_chps more_attachments ≡ fresh → new_units ≡ splice units from to more_units
    → new_chps ≡ splice chps from to more_chps → new_attachments ≡ splice attachments from to more_attachments → from ≤
    to
    → to ≤ length units → items_of new_units new_chps new_attachments ≡ splice text from to fresh
spliced_columns units chps attachments more_units more_chps more_attachments new_units new_chps new_attachments text
    fresh from to
    are more text_is fresh_is first second third ordered within =
    let columns : items_of new_units new_chps new_attachments
    ≡ items_of (splice units from to more_units) (splice chps from to more_chps) (splice attachments from to
    more_attachments) =
    rw (first, second, third) refl in
    columns
    ∙ spliced_items units chps attachments more_units more_chps more_attachments from to are.chps_long
    are.attachments_long
    more.chps_long
    more.attachments_long ordered within
    ∙ ap (λ (items : List Item). splice items from to (items_of more_units more_chps more_attachments)) text_is
    ∙ ap (λ (items : List Item). splice text from to items) fresh_is

-- and these are columns
pub spliced_are : (units : List ℕ) (chps : List Properties) (attachments : List Attached) (more_units : List ℕ)
    (more_chps : List Properties) (more_attachments : List Attached) (new_units : List ℕ) (new_chps : List Properties)
    (new_attachments : List Attached) (from to : ℕ) → AreColumns units chps attachments →
    AreColumns more_units more_chps more_attachments → new_units ≡ splice units from to more_units
    → new_chps ≡ splice chps from to more_chps → new_attachments ≡ splice attachments from to more_attachments → from ≤
    to
    → to ≤ length units → length units + length more_units < 2 ^ 32 + (to - from)
    → AreColumns new_units new_chps new_attachments
spliced_are units chps attachments more_units more_chps more_attachments new_units new_chps new_attachments from to are
    more first
    second third ordered within few =
    rw (first, second, third)
    (AreColumns-splice units chps attachments more_units more_chps more_attachments from to are more ordered within few)

-- ---- an item more

-- the text of columns that have an entry more
pub added_columns : (units : List ℕ) (chps : List Properties) (attachments : List Attached) (new_units : List ℕ)
    (new_chps : List Properties) (new_attachments : List Attached) (unit : ℕ) (chp : Properties) (attached : Attached)
    (text : List Item) → AreColumns units chps attachments → items_of units chps attachments ≡ text →
    new_units ≡ units ++ unit ∷ [] → new_chps ≡ chps ++ chp ∷ [] → new_attachments ≡ attachments ++ attached ∷ []
    → items_of new_units new_chps new_attachments ≡ text ++ item_of unit chp attached ∷ []
added_columns units chps attachments new_units new_chps new_attachments unit chp attached text are text_is first second
    third =
    let columns : items_of new_units new_chps new_attachments
    ≡ items_of (units ++ unit ∷ []) (chps ++ chp ∷ []) (attachments ++ attached ∷ []) = rw (first, second, third) refl
    in
    columns
    ∙ items_of-append units chps attachments (unit ∷ []) (chp ∷ []) (attached ∷ []) are.chps_long are.attachments_long
    ∙ ap (λ (items : List Item). items ++ item_of unit chp attached ∷ []) text_is

pub added_are : (units : List ℕ) (chps : List Properties) (attachments : List Attached) (new_units : List ℕ)
    (new_chps : List Properties) (new_attachments : List Attached) (unit : ℕ) (chp : Properties) (attached : Attached) →
    AreColumns units chps attachments → new_units ≡ units ++ unit ∷ [] → new_chps ≡ chps ++ chp ∷ []
    → new_attachments ≡ attachments ++ attached ∷ [] → length units + 1 < 2 ^ 32 → unit < 2 ^ 16 → IsRanged attached
    → HasPropertyMaps (item_of unit chp attached) → AreColumns new_units new_chps new_attachments
added_are units chps attachments new_units new_chps new_attachments unit chp attached are first second third few word
    ranged maps =
    let all = length-items_of units chps attachments are.chps_long are.attachments_long in
    let made = added_columns units chps attachments new_units new_chps new_attachments unit chp attached
    (items_of units chps attachments) are refl first second third in
    record {
      chps_long =
          omega (
            arith,
            ap length first,
            ap length second,
            length-append units (unit ∷ []),
            length-append chps (chp ∷ []),
            are.chps_long,
          );
      attachments_long =
          omega (
            arith,
            ap length first,
            ap length third,
            length-append units (unit ∷ []),
            length-append attachments (attached ∷ []),
            are.attachments_long,
          );
      formed =
          IsFormedList-add IsFormedItem (items_of units chps attachments) (items_of new_units new_chps new_attachments)
          (item_of unit chp attached) made (omega (arith, all)) are.formed (formed_item unit chp attached word ranged
          maps);
    }

-- ---- bare items more

-- units with the same properties and nothing beside them are such columns
pub bare_columns : (units : List ℕ) (chp : Properties) →
    items_of units (replicate (length units) chp) (replicate (length units) nothing) ≡ bare_items chp units
bare_columns [] chp = refl
bare_columns (unit ∷ units) chp = ap (λ (rest : List Item). item_of unit chp nothing ∷ rest) (bare_columns units chp)

bare_are : (units : List ℕ) (chp : Properties) → IsPropertyMap character_groups chp → All (λ unit. unit < 2 ^ 16) units
    →
    All IsFormedItem (bare_items chp units)
bare_are [] chp map words = All-nil IsFormedItem
bare_are (unit ∷ units) chp map words =
    All-cons IsFormedItem (item_of unit chp nothing) (bare_items chp units)
    (formed_item unit chp nothing (All-head (λ n. n < 2 ^ 16) unit units words)
    (record {
      style = ForSome-from_cases _ (λ (mark : Mark). mark.istd < 2 ^ 16) tt;
      field = ForSome-from_cases _
          (λ (byte : ℕ). byte < 2 ^ 8) tt;
    })
    (HasPropertyMaps-from_parts (item_of unit chp nothing) map tt tt))
    (bare_are units chp map (All-tail (λ n. n < 2 ^ 16) unit units words))

-- the text of columns with bare items more
pub appended_columns : (units : List ℕ) (chps : List Properties) (attachments : List Attached) (new_units : List ℕ)
    (new_chps : List Properties) (new_attachments : List Attached) (more : List ℕ) (chp : Properties)
    (text : List Item) → AreColumns units chps attachments → items_of units chps attachments ≡ text →
    new_units ≡ units ++ more → new_chps ≡ chps ++ replicate (length more) chp
    → new_attachments ≡ attachments ++ replicate (length more) nothing
    → items_of new_units new_chps new_attachments ≡ text ++ bare_items chp more
appended_columns units chps attachments new_units new_chps new_attachments more chp text are text_is first second third
    =
    let columns : items_of new_units new_chps new_attachments
    ≡ items_of (units ++ more) (chps ++ replicate (length more) chp) (attachments ++ replicate (length more) nothing) =
    rw (first, second, third) refl in
    columns
    ∙ items_of-append units chps attachments more (replicate (length more) chp) (replicate (length more) nothing)
    are.chps_long are.attachments_long
    ∙ ap (λ (items : List Item). items ++ items_of more (replicate (length more) chp) (replicate (length more) nothing))
    text_is
    ∙ ap (λ (items : List Item). text ++ items) (bare_columns more chp)

pub appended_are : (units : List ℕ) (chps : List Properties) (attachments : List Attached) (new_units : List ℕ)
    (new_chps : List Properties) (new_attachments : List Attached) (more : List ℕ) (chp : Properties) →
    AreColumns units chps attachments → new_units ≡ units ++ more → new_chps ≡ chps ++ replicate (length more) chp
    → new_attachments ≡ attachments ++ replicate (length more) nothing → length units + length more < 2 ^ 32
    → IsPropertyMap character_groups chp → All (λ unit. unit < 2 ^ 16) more
    → AreColumns new_units new_chps new_attachments
appended_are units chps attachments new_units new_chps new_attachments more chp are first second third few map words =
    let all = length-items_of units chps attachments are.chps_long are.attachments_long in
    let made = appended_columns units chps attachments new_units new_chps new_attachments more chp
    (items_of units chps attachments) are refl first second third in
    let front = items_of units chps attachments in
    let long : length (bare_items chp more) ≡ length more = length-map more (λ (unit : ℕ). item_of unit chp nothing) in
    record {
      chps_long =
          omega (
            arith,
            ap length first,
            ap length second,
            length-append units more,
            length-append chps (replicate (length more) chp),
            length-replicate (length more) chp,
            are.chps_long,
          );
      attachments_long =
          omega (
            arith,
            ap length first,
            ap length third,
            length-append units more,
            length-append attachments (replicate (length more) nothing),
            length-replicate (length more) nothing,
            are.attachments_long,
          );
      formed =
          subst IsFormedText (sym made) (record {
            few = omega (arith, length-append front (bare_items chp more), long, all, few);
            each = All-append IsFormedItem front (bare_items chp more) are.formed.each (bare_are more chp map words);
          });
    }
