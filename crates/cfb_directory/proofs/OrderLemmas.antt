-- The order of names, and lists that are put in it.
use Rattle.std.proofs.Common.{◌≡◌, ◌≢◌, ◌⊎◌, inl, inr, ℕ, zero, suc, ◌+◌, ◌-◌, ◌/◌, ◌%◌, ◌<◌, ◌≤◌, List, length}
use Rattle.std.proofs.Common.{slice_index, refl, sym, ap, ◌∙◌, subst, arith}
use Rattle.std.specs.List.{insert}
use Rattle.std.proofs.lemmas.Bool.{cases_lt, cases_eq, cases_order}
use Rattle.std.proofs.lemmas.List.Edits.{length-insert, get_or-insert_below, get_or-insert_at, get_or-insert_above}
use Rattle.doc_bits.specs.Rules.{Nowhere}
use Rattle.cfb_sectors.specs.SectorChain.{HasSector}
use Rattle.cfb_directory.specs.Directory.{entry_type, entry_unit, entry_name_length, entry_name_units, upper_case}
use Rattle.cfb_directory.specs.Directory.{EntryBefore, HaveOneName}
use Rattle.cfb_directory.specs.Reach.{entry_place, entry_count, IsReachedEntry, ListsReached, BreaksName}
use Rattle.cfb_directory.specs.Reach.{IsWrongNameLength}
use Rattle.cfb_directory.specs.Order.{AreOrdered, ListsKind, ListsStreams, IsFirstAfter, PutsWanted}

-- one of the first `count` entries
pub record IsEarly (reached : List ℕ) (count entry : ℕ) : Type 0 where
  pub index : ℕ
  pub below : index < count
  pub here : slice_index reached index ≡ entry

-- those among the first `count` entries that are reached which are wanted, in the order of their names
pub record ListsFront (file directory reached : List ℕ) (wanted : ℕ → Type 0) (count : ℕ) (entries : List ℕ) : Type 0
  where
    pub are_reached : (i : ℕ) → i < length entries → IsReachedEntry file directory (slice_index entries i)
    pub sound : (i : ℕ) → i < length entries → wanted (slice_index entries i)
    pub within : (i : ℕ) → i < length entries → slice_index entries i < entry_count directory
    pub early : (i : ℕ) → i < length entries → IsEarly reached count (slice_index entries i)
    pub complete : (k : ℕ) → k < count → wanted (slice_index reached k) → HasSector entries (slice_index reached k)
    pub order : AreOrdered file directory entries
    pub short : length entries ≤ count

-- a name that comes before a second comes before a third that the second comes before
pub before_trans : (file : List ℕ) (a b c : ℕ) → EntryBefore file a b → EntryBefore file b c → EntryBefore file a c
before_trans file a b c h k = elim h [
  | inl shorter ↦ elim k [
    | inl less ↦ inl (omega arith)
    | inr same ↦ let e = same.0 in inl (omega arith)
  ]
  | inr same ↦ elim k [
    | inl less ↦ let e = same.0 in inl (omega arith)
    | inr other ↦
        let e = same.0 in
        let p = same.1.0 in let q = other.1.0 in
        let l = same.1.1 in let m = other.1.1 in
        let units : entry_name_units file a ≡ entry_name_units file b = ap (λ n. n / 2 - 1) e in
        inr (
          e ∙ other.0,
          elim (cases_order same.1.0 other.1.0) [
            | inl eq ↦ (
              same.1.0,
              record {
                inside = l.inside;
                front = λ i low. l.front i low ∙ m.front i (omega arith);
                less =
                    (let x = l.less in let y : upper_case (entry_unit file b same.1.0) < upper_case
                    (entry_unit file c same.1.0) = subst
                    (λ n. upper_case (entry_unit file b n) < upper_case (entry_unit file c n)) (sym eq)
                    m.less in omega arith);
              },
            )
            | inr ne ↦ elim ne [
              | inl lo ↦ (
                same.1.0,
                record {
                  inside = l.inside;
                  front = λ i low. l.front i low ∙ m.front i (omega arith);
                  less = (let x = l.less in let y = m.front same.1.0 lo in omega arith);
                },
              )
              | inr hi ↦ (
                other.1.0,
                record {
                  inside = (let x = m.inside in omega arith);
                  front = λ i low. l.front i (omega arith) ∙ m.front i low;
                  less = (let x = m.less in let y = l.front other.1.0 hi in omega arith);
                },
              )
            ]
          ],
        )
  ]
]

-- where a name does not come before the middle one, it comes before none of those in front of that
pub before_behind : (file directory entries : List ℕ) (entry middle : ℕ) → AreOrdered file directory entries →
    middle < length entries →
    ¬ EntryBefore file (entry_place directory entry) (entry_place directory (slice_index entries middle)) →
    (i : ℕ) → i < middle + 1 →
    ¬ EntryBefore file (entry_place directory entry) (entry_place directory (slice_index entries i))
before_behind file directory entries entry middle order inside not i low before = elim (cases_eq i middle) [
  | inl same ↦
      not (subst (λ k. EntryBefore file (entry_place directory entry) (entry_place directory (slice_index entries k)))
      same before)
  | inr other ↦
      not (before_trans file (entry_place directory entry) (entry_place directory (slice_index entries i))
      (entry_place directory (slice_index entries middle)) before (order i middle (omega arith) inside))
]

-- two rows of numbers are equal up to n, or there is a first place where they differ
pub first_difference : (f g : ℕ → ℕ) (n : ℕ) →
    ((i : ℕ) → i < n → f i ≡ g i) ⊎ ((p : ℕ) × ((p < n) × (((i : ℕ) → i < p → f i ≡ g i) × (f p ≢ g p))))
first_difference f g zero = inl (λ i h. absurd (omega arith))
first_difference f g (suc n) = elim (first_difference f g n) [
  | inr d ↦ let low = d.1.0 in inr (d.0, (omega arith, d.1.1))
  | inl same ↦ elim (cases_eq (f n) (g n)) [
    | inl e ↦ inl (λ i h. elim (cases_lt i n) [
      | inl lo ↦ same i lo
      | inr hi ↦ let is : i ≡ n = omega arith in rw is e
    ])
    | inr ne ↦ inr (n, (omega arith, (same, ne)))
  ]
]

-- of two names that are not one, the other comes first where the one does not
pub before_other : (file : List ℕ) (a b : ℕ) → ¬ EntryBefore file a b → ¬ HaveOneName file a b → EntryBefore file b a
before_other file a b not one = elim (cases_order (entry_name_length file a) (entry_name_length file b)) [
  | inr ne ↦ elim ne [
    | inl lo ↦ absurd (not (inl lo))
    | inr hi ↦ inl hi
  ]
  | inl e ↦
      let units : entry_name_units file a ≡ entry_name_units file b = ap (λ n. n / 2 - 1) e in
      elim
      (first_difference (λ i. upper_case (entry_unit file a i)) (λ i. upper_case (entry_unit file b i))
      (entry_name_units file a)) [
        | inl same ↦ absurd (one (record { long = e; units = same }))
        | inr d ↦
            let inside = d.1.0 in
            elim (cases_order (upper_case (entry_unit file a d.0)) (upper_case (entry_unit file b d.0))) [
              | inl eq ↦ absurd (d.1.1.1 eq)
              | inr ne ↦ elim ne [
                | inl lo ↦ absurd (not (inr (e, (d.0, record { inside = inside; front = d.1.1.0; less = lo }))))
                | inr hi ↦ inr
                    (sym e, (d.0, record { inside = omega arith; front = λ i low. sym (d.1.1.0 i low); less = hi }))
              ]
            ]
      ]
]

-- a list with one number more: what is before it, the number, and what comes after it
pub record IsMoved (xs ys : List ℕ) (place i : ℕ) : Type 0 where
  pub from : ℕ
  pub after : place ≤ from
  pub next : i ≡ from + 1
  pub same : slice_index ys i ≡ slice_index xs from

pub at_insert : (xs : List ℕ) (place x i : ℕ) → place ≤ length xs →
    ((i < place) × (slice_index (insert xs place x) i ≡ slice_index xs
    i)) ⊎ (((i ≡ place) × (slice_index (insert xs place x) i ≡ x)) ⊎ IsMoved xs (insert xs place x) place i)
at_insert xs place x i h = elim (cases_order i place) [
  | inl e ↦ inr (inl (e, ap (λ k. slice_index (insert xs place x) k) e ∙ get_or-insert_at xs place x 0 h))
  | inr ne ↦ elim ne [
    | inl lo ↦ inl (lo, get_or-insert_below xs place x 0 i lo h)
    | inr hi ↦
        let e : i ≡ i - 1 + 1 = omega arith in
        let after : place ≤ i - 1 = omega arith in
        inr
        (inr (record {
          from = i - 1;
          after = after;
          next = e;
          same = ap (λ k. slice_index (insert xs place x) k) e
              ∙ get_or-insert_above xs place x 0 (i - 1) after h;
        }))
  ]
]

-- what holds of all numbers and of one more holds of all with that one
pub all_insert : (P : ℕ → Type 0) (xs : List ℕ) (place x : ℕ) → place ≤ length xs →
    ((i : ℕ) → i < length xs → P (slice_index xs i)) → P x → (i : ℕ) → i < length (insert xs place x) →
    P (slice_index (insert xs place x) i)
all_insert P xs place x h all one i low =
    let len = length-insert xs place x h in
    elim (at_insert xs place x i h) [
      | inl old ↦ let below = old.0 in subst P (sym old.1) (all i (omega arith))
      | inr rest ↦ elim rest [
        | inl here ↦ subst P (sym here.1) one
        | inr moved ↦ let next = moved.next in subst P (sym moved.same) (all moved.from (omega arith))
      ]
    ]

-- the numbers of a list are in the longer one
pub has_insert : (xs : List ℕ) (place x k : ℕ) → place ≤ length xs → HasSector xs k → HasSector (insert xs place x) k
has_insert xs place x k h has =
    let len = length-insert xs place x h in
    let inside = has.inside in
    elim (cases_lt has.index place) [
      | inl lo ↦ record
          { index = has.index; inside = omega arith; here = get_or-insert_below xs place x 0 has.index lo h ∙ has.here }
      | inr hi ↦ record {
        index = has.index + 1;
        inside = omega arith;
        here = get_or-insert_above xs place x 0 has.index hi h
            ∙ has.here;
      }
    ]

-- an entry that is put before the first whose name comes after its own
pub order_insert : (file directory entries : List ℕ) (entry place : ℕ) → AreOrdered file directory entries →
    IsFirstAfter file directory entries entry place →
    ((i : ℕ) → i < length entries →
    ¬ HaveOneName file (entry_place directory entry) (entry_place directory (slice_index entries i))) →
    AreOrdered file directory (insert entries place entry)
order_insert file directory entries entry place order first apart i j less low =
    let h = first.inside in
    let len = length-insert entries place entry h in
    let B : ℕ → ℕ → Type 0 = λ a b. EntryBefore file (entry_place directory a) (entry_place directory b) in
    let goal_at : (a b : ℕ) → slice_index (insert entries place entry) i ≡ a →
    slice_index (insert entries place entry) j ≡ b → B a b →
    B (slice_index (insert entries place entry) i) (slice_index (insert entries place entry) j) =
    λ a b ea eb ab. rw (ea, eb) ab in
    elim (at_insert entries place entry i h) [
      | inl oi ↦
          let below = oi.0 in
          elim (at_insert entries place entry j h) [
            | inl oj ↦ let jb = oj.0 in goal_at (slice_index entries i) (slice_index entries j) oi.1 oj.1
                (order i j less (omega arith))
            | inr rest ↦ elim rest [
              | inl here ↦ goal_at (slice_index entries i) entry oi.1 here.1
                  (before_other file (entry_place directory entry) (entry_place directory (slice_index entries i))
                  (first.before i below) (apart i (omega arith)))
              | inr moved ↦ let next = moved.next in let after = moved.after in goal_at (slice_index entries i)
                  (slice_index entries moved.from) oi.1 moved.same (order i moved.from (omega arith) (omega arith))
            ]
          ]
      | inr resti ↦ elim resti [
        | inl herei ↦
            let ie = herei.0 in
            elim (at_insert entries place entry j h) [
              | inl oj ↦ let jb = oj.0 in absurd (omega arith)
              | inr rest ↦ elim rest [
                | inl here ↦ let je = here.0 in absurd (omega arith)
                | inr moved ↦
                    let next = moved.next in
                    let after = moved.after in
                    goal_at entry (slice_index entries moved.from) herei.1 moved.same
                    (elim (cases_eq moved.from place) [
                      | inl same ↦ subst (λ k. B entry (slice_index entries k)) (sym same) (first.after (omega arith))
                      | inr other ↦ before_trans file (entry_place directory entry)
                          (entry_place directory (slice_index entries place))
                          (entry_place directory (slice_index entries moved.from))
                          (first.after (omega arith)) (order place moved.from (omega arith) (omega arith))
                    ])
              ]
            ]
        | inr movedi ↦
            let nexti = movedi.next in
            let afteri = movedi.after in
            elim (at_insert entries place entry j h) [
              | inl oj ↦ let jb = oj.0 in absurd (omega arith)
              | inr rest ↦ elim rest [
                | inl here ↦ let je = here.0 in absurd (omega arith)
                | inr moved ↦ let next = moved.next in goal_at (slice_index entries movedi.from)
                    (slice_index entries moved.from) movedi.same moved.same
                    (order movedi.from moved.from (omega arith) (omega arith))
              ]
            ]
      ]
    ]

-- entries of a directory are apart
pub place_apart : (directory : List ℕ) (a b : ℕ) →
    ((i j : ℕ) → i < j → j < length directory → slice_index directory i ≢ slice_index directory j) →
    a < entry_count directory → b < entry_count directory → entry_place directory a ≡ entry_place directory b → a ≡ b
place_apart directory a b distinct ha hb e =
    let rest : a % 4 ≡ b % 4 = omega arith in
    let sector : slice_index directory (a / 4) ≡ slice_index directory (b / 4) = omega arith in
    elim (cases_order (a / 4) (b / 4)) [
      | inl same ↦ omega arith
      | inr ne ↦ elim ne [
        | inl lo ↦ absurd (distinct (a / 4) (b / 4) lo (omega arith) sector)
        | inr hi ↦ absurd (distinct (b / 4) (a / 4) hi (omega arith) (sym sector))
      ]
    ]

-- that two entries have one name can be said the other way round
pub one_name-sym : (file : List ℕ) (a b : ℕ) → HaveOneName file a b → HaveOneName file b a
one_name-sym file a b h =
    let units : entry_name_units file a ≡ entry_name_units file b = ap (λ n. n / 2 - 1) h.long in
    record { long = sym h.long; units = λ i low. sym (h.units i (omega arith)) }

-- where rule 9 holds two entries that are reached have two names
pub names_apart : (file directory : List ℕ) (a b : ℕ) → Nowhere (BreaksName file directory) →
    ((i j : ℕ) → i < j → j < length directory → slice_index directory i ≢ slice_index directory j) →
    IsReachedEntry file directory a → IsReachedEntry file directory b → a < entry_count directory → b < entry_count
    directory →
    a ≢ b → ¬ HaveOneName file (entry_place directory a) (entry_place directory b)
names_apart file directory a b holds distinct ra rb ha hb ne one = elim
    (cases_order (entry_place directory a) (entry_place directory b)) [
      | inl same ↦ ne (place_apart directory a b distinct ha hb same)
      | inr apart ↦ elim apart [
        | inl lo ↦ holds (entry_place directory b + 64)
            (record {
              entry = b;
              reached = rb;
              broken = record
                  { here = refl; wrong = inr (record { earlier = a; reached = ra; below = lo; same = one }) };
            })
        | inr hi ↦ holds (entry_place directory a + 64)
            (record {
              entry = a;
              reached = ra;
              broken = record {
                here = refl;
                wrong = inr (record {
                  earlier = b;
                  reached = rb;
                  below = hi;
                  same = one_name-sym file (entry_place directory a)
                      (entry_place directory b) one;
                });
              };
            })
      ]
    ]

-- one entry more, wanted or not
pub front_put : (file directory reached : List ℕ) (wanted : ℕ → Type 0) (count entry : ℕ) (old new : List ℕ) →
    ListsReached file directory reached → Nowhere (BreaksName file directory) →
    ((i j : ℕ) → i < j → j < length directory → slice_index directory i ≢ slice_index directory j) →
    count < length reached → entry ≡ slice_index reached count → ListsFront file directory reached wanted count old →
    PutsWanted file directory (wanted entry) entry old new → ListsFront file directory reached wanted (count + 1) new
front_put file directory reached wanted count entry old new lists names distinct low e f puts = elim puts [
  | inl skips ↦ rw skips.1 (record {
    are_reached = f.are_reached;
    sound = f.sound;
    within = f.within;
    early = λ i h. let w = f.early i h in record
        { index = w.index; below = (let b = w.below in omega arith); here = w.here };
    complete = λ k h is. elim (cases_lt k count) [
      | inl lo ↦ f.complete k lo is
      | inr hi ↦ let same : k ≡ count = omega arith in absurd
          (skips.0 (subst wanted (ap (λ i. slice_index reached i) same ∙ sym e) is))
    ];
    order = f.order;
    short = (let s = f.short in omega arith);
  })
  | inr put ↦
      let first = put.1.1.0 in
      let h = first.inside in
      let there : entry < entry_count directory = subst (λ x. x < entry_count directory) (sym e)
      (lists.within count low).1 in
      let is_reached = subst (IsReachedEntry file directory) (sym e) (lists.sound count low) in
      let ne : (i : ℕ) → i < length old → entry ≢ slice_index old i = λ i below same.
      let early = f.early i below in
      lists.distinct early.index count early.below low (early.here ∙ (sym same ∙ e)) in
      let len = length-insert old put.1.0 entry h in
      rw put.1.1.1 (record {
        are_reached = all_insert (IsReachedEntry file directory) old put.1.0 entry h f.are_reached is_reached;
        sound = all_insert wanted old put.1.0 entry h f.sound put.0;
        within = all_insert (λ x. x < entry_count directory) old put.1.0 entry h f.within there;
        early = all_insert (IsEarly reached (count + 1)) old put.1.0 entry h
            (λ i below. let w = f.early i below in record
            { index = w.index; below = (let b = w.below in omega arith); here = w.here })
            (record { index = count; below = omega arith; here = sym e });
        complete = λ k below is. elim (cases_lt k count) [
          | inl lo ↦ has_insert old put.1.0 entry (slice_index reached k) h (f.complete k lo is)
          | inr hi ↦
              let same : k ≡ count = omega arith in
              record {
                index = put.1.0;
                inside = omega arith;
                here = get_or-insert_at old put.1.0 entry 0 h
                    ∙ (e ∙ ap (λ i. slice_index reached i) (sym same));
              }
        ];
        order = order_insert file directory old entry put.1.0 f.order first
            (λ i below. names_apart file directory entry (slice_index old i) names distinct is_reached
            (f.are_reached i below) there (f.within i below) (ne i below));
        short = (let s = f.short in omega arith);
      })
]

-- all entries that are reached and wanted were put
pub front_all : (file directory reached : List ℕ) (wanted kind : ℕ → Type 0) (entries : List ℕ) →
    ((k : ℕ) → IsReachedEntry file directory k → wanted k → kind k) → ((k : ℕ) → kind k → IsReachedEntry file directory
    k) →
    ((k : ℕ) → kind k → wanted k) → ListsReached file directory reached →
    ListsFront file directory reached wanted (length reached) entries → ListsKind file directory kind entries
front_all file directory reached wanted kind entries make is_reached is lists f = record {
  sound = λ i h. make (slice_index entries i) (f.are_reached i h) (f.sound i h);
  complete = λ k here.
      let has = lists.complete k (is_reached k here) in
      subst (HasSector entries) has.here (f.complete has.index has.inside (subst wanted (sym has.here) (is k here)));
  order = f.order;
}

-- no name comes before itself
pub before_irreflexive : (file : List ℕ) (a : ℕ) → ¬ EntryBefore file a a
before_irreflexive file a h = elim h [
  | inl less ↦ omega arith
  | inr same ↦ let l = same.1.1 in let less = l.less in omega arith
]

-- none of the streams is there twice
pub streams_apart : (file directory streams : List ℕ) → ListsStreams file directory streams → (i j : ℕ) → i < j →
    j < length streams → slice_index streams i ≢ slice_index streams j
streams_apart file directory streams lists i j less low e =
    before_irreflexive file (entry_place directory (slice_index streams j))
    (subst (λ k. EntryBefore file (entry_place directory k) (entry_place directory (slice_index streams j))) e
    (lists.order i j less low))

-- where rule 9 holds the length of a name is even, from 4 to 64
pub name_length : (file directory : List ℕ) (entry : ℕ) → Nowhere (BreaksName file directory) →
    IsReachedEntry file directory entry → ¬ IsWrongNameLength (entry_name_length file (entry_place directory entry))
name_length file directory entry holds reached wrong = holds (entry_place directory entry + 64)
    (record { entry = entry; reached = reached; broken = record { here = refl; wrong = inl wrong } })

pub name_short : (len : ℕ) → ¬ IsWrongNameLength len → len ≤ 64
name_short len not = elim (cases_lt 64 len) [ inl lo ↦ absurd (not (inr (inr lo))) | inr hi ↦ hi ]

pub name_some : (len : ℕ) → ¬ IsWrongNameLength len → 4 ≤ len
name_some len not = elim (cases_lt len 4) [ inl lo ↦ absurd (not (inr (inl lo))) | inr hi ↦ hi ]
