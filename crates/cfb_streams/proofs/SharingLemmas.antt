-- Owners that take their sectors one after another, and the sectors that two of them have.
use Rattle.std.proofs.Common.{◌≡◌, ◌⊎◌, inl, inr, ℕ, [], ◌+◌, ◌<◌, Option, None, List, length}
use Rattle.std.proofs.Common.{slice_index, refl, sym, ap, ◌∙◌, subst, arith}
use Rattle.std.proofs.lemmas.Bool.{cases_lt}
use Rattle.doc_bits.specs.Rules.{LeastOrNone}
use Rattle.doc_bits.proofs.Public.{least_same}
use Rattle.cfb_streams.specs.StreamRules.{Owner, of_fat, of_directory, of_mini_fat, of_mini_stream, of_stream, Owns}
use Rattle.cfb_streams.specs.StreamRules.{Parts, IsSharedSector, HasSmallSector, IsMiniFat, IsMiniStream}
use Rattle.cfb_sectors.specs.Header.{valid_below}
use Rattle.cfb_sectors.specs.Chain.{Table, ChainHead, fat_table, HoldsChain}
use Rattle.cfb_sectors.specs.SectorChain.{HasSector}
use Rattle.cfb_directory.specs.Order.{ListsStreams}
use Rattle.cfb_sectors.specs.Marks.{IsMarked}
use Rattle.cfb_sectors.specs.Claims.{AreDistinctBelow, HasFront, Claimed, IsUnshared, TakesSectors, IsSharedPlace}
use Rattle.cfb_streams.specs.Sharing.{IsShareFront, IsOwnerDone}
use Rattle.cfb_sectors.proofs.Public.{chain_closed}
use Rattle.cfb_directory.proofs.Public.{streams_apart}

-- an owner without sectors takes none
pub takes_none : (owns : ℕ → Type 0) (claimed : Claimed) → ((s : ℕ) → ¬ owns s) → TakesSectors owns claimed claimed
takes_none owns claimed none = record {
  kept = λ s h. h;
  added = λ s h. absurd (none s h);
  only = λ s h. inl h;
  kept_shared = λ s h. h;
  added_shared = λ s h own. absurd (none s own);
  only_shared = λ s h. inl h;
}

-- at first no owner has taken its sectors
pub share_none : {A : Type 0} (owns : A → ℕ → Type 0) (claimed : Claimed) → ((s : ℕ) → ¬ IsMarked claimed.taken s) →
    IsUnshared claimed → IsShareFront owns (λ x. ⊥) claimed
share_none owns claimed none unshared = record {
  owner = λ s h. absurd (none s h);
  taken = λ x s done own. absurd done;
  owners = λ s h. absurd (unshared s h);
  shared = λ x y s one other apart first second. absurd one;
}

-- one owner more
pub share_step : {A : Type 0} (owns : A → ℕ → Type 0) (done : A → Type 0) (x : A) (old new : Claimed) → ¬ done x →
    IsShareFront owns done old → TakesSectors (owns x) old new → IsShareFront owns (λ y. done y ⊎ (y ≡ x)) new
share_step owns done x old new fresh f t = record {
  owner = λ s h. elim (t.only s h) [
    | inl was ↦ let o = f.owner s was in record { owner = o.owner; is_done = inl o.is_done; owned = o.owned }
    | inr own ↦ record { owner = x; is_done = inr refl; owned = own }
  ];
  taken = λ y s is own. elim is [
    | inl before ↦ t.kept s (f.taken y s before own)
    | inr e ↦ t.added s (subst (λ z. owns z s) e own)
  ];
  owners = λ s h. elim (t.only_shared s h) [
    | inl was ↦
        let o = f.owners s was in
        record {
          one = o.one;
          other = o.other;
          apart = o.apart;
          one_done = inl o.one_done;
          other_done = inl o.other_done;
          first = o.first;
          second = o.second;
        }
    | inr both ↦
        let o = f.owner s both.0 in
        record {
          one = o.owner;
          other = x;
          apart = λ e. fresh (subst done e o.is_done);
          one_done = inl o.is_done;
          other_done = inr refl;
          first = o.owned;
          second = both.1;
        }
  ];
  shared = λ y z s one other apart first second. elim one [
    | inl one_before ↦ elim other [
      | inl other_before ↦ t.kept_shared s (f.shared y z s one_before other_before apart first second)
      | inr e ↦ t.added_shared s (f.taken y s one_before first) (subst (λ k. owns k s) e second)
    ]
    | inr e ↦ elim other [
      | inl other_before ↦ t.added_shared s (f.taken z s other_before second) (subst (λ k. owns k s) e first)
      | inr same ↦ absurd (apart (e ∙ sym same))
    ]
  ];
}

-- the same owners by another word
pub share_same : {A : Type 0} (owns : A → ℕ → Type 0) (done other : A → Type 0) (claimed : Claimed) →
    ((x : A) → done x → other x) → ((x : A) → other x → done x) → IsShareFront owns done claimed →
    IsShareFront owns other claimed
share_same owns done other claimed to from f = record {
  owner = λ s h. let o = f.owner s h in record
      { owner = o.owner; is_done = to o.owner o.is_done; owned = o.owned };
  taken = λ x s is own. f.taken x s (from x is) own;
  owners = λ s h.
      let o = f.owners s h in
      record {
        one = o.one;
        other = o.other;
        apart = o.apart;
        one_done = to o.one o.one_done;
        other_done = to o.other o.other_done;
        first = o.first;
        second = o.second;
      };
  shared = λ x y s one two apart first second. f.shared x y s (from x one) (from y two) apart first second;
}

-- where all owners took their sectors the least shared place is that of two of them
pub share_all : {A : Type 0} (owns : A → ℕ → Type 0) (done : A → Type 0) (place_of : ℕ → ℕ) (claimed : Claimed)
    (o : Option ℕ) → ((x : A) (s : ℕ) → owns x s → done x) → IsShareFront owns done claimed →
    LeastOrNone (IsSharedPlace claimed place_of) o → LeastOrNone (IsSharedSector owns place_of) o
share_all owns done place_of claimed o all f =
    least_same (IsSharedPlace claimed place_of) (IsSharedSector owns place_of) o
    (λ p w.
    let two = f.owners w.sector w.shared in
    record {
      one = two.one;
      other = two.other;
      apart = two.apart;
      sector = w.sector;
      first = two.first;
      second = two.second;
      here = w.here;
    })
    (λ p w. record {
      sector = w.sector;
      shared = f.shared w.one w.other w.sector (all w.one w.sector w.first) (all w.other w.sector w.second) w.apart
          w.first w.second;
      here = w.here;
    })

-- where no sector is shared there is no place of one
pub none_unshared : (claimed : Claimed) (place_of : ℕ → ℕ) (o : Option ℕ) →
    LeastOrNone (IsSharedPlace claimed place_of) o → o ≡ None → IsUnshared claimed
none_unshared claimed place_of o least none = λ s h.
    (rw none at least) (place_of s) (record { sector = s; shared = h; here = refl })

-- the first streams, and one more
pub front_more : (order : List ℕ) (count entry : ℕ) →
    HasFront order count entry ⊎ (entry ≡ slice_index order count) → HasFront order (count + 1) entry
front_more order count entry h = elim h [
  | inl before ↦ record { index = before.index; below = (let b = before.below in omega arith); here = before.here }
  | inr e ↦ record { index = count; below = omega arith; here = sym e }
]

pub front_split : (order : List ℕ) (count entry : ℕ) → HasFront order (count + 1) entry →
    HasFront order count entry ⊎ (entry ≡ slice_index order count)
front_split order count entry h = elim (cases_lt h.index count) [
  | inl lo ↦ inl (record { index = h.index; below = lo; here = h.here })
  | inr hi ↦
      let below = h.below in
      let same : h.index ≡ count = omega arith in
      inr (sym h.here ∙ ap (λ k. slice_index order k) same)
]

-- the stream that comes next is none of those before it
pub front_fresh : (file directory order : List ℕ) (count : ℕ) → ListsStreams file directory order →
    count < length order → ¬ HasFront order count (slice_index order count)
front_fresh file directory order count lists low h =
    streams_apart file directory order lists h.index count h.below low h.here

-- a stream goes by its entry
same_stream : (a b : ℕ) → of_stream a ≡ of_stream b → a ≡ b
same_stream a b e = cc e

-- the owners, and one stream more
pub done_more : (order : List ℕ) (count : ℕ) (x : Owner) →
    IsOwnerDone order count x ⊎ (x ≡ of_stream (slice_index order count)) → IsOwnerDone order (count + 1) x
done_more order count of_fat h = elim h [ inl never ↦ absurd never | inr e ↦ absurd (cc e) ]
done_more order count of_directory h = tt
done_more order count of_mini_fat h = tt
done_more order count of_mini_stream h = tt
done_more order count (of_stream entry) h = front_more order count entry
    (elim h [ inl before ↦ inl before | inr e ↦ inr (same_stream entry (slice_index order count) e) ])

pub done_split : (order : List ℕ) (count : ℕ) (x : Owner) → IsOwnerDone order (count + 1) x →
    IsOwnerDone order count x ⊎ (x ≡ of_stream (slice_index order count))
done_split order count of_fat h = absurd h
done_split order count of_directory h = inl tt
done_split order count of_mini_fat h = inl tt
done_split order count of_mini_stream h = inl tt
done_split order count (of_stream entry) h = elim (front_split order count entry h)
    [ inl before ↦ inl before | inr e ↦ inr (ap of_stream e) ]

-- the parts, one after another, are those that are done before the streams
abbrev pub AreParts : Owner → Type 0
AreParts x = ((⊥ ⊎ (x ≡ of_directory)) ⊎ (x ≡ of_mini_fat)) ⊎ (x ≡ of_mini_stream)

pub parts_done : (order : List ℕ) (x : Owner) → AreParts x → IsOwnerDone order 0 x
parts_done order of_fat h = elim h [
  | inl rest ↦ elim rest [
    | inl first ↦ elim first [ inl never ↦ absurd never | inr e ↦ absurd (cc e) ]
    | inr e ↦ absurd (cc e)
  ]
  | inr e ↦ absurd (cc e)
]
parts_done order of_directory h = tt
parts_done order of_mini_fat h = tt
parts_done order of_mini_stream h = tt
parts_done order (of_stream entry) h = elim h [
  | inl rest ↦ elim rest [
    | inl first ↦ elim first [ inl never ↦ absurd never | inr e ↦ absurd (cc e) ]
    | inr e ↦ absurd (cc e)
  ]
  | inr e ↦ absurd (cc e)
]

pub done_parts : (order : List ℕ) (x : Owner) → IsOwnerDone order 0 x → AreParts x
done_parts order of_fat h = absurd h
done_parts order of_directory h = inl (inl (inr refl))
done_parts order of_mini_fat h = inl (inr refl)
done_parts order of_mini_stream h = inr refl
done_parts order (of_stream entry) h = absurd (let low = h.below in omega arith)

-- with the FAT all owners are done
pub all_done : (file : List ℕ) (parts : Parts) (order : List ℕ) → ListsStreams file parts.directory order →
    (x : Owner) (s : ℕ) → Owns file parts x s → IsOwnerDone order (length order) x ⊎ (x ≡ of_fat)
all_done file parts order lists of_fat s h = inr refl
all_done file parts order lists of_directory s h = inl tt
all_done file parts order lists of_mini_fat s h = inl tt
all_done file parts order lists of_mini_stream s h = inl tt
all_done file parts order lists (of_stream entry) s h =
    let has = lists.complete entry h.is_large.is_entry in
    inl (record { index = has.index; below = has.inside; here = has.here })

-- each stream with a mini sector is done
pub minis_done : (file directory mini_fat order : List ℕ) → ListsStreams file directory order →
    (entry : ℕ) (s : ℕ) → HasSmallSector file directory mini_fat entry s → HasFront order (length order) entry
minis_done file directory mini_fat order lists entry s h =
    let has = lists.complete entry h.is_small.is_entry in
    record { index = has.index; below = has.inside; here = has.here }

-- what follows a sector of a chain is one of it
pub holds_closed : (table : Table) (head : ChainHead) (xs : List ℕ) → HoldsChain table head xs → (s : ℕ) → HasSector xs
    s →
    table.entry s < table.valid → HasSector xs (table.entry s)
holds_closed table head xs h = chain_closed table.entry table.valid head.start xs h.range h.chain

none_closed : (table : Table) (s : ℕ) → HasSector [] s → table.entry s < table.valid → HasSector [] (table.entry s)
none_closed table s h low = absurd (let inside = h.inside in omega arith)

pub mini_fat_closed : (file xs : List ℕ) → IsMiniFat file xs → (s : ℕ) → HasSector xs s →
    (fat_table file).entry s < (fat_table file).valid → HasSector xs ((fat_table file).entry s)
mini_fat_closed file xs is = elim is [
  | inl none ↦ subst
      (λ ys. (s : ℕ) → HasSector ys s → (fat_table file).entry s < (fat_table file).valid →
      HasSector ys ((fat_table file).entry s)) (sym none.1) (none_closed (fat_table file))
  | inr some ↦ holds_closed (fat_table file) _ xs some.1
]

pub mini_stream_closed : (file directory xs : List ℕ) → IsMiniStream file directory xs → (s : ℕ) → HasSector xs s →
    (fat_table file).entry s < (fat_table file).valid → HasSector xs ((fat_table file).entry s)
mini_stream_closed file directory xs is = elim is [
  | inl none ↦ subst
      (λ ys. (s : ℕ) → HasSector ys s → (fat_table file).entry s < (fat_table file).valid →
      HasSector ys ((fat_table file).entry s)) (sym none.1) (none_closed (fat_table file))
  | inr some ↦ holds_closed (fat_table file) _ xs some.1
]

-- the sectors of a chain are valid, and none is there twice
pub chain_apart : (table : Table) (head : ChainHead) (xs : List ℕ) → HoldsChain table head xs →
    AreDistinctBelow table.valid xs
chain_apart table head xs h = record { inside = h.chain.path.within; distinct = h.chain.path.distinct }

none_apart : (count : ℕ) → AreDistinctBelow count []
none_apart count = record { inside = λ i h. absurd (omega arith); distinct = λ i j h low. absurd (omega arith) }

pub mini_fat_apart : (file xs : List ℕ) → IsMiniFat file xs → AreDistinctBelow (valid_below file) xs
mini_fat_apart file xs is = elim is [
  | inl none ↦ subst (AreDistinctBelow (valid_below file)) (sym none.1) (none_apart (valid_below file))
  | inr some ↦ chain_apart (fat_table file) _ xs some.1
]

pub mini_stream_apart : (file directory xs : List ℕ) → IsMiniStream file directory xs →
    AreDistinctBelow (valid_below file) xs
mini_stream_apart file directory xs is = elim is [
  | inl none ↦ subst (AreDistinctBelow (valid_below file)) (sym none.1) (none_apart (valid_below file))
  | inr some ↦ chain_apart (fat_table file) _ xs some.1
]
