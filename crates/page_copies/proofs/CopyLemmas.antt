-- The lists of a page, skipped one after the other.
use Rattle.std.proofs.Common.{◌≡◌, ◌⊎◌, inl, inr, ℕ, ◌+◌, ◌-◌, ◌*◌, ◌<◌, ◌≤◌, List, ◌++◌, length, take, drop}
use Rattle.std.proofs.Common.{slice_index}
use Rattle.std.proofs.Common.{slice_range, map, refl, sym, ap, ◌∙◌, subst, arith}
use Rattle.std.proofs.lemmas.Bool.{cases_lt}
use Rattle.std.proofs.lemmas.List.{drop-drop}
use borrow.Rule.Slice.PartMut.{put_mid}
use Rattle.doc_bits.proofs.Public.{length-range, range_index}
use Rattle.std.specs.List.{flat_map}
use Rattle.sprm_table.specs.Sprm.{spelling}
use Rattle.sprm_table.proofs.Public.{spelt_unique}
use Rattle.prl_skips.specs.Skips.{skipped, SkipsRefused, SkipsOrStays, PutsSkipped}
use Rattle.prl_skips.proofs.Public.{skipped_again, accepted_skips, rest_one, range_same, front_same, drop_range}
use Rattle.prl_skips.proofs.Public.{put_length, put_before, put_after, put_range}
use Rattle.fkp_pages.specs.declared.kind.PageKind.{PageKind}
use Rattle.fkp_pages.specs.Fkp.{page_run_count, run_entry_place, entry_byte, least_list}
use Rattle.page_copies.specs.declared.places.ListPlace.{ListPlace}
use Rattle.page_copies.specs.Places.{IsPlaceOf, HasListsApart}
use Rattle.page_copies.specs.Copies.{SkipsList, IsCopyOf, SkipsRun}
use Rattle.page_copies.proofs.PlaceLemmas.{ChangesLists, place_by_at, clear_of, in_order, count_stays, place_stays}
use Rattle.page_copies.proofs.PlaceLemmas.{place_stood, front_stays}

-- what is skipped or stays, and then again, is skipped or stays
skips_twice : (old now new : List ℕ) → SkipsRefused old now → SkipsRefused now new → SkipsRefused old new
skips_twice old now new a b =
    let same : b.prls ≡ map skipped a.prls = spelt_unique now b.prls (map skipped a.prls) b.spelt a.skips in
    let both : map skipped b.prls ≡ map skipped a.prls = ap (map skipped) same ∙ skipped_again a.prls in
    record {
      prls = a.prls;
      spelt = a.spelt;
      skips = record {
        rest = b.skips.rest;
        entries = a.skips.entries;
        spelt = b.skips.spelt ∙ ap (λ l. flat_map spelling l ++ b.skips.rest) both;
        ends = b.skips.ends;
      };
      rest = b.rest ∙ (rest_one now b.prls (map skipped a.prls) b.spelt a.skips ∙ a.rest);
    }

pub or_twice : (old now new : List ℕ) → SkipsOrStays old now → SkipsOrStays now new → SkipsOrStays old new
or_twice old now new a b = elim a [
  | inr stays ↦ subst (λ l. SkipsOrStays l new) stays.1 b
  | inl skips ↦ elim b [
    | inl again ↦ inl (skips_twice old now new skips again)
    | inr stays ↦ absurd (stays.0 (accepted_skips old now skips 0))
  ]
]

pub list_twice : (kind : PageKind) (old now new : List ℕ) → SkipsList kind old now → SkipsList kind now new →
    SkipsList kind old new
list_twice kind old now new a b = record {
  istd = b.istd ∙ a.istd;
  sprms = or_twice (drop (least_list kind) old) (drop (least_list kind) now) (drop (least_list kind) new) a.sprms
      b.sprms;
}

-- a list that is skipped
abbrev pub IsSkipped : PageKind → List ℕ → List ℕ → ListPlace → Type 0
IsSkipped kind old now p = SkipsList kind (slice_range old p.from p.to) (slice_range now p.from p.to)

-- the lists of the first `count` runs are skipped, the others maybe
pub record IsCopied (kind : PageKind) (old now : List ℕ) (count : ℕ) : Type 0 where
  pub changes : ChangesLists kind old now
  pub each : (run : ℕ) (p : ListPlace) → run < page_run_count old → IsPlaceOf kind old run p →
      (slice_range now p.from p.to ≡ slice_range old p.from p.to) ⊎ IsSkipped kind old now p
  pub done : (run : ℕ) (p : ListPlace) → run < count → IsPlaceOf kind old run p → IsSkipped kind old now p

pub copied_none : (kind : PageKind) (old : List ℕ) → IsCopied kind old old 0
copied_none kind old = record {
  changes = record { size = refl; outside = λ i outside. refl };
  each = λ run p low is. inl refl;
  done = λ run p low is. absurd (omega arith);
}

-- what is in a range before the numbers that are put
range_at : (now new : List ℕ) (from to : ℕ) (mid : List ℕ) (place i : ℕ) → place ≤ length now → i < to - from →
    from + i < place → new ≡ take place now ++ (mid ++ drop to now) →
    slice_index (slice_range new from to) i ≡ slice_index (slice_range now from to) i
range_at now new from to mid place i inside low before put =
    range_index new from to i low
    ∙ (put_before now new mid place to (from + i) inside before put ∙ sym (range_index now from to i low))

-- the list that is skipped
list_skipped : (kind : PageKind) (now new : List ℕ) (run : ℕ) (p : ListPlace) → length now ≡ 512 →
    IsPlaceOf kind now run p → PutsSkipped now new (p.from + least_list kind) p.to → IsSkipped kind now new p
list_skipped kind now new run p len is puts =
    let o = in_order kind now run p is in
    let order = o.order in
    let within = o.within in
    let least = least_list kind in
    let from = p.from + least in
    let inside : p.to ≤ length now = omega arith in
    let size = put_length now new puts.mid from p.to order inside puts.len puts.put in
    let mid = put_range now new puts.mid from p.to order inside puts.len puts.put in
    let back : drop least (slice_range new p.from p.to) ≡ puts.mid = drop_range new p.from p.to least order ∙ mid in
    let was : drop least (slice_range now p.from p.to) ≡ slice_range now from p.to =
    drop_range now p.from p.to least order in
    let a = length-range now p.from p.to inside in
    let b = length-range new p.from p.to (omega arith) in
    record {
      istd = front_same (slice_range new p.from p.to) (slice_range now p.from p.to) least (omega arith) (omega arith)
          (λ i low. range_at now new p.from p.to puts.mid from i (omega arith) (omega arith) (omega arith) puts.put);
      sprms = subst (λ l. SkipsOrStays l (drop least (slice_range new p.from p.to))) (sym was)
          (subst (SkipsOrStays (slice_range now from p.to)) (sym back) puts.skips);
    }

-- what a write over the range of a list leaves
pub list_put : (kind : PageKind) (run : ℕ) (old mid : List ℕ) (p : ListPlace) (least : ℕ) → length old ≡ 512 →
    IsPlaceOf kind old run p → least ≡ least_list kind →
    SkipsOrStays (slice_range old (p.from + least) p.to) mid →
    length mid ≡ length (slice_range old (p.from + least) p.to) →
    SkipsRun kind run old (put_mid (p.from + least) (p.to - (p.from + least)) old mid)
list_put kind run old mid p least size is same skips len =
    let o = in_order kind old run p is in
    let order = o.order in
    let within = o.within in
    let from = p.from + least in
    let width = length-range old from p.to (omega arith) in
    let end : from + (p.to - from) ≡ p.to = omega arith in
    let put : put_mid from (p.to - from) old mid ≡ take from old ++ (mid ++ drop p.to old) =
    ap (λ l. take from old ++ (mid ++ l)) (drop-drop (p.to - from) from old ∙ ap (λ n. drop n old) end) in
    let puts : PutsSkipped old (put_mid from (p.to - from) old mid) from p.to = record
    { mid = mid; skips = skips; len = len ∙ width; put = put } in
    inr (record {
      place = p;
      is = is;
      puts = subst (λ n. PutsSkipped old (put_mid from (p.to - from) old mid) (p.from + n) p.to) same puts;
    })

-- a list that is apart from the one that is put stays as it is
apart_stays : (kind : PageKind) (now new : List ℕ) (run other : ℕ) (p q : ListPlace) → length now ≡ 512 →
    IsPlaceOf kind now run p → IsPlaceOf kind now other q → (p.to ≤ q.at) ⊎ (q.to ≤ p.at) →
    PutsSkipped now new (p.from + least_list kind) p.to → slice_range new q.from q.to ≡ slice_range now q.from q.to
apart_stays kind now new run other p q len is there apart puts =
    let mine = in_order kind now run p is in
    let its = in_order kind now other q there in
    let order = mine.order in
    let within = mine.within in
    let head = mine.head in
    let its_head = its.head in
    let its_within = its.within in
    let from = p.from + least_list kind in
    let inside : p.to ≤ length now = omega arith in
    let size = put_length now new puts.mid from p.to order inside puts.len puts.put in
    range_same new now q.from q.to (omega arith) (omega arith) (λ i low high. elim apart [
      | inl before ↦ put_after now new puts.mid from p.to i order inside puts.len (omega arith) puts.put
      | inr after ↦ put_before now new puts.mid from p.to i (omega arith) (omega arith) puts.put
    ])

-- one list more
pub copied_more : (kind : PageKind) (old now new : List ℕ) (run : ℕ) → length old ≡ 512 → HasListsApart kind old →
    run < page_run_count old → IsCopied kind old now run → SkipsRun kind run now new → IsCopied kind old new (run + 1)
copied_more kind old now new run size apart low copied skips =
    let changes = copied.changes in
    let same_size = changes.size in
    elim skips [
      | inl none ↦ rw none.1 (record {
        changes = changes;
        each = copied.each;
        done = λ other q below there. elim (cases_lt other run) [
          | inl lo ↦ copied.done other q lo there
          | inr hi ↦
              let same : other ≡ run = omega arith in
              let here = subst (λ k. IsPlaceOf kind old k q) same there in
              absurd (none.0 q.from q.to (place_stays kind old now run q changes apart low here).list)
        ];
      })
      | inr at ↦
          let p = at.place in
          let is = place_stood kind old now run p changes apart low at.is in
          let len : length now ≡ 512 = same_size ∙ size in
          let mine = in_order kind old run p is in
          let order = mine.order in
          let within = mine.within in
          let from = p.from + least_list kind in
          let inside : p.to ≤ length now = omega arith in
          let skipped_now = list_skipped kind now new run p len at.is at.puts in
          let here : IsSkipped kind old new p = elim (copied.each run p low is) [
            | inl kept ↦ subst (λ l. SkipsList kind l (slice_range new p.from p.to)) kept skipped_now
            | inr before ↦ list_twice kind (slice_range old p.from p.to) (slice_range now p.from p.to)
                (slice_range new p.from p.to) before skipped_now
          ] in
          let other_is : (other : ℕ) (q : ListPlace) → other < page_run_count old → IsPlaceOf kind old other q →
          IsSkipped kind old new q ⊎ (slice_range new q.from q.to ≡ slice_range now q.from q.to) =
          λ other q there at_q. elim ((clear_of kind old run p apart low is).apart other there q at_q) [
            | inl same ↦ inl (subst (IsSkipped kind old new) (place_by_at kind old run other p q is at_q same) here)
            | inr either ↦ inr (apart_stays kind now new run other p q len at.is
                (place_stays kind old now other q changes apart there at_q) either at.puts)
          ] in
          record {
            changes = record {
              size = put_length now new at.puts.mid from p.to order inside at.puts.len at.puts.put ∙ same_size;
              outside = λ i outside. elim (outside run p low is) [
                | inl before ↦ put_before now new at.puts.mid from p.to i (omega arith) (omega arith) at.puts.put
                    ∙ changes.outside i outside
                | inr after ↦ put_after now new at.puts.mid from p.to i order inside at.puts.len after at.puts.put
                    ∙ changes.outside i outside
              ];
            };
            each = λ other q there at_q. elim (other_is other q there at_q) [
              | inl skips ↦ inr skips
              | inr stays ↦ elim (copied.each other q there at_q) [
                | inl kept ↦ inl (stays ∙ kept)
                | inr before ↦ inr (subst (SkipsList kind (slice_range old q.from q.to)) (sym stays) before)
              ]
            ];
            done = λ other q below at_q.
                let there : other < page_run_count old = omega arith in
                elim (cases_lt other run) [
                  | inr hi ↦
                      let same : other ≡ run = omega arith in
                      let at_run = subst (λ k. IsPlaceOf kind old k q) same at_q in
                      subst (IsSkipped kind old new) (place_by_at kind old run run p q is at_run (is.at ∙ sym
                      at_run.at))
                      here
                  | inl lo ↦ elim (other_is other q there at_q) [
                    | inl skips ↦ skips
                    | inr stays ↦ subst (SkipsList kind (slice_range old q.from q.to)) (sym stays)
                        (copied.done other q lo at_q)
                  ]
                ];
          }
    ]

-- the page whose lists are all skipped is the copy
pub copied_all : (kind : PageKind) (old now : List ℕ) (count : ℕ) → length old ≡ 512 → HasListsApart kind old →
    run_entry_place kind old (page_run_count old) ≤ 512 → page_run_count old ≤ count → IsCopied kind old now count →
    IsCopyOf kind old now
copied_all kind old now count size apart room all copied =
    let changes = copied.changes in
    let same_size = changes.size in
    record {
      size = same_size;
      front = front_same now old (run_entry_place kind old (page_run_count old)) (omega arith) (omega arith)
          (λ i low. front_stays kind old now i changes apart low);
      count = count_stays kind old now changes;
      lists = λ run from to low is.
          let p : ListPlace = record { at = 2 * entry_byte kind old run; from = from; to = to } in
          let there : IsPlaceOf kind old run p = record { at = refl; list = is } in
          ((place_stays kind old now run p changes apart low there).list, copied.done run p (omega arith) there);
      outside = changes.outside;
    }
