-- What is kept of lists, and what it says of places.
use Rattle.std.proofs.Common.{◌≡◌, inl, inr, ◌≤◌, ◌+◌, ◌-◌, ◌*◌, ◌∙◌, ℕ, List, [], ◌∷◌, ◌++◌, length, Some}
use Rattle.std.proofs.Common.{slice_get, get_or, take, drop, refl, sym, ap, subst, arith, length-take}
use Rattle.std.proofs.lemmas.List.{drop_all}
use Rattle.std.specs.Prelude.{slice_range}
use Rattle.std.proofs.lemmas.Bool.{cases_lt}
use Rattle.std.proofs.lemmas.Option.{none-some, slice_get_within, slice_get_read}
use Rattle.doc_bits.specs.Rules.{Nowhere}
use Rattle.doc_bits.proofs.Public.{last_get, together_joined}
use Rattle.doc_bits.specs.Together.{AreTogether}
use Rattle.sprm_table.specs.Sprm.{HasSprmFaultAt}
use Rattle.prop_map.specs.declared.modifiers.Modifier.{Modifier}
use Rattle.prop_map.specs.Formed.{IsPropertyMap, paragraph_groups}
use Rattle.grpprl_index.specs.Places.{IsListLike}
use Rattle.prop_map.specs.Modifiers.{IsFormedModifier}
use Rattle.fkp_pages.specs.declared.kind.PageKind.{PageKind}
use Rattle.fkp_pages.specs.declared.kind.PageKind.TheVariants.{Chpx, Papx}
use Rattle.fkp_pages.specs.declared.kind.RunAnswer.TheVariants.{Found}
use Rattle.fkp_pages.specs.Fkp.{least_list}
use Rattle.fkp_pages.specs.Bin.{page_at}
use Rattle.fkp_pages.specs.Runs.{run_groups}
use Rattle.direct_props.specs.declared.grpprl_cache.Decoded.{Decoded}
use Rattle.direct_props.specs.declared.grpprl_cache.DecodedRun.{DecodedRun}
use Rattle.direct_props.specs.declared.pages.PageStretch.{PageStretch}
use Rattle.direct_props.specs.Direct.{IsDirectMark}
use Rattle.direct_props.specs.Stretches.{IsValidPageList, HasPropertiesAround}
use Rattle.direct_props.specs.Pages.{HasPageAround}
use Rattle.direct_props.specs.GrpprlCache.{HasNoFault, HaveNoFault, IsMadeOf, IsMadeIn, AreMade, PlaceSource, IsMadeAt}
use Rattle.direct_props.specs.GrpprlCache.{AreKept, HasMadeAround, IsMadeByAnswer}
use Rattle.direct_props.specs.PageRules.{IsValidBetween}
use Rattle.direct_props.proofs.StretchLemmas.{in_page, cut_rest}

-- one list more has no fault
pub one_faultless : (kind : PageKind) (wd : List ℕ) (places : List (ℕ × ℕ)) (from to : ℕ) → HaveNoFault kind wd
    places → HasNoFault kind wd from to → HaveNoFault kind wd (places ++ (from, to) ∷ [])
one_faultless kind wd places from to have one k a b e = elim (last_get places (from, to) (a, b) k e) [
  | inl there ↦ have k a b there
  | inr last ↦ subst (λ (place : ℕ × ℕ). HasNoFault kind wd place.0 place.1) last.1 one
]

-- a list that has no fault in the stream has none in its page
pub right_in_page : (kind : PageKind) (wd : List ℕ) (number from to : ℕ) → from + least_list kind ≤ to → to ≤ 511 →
    HasNoFault kind wd (512 * number + from) (512 * number + to) → IsValidPageList kind (page_at wd number) from to
right_in_page kind wd number from to room within none =
    let e : 512 * number + from + least_list kind ≡ 512 * number + (from + least_list kind) = omega arith in
    record {
      room = room;
      within = within;
      sprms = subst (λ l. Nowhere (HasSprmFaultAt l (run_groups kind))) (ap (λ a. slice_range wd a (512 * number +
          to)) e ∙ sym (in_page wd number (from + least_list kind) to (omega arith) (omega arith))) none;
    }

pub faultless_in_stream : (kind : PageKind) (wd : List ℕ) (number from to : ℕ) → IsValidPageList kind (page_at wd
    number)
    from to → HasNoFault kind wd (512 * number + from) (512 * number + to)
faultless_in_stream kind wd number from to right =
    let room = right.room in
    let within = right.within in
    let e : 512 * number + from + least_list kind ≡ 512 * number + (from + least_list kind) = omega arith in
    subst (λ l. Nowhere (HasSprmFaultAt l (run_groups kind))) (in_page wd number (from + least_list kind) to
    (omega arith) (omega arith) ∙ sym (ap (λ a. slice_range wd a (512 * number + to)) e)) right.sprms

pub no_places : (kind : PageKind) (wd : List ℕ) → HaveNoFault kind wd []
no_places kind wd k from to e = absurd (none-some (from, to) e)

-- one and one are together
pub together_one : {A B : Type 0} (P : A → B → Type 0) (x : A) (y : B) → P x y → AreTogether P (x ∷ []) (y ∷ [])
together_one P x y is = record {
  len = refl;
  each = λ k a b p q. elim (last_get [] x a k p) [
    | inl none ↦ absurd (none-some a none)
    | inr one ↦ elim (last_get [] y b k q) [
      | inl none ↦ absurd (none-some b none)
      | inr other ↦ subst (λ v. P a v) other.1 (subst (λ u. P u y) one.1 is)
    ]
  ];
}

pub no_made : (kind : PageKind) (wd : List ℕ) (modifier : Modifier) → AreMade kind wd modifier [] []
no_made kind wd modifier = record { len = refl; each = λ k place one p q. absurd (none-some place p) }

-- what is kept at a number
pub made_of_place : (kind : PageKind) (wd : List ℕ) (modifier : Modifier) (places : List (ℕ × ℕ)) (made : List Decoded)
    (k from to : ℕ) (one : Decoded) →
    AreMade kind wd modifier places made → slice_get places k ≡ Some (from, to) → one ≡ get_or made k one →
    IsMadeOf kind (slice_range wd from to) modifier one
made_of_place kind wd modifier places made k from to one are there here =
    let within = slice_get_within places k (from, to) there in
    let len = are.len in
    are.each k (from, to) one there (slice_get_read made (length made) k one refl (omega arith) here)

-- what is kept at the number of a list of the same bytes
pub made_of_like : (kind : PageKind) (wd list : List ℕ) (modifier : Modifier) (places : List (ℕ × ℕ))
    (made : List Decoded) (k : ℕ) (one : Decoded) → AreMade kind wd modifier places made → IsListLike wd list places k →
    one ≡ get_or made k one → IsMadeOf kind list modifier one
made_of_like kind wd list modifier places made k one are like here =
    subst (λ l. IsMadeOf kind l modifier one) like.same (made_of_place kind wd modifier places made k like.from like.to
    one are like.place here)

-- a range without its first bytes, wherever it ends
cut_any : (wd : List ℕ) (from to k : ℕ) → drop k (slice_range wd from to) ≡ slice_range wd (from + k) to
cut_any wd from to k = elim (cases_lt to (from + k)) [
  | inl short ↦
      let none : to - (from + k) ≡ 0 = omega arith in
      drop_all k (slice_range wd from to) (omega (arith, length-take (to - from) (drop from wd)))
      ∙ sym (ap (λ n. take n (drop (from + k) wd)) none)
  | inr long ↦ cut_rest wd from to k (omega arith)
]

-- a list of the same bytes as one without a fault has none
pub like_faultless : (kind : PageKind) (wd : List ℕ) (places : List (ℕ × ℕ)) (k from to : ℕ) → HaveNoFault kind wd
    places → IsListLike wd (slice_range wd from to) places k → HasNoFault kind wd from to
like_faultless kind wd places k from to have like =
    let least = least_list kind in
    subst (λ l. Nowhere (HasSprmFaultAt l (run_groups kind)))
    (sym (cut_any wd like.from like.to least) ∙ (ap (drop least) like.same ∙ cut_any wd from to least))
    (have k like.from like.to like.place)

-- one list more is kept
pub one_made : (kind : PageKind) (wd : List ℕ) (modifier : Modifier) (places : List (ℕ × ℕ)) (made : List Decoded)
    (from to : ℕ) (one : Decoded) →
    IsMadeOf kind (slice_range wd from to) modifier one → AreMade kind wd modifier places made →
    AreMade kind wd modifier (places ++ (from, to) ∷ []) (made ++ one ∷ [])
one_made kind wd modifier places made from to one is are =
    together_joined (IsMadeIn kind wd modifier) places made ((from, to) ∷ []) (one ∷ []) are (together_one
    (IsMadeIn kind wd modifier) (from, to) one is)

-- nothing is kept
pub no_kept : (kind : PageKind) (wd : List ℕ) (modifier : Modifier) → AreKept kind wd modifier [] []
no_kept kind wd modifier = record { right = no_places kind wd; made_are = no_made kind wd modifier }

-- one right list more is kept
pub one_kept : (kind : PageKind) (wd : List ℕ) (modifier : Modifier) (places : List (ℕ × ℕ)) (made : List Decoded)
    (from to : ℕ) (one : Decoded) →
    HasNoFault kind wd from to → IsMadeOf kind (slice_range wd from to) modifier one →
    AreKept kind wd modifier places made →
    AreKept kind wd modifier (places ++ (from, to) ∷ []) (made ++ one ∷ [])
one_kept kind wd modifier places made from to one none is are = record {
  right = one_faultless kind wd places from to are.right none;
  made_are = one_made kind wd modifier places made from to one is are.made_are;
}

-- what is kept of a list of the stream is what the page's answer makes
pub kept_answer : (kind : PageKind) (wd : List ℕ) (modifier : Modifier) (number from to : ℕ) (made : Decoded) →
    IsValidPageList kind (page_at wd number) from to →
    IsMadeOf kind (slice_range wd (512 * number + from) (512 * number + to)) modifier made →
    IsMadeByAnswer kind modifier (page_at wd number) (Found from to) made
kept_answer kind wd modifier number from to made right is =
    let room = right.room in
    let within = right.within in
    record {
      list = slice_range (page_at wd number) from to;
      answered = refl;
      makes = subst (λ l. IsMadeOf kind l modifier made) (sym (in_page wd number from to (omega arith) (omega arith)))
          is;
    }

-- what the answer of a page makes is what the list of each of its places makes
pub made_along : (source : PlaceSource) (fc : ℕ) (stretch : PageStretch) (made : Decoded) → HasPageAround source.kind
    source.wd source.bin fc stretch → IsValidBetween source.kind source.wd source.bin stretch.first stretch.last →
    IsMadeByAnswer source.kind source.modifier (page_at source.wd stretch.number) stretch.answer made →
    HasMadeAround source fc (record { first = stretch.first; last = stretch.last; made = made })
made_along source fc stretch made h between by = record {
  from = h.from;
  to = h.to;
  each = λ other a b.
      let here = h.each other a b in
      record {
        right = between other a b;
        list = by.list;
        has = record {
          number = stretch.number;
          named = here.page;
          within = h.page.within;
          answer = stretch.answer;
          answers = here.answers;
          answered = by.answered;
        };
        makes = by.makes;
      };
}

-- the properties of the characters of a stretch
pub characters_around : (source : PlaceSource) (fc : ℕ) (stretch : DecodedRun) → source.kind ≡ Chpx →
    HasMadeAround source fc stretch →
    HasPropertiesAround source.wd source.bin source.modifier fc stretch.first stretch.last stretch.made.map
characters_around source fc stretch e h =
    let made : (other : ℕ) → stretch.first ≤ other → other ≤ stretch.last → IsMadeAt (record {
      kind = Chpx;
      wd = source.wd;
      bin = source.bin;
      modifier = source.modifier;
    }) other stretch.made =
    λ other a b. subst (λ k. IsMadeAt (record {
      kind = k;
      wd = source.wd;
      bin = source.bin;
      modifier = source.modifier;
    }) other stretch.made) e (h.each other a b) in
    record {
      from = h.from;
      to = h.to;
      right = λ other a b. (made other a b).right;
      each = λ other a b.
          let at = made other a b in
          let makes = at.makes in
          record {
            list = at.list;
            has = at.has;
            made = makes.made;
            style = makes.style;
            makes = makes.makes;
            modified = makes.modified;
          };
      formed = (made fc h.from h.to).makes.formed;
    }

-- the mark of a place
pub mark_of : (source : PlaceSource) (fc : ℕ) (made : Decoded) → source.kind ≡ Papx → IsMadeAt source fc made →
    IsDirectMark source.wd source.bin fc source.modifier made.istd made.map × (IsFormedModifier source.modifier →
    IsPropertyMap paragraph_groups made.map)
mark_of source fc made e here =
    let at : IsMadeAt (record { kind = Papx; wd = source.wd; bin = source.bin; modifier = source.modifier }) fc made =
    subst (λ k. IsMadeAt (record { kind = k; wd = source.wd; bin = source.bin; modifier = source.modifier }) fc made)
    e here in
    let makes = at.makes in (
      record {
        list = at.list;
        has = at.has;
        made = makes.made;
        style = makes.style;
        makes = makes.makes;
        style_is = makes.style_is;
        modified = makes.modified;
      },
      makes.formed,
    )
