-- Keeping the last entry of each code: what the kept entries make, and lists that end where a walk is.
use Rattle.std.proofs.Common.{◌≡◌, inl, inr, refl, sym, ap, ◌∙◌, subst, ℕ, ◌+◌, ◌-◌, ◌<◌, ◌≤◌, ◌==◌, leb, Bool, true}
use Rattle.std.proofs.Common.{false, cond, not, ◌&&◌, ◌||◌, List, [], ◌∷◌, ◌++◌, map, length, take, drop}
use Rattle.std.proofs.Common.{Option, Some, None, arith, get_or, suc, length-append, length-drop}
use Rattle.std.specs.Prelude.{slice_range}
use Rattle.std.specs.List.{All, filter, flat_map, last_or, remove}
use Rattle.std.specs.FinMap.{empty, get-empty}
use Rattle.std.specs.Ordering.{nat_cmp}
use Rattle.std.proofs.Math.Seq.{take-append_seam, split_at}
use Rattle.std.proofs.lemmas.Bool.{le-leb}
use Rattle.std.proofs.lemmas.Bool.Decides.{leb_tells}
use Rattle.std.proofs.lemmas.List.{append-nil, map-append, take_more, take_all}
use Rattle.std.proofs.lemmas.List.Concat.{flat_map-append}
use Rattle.std.proofs.lemmas.Option.{slice_get_within, get_or_from_slice_get}
use Rattle.std.proofs.lemmas.List.Elements.{All-nil, All-cons, All-head, All-tail, All-push, All-map, All-filter}
use Rattle.std.proofs.lemmas.List.Elements.{All-weaker, filter-append}
use Rattle.doc_bits.proofs.Public.{All_at}
use Rattle.sprm_table.specs.Codes.{is_held, class_of, is_property, is_clear, IsRefusedIn}
use Rattle.sprm_table.specs.Sprm.{Prl, IsPrl, spelling, SpellsSprmList, IsAcceptedList}
use Rattle.prop_map.specs.Settings.{Properties}
use Rattle.prop_map.specs.Formed.{IsPropertyMap}
use Rattle.prop_map.specs.Acting.{is_kept_by_plain, sets_code, left_by, value_after, ArePropertiesAfter}
use Rattle.prop_map.proofs.Public.{value_after-append}
use Rattle.overlapping_grpprls.specs.declared.ranges.ListRange.{ListRange}
use Rattle.overlapping_grpprls.specs.declared.walk.WalkEntry.{WalkEntry}
use Rattle.overlapping_grpprls.specs.Walks.{prl_of, list_bytes_at, IsWalkEntry, ComesBy}
use Rattle.overlapping_grpprls.specs.Keeping.{kept_from, IsKeptEntry, IsKeptFrom, IsKeeping, IsForgotten, IsMadeBy}
use Rattle.overlapping_grpprls.specs.Keeping.{HasCode}
use Rattle.overlapping_grpprls.specs.Keeping.{AreKeptOf}
use Rattle.overlapping_grpprls.proofs.WalkLemmas.{leads_none, leads_more, list_spelt}

-- ---- acting with one entry

one_case : (held same sets clears kept : Bool) (prl : Prl) (before : Option (List ℕ)) → clears ≡ false →
    is_property (class_of prl.0) ≡ sets → left_by (last_or None (cond ((held && (same && sets)) || (held && (clears &&
    not kept))) (prl ∷ []) [])) before ≡ cond (held && (same && sets)) (Some prl.1) before
one_case false same sets clears kept prl before none is = refl
one_case true false sets false kept prl before none is = refl
one_case true true false false kept prl before none is = refl
one_case true true true false kept prl before none is = rw is refl
one_case true same sets true kept prl before none is = absurd (cc (none))

one_entry : (groups code : ℕ) (prl : Prl) (before : Option (List ℕ)) → is_clear (class_of prl.0) ≡ false →
    value_after (prl ∷ []) groups code before ≡ cond (sets_code groups code prl) (Some prl.1) before
one_entry groups code prl before clear = one_case (is_held groups prl.0) (code == prl.0) (is_property (class_of prl.0))
    (is_clear (class_of prl.0)) (is_kept_by_plain code) prl before clear refl

-- ---- of the kept entries, those from a place on

kept_from-append : (stream : List ℕ) (from : ℕ) (xs ys : List WalkEntry) →
    kept_from stream from (xs ++ ys) ≡ kept_from stream from xs ++ kept_from stream from ys
kept_from-append stream from xs ys =
    ap (map (prl_of stream)) (filter-append (λ (e : WalkEntry). leb from e.at) xs ys)
    ∙ map-append (prl_of stream) (filter (λ (e : WalkEntry). leb from e.at) xs)
    (filter (λ (e : WalkEntry). leb from e.at) ys)

-- one behind the others
pub one_behind : (stream : List ℕ) (from : ℕ) (xs : List WalkEntry) (entry : WalkEntry) → from ≤ entry.at →
    kept_from stream from (xs ++ entry ∷ []) ≡ kept_from stream from xs ++ prl_of stream entry ∷ []
one_behind stream from xs entry order =
    let one : kept_from stream from (entry ∷ []) ≡ prl_of stream entry ∷ [] =
    ap (λ b. map (prl_of stream) (cond b (entry ∷ []) [])) (le-leb from entry.at order) in
    kept_from-append stream from xs (entry ∷ []) ∙ ap (λ l. kept_from stream from xs ++ l) one

-- one that is before the place
pub none_behind : (stream : List ℕ) (from : ℕ) (xs : List WalkEntry) (entry : WalkEntry) → entry.at < from →
    kept_from stream from (xs ++ entry ∷ []) ≡ kept_from stream from xs
none_behind stream from xs entry before =
    let tells = leb_tells from entry.at in
    let none : kept_from stream from (entry ∷ []) ≡ [] = elim tells [
      | inl low ↦ let order = low.1 in absurd (omega arith)
      | inr high ↦ ap (λ b. map (prl_of stream) (cond b (entry ∷ []) [])) high.0
    ] in
    kept_from-append stream from xs (entry ∷ []) ∙ (ap (λ l. kept_from stream from xs ++ l) none
    ∙ append-nil (kept_from stream from xs))

-- all are before the place
none_from : (stream : List ℕ) (from : ℕ) (xs : List WalkEntry) → All (λ (e : WalkEntry). e.at < from) xs →
    kept_from stream from xs ≡ []
none_from stream from [] all = refl
none_from stream from (x ∷ xs) all =
    let before = All-head (λ (e : WalkEntry). e.at < from) x xs all in
    let rest = none_from stream from xs (All-tail (λ (e : WalkEntry). e.at < from) x xs all) in
    elim (leb_tells from x.at) [
      | inl low ↦ let order = low.1 in absurd (omega arith)
      | inr high ↦ ap
          (λ b. map (prl_of stream) (cond b (x ∷ filter (λ (e : WalkEntry). leb from e.at) xs)
          (filter (λ (e : WalkEntry). leb from e.at) xs))) high.0 ∙ rest
    ]

-- ---- an entry that is let go

-- entries of a code that is not set at another do nothing there
no_effect : (stream : List ℕ) (groups from code key : ℕ) (gone : List WalkEntry) (before : Option (List ℕ)) →
    is_clear (class_of key) ≡ false → sets_code groups code (key, []) ≡ false →
    All (λ (e : WalkEntry). e.code.0 ≡ key) gone →
    value_after (kept_from stream from gone) groups code before ≡ before
no_effect stream groups from code key [] before clear sets all = refl
no_effect stream groups from code key (g ∷ gone) before clear sets all =
    let head = All-head (λ (e : WalkEntry). e.code.0 ≡ key) g gone all in
    let others = filter (λ (e : WalkEntry). leb from e.at) gone in
    let rest : List Prl = kept_from stream from gone in
    let prl : Prl = prl_of stream g in
    let done = no_effect stream groups from code key gone before clear sets (All-tail (λ (e : WalkEntry). e.code.0 ≡
    key) g gone all) in
    let not_clear : is_clear (class_of prl.0) ≡ false = subst (λ (k : ℕ). is_clear (class_of k) ≡ false) (sym head)
    clear in
    let not_set : sets_code groups code prl ≡ false = subst (λ (k : ℕ). sets_code groups code (k, []) ≡ false)
    (sym head) sets in
    let first : value_after (prl ∷ []) groups code before ≡ before = one_entry groups code prl before not_clear
    ∙ ap (λ b. cond b (Some prl.1) before) not_set in
    let both : value_after (prl ∷ rest) groups code before ≡ before = value_after-append (prl ∷ []) rest groups code
    before ∙ (ap (value_after rest groups code) first ∙ done) in
    elim (leb from g.at) as (λ b. value_after (map (prl_of stream) (cond b (g ∷ others) others)) groups code before ≡
    before) [
      | true ↦ both
      | false ↦ done
    ]

by_case : (b : Bool) (v x y : Option (List ℕ)) → (b ≡ false → x ≡ y) → cond b v x ≡ cond b v y
by_case true v x y same = refl
by_case false v x y same = same refl

-- behind an entry of the code nothing tells whether another of it was let go
forgotten_same : (stream : List ℕ) (groups from code : ℕ) (old rest : List WalkEntry) (entry : WalkEntry) →
    is_clear (class_of entry.code.0) ≡ false → IsForgotten old entry.code.0 rest →
    value_after (kept_from stream from old ++ prl_of stream entry ∷ []) groups code None
    ≡ value_after (kept_from stream from rest ++ prl_of stream entry ∷ []) groups code None
forgotten_same stream groups from code old rest entry clear f =
    let prl : Prl = prl_of stream entry in
    let front : List Prl = kept_from stream from f.front in
    let gone : List Prl = kept_from stream from f.gone in
    let back : List Prl = kept_from stream from f.back in
    let was : kept_from stream from old ≡ front ++ (gone ++ back) = ap (kept_from stream from) f.was
    ∙ (kept_from-append stream from f.front (f.gone ++ f.back) ∙ ap (λ l. front ++ l) (kept_from-append stream from
    f.gone f.back)) in
    let is : kept_from stream from rest ≡ front ++ back = ap (kept_from stream from) f.is ∙ kept_from-append stream
    from f.front f.back in
    let last = λ (xs : List Prl). value_after-append xs (prl ∷ []) groups code None ∙ one_entry groups code prl
    (value_after xs groups code None) clear in
    let before = value_after front groups code None in
    let same = λ (unset : sets_code groups code prl ≡ false).
    ap (λ l. value_after l groups code None) was
    ∙ (value_after-append front (gone ++ back) groups code None
    ∙ (value_after-append gone back groups code before
    ∙ (ap (value_after back groups code) (no_effect stream groups from code entry.code.0 f.gone before clear unset
    f.code_of)
    ∙ (sym (value_after-append front back groups code None) ∙ ap (λ l. value_after l groups code None) (sym is))))) in
    last (kept_from stream from old)
    ∙ (by_case (sets_code groups code prl) (Some prl.1) (value_after (kept_from stream from old) groups code None)
    (value_after (kept_from stream from rest) groups code None) same
    ∙ sym (last (kept_from stream from rest)))

-- nothing was let go
pub forgotten_none : (old : List WalkEntry) (code : ℕ) → IsForgotten old code old
forgotten_none old code = record {
  front = old;
  gone = [];
  back = [];
  was = sym (append-nil old);
  is = sym (append-nil old);
  code_of = All-nil (λ (e : WalkEntry). e.code.0 ≡ code);
}

-- ---- a walk that keeps entries

without : (P : WalkEntry → Type 0) (front gone back : List WalkEntry) → All P (front ++ (gone ++ back)) →
    All P (front ++ back)
without P [] [] back all = all
without P [] (g ∷ gone) back all = without P [] gone back (All-tail P g (gone ++ back) all)
without P (x ∷ front) gone back all = All-cons P x (front ++ back) (All-head P x (front ++ (gone ++ back)) all)
    (without P front gone back (All-tail P x (front ++ (gone ++ back)) all))

kept_more : (stream : List ℕ) (groups at from : ℕ) (entry : WalkEntry) (kept rest : List WalkEntry) →
    is_clear (class_of entry.code.0) ≡ false → IsWalkEntry stream groups at entry → IsForgotten kept entry.code.0 rest →
    IsKeptFrom stream groups kept at from → IsKeptFrom stream groups (rest ++ entry ∷ []) entry.to from
kept_more stream groups at from entry kept rest clear is forgotten k =
    let prl : Prl = prl_of stream entry in
    let place = is.place in
    let order = k.leads.order in
    let joined = one_behind stream from rest entry (omega arith) in
    record {
      list = k.list ++ prl ∷ [];
      leads = leads_more stream groups from at entry k.list k.leads is;
      same = λ code.
          value_after-append k.list (prl ∷ []) groups code None
          ∙ (ap (value_after (prl ∷ []) groups code) (k.same code)
          ∙ (sym (value_after-append (kept_from stream from kept) (prl ∷ []) groups code None)
          ∙ (forgotten_same stream groups from code kept rest entry clear forgotten
          ∙ ap (λ l. value_after l groups code None) (sym joined))));
    }

kept_each : (stream : List ℕ) (groups at : ℕ) (entry : WalkEntry) (kept rest : List WalkEntry) (places : List ℕ) →
    is_clear (class_of entry.code.0) ≡ false → IsWalkEntry stream groups at entry → IsForgotten kept entry.code.0 rest →
    All (IsKeptFrom stream groups kept at) places →
    All (IsKeptFrom stream groups (rest ++ entry ∷ []) entry.to) places
kept_each stream groups at entry kept rest places clear is forgotten all =
    All-weaker (IsKeptFrom stream groups kept at) (IsKeptFrom stream groups (rest ++ entry ∷ []) entry.to)
    (λ from k. kept_more stream groups at from entry kept rest clear is forgotten k) places all

-- an entry more
pub keeping_more : (stream : List ℕ) (groups at : ℕ) (entry : WalkEntry) (places : List ℕ)
    (kept rest : List WalkEntry) → is_clear (class_of entry.code.0) ≡ false → IsWalkEntry stream groups at entry →
    IsForgotten kept entry.code.0 rest → IsKeeping stream groups at places kept →
    IsKeeping stream groups entry.to (places ++ entry.to ∷ []) (rest ++ entry ∷ [])
keeping_more stream groups at entry places kept rest clear is forgotten keeping =
    let place = is.place in
    let later = is.here.later in
    let order = is.here.order in
    let all : All (IsKeptEntry stream groups at) (forgotten.front ++ (forgotten.gone ++ forgotten.back)) =
    subst (All (IsKeptEntry stream groups at)) forgotten.was keeping.entries in
    let old : All (IsKeptEntry stream groups at) rest = subst (All (IsKeptEntry stream groups at)) (sym forgotten.is)
    (without (IsKeptEntry stream groups at) forgotten.front forgotten.gone forgotten.back all) in
    let entries = All-push (IsKeptEntry stream groups entry.to) rest entry
    (All-weaker (IsKeptEntry stream groups at) (IsKeptEntry stream groups entry.to)
    (λ (e : WalkEntry) k. let before = k.before in record { is = k.is; before = omega arith }) rest old)
    (record { is = subst (λ n. IsWalkEntry stream groups n entry) (sym place) is; before = omega arith }) in
    let none = none_from stream entry.to (rest ++ entry ∷ []) (All-weaker (IsKeptEntry stream groups entry.to)
    (λ (e : WalkEntry). e.at < entry.to) (λ (e : WalkEntry) k. k.before) (rest ++ entry ∷ []) entries) in
    record {
      within = is.here.within;
      each = All-push (IsKeptFrom stream groups (rest ++ entry ∷ []) entry.to) places entry.to (kept_each stream groups
          at entry kept rest places clear is forgotten keeping.each) (record {
            list = [];
            leads = leads_none stream groups entry.to;
            same = λ code. ap (λ l. value_after l groups code None) (sym none);
          });
      entries = entries;
    }

-- a walk that begins
pub keeping_new : (stream : List ℕ) (groups start : ℕ) → start ≤ length stream →
    IsKeeping stream groups start (start ∷ []) []
keeping_new stream groups start within = record {
  within = within;
  each = All-cons (IsKeptFrom stream groups [] start) start [] (record {
    list = [];
    leads = leads_none stream groups start;
    same = λ code. refl;
  }) (All-nil (IsKeptFrom stream groups [] start));
  entries = All-nil (IsKeptEntry stream groups start);
}

-- ---- the map of a list

-- the kept entries as a list
pub kept_accepted : (stream : List ℕ) (groups at from : ℕ) (kept : List WalkEntry) →
    All (IsKeptEntry stream groups at) kept → SpellsSprmList (flat_map spelling (kept_from stream from kept))
    (kept_from stream from kept) × IsAcceptedList (flat_map spelling (kept_from stream from kept)) groups
kept_accepted stream groups at from kept all =
    let list : List Prl = kept_from stream from kept in
    let test = λ (e : WalkEntry). leb from e.at in
    let chosen = All-filter test (IsKeptEntry stream groups at) kept all in
    let entries : All IsPrl list = All-map IsPrl (prl_of stream) (filter test kept) (All-weaker (IsKeptEntry stream
    groups at) (λ (e : WalkEntry). IsPrl (prl_of stream e)) (λ (e : WalkEntry) k. k.is.here.entry) (filter test kept)
    chosen) in
    let accepted : All (λ (p : Prl). ¬ (IsRefusedIn groups p.0)) list =
    All-map (λ (p : Prl). ¬ (IsRefusedIn groups p.0)) (prl_of stream) (filter test kept) (All-weaker (IsKeptEntry
    stream groups at) (λ (e : WalkEntry). ¬ (IsRefusedIn groups (prl_of stream e).0)) (λ (e : WalkEntry) k.
    k.is.accepted) (filter test kept) chosen) in
    let spelt : SpellsSprmList (flat_map spelling list) list = record {
      rest = [];
      entries = entries;
      spelt = sym (append-nil (flat_map spelling list));
      ends = inl (omega arith);
    } in
    (spelt, record { list = list; spelt = spelt; accepted = accepted })

-- the map of the kept entries is that of the list
pub walked_map : (stream : List ℕ) (groups : ℕ) (range : ListRange) (at : ℕ) (places : List ℕ)
    (kept : List WalkEntry) (made : Properties) → IsKeeping stream groups at places kept →
    ComesBy stream range at places → ArePropertiesAfter (kept_from stream range.from kept) groups empty made →
    IsPropertyMap groups made → IsMadeBy (list_bytes_at stream range) groups made
walked_map stream groups range at places kept made keeping comes acted formed =
    let has = comes.there in
    let k = All_at (IsKeptFrom stream groups kept at) places has.number range.from keeping.each has.here in
    record {
      prls = k.list;
      spelt = list_spelt stream groups range.from at range.to k.list k.leads comes.order comes.ends;
      acted = λ code.
          acted code
          ∙ (ap (value_after (kept_from stream range.from kept) groups code) (get-empty nat_cmp code)
          ∙ (sym (k.same code) ∙ ap (value_after k.list groups code) (sym (get-empty nat_cmp code))));
      formed = formed;
    }

pub kept_of : (stream : List ℕ) (groups : ℕ) (range : ListRange) (at : ℕ) (places : List ℕ) (kept : List WalkEntry) →
    IsKeeping stream groups at places kept → ComesBy stream range at places → AreKeptOf stream groups range kept
kept_of stream groups range at places kept keeping comes = record {
  at = at;
  entries = keeping.entries;
  made_by = λ made acted formed. walked_map stream groups range at places kept made keeping comes acted formed;
}

-- an entry that is found is let go
pub forgotten_at : (old : List WalkEntry) (code number : ℕ) → HasCode old code number →
    IsForgotten old code (remove old number)
forgotten_at old code number has =
    let within = slice_get_within old number has.entry has.here in
    let read : get_or old number has.entry ≡ has.entry = get_or_from_slice_get old number has.entry has.entry has.here
    in
    record {
      front = take number old;
      gone = has.entry ∷ [];
      back = drop (suc number) old;
      was = split_at old number has.entry within ∙ ap (λ e. take number old ++ e ∷ drop (suc number) old) read;
      is = refl;
      code_of = All-cons (λ (e : WalkEntry). e.code.0 ≡ code) has.entry [] has.code_is (All-nil (λ (e : WalkEntry).
          e.code.0 ≡ code));
    }

-- ---- the bytes of the kept entries

-- those of one
pub entry_bytes : (stream : List ℕ) (groups at from : ℕ) (entry : WalkEntry) → IsKeptEntry stream groups at entry →
    from ≤ entry.at →
    slice_range stream entry.at entry.to ≡ flat_map spelling (kept_from stream from (entry ∷ []))
entry_bytes stream groups at from entry k order =
    let here = k.is.here in
    let first = here.later in
    let later = here.order in
    let within = here.within in
    let words = spelling (prl_of stream entry) in
    let size : entry.to - entry.at ≡ length words = omega (
      arith,
      ap length here.spelt,
      length-append words (drop entry.to stream),
      length-drop entry.at stream,
      length-drop entry.to stream,
    ) in
    let one : kept_from stream from (entry ∷ []) ≡ prl_of stream entry ∷ [] = one_behind stream from [] entry order in
    ap (take (entry.to - entry.at)) here.spelt
    ∙ (ap (λ n. take n (words ++ drop entry.to stream)) size
    ∙ (take-append_seam words (drop entry.to stream)
    ∙ (sym (append-nil words) ∙ ap (flat_map spelling) (sym one))))

-- one that is not among them has none
pub entry_left_out : (stream : List ℕ) (from : ℕ) (entry : WalkEntry) (bytes : List ℕ) → entry.at < from →
    bytes ≡ bytes ++ flat_map spelling (kept_from stream from (entry ∷ []))
entry_left_out stream from entry bytes before =
    let none : kept_from stream from (entry ∷ []) ≡ [] = none_behind stream from [] entry before in
    sym (append-nil bytes) ∙ ap (λ l. bytes ++ flat_map spelling l) (sym none)

-- an entry more
pub bytes_more : (stream : List ℕ) (from count : ℕ) (kept : List WalkEntry) (d : WalkEntry) (old new : List ℕ) →
    old ≡ flat_map spelling (kept_from stream from (take count kept)) → count < length kept →
    new ≡ old ++ flat_map spelling (kept_from stream from (get_or kept count d ∷ [])) →
    new ≡ flat_map spelling (kept_from stream from (take (count + 1) kept))
bytes_more stream from count kept d old new so_far within more =
    let entry = get_or kept count d in
    let front = kept_from stream from (take count kept) in
    let last = kept_from stream from (entry ∷ []) in
    more ∙ (ap (λ b. b ++ flat_map spelling last) so_far
    ∙ (sym (flat_map-append spelling front last)
    ∙ ap (flat_map spelling) (sym (kept_from-append stream from (take count kept) (entry ∷ []))
    ∙ ap (kept_from stream from) (sym (take_more kept count d within)))))

pub bytes_all : (stream : List ℕ) (from count : ℕ) (kept : List WalkEntry) (bytes : List ℕ) →
    bytes ≡ flat_map spelling (kept_from stream from (take count kept)) → length kept ≤ count →
    bytes ≡ flat_map spelling (kept_from stream from kept)
bytes_all stream from count kept bytes so_far all =
    so_far ∙ ap (λ l. flat_map spelling (kept_from stream from l)) (take_all count kept all)
