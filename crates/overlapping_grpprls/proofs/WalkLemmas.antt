-- Walks from entry to entry: an entry more, a place more, and lists that end where a walk is.
use Rattle.std.proofs.Common.{◌≡◌, ℕ, ◌+◌, ◌-◌, ◌≤◌, List, [], ◌∷◌, ◌++◌, length, drop, take, refl, sym, ap, ◌∙◌}
use Rattle.std.proofs.Common.{subst, arith, append_assoc, length-append, length-drop}
use Rattle.std.specs.Prelude.{slice_range}
use Rattle.std.specs.List.{All, flat_map}
use Rattle.std.proofs.Math.Seq.{take-append_seam, take-add}
use Rattle.std.proofs.lemmas.List.{append-nil, drop-drop, drop-take}
use Rattle.std.proofs.lemmas.List.Concat.{flat_map-append}
use Rattle.std.proofs.lemmas.List.Elements.{All-nil, All-cons, All-head, All-tail, All-push}
use Rattle.doc_bits.proofs.Public.{All_at}
use Rattle.sprm_table.specs.Codes.{IsRefusedIn}
use Rattle.sprm_table.specs.Sprm.{Prl, IsPrl, spelling, EndsSprmList, SpellsUpTo, SpellsSprmList}
use Rattle.sprm_table.specs.Sprm.{IsAcceptedList}
use Rattle.overlapping_grpprls.specs.declared.ranges.ListRange.{ListRange}
use Rattle.overlapping_grpprls.specs.declared.walk.WalkEntry.{WalkEntry}
use Rattle.overlapping_grpprls.specs.Walks.{prl_of, IsWalkEntry, Leads, LeadsFrom, IsPrlWalk, ComesBy, list_bytes_at}

-- no entries lead from a place to itself
pub leads_none : (stream : List ℕ) (groups at : ℕ) → Leads stream groups at at []
leads_none stream groups at =
    let none : at - at ≡ 0 = omega arith in
    record {
      order = omega arith;
      front = rw none (record { entries = All-nil IsPrl; place = refl; spelt = refl });
      accepted = All-nil (λ (prl : Prl). ¬ (IsRefusedIn groups prl.0));
    }

-- what is left behind a place, from a place before it
moved : (stream : List ℕ) (from at : ℕ) → from ≤ at → drop (at - from) (drop from stream) ≡ drop at stream
moved stream from at order =
    let sum : from + (at - from) ≡ at = omega arith in
    drop-drop (at - from) from stream ∙ ap (λ n. drop n stream) sum

-- an entry more
pub leads_more : (stream : List ℕ) (groups from at : ℕ) (entry : WalkEntry) (list : List Prl) →
    Leads stream groups from at list → IsWalkEntry stream groups at entry →
    Leads stream groups from entry.to (list ++ prl_of stream entry ∷ [])
leads_more stream groups from at entry list leads is =
    let next = entry.to in
    let order = leads.order in
    let first = is.here.later in
    let later = is.here.order in
    let within = is.here.within in
    let place = leads.front.place in
    let prl : Prl = prl_of stream entry in
    let words = flat_map spelling list in
    let size : next - at ≡ length (spelling prl) = omega (
      arith,
      ap length is.here.spelt,
      length-append (spelling prl) (drop next stream),
      length-drop at stream,
      length-drop next stream,
    ) in
    let joined : flat_map spelling (list ++ prl ∷ []) ≡ words ++ spelling prl =
    flat_map-append spelling list (prl ∷ []) ∙ ap (λ last. words ++ last) (append-nil (spelling prl)) in
    let rest : drop (next - from) (drop from stream) ≡ drop next stream = moved stream from next (omega arith) in
    record {
      order = omega arith;
      front = record {
        entries = All-push IsPrl list prl leads.front.entries is.here.entry;
        place = rw joined (omega (arith, size, length-append words (spelling prl)));
        spelt = rw (joined, rest) (leads.front.spelt ∙ (ap (λ last. words ++ last) (moved stream from at order ∙
            is.here.spelt) ∙ sym (append_assoc words (spelling prl) (drop next stream))));
      };
      accepted = All-push (λ (p : Prl). ¬ (IsRefusedIn groups p.0)) list prl leads.accepted is.accepted;
    }

-- every place that was reached leads on, and the new one is reached
reached_more : (stream : List ℕ) (groups at : ℕ) (entry : WalkEntry) (places : List ℕ) →
    IsWalkEntry stream groups at entry → All (LeadsFrom stream groups at) places →
    All (LeadsFrom stream groups entry.to) places
reached_more stream groups at entry [] is all = All-nil (LeadsFrom stream groups entry.to)
reached_more stream groups at entry (place ∷ places) is all =
    let first = All-head (LeadsFrom stream groups at) place places all in
    let here : LeadsFrom stream groups entry.to place = record {
      list = first.list ++ prl_of stream entry ∷ [];
      leads = leads_more stream groups place at entry first.list first.leads is;
    } in
    All-cons (LeadsFrom stream groups entry.to) place places here
    (reached_more stream groups at entry places is (All-tail (LeadsFrom stream groups at) place places all))

pub walk_more : (stream : List ℕ) (groups at : ℕ) (entry : WalkEntry) (places : List ℕ) →
    IsWalkEntry stream groups at entry → IsPrlWalk stream groups at places →
    IsPrlWalk stream groups entry.to (places ++ entry.to ∷ [])
walk_more stream groups at entry places is walk = record {
  within = is.here.within;
  reached = All-push (LeadsFrom stream groups entry.to) places entry.to (reached_more stream groups at entry places is
      walk.reached) (record { list = []; leads = leads_none stream groups entry.to });
}

-- a walk that begins
pub walk_new : (stream : List ℕ) (groups start : ℕ) → start ≤ length stream → IsPrlWalk stream groups start (start ∷ [])
walk_new stream groups start within = record {
  within = within;
  reached = All-push (LeadsFrom stream groups start) [] start (All-nil (LeadsFrom stream groups start))
      (record { list = []; leads = leads_none stream groups start });
}

-- the front of the bytes, and what ends them
front_taken : (bytes : List ℕ) (at n : ℕ) (list : List Prl) → SpellsUpTo bytes at list → at ≤ n →
    SpellsUpTo (take n bytes) at list
front_taken bytes at n list front within =
    let place = front.place in
    let words = flat_map spelling list in
    let sum : at + (n - at) ≡ n = omega arith in
    let first : take at bytes ≡ words =
    rw place (ap (take (length words)) front.spelt ∙ take-append_seam words (drop at bytes)) in
    let split : take n bytes ≡ words ++ take (n - at) (drop at bytes) =
    ap (λ m. take m bytes) (sym sum) ∙ (take-add at (n - at) bytes ∙ ap (λ l. l ++ take (n - at) (drop at bytes)) first)
    in
    let rest : drop at (take n bytes) ≡ take (n - at) (drop at bytes) =
    ap (λ m. drop at (take m bytes)) (sym sum) ∙ drop-take at (n - at) bytes in
    record { entries = front.entries; place = place; spelt = split ∙ ap (λ l. words ++ l) (sym rest) }

-- entries that lead to where a list ends are those of the list
pub list_spelt : (stream : List ℕ) (groups from at to : ℕ) (list : List Prl) → Leads stream groups from at list →
    at ≤ to → EndsSprmList (slice_range stream at to) → SpellsSprmList (slice_range stream from to) list
list_spelt stream groups from at to list leads within ends =
    let order = leads.order in
    let n : ℕ = to - from in
    let sum : (at - from) + (to - at) ≡ n = omega arith in
    let here = moved stream from at order in
    let rest : drop (at - from) (take n (drop from stream)) ≡ take (to - at) (drop at stream) =
    ap (λ m. drop (at - from) (take m (drop from stream))) (sym sum)
    ∙ (drop-take (at - from) (to - at) (drop from stream) ∙ ap (take (to - at)) here) in
    let front = front_taken (drop from stream) (at - from) n list leads.front (omega arith) in
    record {
      rest = drop (at - from) (slice_range stream from to);
      entries = front.entries;
      spelt = front.spelt;
      ends = subst EndsSprmList (sym rest) ends;
    }

-- the same of a place of the walk
pub right_at : (stream : List ℕ) (groups : ℕ) (range : ListRange) (at : ℕ) (places : List ℕ) →
    IsPrlWalk stream groups at places → ComesBy stream range at places → IsAcceptedList (list_bytes_at stream range)
    groups
right_at stream groups range at places walk comes =
    let has = comes.there in
    let reached = All_at (LeadsFrom stream groups at) places has.number range.from walk.reached has.here in
    record {
      list = reached.list;
      spelt = list_spelt stream groups range.from at range.to reached.list reached.leads comes.order comes.ends;
      accepted = reached.leads.accepted;
    }
