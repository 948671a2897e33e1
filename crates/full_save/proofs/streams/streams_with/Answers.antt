use Rattle.std.proofs.Common.{◌++◌, ℕ, List, [], ◌∷◌, ap, sym, subst, ◌∙◌}
use Rattle.std.specs.Prelude.{slice_range}
use Rattle.cfb_streams.specs.Contents.{NamedBytes, AreStreams}
use Rattle.cfb_streams.specs.Names.{wd_name, second_table_name}
use Rattle.full_save.proofs.StreamLemmas.{places_ordered}
use Rattle.full_save.proofs.PlaceLemmas.{fronts_are}
use Rattle.full_save.proofs.streams.streams_with.Goals as goal

pub add_range-requires-clause-streams : goal.add_range-requires-clause-streams
add_range-requires-clause-streams c =
    let others = c.args.carried.now in
    let first = c.place_for-first.result in
    let second = c.place_for-second.result in
    let that : NamedBytes = record { name = second_table_name; bytes = c.args.table.now } in
    let it : NamedBytes = record { name = wd_name; bytes = c.args.wd.now } in
    let fronts =
    fronts_are c.args.table.now c.args.wd.now others first second c.place_for-first.ensures c.place_for-second.ensures
    c.requires in
    subst (λ (xs : List NamedBytes). AreStreams (xs ++ slice_range others 0 first)) (sym c.new-streams.ensures)
    fronts.one

pub add-requires : goal.add-requires
add-requires c =
    let others = c.args.carried.now in
    let first = c.place_for-first.result in
    let second = c.place_for-second.result in
    let that : NamedBytes = record { name = second_table_name; bytes = c.args.table.now } in
    let it : NamedBytes = record { name = wd_name; bytes = c.args.wd.now } in
    let fronts =
    fronts_are c.args.table.now c.args.wd.now others first second c.place_for-first.ensures c.place_for-second.ensures
    c.requires in
    let one = c.in_ok-add_range.ensures ∙ ap (λ (xs : List NamedBytes). xs ++ slice_range others 0 first)
    c.new-streams.ensures in
    subst (λ (xs : List NamedBytes). AreStreams (xs ++ that ∷ [])) (sym one) fronts.two

pub add_range-requires-2-clause-ordered : goal.add_range-requires-2-clause-ordered
add_range-requires-2-clause-ordered c =
    places_ordered c.args.carried.now c.place_for-first.result c.place_for-second.result c.place_for-first.ensures
    c.place_for-second.ensures

pub add_range-requires-2-clause-streams : goal.add_range-requires-2-clause-streams
add_range-requires-2-clause-streams c =
    let others = c.args.carried.now in
    let first = c.place_for-first.result in
    let second = c.place_for-second.result in
    let that : NamedBytes = record { name = second_table_name; bytes = c.args.table.now } in
    let it : NamedBytes = record { name = wd_name; bytes = c.args.wd.now } in
    let fronts =
    fronts_are c.args.table.now c.args.wd.now others first second c.place_for-first.ensures c.place_for-second.ensures
    c.requires in
    let one = c.in_ok-add_range.ensures ∙ ap (λ (xs : List NamedBytes). xs ++ slice_range others 0 first)
    c.new-streams.ensures in
    let two = c.in_ok-add.ensures.ok ∙ ap (λ (xs : List NamedBytes). xs ++ that ∷ []) one in
    subst (λ (xs : List NamedBytes). AreStreams (xs ++ slice_range others first second)) (sym two) fronts.three

pub add-requires-2 : goal.add-requires-2
add-requires-2 c =
    let others = c.args.carried.now in
    let first = c.place_for-first.result in
    let second = c.place_for-second.result in
    let that : NamedBytes = record { name = second_table_name; bytes = c.args.table.now } in
    let it : NamedBytes = record { name = wd_name; bytes = c.args.wd.now } in
    let fronts =
    fronts_are c.args.table.now c.args.wd.now others first second c.place_for-first.ensures c.place_for-second.ensures
    c.requires in
    let one = c.in_ok-add_range.ensures ∙ ap (λ (xs : List NamedBytes). xs ++ slice_range others 0 first)
    c.new-streams.ensures in
    let two = c.in_ok-add.ensures.ok ∙ ap (λ (xs : List NamedBytes). xs ++ that ∷ []) one in
    let three = c.in_ok-add_range-2.ensures ∙ ap (λ (xs : List NamedBytes). xs ++ slice_range others first second) two
    in
    subst (λ (xs : List NamedBytes). AreStreams (xs ++ it ∷ [])) (sym three) fronts.four

pub add_range-requires-3-clause-streams : goal.add_range-requires-3-clause-streams
add_range-requires-3-clause-streams c =
    let others = c.args.carried.now in
    let first = c.place_for-first.result in
    let second = c.place_for-second.result in
    let that : NamedBytes = record { name = second_table_name; bytes = c.args.table.now } in
    let it : NamedBytes = record { name = wd_name; bytes = c.args.wd.now } in
    let fronts =
    fronts_are c.args.table.now c.args.wd.now others first second c.place_for-first.ensures c.place_for-second.ensures
    c.requires in
    let one = c.in_ok-add_range.ensures ∙ ap (λ (xs : List NamedBytes). xs ++ slice_range others 0 first)
    c.new-streams.ensures in
    let two = c.in_ok-add.ensures.ok ∙ ap (λ (xs : List NamedBytes). xs ++ that ∷ []) one in
    let three = c.in_ok-add_range-2.ensures ∙ ap (λ (xs : List NamedBytes). xs ++ slice_range others first second) two
    in
    let four = c.in_ok-add-2.ensures.ok ∙ ap (λ (xs : List NamedBytes). xs ++ it ∷ []) three in
    let len = c.count.ensures.len in
    let rest = ap (λ (n : ℕ). slice_range others second n) len in
    subst (λ (xs : List NamedBytes). AreStreams (xs ++ slice_range others second c.count.result)) (sym four)
    (subst AreStreams (sym fronts.whole ∙ ap (λ (xs : List NamedBytes). (((slice_range others 0 first ++ that ∷ []) ++
    slice_range others first second) ++ it ∷ []) ++ xs) (sym rest)) c.requires)

pub returns : goal.returns
returns c =
    let others = c.args.carried.now in
    let first = c.place_for-first.result in
    let second = c.place_for-second.result in
    let that : NamedBytes = record { name = second_table_name; bytes = c.args.table.now } in
    let it : NamedBytes = record { name = wd_name; bytes = c.args.wd.now } in
    let fronts =
    fronts_are c.args.table.now c.args.wd.now others first second c.place_for-first.ensures c.place_for-second.ensures
    c.requires in
    let one = c.in_ok-add_range.ensures ∙ ap (λ (xs : List NamedBytes). xs ++ slice_range others 0 first)
    c.new-streams.ensures in
    let two = c.in_ok-add.ensures.ok ∙ ap (λ (xs : List NamedBytes). xs ++ that ∷ []) one in
    let three = c.in_ok-add_range-2.ensures ∙ ap (λ (xs : List NamedBytes). xs ++ slice_range others first second) two
    in
    let four = c.in_ok-add-2.ensures.ok ∙ ap (λ (xs : List NamedBytes). xs ++ it ∷ []) three in
    let len = c.count.ensures.len in
    let rest = ap (λ (n : ℕ). slice_range others second n) len in
    c.in_ok-add_range-3.ensures
    ∙ (ap (λ (xs : List NamedBytes). xs ++ slice_range others second c.count.result) four
    ∙ (ap (λ (xs : List NamedBytes). (((slice_range others 0 first ++ that ∷ []) ++ slice_range others first second)
    ++ it ∷ []) ++ xs) rest ∙ fronts.whole))
