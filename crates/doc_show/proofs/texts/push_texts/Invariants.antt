use Rattle.std.proofs.Common.{◌≡◌, ◌++◌, take}
use Rattle.std.specs.Fmt.{decimal}
use Rattle.std.specs.List.{flat_map, enumerate_from}
use Rattle.doc_show.specs.Listing.{text_lines}
use Rattle.doc_show.proofs.texts.push_texts.Given as goal

abbrev pub invariant-loop-k : goal.invariant-loop-k
invariant-loop-k l =
    l.text ≡ l.initial.text ++ flat_map (λ numbered. text_lines (l.word ++ decimal numbered.0) numbered.1)
    (take l.k (enumerate_from 0 l.texts))
