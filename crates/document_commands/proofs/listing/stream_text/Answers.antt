use Rattle.std.proofs.Common.{◌≡◌, ◌∙◌, ◌+◌, ◌++◌, [], ◌∷◌, ap, drop, length, false, append_assoc}
use Rattle.std.specs.Fmt.{decimal}
use Rattle.text_codes.specs.Shown.{shown_text}
use Rattle.text_codes.specs.Shown.{line}
use Rattle.document_commands.specs.Lines.{stream_lines}
use Rattle.document_commands.proofs.ListingLemmas.{lines-from}
use Rattle.document_commands.proofs.listing.stream_text.Goals as goal

pub loop-i-preserved : goal.loop-i-preserved
loop-i-preserved c =
    let streams = c.args.container.now.streams in
    let i = c.loop-i.i in
    let bytes = c.bytes.result.now in
    let name = c.name.result.now in
    let rest = stream_lines (drop (i + 1) streams) in
    let one = line (decimal (length bytes) ++ (32 ∷ [] ++ shown_text false name)) in
    let name_is : c.as_str-name.result.now ≡ shown_text false name = c.as_str-name.ensures ∙ c.in_ok-name.ensures in
    let text : c.as_str.result.now ≡ one =
    simp append_assoc (c.as_str.ensures.value ∙ rw name_is at c.in_ok-line.ensures.ok) in
    let pushed : c.push_all.new.self ≡ c.loop-i.text ++ one =
    c.in_ok-push_all.ensures.ok ∙ ap (λ l. c.loop-i.text ++ l) text in
    rw pushed (append_assoc c.loop-i.text one rest ∙ rw (lines-from streams i name bytes c.name.ensures
    c.bytes.ensures) at c.loop-i.invariant)
