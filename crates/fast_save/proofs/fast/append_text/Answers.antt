use Rattle.std.proofs.Common.{sym, subst, List, ℕ, Option}
use Rattle.fast_save_layout.specs.Answers.{IsAppended, IsAppendFault}
use Rattle.fast_save_layout.specs.Kept.{CanBeFastSaved}
use Rattle.fast_save_layout.specs.Saves.{FastSave}
use Rattle.fast_save.specs.declared.parts.SessionParts.{SessionParts}
use Rattle.fast_save.specs.Fast.{save_in}
use Rattle.fast_save.specs.Written.{with_text}
use Rattle.fast_save.proofs.CanLemmas.{can_append}
use Rattle.fast_save.proofs.FastLemmas.{never_sixteenth, never_large, fast_file}
use Rattle.fast_save.proofs.fast.append_text.Goals as goal

pub append-requires : goal.append-requires
append-requires c =
    let right = c.text_is_formed.ensures in
    let parts : SessionParts = with_text c.args.parts.now c.args.text.now in
    let save : FastSave = save_in c.args.bytes.now c.args.document.now parts in
    subst (λ (places : List (Option ℕ)). CanBeFastSaved (record save { places = places })) (sym c.deref.ensures.value)
    (can_append c.args.document.now parts c.requires right.document right.items right.pieces)

pub returns-in-Ok : goal.returns-in-Ok
returns-in-Ok c = λ can.
    let right = c.text_is_formed.ensures in
    let parts : SessionParts = with_text c.args.parts.now c.args.text.now in
    let save : FastSave = save_in c.args.bytes.now c.args.document.now parts in
    let made : IsAppended save c.in-Ok.file =
    subst (λ (places : List (Option ℕ)). IsAppended (record save { places = places }) c.in-Ok.file)
    c.deref.ensures.value c.in-Ok.ensures in
    fast_file c.args.document.now parts can right.document right.items right.pieces c.in-Ok.file made

pub unreachable-requires : goal.unreachable-requires
unreachable-requires c =
    let right = c.text_is_formed.ensures in
    let parts : SessionParts = with_text c.args.parts.now c.args.text.now in
    let save : FastSave = save_in c.args.bytes.now c.args.document.now parts in
    let fault : IsAppendFault save c.in-Err-Sixteenth.field-0 =
    subst (λ (places : List (Option ℕ)). IsAppendFault (record save { places = places }) c.in-Err-Sixteenth.field-0)
    c.deref.ensures.value c.in-Err-Sixteenth.ensures in
    never_sixteenth c.args.document.now parts c.requires right.document right.items right.pieces
    (subst (λ f. IsAppendFault save f) c.in-Err-Sixteenth.field-0-is fault)

pub unreachable-requires-in-Err-TooLarge : goal.unreachable-requires-in-Err-TooLarge
unreachable-requires-in-Err-TooLarge c =
    let right = c.text_is_formed.ensures in
    let parts : SessionParts = with_text c.args.parts.now c.args.text.now in
    let save : FastSave = save_in c.args.bytes.now c.args.document.now parts in
    let fault : IsAppendFault save c.in-Err-TooLarge.field-0 =
    subst (λ (places : List (Option ℕ)). IsAppendFault (record save { places = places }) c.in-Err-TooLarge.field-0)
    c.deref.ensures.value c.in-Err-TooLarge.ensures in
    never_large c.args.document.now parts c.requires right.document right.items right.pieces _
    (subst (λ f. IsAppendFault save f) c.in-Err-TooLarge.field-0-is fault)
