use Rattle.std.proofs.Common.{◌≡◌, ◌∙◌, ◌≤◌, ap, sym, subst, inl, inr, length, arith}
use Rattle.std.proofs.lemmas.Result.{IfOk-weaker}
use Rattle.summary_set.specs.declared.fault.SetFault.TheVariants.{Form}
use Rattle.summary_set.specs.Laws.{IsAsked}
use Rattle.summary_set.specs.Written.{retitled_stream}
use Rattle.doc_model.specs.Carried.{AreCarriedStreams, with_bytes}
use Rattle.document_commands.specs.declared.reply.Reply.{Reply}
use Rattle.document_commands.specs.declared.reply.Reply.TheVariants.{Refused}
use Rattle.document_commands.specs.declared.reply.Refusal.TheVariants.{WrongSummary}
use Rattle.document_commands.specs.SummaryLines.{wrong_summary_line}
use Rattle.document_commands.specs.Summaries.{summary_place, summary_of, SavesWith, Retitles, PutsTitle, HasNoSummary}
use Rattle.document_commands.proofs.SummaryLemmas.{match_some, wrong_at, retitled_room, short_at}
use Rattle.document_commands.proofs.retitle.set_title.Goals as goal

pub saved_with-requires-clause-room : goal.saved_with-requires-clause-room
saved_with-requires-clause-room c =
    let streams = c.args.document.now.carried.streams in
    let summary = c.args.summary.now in
    let title = c.args.title.now in
    let asked : IsAsked summary title = record {
      bytes = λ i. omega (arith, c.type_inv.summary i);
      formed = c.in-Ok.ensures.0;
      short = short_at streams (summary_place streams) summary c.requires.short c.requires.here;
      short_title = subst (λ t. length t ≤ 255) c.bytes.ensures.same c.bytes.ensures.title.short;
    } in
    let made : c.as_slice.result.now ≡ retitled_stream summary title =
    c.as_slice.ensures ∙ (c.in-Ok.ensures.1 ∙ ap (retitled_stream summary) c.bytes.ensures.same) in
    subst (λ b. AreCarriedStreams (with_bytes streams (summary_place streams) b)) (sym made)
    (retitled_room streams (summary_place streams) summary title c.args.document.now.carried.others c.requires.short
    asked)

pub returns-in-Ok : goal.returns-in-Ok
returns-in-Ok c =
    let document = c.args.document.now in
    let summary = c.args.summary.now in
    let title = c.args.title.now in
    let name = c.args.name.now in
    let made : c.as_slice.result.now ≡ retitled_stream summary title =
    c.as_slice.ensures ∙ (c.in-Ok.ensures.1 ∙ ap (retitled_stream summary) c.bytes.ensures.same) in
    IfOk-weaker c.saved_with.result (SavesWith document c.as_slice.result.now) (PutsTitle title name document)
    (λ r h. match_some (summary_of document.carried.streams) (HasNoSummary name r)
    (λ b. Retitles title name document b r) summary c.requires.here
    (inl (record { set = c.in-Ok.ensures.0; saved = subst (λ b. SavesWith document b r) made h })))
    c.saved_with.ensures

pub returns-in-Err-Form : goal.returns-in-Err-Form
returns-in-Err-Form c =
    let document = c.args.document.now in
    let summary = c.args.summary.now in
    let title = c.args.title.now in
    let name = c.args.name.now in
    let at = c.in-Err-Form.at in
    let fault = c.in-Err-Form.field-0 in
    let is : fault ≡ Form at = cc in
    IfOk-weaker c.wrong_summary.result (λ (r : Reply). r ≡ Refused WrongSummary (wrong_summary_line name at))
    (PutsTitle title name document)
    (λ r h. match_some (summary_of document.carried.streams) (HasNoSummary name r)
    (λ b. Retitles title name document b r) summary c.requires.here
    (inr (wrong_at name summary fault at r c.in-Err-Form.ensures is h)))
    c.wrong_summary.ensures
