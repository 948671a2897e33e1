use Rattle.std.proofs.Common.{subst}
use Rattle.std.specs.Prelude.{OnOk}
use Rattle.json.specs.Print.{escape_byte}
use Rattle.doc_model.specs.declared.document.Document.{Document}
use Rattle.serde_json.specs.Written.{compact_text}
use Rattle.json_values.specs.Out.{Adds}
use Rattle.json_doc.specs.Documents.{json_value}
use Rattle.json_doc.proofs.WrittenLemmas.{where_ok, adds}
use Rattle.json_doc.proofs.documents.write_document.Goals as goal

pub returns : goal.returns
unfolding escape_byte
returns c =
    subst (λ (d : Document). OnOk c.push-7.result (Adds c.args.out.now c.push-7.new.self (compact_text (json_value d))))
    c.document.view_is
    (where_ok c.push-7.result
    (λ last. adds c.in_ok-push.ensures.ok
    (adds c.in_ok-write_bookmarks.ensures
    (adds c.in_ok-push-2.ensures.ok
    (adds c.in_ok-write_carried.ensures
    (adds c.in_ok-push-3.ensures.ok
    (adds c.in_ok-write_texts.ensures
    (adds c.in_ok-push-4.ensures.ok
    (adds c.in_ok-write_text.ensures
    (adds c.in_ok-push-5.ensures.ok
    (adds c.in_ok-write_texts-2.ensures
    (adds c.in_ok-push-6.ensures.ok (adds c.in_ok-write_sheet.ensures last)))))))))))) c.push-7.ensures.ok)
