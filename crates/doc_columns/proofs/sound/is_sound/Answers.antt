-- By the texts, the counts and the sheet.
use Rattle.std.proofs.Common.{◌≡◌, ◌≤◌, length, refl, sym, subst, arith}
use Rattle.doc_bits.specs.declared.places.Where.TheVariants.{Main}
use Rattle.doc_model.specs.declared.document.Document.{Document}
use Rattle.plain_doc.specs.declared.rules_counts.Counts.{Counts}
use Rattle.plain_doc.specs.RulesOfSheet.{heads_of_sections, item_count, most_items}
use Rattle.plain_doc.specs.Sound.{IsSound}
use Rattle.plain_doc.specs.TextWalk.{KeepsTextRules, HasTextCounts}
use Rattle.plain_doc.proofs.Public.{all_texts, judged_sound}
use Rattle.doc_columns.specs.Marks.{AreValidBookmarks}
use Rattle.doc_columns.proofs.RightLemmas.{taken}
use Rattle.doc_columns.proofs.SeenLemmas.{seen_document}
use Rattle.doc_columns.proofs.sound.is_sound.Goals as goal

pub fit_counts-requires : goal.fit_counts-requires
fit_counts-requires c =
    let own = c.document.inside in
    (taken (λ (counts : Counts). KeepsTextRules own.sheet Main own.main × HasTextCounts own.main counts) _
    c.in-Some.counts c.in-Some.is c.in_ok-counts.ensures).1.few

pub returns : goal.returns
returns c = λ sound.
    let own = c.document.inside in
    let seen = seen_document own in
    let counts = c.in-Some.counts in
    let count : c.all_items.result ≡ item_count c.args.document.now = c.all_items.ensures in
    let few : item_count c.args.document.now ≤ most_items = omega (arith, count, c.if-all_items-gt-MAX_ITEMS.false) in
    let marks : AreValidBookmarks (length own.main) own.bookmarks =
    subst (λ n. AreValidBookmarks n own.bookmarks) c.len.ensures.len (c.in_ok-are_valid.ensures c.if-not-branch.false) in
    let main =
    taken (λ (counts : Counts). KeepsTextRules own.sheet Main own.main × HasTextCounts own.main counts) _ counts
    c.in-Some.is c.in_ok-counts.ensures in
    let notes = c.in_ok-are_valid_texts.ensures c.if-not-branch-2.false in
    let heads = c.in_ok-are_valid_texts-2.ensures c.if-not-branch-3.false in
    let fit = c.if-not-fit_counts.ensures refl in
    subst IsSound c.document.view_is
    (judged_sound seen counts (all_texts seen main.0 notes heads) (c.is_valid_sheet.ensures sound) (record {
      counted = main.1;
      notes = subst (λ (d : Document). length d.notes ≡ counts.notes) (sym c.document.view_is) fit.0;
      heads = subst (λ (d : Document). length d.heads ≡ heads_of_sections counts.sections) (sym c.document.view_is)
          fit.1;
      few = subst (λ (d : Document). item_count d ≤ most_items) (sym c.document.view_is) few;
      bookmarks = marks.formed;
      few_bookmarks = marks.few;
      names = marks.names;
    }))
