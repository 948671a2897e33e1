-- The export of a document has one reply, and is served where its text is short enough.
use Rattle.std.proofs.Common.{◌≡◌, ◌∙◌, inl, inr, sym, subst, arith}
use Rattle.doc_model.specs.declared.document.Document.{Document}
use Rattle.document_commands.specs.declared.reply.Reply.{Reply}
use Rattle.document_commands.specs.Exports.{PutsJson, HasLongJson, Exports, CanExport}
use Rattle.document_commands.specs.Replies.{IsNoRefusal}

short_or_long : (document : Document) (a b : Reply) → PutsJson document a → HasLongJson document b → ⊥
short_or_long document a b x y = let short = x.short in let over = y.over in omega (arith, short, over)

pub export_one : (document : Document) (a b : Reply) → Exports document a → Exports document b → a ≡ b
export_one document a b (inl x) (inl y) = x.is ∙ sym y.is
export_one document a b (inl x) (inr y) = absurd (short_or_long document a b x y)
export_one document a b (inr x) (inl y) = absurd (short_or_long document b a y x)
export_one document a b (inr x) (inr y) = x.is ∙ sym y.is

pub export_done : (document : Document) (reply : Reply) → CanExport document → Exports document reply → IsNoRefusal
    reply
export_done document reply can (inl x) = subst (λ r. IsNoRefusal r) (sym x.is) tt
export_done document reply can (inr x) = let over = x.over in absurd (omega (arith, can, over))
