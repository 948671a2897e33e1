-- Saving a document in full has one reply, and is served where the document fits.
use Rattle.std.proofs.Common.{◌≡◌, ◌∙◌, inl, inr, ap, sym, subst, ℕ, List, arith}
use Rattle.doc_model.specs.declared.document.Document.{Document}
use Rattle.full_save.specs.declared.fault.SaveFault.{SaveFault}
use Rattle.full_save.specs.declared.fault.SaveFault.TheVariants.{TooLarge}
use Rattle.full_save.specs.Layout.{FitsCompoundFile, IsTooLarge}
use Rattle.document_commands.specs.declared.reply.Reply.{Reply}
use Rattle.document_commands.specs.declared.reply.Reply.TheVariants.{Done, Made, Refused}
use Rattle.document_commands.specs.declared.reply.Refusal.TheVariants.{Save}
use Rattle.document_commands.specs.Lines.{needs_sectors_line}
use Rattle.document_commands.specs.Saves.{Saves}
use Rattle.document_commands.specs.Replies.{IsNoRefusal}

pub saved_one :
    (word : List ℕ) (document : Document) (a b : Reply) → Saves word document a → Saves word document b → a ≡ b
saved_one word document a b (inl x) (inl y) = x.is ∙ sym y.is
saved_one word document a b (inl x) (inr y) =
    let fits = x.fits in let over = y.over in absurd (omega (arith, fits, over))
saved_one word document a b (inr x) (inl y) =
    let fits = y.fits in let over = x.over in absurd (omega (arith, fits, over))
saved_one word document a b (inr x) (inr y) = x.is ∙ sym y.is

-- a reply that is a text, or text and bytes, is no refusal
pub done_said : (text : List ℕ) (reply : Reply) → reply ≡ Done text → IsNoRefusal reply
done_said text reply is = subst (λ r. IsNoRefusal r) (sym is) tt

done_made : (text bytes : List ℕ) (reply : Reply) → reply ≡ Made text bytes → IsNoRefusal reply
done_made text bytes reply is = subst (λ r. IsNoRefusal r) (sym is) tt

pub saved_done :
    (word : List ℕ) (document : Document) (reply : Reply) → FitsCompoundFile document → Saves word document reply →
    IsNoRefusal reply
saved_done word document reply fits (inl x) = done_made _ _ reply x.is
saved_done word document reply fits (inr x) = let over = x.over in absurd (omega (arith, fits, over))

-- the line of a save that is too large has its sectors
pub saves_too_large :
    (word : List ℕ) (document : Document) (refusal : SaveFault) (sectors : ℕ) (reply : Reply) →
    IsTooLarge document refusal → refusal ≡ TooLarge sectors → reply ≡ Refused Save (needs_sectors_line word sectors) →
    Saves word document reply
saves_too_large word document refusal sectors reply large is said =
    let facts : IsTooLarge document (TooLarge sectors) = subst (λ f. IsTooLarge document f) is large in
    inr (record { over = facts.0; is = said ∙ ap (λ n. Refused Save (needs_sectors_line word n)) facts.1 })
