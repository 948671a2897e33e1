use Rattle.std.proofs.Common.{refl, sym, ◌∙◌}
use Rattle.std.proofs.lemmas.Bool.{false≢true}
use Rattle.summary_set.proofs.FormLemmas.{other_mark, other_count, other_begin, other_size}
use Rattle.summary_set.proofs.form.read_head.Goals as goal

pub returns-then-get16-ne-LITTLE_ENDIAN : goal.returns-then-get16-ne-LITTLE_ENDIAN
returns-then-get16-ne-LITTLE_ENDIAN c =
    rw c.wrong_at-then-get16-ne-LITTLE_ENDIAN.ensures (other_mark c.args.stream.now c.if-stream-lt-MIN_LEN.false
    (λ e. c.if-get16-ne-LITTLE_ENDIAN.true (c.get16.ensures ∙ e)))

pub returns-then-get32-ne1 : goal.returns-then-get32-ne1
returns-then-get32-ne1 c =
    rw c.wrong_at-then-get32-ne1.ensures (other_count c.args.stream.now c.if-stream-lt-MIN_LEN.false
    (sym c.get16.ensures ∙ c.if-get16-ne-LITTLE_ENDIAN.false) (λ e. c.if-get32-ne1.true (c.get32.ensures ∙ e)))

pub returns-then-not-begins_within : goal.returns-then-not-begins_within
returns-then-not-begins_within c =
    rw c.wrong_at-then-not-begins_within.ensures (other_begin c.args.stream.now c.if-stream-lt-MIN_LEN.false
    (sym c.get16.ensures ∙ c.if-get16-ne-LITTLE_ENDIAN.false) (sym c.get32.ensures ∙ c.if-get32-ne1.false) (λ x.
    false≢true (c.if-not-begins_within.ensures.1 x)))

pub returns-then-not-is_sized : goal.returns-then-not-is_sized
returns-then-not-is_sized c =
    rw (c.wrong_at-then-not-is_sized.ensures, c.get32-begin.ensures) (other_size c.args.stream.now
    c.if-stream-lt-MIN_LEN.false (sym c.get16.ensures ∙ c.if-get16-ne-LITTLE_ENDIAN.false) (sym c.get32.ensures
    ∙ c.if-get32-ne1.false) (c.if-not-begins_within.ensures.0 refl) (λ x. false≢true (c.if-not-is_sized.ensures.1 x)))
