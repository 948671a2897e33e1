use Rattle.std.proofs.Common.{◌<◌, ◌^◌, ◌∙◌, List, sym, subst}
use Rattle.summary_set.specs.declared.values.Property.{Property}
use Rattle.summary_set.specs.Written.{written_size}
use Rattle.summary_set.proofs.WriteLemmas.{retitled_fits}
use Rattle.summary_set.proofs.retitle.with_title.Goals as goal

pub written_set-requires-clause-fits : goal.written_set-requires-clause-fits
written_set-requires-clause-fits c =
    subst (λ (values : List Property). written_size values < 2 ^ 32)
    (sym (c.deref.ensures.value ∙ c.in_ok-values.ensures))
    (retitled_fits c.args.stream.now c.args.title.now c.in_ok-set.ensures.0 c.requires.short c.requires.title.short)
