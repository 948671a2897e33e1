-- The fields are put one after the other, over zeros.
use Rattle.std.proofs.Common.{◌≡◌, ◌++◌, take, drop, refl, sym, subst}
use Rattle.doc_bits.specs.Number.{number_bytes}
use Rattle.fib_form.specs.FibBytes.{written_flags, written_fields, spelled}
use Rattle.fib_form.specs.Fib.{form_pairs}
use Rattle.fib_form.proofs.FieldLemmas.{Puts}
use Rattle.fib_form.proofs.FibLemmas.{fields_of}
use Rattle.fib_form.proofs.WriteLemmas.{puts_fields}
use Rattle.fib_form.proofs.fib.Fib.write_fields.Goals as goal

pub returns : goal.returns
returns c =
    let in_self = c.self.inside in
    let fib = fields_of in_self.form in_self.kept.lid in_self.kept.lid_fe in_self.kept.flags in_self.quick_saves
    in_self.which_table in_self.cb_mac in_self.complex in_self.ccps in_self.pairs in
    let flags : c.flags.result ≡ written_flags fib = subst (λ f. c.flags.result ≡ written_flags f)
    (sym c.self.view_is) c.flags.ensures in
    let flags_put : c.put16-4.new.bytes ≡ take 10 c.put16-3.new.bytes ++ (number_bytes 2 (written_flags fib) ++ drop
    12 c.put16-3.new.bytes) =
    subst (λ n. c.put16-4.new.bytes ≡ take 10 c.put16-3.new.bytes ++ (number_bytes 2 n ++ drop 12
    c.put16-3.new.bytes)) flags c.put16-4.ensures in
    let pairs_put : c.put16-9.new.bytes ≡ take 152 c.put32-4.new.bytes ++ (number_bytes 2 (form_pairs fib.form) ++ drop
    154 c.put32-4.new.bytes) =
    subst (λ n. c.put16-9.new.bytes ≡ take 152 c.put32-4.new.bytes ++ (number_bytes 2 n ++ drop 154
    c.put32-4.new.bytes)) c.pairs.ensures c.put16-9.ensures in
    let puts : Puts (written_fields fib) c.args.out.now c.put16-9.new.bytes = (
      c.put16.new.bytes,
      (
        c.put16.ensures,
        (
          c.put16-2.new.bytes,
          (
            c.put16-2.ensures,
            (
              c.put16-3.new.bytes,
              (
                c.put16-3.ensures,
                (
                  c.put16-4.new.bytes,
                  (
                    flags_put,
                    (
                      c.put16-5.new.bytes,
                      (
                        c.put16-5.ensures,
                        (
                          c.put16-6.new.bytes,
                          (
                            c.put16-6.ensures,
                            (
                              c.put16-7.new.bytes,
                              (
                                c.put16-7.ensures,
                                (
                                  c.put16-8.new.bytes,
                                  (
                                    c.put16-8.ensures,
                                    (
                                      c.put32.new.bytes,
                                      (
                                        c.put32.ensures,
                                        (
                                          c.put32-2.new.bytes,
                                          (
                                            c.put32-2.ensures,
                                            (
                                              c.put32-3.new.bytes,
                                              (
                                                c.put32-3.ensures,
                                                (
                                                  c.put32-4.new.bytes,
                                                  (
                                                    c.put32-4.ensures,
                                                    (
                                                      c.put16-9.new.bytes,
                                                      (
                                                        pairs_put,
                                                        refl,
                                                      ),
                                                    ),
                                                  ),
                                                ),
                                              ),
                                            ),
                                          ),
                                        ),
                                      ),
                                    ),
                                  ),
                                ),
                              ),
                            ),
                          ),
                        ),
                      ),
                    ),
                  ),
                ),
              ),
            ),
          ),
        ),
      ),
    ) in
    subst (λ f. c.put16-9.new.bytes ≡ spelled 0 (written_fields f) ++ drop 154 c.args.out.now) c.self.view_is
    (puts_fields fib c.args.out.now c.put16-9.new.bytes c.requires.clear puts)
