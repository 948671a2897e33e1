-- The streams and the FIB of a file that holds a document, as they are read of it.
use Rattle.std.specs.Prelude.{ℕ, List}
use Rattle.std.proofs.Common.{◌≡◌, refl, sym, subst}
use Rattle.doc_bits.specs.Rules.{Hold}
use Rattle.cfb_streams.specs.Contents.{Contents, HasNamed}
use Rattle.cfb_streams.specs.Container.{container_rules, HasContents}
use Rattle.cfb_streams.specs.Names.{wd_name}
use Rattle.cfb_streams.proofs.Public.{contents_unique}
use Rattle.fib_form.specs.FibFields.{FibFields, fib_fields}
use Rattle.fib_form.specs.FibRules.{fib_rules}
use Rattle.doc_model.specs.declared.document.Document.{Document}
use Rattle.fast_save.specs.Fast.{IsHeldFile}
use Rattle.fast_save.specs.Started.{IsReadFile}
use Rattle.fast_save.proofs.OpenLemmas.{container_holds, fib_holds, wd_there, wd_is}

module _ (file : List ℕ) (document : Document) (held : IsHeldFile file document) where
  pub held_container : Hold (container_rules file)
  held_container = container_holds file held.holds.rules

  module _ (contents : Contents) (has : HasContents file contents) where
    pub held_contents : contents ≡ held.holds.parts.contents
    held_contents = contents_unique file contents held.holds.parts.contents has held.holds.has_parts.has_contents

    abbrev pub held_read : (fib : FibFields) → fib ≡ fib_fields held.holds.parts.text.wd → IsReadFile contents fib
    held_read fib is = record {
      file = file;
      rules = held.holds.rules;
      parts = held.holds.parts;
      has = held.holds.has_parts;
      contents_are = held_contents;
      fib_is = is;
    }

    pub held_wd_there : HasNamed contents.streams wd_name held.holds.parts.text.wd
    held_wd_there =
        wd_there contents (fib_fields held.holds.parts.text.wd) (held_read (fib_fields held.holds.parts.text.wd) refl)

    pub held_wd_is : (bytes : List ℕ) → HasNamed contents.streams wd_name bytes → bytes ≡ held.holds.parts.text.wd
    held_wd_is bytes named =
        wd_is contents (fib_fields held.holds.parts.text.wd) (held_read (fib_fields held.holds.parts.text.wd) refl)
        bytes named

    pub held_fib : (bytes : List ℕ) → HasNamed contents.streams wd_name bytes → Hold (fib_rules bytes)
    held_fib bytes named =
        subst (λ (w : List ℕ). Hold (fib_rules w)) (sym (held_wd_is bytes named))
        (fib_holds file held.holds.parts held.holds.rules held.holds.has_parts)
