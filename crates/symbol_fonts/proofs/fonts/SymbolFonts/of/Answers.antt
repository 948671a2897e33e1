use Rattle.symbol_fonts.proofs.fonts.SymbolFonts.of.Goals as goal

pub returns : goal.returns
returns c = λ i. record {
  symbol = c.first_named.ensures i;
  wingdings = c.first_named-2.ensures i;
  wingdings_2 = c.first_named-3.ensures i;
  wingdings_3 = c.first_named-4.ensures i;
  webdings = c.first_named-5.ensures i;
  zapf_dingbats = c.first_named-6.ensures i;
  monotype_sorts = c.first_named-7.ensures i;
}
