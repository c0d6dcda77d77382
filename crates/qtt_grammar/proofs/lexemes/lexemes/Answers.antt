use Rattle.std.proofs.Common.{◌∙◌, ◌-◌, sym, arith}
use Rattle.qtt_grammar.proofs.TokenPlaces.{lexemes_step}
use Rattle.qtt_grammar.proofs.lexemes.lexemes.Goals as goal

pub marks-preserved : goal.marks-preserved
marks-preserved c = record {
  within = omega (arith, c.marks.invariant.within);
  same = c.in_ok-put_before.ensures ∙ rw (c.in_ok-lexeme.ensures, c.marks.invariant.same)
      (sym (lexemes_step c.args.laid.now (c.marks.left - 1) c.marks.left c.index-laid-left.result
      (omega (arith, c.marks.invariant.within, c.marks-test.true))
      (omega (arith, c.marks-test.true)) c.index-laid-left.is));
}
