use Rattle.std.proofs.Common.{◌≡◌, ℕ, true, sym, subst}
use Rattle.qtt_base.specs.declared.limits.Quantity.TheVariants as quantity
use Rattle.qtt_grammar.specs.Limits.{is_full}
use Rattle.qtt_grammar.specs.View.{place_of}
use Rattle.qtt_grammar.proofs.Caps.{clause_full}
use Rattle.qtt_grammar.proofs.text.clause.Goals as goal

pub returns-then-is_full : goal.returns-then-is_full
returns-then-is_full c = clause_full c.args.level.pass c.args.level.left (place_of c.args.body.now) c.args.name
    c.args.ahead.now c.no_clause.result
    (subst (λ (m : ℕ). is_full c.args.level.pass quantity.Clauses m ≡ true) c.clauses_before.ensures
    (sym c.if-is_full.ensures)) c.no_clause.ensures
