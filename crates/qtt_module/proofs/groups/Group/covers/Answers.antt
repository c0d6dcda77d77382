use Rattle.std.proofs.Common.{◌∙◌, map, sym, subst}
use Rattle.qtt_syntax.specs.View.{shape_of}
use Rattle.qtt_term.specs.Entries.{env}
use Rattle.qtt_rules.specs.Refusal.{Cause}
use Rattle.qtt_bidi.specs.Answers.{Fails}
use Rattle.qtt_split.specs.Group.{covers}
use Rattle.qtt_split.specs.Missing.{uncovered}
use Rattle.qtt_split.specs.Tests.{Test, at}
use Rattle.qtt_split.specs.View.{tree_of}
use Rattle.qtt_module.specs.GroupCalls.{defined_of, globals_of}
use Rattle.qtt_module.proofs.Covering.{none-missing, may-miss, one-missing}
use Rattle.qtt_module.proofs.groups.Group.covers.Goals as goal

pub returns-in_default : goal.returns-in_default
returns-in_default g c =
    none-missing (defined_of c.args.self.now) (tree_of c.args.tree.now)
    (sym c.first_missing.ensures.value ∙ c.in_default.is)

pub returns-then-self : goal.returns-then-self
returns-then-self g c = may-miss (defined_of c.args.self.now) (tree_of c.args.tree.now) c.if-self.true

pub returns : goal.returns
returns g c =
    let D = defined_of c.args.self.now in
    let E = env (globals_of c.args.self.now) in
    let n = c.args.self.now.elaborator.budget in
    let T = tree_of c.args.tree.now in
    let ps = map shape_of c.in_ok-patterns.field-0.items in
    let so = one-missing D T c.in-Some.end ps (sym c.first_missing.ensures.value ∙ c.in-Some.is)
    c.in_ok-patterns.ensures c.if-self.false in
    subst (λ s. Fails E n (covers D (uncovered T)) (Cause.missing c.in_ok-copy.field-0 ps) (at s Test.covered))
    (sym c.first.ensures)
    (subst (λ x. Fails E n (covers D (uncovered T)) (Cause.missing x ps) (at D.group.first Test.covered))
    (sym c.in_ok-copy.ensures) so)
