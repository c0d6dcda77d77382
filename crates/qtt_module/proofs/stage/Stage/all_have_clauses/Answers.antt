use Rattle.std.proofs.Common.{◌≡◌, ◌∙◌, None, Some, option_map, sym, ap, subst}
use Rattle.qtt_term.specs.Entries.{env}
use Rattle.qtt_term.specs.declared.rule.Rule.TheVariants as rule
use Rattle.qtt_rules.specs.Refusal.{Cause, at}
use Rattle.qtt_bidi.specs.Answers.{Fails}
use Rattle.qtt_module.specs.GivenBodies.{signed_of}
use Rattle.qtt_module.specs.Module.{all_have_clauses, first_bare, clauses_number}
use Rattle.qtt_module.specs.Stages.{stage_of}
use Rattle.qtt_module.proofs.Passing.{none-lacks, one-lacks}
use Rattle.qtt_module.proofs.stage.Stage.all_have_clauses.Goals as goal

pub returns-in_default : goal.returns-in_default
returns-in_default c =
    let S = stage_of c.args.self.now in
    let seen : first_bare S.signed ≡ None =
    sym (rw c.deref.ensures.value at c.first_bare.ensures)
    ∙ ap (option_map (λ x. signed_of x.now)) c.in_default.is in
    none-lacks c.args.budget S seen

pub returns : goal.returns
returns c =
    let S = stage_of c.args.self.now in
    let x = signed_of c.in-Some.bare.now in
    let seen : first_bare S.signed ≡ Some x =
    sym (rw c.deref.ensures.value at c.first_bare.ensures)
    ∙ ap (option_map (λ x. signed_of x.now)) c.in-Some.is in
    subst (λ y. Fails (env S.globals) c.args.budget (all_have_clauses S) (Cause.no_clauses y)
    (at x.place rule.Clauses clauses_number)) (sym c.in_ok-copy.ensures) (one-lacks c.args.budget S x seen)
