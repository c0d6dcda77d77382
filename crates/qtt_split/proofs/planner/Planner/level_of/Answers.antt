use Rattle.std.proofs.Common.{◌∙◌, ℕ, Option, Some, None, length, option_map, ap}
use Rattle.qtt_term.specs.Ask.{◌>>=◌}
use Rattle.qtt_term.specs.Entries.{entries, env}
use Rattle.qtt_term.specs.Term.{Term}
use Rattle.qtt_term.specs.View.{term}
use Rattle.qtt_rules.specs.Asks.{Asks}
use Rattle.qtt_unify.specs.View.{binders}
use Rattle.qtt_split.specs.Answers.{Reaches}
use Rattle.qtt_split.specs.Levels.{type_of_goal, level_of_type}
use Rattle.qtt_split.specs.Split.{level_of}
use Rattle.qtt_split.specs.Tests.{Test, at}
use Rattle.qtt_split.proofs.Asked.{level-alike}
use Rattle.qtt_split.proofs.Within.{passed, here, on, on_done, tail, reached, ends-alike, refuses-alike}
use Rattle.qtt_split.proofs.planner.Planner.level_of.Goals as goal

pub returns-in_err-found : goal.returns-in_err-found
returns-in_err-found g c =
    let E = env (entries c.args.self.now.unifier.globals.now) in
    let n = c.args.self.now.unifier.budget in
    let p = at c.args.span Test.level in
    let A = term c.args.goal.now in
    let Γ = binders c.args.context.now in
    let m = type_of_goal E Γ p A in
    let then : Option Term → Asks ℕ = level_of_type p (length Γ) in
    let e = c.in_err-found.field-0.0 in
    passed E n (level_of E Γ p A) (λ l. l) c.from_residual.result e c.from_residual.ensures.1
    (refuses-alike E n (m >>= then) (level_of E Γ p A) e (level-alike E n Γ p A)
    (here E n m then e c.in_err-found.ensures))

pub returns-in-Some : goal.returns-in-Some
returns-in-Some g c =
    let E = env (entries c.args.self.now.unifier.globals.now) in
    let n = c.args.self.now.unifier.budget in
    let p = at c.args.span Test.level in
    let A = term c.args.goal.now in
    let Γ = binders c.args.context.now in
    let m = type_of_goal E Γ p A in
    let then : Option Term → Asks ℕ = level_of_type p (length Γ) in
    let is : Reaches E n m (Some (term c.in-Some.ty)) =
    reached c.in_ok-found.ensures (ap (option_map term) c.in-Some.is) in
    ends-alike E n (m >>= then) (level_of E Γ p A) (λ l. l) c.level_of_type.result (level-alike E n Γ p A)
    (tail E n m then (λ l. l) c.level_of_type.result is c.level_of_type.ensures)

pub returns-in-None : goal.returns-in-None
returns-in-None g c =
    let E = env (entries c.args.self.now.unifier.globals.now) in
    let n = c.args.self.now.unifier.budget in
    let p = at c.args.span Test.level in
    let A = term c.args.goal.now in
    let Γ = binders c.args.context.now in
    let m = type_of_goal E Γ p A in
    let then : Option Term → Asks ℕ = level_of_type p (length Γ) in
    let is : Reaches E n m None = reached c.in_ok-found.ensures (ap (option_map term) c.in-None.is) in
    let whole : Reaches E n (m >>= then) 0 = on then is on_done in
    record { is = level-alike E n Γ p A ∙ whole.is }
