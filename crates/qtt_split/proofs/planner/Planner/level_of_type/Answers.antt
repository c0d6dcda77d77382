use Rattle.std.proofs.Common.{◌≡◌, ◌∙◌, ℕ, Some, length, subst, sym}
use Rattle.qtt_term.specs.Ask.{Ask, ◌>>=◌}
use Rattle.qtt_term.specs.Entries.{entries, env}
use Rattle.qtt_term.specs.Term.{Term}
use Rattle.qtt_term.specs.View.{term}
use Rattle.qtt_rules.specs.Asks.{Asks, head_of}
use Rattle.qtt_unify.specs.View.{binders}
use Rattle.qtt_split.specs.Answers.{Reaches, Refuses}
use Rattle.qtt_split.specs.Levels.{level_of_type}
use Rattle.qtt_split.specs.Split.{level_in}
use Rattle.qtt_split.specs.Tests.{Test, at}
use Rattle.qtt_split.proofs.Asked.{head-then}
use Rattle.qtt_split.proofs.Living.{length-binders}
use Rattle.qtt_split.proofs.Within.{passed, here, on, on_done, refuses-alike, reached}
use Rattle.qtt_split.proofs.planner.Planner.level_of_type.Goals as goal

pub returns-in_err-head : goal.returns-in_err-head
returns-in_err-head g c =
    let E = env (entries c.args.self.now.unifier.globals.now) in
    let n = c.args.self.now.unifier.budget in
    let p = at c.args.span Test.level in
    let T = term c.args.ty.now in
    let d = length (binders c.args.context.now) in
    let depth : c.in_ok-depth.depth ≡ d = c.in_ok-depth.ensures ∙ sym (length-binders c.args.context.now) in
    let e = c.in_err-head.field-0.0 in
    let then : Term → Asks ℕ = λ h. Ask.done (level_in h) in
    let refused : Refuses E n (head_of p d T) e =
    subst (λ k. Refuses E n (head_of p k T) e) depth c.in_err-head.ensures in
    passed E n (level_of_type p d (Some T)) (λ l. l) c.from_residual-in_err-head.result e
    c.from_residual-in_err-head.ensures.1
    (refuses-alike E n (head_of p d T >>= then) (level_of_type p d (Some T)) e (head-then E n p d T)
    (here E n (head_of p d T) then e refused))

pub returns : goal.returns
returns g c =
    let E = env (entries c.args.self.now.unifier.globals.now) in
    let n = c.args.self.now.unifier.budget in
    let p = at c.args.span Test.level in
    let T = term c.args.ty.now in
    let d = length (binders c.args.context.now) in
    let depth : c.in_ok-depth.depth ≡ d = c.in_ok-depth.ensures ∙ sym (length-binders c.args.context.now) in
    let H = term c.in_ok-head.head in
    let then : Term → Asks ℕ = λ h. Ask.done (level_in h) in
    let reads : Reaches E n (head_of p d T) H =
    subst (λ k. Reaches E n (head_of p k T) H) depth c.in_ok-head.ensures in
    let whole : Reaches E n (head_of p d T >>= then) (level_in H) = on then reads on_done in
    reached (record { is = head-then E n p d T ∙ whole.is }) (sym c.level_in.ensures)
