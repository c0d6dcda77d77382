use Rattle.std.proofs.Common.{◌≡◌, ◌++◌, [], ◌∷◌, ◌∙◌, map, rules}
use Rattle.qtt_term.specs.declared.term.Term.TheVariants as form
use Rattle.qtt_term.specs.Scope.{shifted}
use Rattle.qtt_term.specs.Shift.{raised}
use Rattle.qtt_term.specs.Substitution.{ren}
use Rattle.qtt_term.specs.View.{term}
use Rattle.qtt_core_check.proofs.Views.{var-seen}
use Rattle.qtt_bidi.specs.Seen.{stands}
use Rattle.qtt_bidi.proofs.Scopes.{raised-one}
use Rattle.qtt_module.proofs.Grown.{named-scope}
use Rattle.qtt_module.proofs.contexts.with_name.Goals as goal

pub returns-clause-scope : goal.returns-clause-scope
returns-clause-scope c =
    let A = term c.args.ty in
    let Γ = c.args.context in
    let B = c.in_ok-shift.field-0 in
    let ns = c.in_ok-names.names.items in
    let t : term B ≡ ren (raised 0 1) A = search rules in
    let v : c.push-2.new.self.items ≡ Γ.vars.items ++ (c.args.mult, c.args.ty) ∷ [] = search rules in
    let n : c.push.new.self.items ≡ ns ++ (form.Var 0, B) ∷ [] = search rules in
    let s : map stands ns ≡ shifted (map stands Γ.names.items) = search rules in
    named-scope Γ (record { vars = c.push-2.new.self; names = c.push.new.self }) c.args.mult c.args.ty (form.Var 0) B ns
    v n s (var-seen 0) (t ∙ raised-one A)
