use Rattle.std.proofs.Common.{subst, sym, ap}
use Rattle.qtt_syntax.specs.View.{tree_of}
use Rattle.qtt_term.specs.Entries.{entries, env}
use Rattle.qtt_term.specs.Items.{signature_entry}
use Rattle.qtt_term.specs.View.{term}
use Rattle.qtt_bidi.specs.Answers.{Reaches, Refuses}
use Rattle.qtt_bidi.proofs.Within.{on, on_done, here, passed, reached}
use Rattle.qtt_module.specs.Families.{type_of}
use Rattle.qtt_module.proofs.declarer.Declarer.signature.Goals as goal

pub returns-in_err-ty-clause-gives : goal.returns-in_err-ty-clause-gives
returns-in_err-ty-clause-gives g c =
    let G = entries c.args.self.now.elaborator.globals.now in
    let n = c.args.self.now.elaborator.budget in
    let e = c.in_err-ty.field-0.0 in
    passed _ _ _ _ c.from_residual.result e c.from_residual.ensures.1
    (here _ _ _ _ e
    (subst (λ S. Refuses (env G) n (type_of G S c.args.name.now 8 (tree_of c.args.ty.now)) e)
    c.no_context-context.ensures.scope c.in_err-ty.ensures))

pub returns-clause-gives : goal.returns-clause-gives
returns-clause-gives g c =
    let G = entries c.args.self.now.elaborator.globals.now in
    let n = c.args.self.now.elaborator.budget in
    let T = term c.in_ok-ty.ty in
    reached
    (on _ (subst (λ S. Reaches (env G) n (type_of G S c.args.name.now 8 (tree_of c.args.ty.now)) T)
    c.no_context-context.ensures.scope c.in_ok-ty.ensures) on_done)
    (ap (λ x. signature_entry c.args.id x c.args.mult T) (sym c.in_ok-qualified.ensures))
