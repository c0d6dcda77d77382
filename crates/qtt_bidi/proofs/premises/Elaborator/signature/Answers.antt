use Rattle.std.proofs.Common.{◌≡◌, IfOk, sym, subst}
use Rattle.qtt_term.specs.Entries.{entries, env}
use Rattle.qtt_term.specs.Telescopes.{tele}
use Rattle.qtt_term.specs.View.{term}
use Rattle.qtt_bidi.specs.Listed.{arguments_of, type_of}
use Rattle.qtt_bidi.proofs.premises.Elaborator.signature.Goals as goal

pub returns-in-Type-clause-arguments : goal.returns-in-Type-clause-arguments
returns-in-Type-clause-arguments g c =
    let G = entries c.args.self.now.globals.now in
    subst (λ l. IfOk c.type_signature.result (λ s. tele s.arguments.items ≡ arguments_of G l)) (sym c.in-Type.is)
    (c.type_signature.ensures.arguments (env G))

pub returns-in-Type-clause-ty : goal.returns-in-Type-clause-ty
returns-in-Type-clause-ty g c =
    let G = entries c.args.self.now.globals.now in
    subst (λ l. IfOk c.type_signature.result (λ s. term s.ty ≡ type_of G l)) (sym c.in-Type.is)
    (c.type_signature.ensures.ty (env G))
