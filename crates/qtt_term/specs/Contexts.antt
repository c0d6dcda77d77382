-- What the code's contexts and parts stand for.
use Rattle.std.specs.Prelude.{List, map, reverse}
use Rattle.qtt_term.specs.declared.context.Ctx as code_ctx
use Rattle.qtt_term.specs.declared.context.Sigma as code_sigma
use Rattle.qtt_term.specs.declared.context.Sigma.TheVariants as sigma
use Rattle.qtt_term.specs.Term.{Term}
use Rattle.qtt_term.specs.Judgement.{Ctx, Part}
use Rattle.qtt_term.specs.View.{term}

-- the variables, the newest first
abbrev pub variables : code_ctx.Ctx → Ctx
variables c = reverse (map (λ v. (v.0, term v.1)) c.vars.items)

-- the term and the type that each local name stands for, the innermost last
abbrev pub names : code_ctx.Ctx → List (Term × Term)
names c = map (λ n. (term n.0, term n.1)) c.names.items

abbrev pub part : code_sigma.Sigma → Part
part sigma.Erased = Part.erased
part sigma.Run = Part.run
