-- Contexts with local names.
use Rattle.std.specs.Prelude.{ℕ, suc, List, [], ◌∷◌, map, length, reverse, codes, bytes_eq, cond, Option, Some, None}
use Rattle.qtt_usage.specs.declared.mult.Mult.{Mult}
use Rattle.qtt_term.specs.declared.context.Ctx as code_ctx
use Rattle.qtt_term.specs.Term.{Term, var, Sort}
use Rattle.qtt_term.specs.Substitution.{ren}
use Rattle.qtt_term.specs.Judgement.{Ctx}
use Rattle.qtt_term.specs.Contexts as code

-- Variables, the newest first; and for each local name, the innermost first, the term that it stands for and the
-- term's type, both in the whole context. A name of a pattern may stand for a term that is no variable.
pub record Scope : Type 0 where
  pub vars : Ctx
  pub names : List (Term × Term)

abbrev pub no_scope : Scope
no_scope = record { vars = []; names = [] }

abbrev pub depth : Scope → ℕ
depth S = length S.vars

-- under one more variable
abbrev pub shifted : List (Term × Term) → List (Term × Term)
shifted = map (λ x. (ren suc x.0, ren suc x.1))

-- a variable that no name stands for
abbrev pub with_var : Mult → Term → Scope → Scope
with_var q A S = record { vars = (q, A) ∷ S.vars; names = shifted S.names }

-- a variable and its name
abbrev pub with_name : Mult → Term → Scope → Scope
with_name q A S = record { vars = (q, A) ∷ S.vars; names = (var 0, ren suc A) ∷ shifted S.names }

-- The name of an index, which is counted, but is in scope nowhere and binds no variable: what it stands for is never
-- read.
abbrev pub with_index : Scope → Scope
with_index S = record { vars = S.vars; names = (Sort 0, Sort 1) ∷ S.names }

-- the name of a binder, where it has one
abbrev pub name_of : List ℕ → Option (List ℕ)
name_of n = cond (bytes_eq n (codes "_")) None (Some n)

-- what a context of the code stands for: there the innermost name is the last one
abbrev pub scope_of : code_ctx.Ctx → Scope
scope_of c = record { vars = code.variables c; names = reverse (code.names c) }
