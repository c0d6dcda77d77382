use Rattle.std.proofs.Common.{◌≡◌, ◌+◌, ◌*◌, ◌++◌, drop}
use Rattle.qtt_term.specs.Signature.{family_at}
use Rattle.qtt_term.specs.View.{terms, branches}
use Rattle.qtt_term.specs.Globals.{env}
use Rattle.qtt_erase.specs.Erased.{erased_at, erased_branches}
use Rattle.qtt_erase.specs.View.{leans, lean_branches}
use Rattle.qtt_erase.specs.Scopes.{slots}
use Rattle.qtt_erase.proofs.erasing.+erased.Given as goal

-- the depth of the term, and then the fields that are still to be put in scope
abbrev pub decreases-erased : goal.decreases-erased
decreases-erased l = 4294967298 * goal.size-erased l

abbrev pub decreases-erased_args : goal.decreases-erased_args
decreases-erased_args l = 4294967298 * goal.size-erased_args l + 1

abbrev pub decreases-erased_case : goal.decreases-erased_case
decreases-erased_case l = 4294967298 * goal.size-erased_case l

abbrev pub decreases-erased_all : goal.decreases-erased_all
decreases-erased_all l = 4294967298 * goal.size-erased_all l

abbrev pub decreases-erased_body : goal.decreases-erased_body
decreases-erased_body l = 4294967298 * goal.size-erased_body l + l.fields + 1

abbrev pub invariant-erased_args-loop-k : goal.invariant-erased_args-loop-k
invariant-erased_args-loop-k l =
    leans l.kept.items ++ erased_at (env l.env) (slots l.scope) (drop l.k l.mults) (terms (drop l.k l.sources))
    ≡ leans l.initial.kept.items ++ erased_at (env l.env) (slots l.scope) l.mults (terms l.sources)

abbrev pub invariant-erased_all-loop-place : goal.invariant-erased_all-loop-place
invariant-erased_all-loop-place l =
    lean_branches l.branches.items ++ erased_branches (env l.env) (slots l.scope) l.mult
    (drop l.place (family_at (env l.env) l.family).constructors) (branches (drop l.place l.sources))
    ≡ erased_branches (env l.env) (slots l.scope) l.mult (family_at (env l.env) l.family).constructors
    (branches l.sources)
