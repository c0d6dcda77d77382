-- What the code's contexts and families stand for, as they are judged.
use Rattle.std.specs.Prelude.{ℕ, List, drop}
use Rattle.qtt_term.specs.declared.context.Ctx as code_ctx
use Rattle.qtt_term.specs.Scope.{scope_of}
use Rattle.qtt_term.specs.Telescopes.{tele}
use Rattle.qtt_term.specs.View.{terms}
use Rattle.qtt_module.specs.declared.heads.FamilyHead.{FamilyHead}
use Rattle.qtt_module.specs.Families.{Opened, Head, heading}

-- a context, as it is behind its first k variables
abbrev pub opened_behind : ℕ → code_ctx.Ctx → Opened
opened_behind k c = record { binds = drop k (tele c.vars.items); scope = scope_of c }

-- of a module of this name
abbrev pub head_of : List ℕ → FamilyHead → Head
head_of M F = heading F.id M F.name (opened_behind 0 F.params) (terms F.indices.items) F.level
