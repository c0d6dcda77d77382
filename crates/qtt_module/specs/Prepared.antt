-- The text of a module before its items are judged: its header's name, what its names stand for, and what is filled in.
use Rattle.std.specs.Prelude.{ℕ, Bool, ◌&&◌, not, if◌then◌else◌, List, map, codes, Option, Some, None, Result, Ok, Err}
use Rattle.qtt_base.specs.declared.limits.Quantity.TheVariants.{FilledNodes}
use Rattle.qtt_base.specs.declared.place.ModuleId.{ModuleId}
use Rattle.qtt_syntax.specs.Tree.{Module}
use Rattle.qtt_syntax.specs.Tree.Module.{module_text}
use Rattle.qtt_names.specs.Answer as names
use Rattle.qtt_names.specs.Exports.{Exports}
use Rattle.qtt_names.specs.PrimNames.{scope_of}
use Rattle.qtt_names.specs.Resolved.{resolved}
use Rattle.qtt_names.specs.Scope.{Imported, same_name, module_name}
use Rattle.qtt_implicit.specs.Filled.{FilledText, filled}
use Rattle.qtt_implicit.specs.Filled as implicit
use Rattle.qtt_term.specs.declared.rule.Rule.TheVariants as rule
use Rattle.qtt_rules.specs.Refusal.{Cause}
use Rattle.qtt_diag.specs.Fault.{fault_detail}
use Rattle.qtt_diag.specs.Kept.{Detail}
use Rattle.qtt_module.specs.Refused.{Answer, ◌>>=◌, plain}

-- ---- the header has the name by which the text was asked for, which is not Prim
abbrev pub is_asked : List ℕ → List ℕ → Bool
is_asked asked n = same_name n asked && not (same_name n (codes "Prim"))

abbrev pub has_name : List ℕ → Module → Answer (Unit {0})
has_name asked (module_text h n s is items) =
    if is_asked asked n then Ok tt else Err (plain rule.Text asked s (Detail.wrong_module_name asked n))

-- ---- names
-- what is kept of a fault of names; of each fault of a text that is something, by the laws of faults
abbrev pub kept : Option Detail → Detail
kept None = Detail.premise Cause.unread
kept (Some d) = d

abbrev pub looked_up : List ℕ → names.Answer Module → Answer Module
looked_up M (Ok m) = Ok m
looked_up M (Err f) = Err (plain rule.Names M f.span (kept (fault_detail f.kind f.word f.count)))

abbrev pub imported : Exports → Imported
imported e = record { name = e.name; items = e.items }

-- the text with what its names stand for
abbrev pub named : ModuleId → List Exports → Module → Answer Module
named id imports m = looked_up (module_name m) (resolved (scope_of id m (map imported imports)) m)

-- ---- what is filled in
abbrev pub filled_in : List ℕ → Result FilledText implicit.Refusal → Answer FilledText
filled_in M (Ok t) = Ok t
filled_in M (Err (implicit.Refusal.unsolved x s)) = Err (plain rule.Names M s (Detail.unsolved x))
filled_in M (Err (implicit.Refusal.braces k n s)) =
    Err (plain rule.Names M s (Detail.premise (Cause.wrong_arity k n)))
filled_in M (Err (implicit.Refusal.too_large n s)) =
    Err (plain rule.Names M s (Detail.premise (Cause.limit FilledNodes n)))

-- ---- all of it
-- the text with what its names stand for and what is filled in
abbrev pub prepared : ModuleId → List ℕ → List Exports → Module → Answer FilledText
prepared id asked imports m = do
  u ← has_name asked m
  t ← named id imports m
  filled_in (module_name m) (filled id imports t)
