-- The modules of a build in the order in which they are read: the named one first, then each in the order in which
-- imports mention it first, breadth first.
use Rattle.std.specs.Prelude.{ℕ, zero, suc, ◌+◌, ◌&&◌, not, if◌then◌else◌, List, [], ◌∷◌, ◌++◌, Result, Ok, Err}
use Rattle.qtt_base.specs.Limits.{standard}
use Rattle.qtt_base.specs.declared.limits.Quantity.TheVariants.{Modules}
use Rattle.qtt_base.specs.declared.place.Span.{Span}
use Rattle.qtt_syntax.specs.declared.module.Import.{Import}
use Rattle.qtt_syntax.specs.Tree.{Module}
use Rattle.qtt_graph.specs.Graph.{Name, is_among, counts, header_of}
use Rattle.qtt_term.specs.Entries.{prim_entries}
use Rattle.qtt_term.specs.declared.rule.Rule.{Rule}
use Rattle.qtt_term.specs.declared.rule.Rule.TheVariants as rule
use Rattle.qtt_rules.specs.Refusal.{Cause}
use Rattle.qtt_diag.specs.Kept.{Detail, Refusal}
use Rattle.qtt_load.specs.Reading.{Why, Reading, front}

-- why a build is not loaded: a module is not there, or is refused, by a premise of this rule
pub data Stop : Type 0 where
  absent : Name → Stop
  refused : Rule → Refusal → Stop

-- what is kept has no terms, so that the names are those of Prim
abbrev pub refusal : Name → Span → Detail → Refusal
refusal a s d = record { «module» = a; span = s; detail = d; names = prim_entries }

-- the module is not read
abbrev pub not_read : Name → Why → Stop
not_read a Why.absent = Stop.absent a
not_read a (Why.refused s d) = Stop.refused rule.Text (refusal a s d)

-- one module more than a build may have, told at the front of the named one
abbrev pub too_many : Name → Stop
too_many root =
    Stop.refused rule.Build (refusal root front (Detail.premise (Cause.limit Modules (standard.modules + 1))))

abbrev pub module_name : Module → Name
module_name m = (header_of m).name

abbrev pub module_imports : Module → List Import
module_imports m = (header_of m).imports

-- the names that imports mention and that are not known yet, each once; a module is mentioned when its importer has
-- been read
abbrev pub mentioned : List Name → List Import → List Name
mentioned known [] = []
mentioned known (i ∷ more) =
    if counts i && not (is_among known i.name) then i.name ∷ mentioned (known ++ i.name ∷ []) more
    else mentioned known more

-- what is known behind an import
abbrev pub noted : List Name → Import → List Name
noted known i = if counts i && not (is_among known i.name) then known ++ i.name ∷ [] else known

abbrev pub with_first : Module → Result (List Module) Stop → Result (List Module) Stop
with_first m (Ok ms) = Ok (m ∷ ms)
with_first m (Err s) = Err s

-- a module, and those behind it
abbrev pub read_then : Name → Reading Module → (Module → Result (List Module) Stop) → Result (List Module) Stop
read_then a (Err w) next = Err (not_read a w)
read_then a (Ok m) next = with_first m (next m)

-- the modules that wait, and those that they mention, where at most n more are read
abbrev pub load : Name → (Name → Reading Module) → ℕ → (known waiting : List Name) → Result (List Module) Stop
load root read n known [] = Ok []
load root read zero known (a ∷ waiting) = Err (too_many root)
load root read (suc n) known (a ∷ waiting) =
    read_then a (read a) (λ m. load root read n (known ++ mentioned known (module_imports m))
    (waiting ++ mentioned known (module_imports m)))

-- the modules of the build of the named one
unfoldable pub loaded : (Name → Reading Module) → Name → Result (List Module) Stop
loaded read root = load root read standard.modules (root ∷ []) (root ∷ [])
