-- The order in which a build's modules are checked, or the ring of imports that is refused.
use Rattle.std.specs.Prelude.{◌≡◌, ℕ, List, [], ◌∷◌, map, find, filter, Option, Some, None, option_map, Result, Ok, Err}
use Rattle.std.specs.Global.{Vec}
use Rattle.qtt_base.specs.declared.place.Span.{Span}
use Rattle.qtt_syntax.specs.declared.module.Import.{Import}
use Rattle.qtt_graph.specs.Graph.{Name, Graph, same_name, counts}
use Rattle.qtt_graph.specs.Ring.{ring_place}
use Rattle.qtt_graph.specs.Ranks.{ranks}
use Rattle.qtt_term.specs.declared.rule.Rule.TheVariants as rule
use Rattle.qtt_rules.specs.Kinds.{kind_of}
use Rattle.qtt_diag.specs.Kept.{Detail, Refusal, refusal as kept_of}
use Rattle.qtt_load.specs.Loading.{refusal}
use Rattle.qtt_load.specs.declared.errors.OrderError.{OrderError}
use Rattle.qtt_load.specs.declared.errors.OrderError.TheVariants.{Refused, Memory}

-- a ring is refused at its first module's import of the next one
abbrev pub ring_refusal : Graph → List Name → Option Refusal
ring_refusal g [] = None
ring_refusal g (a ∷ more) = option_map (λ s. refusal a s (Detail.cycle (a ∷ more))) (ring_place g (a ∷ more))

-- the place of the first of these imports that is of a module
abbrev pub imported_at : List Import → Name → Option Span
imported_at is b = option_map (λ (i : Import). i.span) (find (λ i. same_name i.name b) (filter counts is))

-- the modules by rank, and within a rank by name, or the ring that is told, refused by the build's rule; of want of
-- memory nothing is said
abbrev pub IsOrder : Graph → Result (Vec (Vec ℕ)) OrderError → Type 0
IsOrder g (Ok levels) = ranks g ≡ Ok (map (λ level. level.items) levels.items)
IsOrder g (Err (Refused r)) =
    (way : List Name) × (ranks g ≡ Err way) × (ring_refusal g way ≡ Some (kept_of r)) × (r.rule ≡ rule.Build) ×
    (r.premise ≡ kind_of r.detail)
IsOrder g (Err Memory) = Unit {0}
