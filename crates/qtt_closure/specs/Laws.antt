-- The laws of closure conversion: a converted term stands for its term, and takes its steps, one for one.
use Rattle.std.specs.Prelude.{ℕ, []}
use Rattle.qtt_erase.specs.Step.{Bodies}
use Rattle.qtt_erase.specs.Lean.{Abstraction, Lean, lean_step}
use Rattle.qtt_closure.specs.Flat.{Closure, FlatTerm, Program, flat_step}
use Rattle.qtt_closure.specs.Conversion.{flat}
use Rattle.qtt_closure.specs.StandsFor.{StandsFor, IsHeld, AreConversions, Agrees}

abbrev pub ConversionStandsForItsTerm : Type 0
ConversionStandsForItsTerm = (P : Program) (n : ℕ) (t : Lean) → IsHeld P n t → StandsFor P t (flat n [] t)

-- a value for a value, one step for one step, the same trap, and stuck for stuck
abbrev pub FlatTermsRunInStep : Type 0
FlatTermsRunInStep =
    (P : Program) (B : Bodies Abstraction) (D : Bodies Closure) → AreConversions P B D →
    (t : Lean) (u : FlatTerm) → StandsFor P t u → Agrees P (lean_step B t) (flat_step P D u)
