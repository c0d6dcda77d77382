-- What an action asks for, by its value.
use Rattle.std.specs.Prelude.{◌≡◌, ◌≢◌, ℕ, List}
use Rattle.qtt_prims.specs.declared.lit.Lit.TheVariants as literal
use Rattle.qtt_term.specs.Term.{Io, Action}
use Rattle.qtt_term.specs.FullRun.{Verdict}
use Rattle.qtt_code.specs.Value.{Value, Values, ◌▹◌}
use Rattle.qtt_value.specs.View.{value}
use Rattle.qtt_run.specs.CodeRun.{Config, Turn, turn}
use Rattle.qtt_run.specs.declared.deed.Deed.{Deed}
use Rattle.qtt_run.specs.declared.deed.Deed.TheVariants.{Give, GetLine, Else}
use Rattle.qtt_run.specs.declared.deed.Effect.{Effect}
use Rattle.qtt_run.specs.declared.deed.Effect.TheVariants.{Bind, PutLine, Open, Write, Close}

-- somewhere it is not stuck
abbrev pub IsPerformed : Value → Type 0
IsPerformed v = (c : Config) × (turn c v ≢ Turn.halts Verdict.stuck)

-- ---- the actions that ask for an effect
abbrev pub binds : Io → Io → Value → Value → Value
binds m n t k = Value.action (Action.bind m n) (t ▹ k ▹ Values.none)

abbrev pub puts : List ℕ → Value
puts s = Value.action Action.put_line (Value.literal (literal.Text s) ▹ Values.none)

abbrev pub opens : List ℕ → Value
opens s = Value.action Action.opens (Value.literal (literal.Text s) ▹ Values.none)

abbrev pub writes : ℕ → List ℕ → Value
writes h s = Value.action Action.writes (Value.tape h ▹ Value.literal (literal.Text s) ▹ Values.none)

abbrev pub closes : ℕ → Value
closes h = Value.action Action.closes (Value.tape h ▹ Values.none)

abbrev pub AsksEffect : Value → Effect → Type 0
AsksEffect v (Bind t k) = (m : Io) × (n : Io) × (v ≡ binds m n (value t) (value k))
AsksEffect v (PutLine s) = v ≡ puts s.now
AsksEffect v (Open s) = v ≡ opens s.now
AsksEffect v (Write h s) = v ≡ writes h s.now
AsksEffect v (Close h) = v ≡ closes h

-- ---- those that read a line or give a result
abbrev pub gets : Value
gets = Value.action Action.get_line Values.none

abbrev pub gives : Io → Value → Value
gives m r = Value.action (Action.pure m) (r ▹ Values.none)

abbrev pub Asks : Value → Deed → Type 0
Asks v (Give r) = (m : Io) × (v ≡ gives m (value r))
Asks v GetLine = v ≡ gets
Asks v (Else e) = AsksEffect v e
