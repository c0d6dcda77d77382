-- A run of code only adds events.
use Rattle.std.proofs.Common.{◌≡◌, ℕ, Bool, true, false, cond, List, [], ◌∷◌, ◌++◌, Option, Some, None, refl, sym, ◌∙◌, ap, subst, append-nil, append_assoc}
use Rattle.qtt_prims.specs.Tapes.{Taped}
use Rattle.qtt_prims.specs.Lines.{is_line, line_of, after_line}
use Rattle.qtt_prims.specs.declared.lit.Lit.TheVariants as literal
use Rattle.qtt_term.specs.Term.{Action}
use Rattle.qtt_term.specs.FullStep.{Cause}
use Rattle.qtt_term.specs.FullRun.{Event, Verdict, closes_from}
use Rattle.qtt_code.specs.Value.{Value, Values, ◌▹◌}
use Rattle.qtt_code.specs.Instruction.{Program}
use Rattle.qtt_run.specs.CodeRun.{Now, Config, Turn, pure_got, resume, read, use_tape, turn, Seen, seen, Runs}
use Rattle.qtt_run.specs.Laws.{RunsAddEvents}

abbrev Adds : List Event → List Event → Type 0
Adds xs ys = (es : List Event) × (ys ≡ xs ++ es)

adds-none : (xs : List Event) → Adds xs xs
adds-none xs = ([], sym (append-nil xs))

adds-both : (xs ys zs : List Event) → Adds xs ys → Adds ys zs → Adds xs zs
adds-both xs ys zs (es, e) (fs, f) = (es ++ fs, f ∙ ap (λ ys. ys ++ fs) e ∙ append_assoc xs es fs)

-- ---- an action
abbrev TurnAdds : Config → Turn → Type 0
TurnAdds c (Turn.goes d) = Adds c.events d.events
TurnAdds c (Turn.halts w) = Unit {0}

resume-adds : (v : Value) (c : Config) (ks : List Value) → TurnAdds c (resume v c ks)
resume-adds v c [] = tt
resume-adds v c (k ∷ ks) = adds-none c.events

line-adds : (b : Bool) (c : Config) (v : Value) (r : List ℕ) (w : Verdict) →
    TurnAdds c (cond b (Turn.goes (record c { now = Now.gave v; input = r })) (Turn.halts w))
line-adds true c v r w = adds-none c.events
line-adds false c v r w = tt

read-adds : (c : Config) (bs : List ℕ) → TurnAdds c (read c bs)
read-adds c [] = adds-none c.events
read-adds c (b ∷ bs) =
    line-adds (is_line (line_of (b ∷ bs))) c (pure_got (line_of (b ∷ bs))) (after_line (b ∷ bs))
    (Verdict.trapped Cause.bad_input_line)

use-adds : (c : Config) (v : Value) (e : Event) (o : Option (List Taped)) → TurnAdds c (use_tape c v e o)
use-adds c v e (Some tapes) = (e ∷ [], refl)
use-adds c v e None = tt

turn-adds : (c : Config) (v : Value) → TurnAdds c (turn c v)
turn-adds c (Value.action (Action.bind m n) (t ▹ k ▹ Values.none)) = adds-none c.events
turn-adds c (Value.action (Action.pure m) (v ▹ Values.none)) = resume-adds v c c.waiting
turn-adds c (Value.action Action.put_line (Value.literal (literal.Text s) ▹ Values.none)) = (Event.line s ∷ [], refl)
turn-adds c (Value.action Action.get_line Values.none) = read-adds c c.input
turn-adds c (Value.action Action.opens (Value.literal (literal.Text s) ▹ Values.none)) = (Event.opened s ∷ [], refl)
turn-adds c (Value.action Action.writes (Value.tape h ▹ Value.literal (literal.Text s) ▹ Values.none)) =
    use-adds c _ _ _
turn-adds c (Value.action Action.closes (Value.tape h ▹ Values.none)) = use-adds c _ _ _
turn-adds c _ = tt

-- ---- a run
seen-adds : (w : Verdict) (n : ℕ) (c : Config) → let r : Seen = seen w n c in Adds c.events r.events
seen-adds Verdict.ended n c = adds-none c.events
seen-adds (Verdict.trapped k) n c = (closes_from 0 c.tapes, refl)
seen-adds Verdict.stuck n c = adds-none c.events
seen-adds Verdict.running n c = adds-none c.events

run-adds : {C : Program} {more n : ℕ} {c : Config} {r : Seen} → Runs C more n c r → Adds c.events r.events
run-adds {c = c} (Runs.spends e a) = adds-none c.events
run-adds {c = c} (Runs.traps e a) = (closes_from 0 c.tapes, refl)
run-adds (Runs.gives e a p x) = run-adds x
run-adds {n = n} {c = c} (Runs.halts {w = w} e a) = seen-adds w n c
run-adds {c = c} (Runs.stays e a) = adds-none c.events
run-adds {c = c} {r = r} (Runs.acts {d = d} {v = v} e a x) =
    adds-both c.events d.events r.events (subst (TurnAdds c) a (turn-adds c v)) (run-adds x)

pub runs-add-events : RunsAddEvents
runs-add-events C more n c r x = run-adds x
