-- The run of a typed main's code is its full run, and closes its tapes.
use Rattle.std.proofs.Common.{ℕ, List, sym, subst}
use Rattle.qtt_base.specs.declared.place.GlobalId.{GlobalId}
use Rattle.qtt_term.specs.Signature.{Env}
use Rattle.qtt_term.specs.FullRun.{full}
use Rattle.qtt_term.specs.Environment.{WellFormed, Complete, IsMain}
use Rattle.qtt_term.proofs.Output.{full-tells}
use Rattle.qtt_preserve.specs.Laws.{TapesClosedOnce}
use Rattle.qtt_preserve.proofs.Facts.{never_stuck_holds, tapes_closed_once_holds}
use Rattle.qtt_run.specs.Code.{Lists, code, first_block}
use Rattle.qtt_run.specs.CodeRun.{Seen, seen_of, Runs, start}
use Rattle.qtt_run.specs.Laws.{CodeRunsAsFullRuns, ClosesTapes}
use Rattle.qtt_run.proofs.RunsBeside.{code-follows}
use Rattle.qtt_run.proofs.Unique.{runs-are-one}

pub code-runs-as-full-runs : (E : Env) → WellFormed E → Complete E → (ds : List GlobalId) → Lists E ds →
    (main : GlobalId) →
    IsMain E main → CodeRunsAsFullRuns E ds main
code-runs-as-full-runs E w whole ds l main m bound input r =
    let f = code-follows E w whole ds l main m bound input in (
      λ x. runs-are-one (code E ds) bound 0 (start (first_block E ds main) input) r
          (seen_of (full bound E main input)) x f,
      λ e. subst (Runs (code E ds) bound 0 (start (first_block E ds main) input)) (sym e) f,
    )

full-closes : (E : Env) → WellFormed E → Complete E → (main : GlobalId) → IsMain E main → (bound : ℕ) (input : List ℕ) →
    ClosesTapes (seen_of (full bound E main input))
full-closes E w whole main m bound input =
    let t : TapesClosedOnce E main bound input = tapes_closed_once_holds E w whole main m bound input in
    record {
      never_stuck = never_stuck_holds E w whole main m bound input;
      tapes = full-tells E bound main input;
      always = t.always;
      ended = t.ended;
      trapped = t.trapped;
    }

pub code-closes-tapes : (E : Env) → WellFormed E → Complete E → (ds : List GlobalId) → Lists E ds →
    (main : GlobalId) → IsMain E main →
    (bound : ℕ) (input : List ℕ) (r : Seen) → Runs (code E ds) bound 0 (start (first_block E ds main) input) r →
    ClosesTapes r
code-closes-tapes E w whole ds l main m bound input r x =
    subst ClosesTapes (sym ((code-runs-as-full-runs E w whole ds l main m bound input r).0 x))
    (full-closes E w whole main m bound input)
