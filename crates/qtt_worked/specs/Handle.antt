-- A program with a handle, from the bytes of its text to the end of its run.
use Rattle.std.specs.Prelude.{◌≡◌, ℕ, true, false, List, [], ◌∷◌, codes, Some}
use Rattle.qtt_base.specs.declared.place.Span.{Span}
use Rattle.qtt_usage.specs.Uses.{zero_use}
use Rattle.qtt_syntax.specs.declared.expr.Mark.TheVariants.{Written}
use Rattle.qtt_syntax.specs.declared.expr.Target.TheVariants.{Global}
use Rattle.qtt_syntax.specs.Tree.{Tree}
use Rattle.qtt_syntax.specs.Tree.Argument.{argument}
use Rattle.qtt_syntax.specs.Tree.Arguments.{no_argument, argument_and}
use Rattle.qtt_graph.specs.Rows.{M}
use Rattle.qtt_names.specs.Exports.{Exports}
use Rattle.qtt_term.specs.Term.{Term, var, TextLit}
use Rattle.qtt_term.specs.Signature.{prim_id}
use Rattle.qtt_term.specs.Judgement.{Part, Typed}
use Rattle.qtt_term.specs.Programs.{item, many, io_unit, with_handle, opened_a, written, closed_after}
use Rattle.qtt_term.specs.Entries.{env}
use Rattle.qtt_term.specs.FullRun.{Event, Verdict, Run, full}
use Rattle.qtt_term.specs.TapeDiscipline.{ClosedOnce}
use Rattle.qtt_words.specs.Asked.{Work, Asked}
use Rattle.qtt_load.specs.Reading.{Texts}
use Rattle.qtt_bidi.specs.Programs.{entry}
use Rattle.qtt_module.specs.Module.{Checked}
use Rattle.qtt_module.specs.Rows.{keeps}
use Rattle.qtt_module.specs.Text.{Accepted}
use Rattle.qtt_build.specs.Built.{Built, numbered, nothing_yet, with_rank}
use Rattle.qtt_build.specs.Laws.{FollowsClauses}
use Rattle.qtt_outcome.specs.Headline.{came, HasDerivations}
use Rattle.qtt_outcome.specs.Outcome.{line}
use Rattle.qtt_outcome.specs.Rows.{asks, with_tape}
use Rattle.qtt_worked.specs.Texts.{only}

-- ---- its text, and what is asked
abbrev pub text : List ℕ
text = codes
    "module Main\nmain : IO Unit\nmain = do\n  h <- open \"a\"\n  k <- write h \"x\"\n  close k\n"

abbrev pub texts : Texts
texts = only text

-- its run within so many contractions
abbrev pub runs : ℕ → Asked
runs steps = asks steps 100 (Work.run M)

-- ---- what it declares
abbrev pub core : Term
core = with_handle opened_a (with_handle (written (var 0) (TextLit (codes "x"))) (closed_after (var 0)))

abbrev pub checked : Checked
checked = keeps [] (entry 0 (codes "main") (many io_unit core) ∷ []) 1 (Some (item 0)) []

abbrev pub place : ℕ → ℕ → ℕ → Span
place l c n = record { line = l; col = c; len = n }

-- a name of Prim on line 2
abbrev pub prim : ℕ → List ℕ → ℕ → ℕ → Tree
prim i n c k = Tree.name (record { path = n; target = Global (prim_id i); span = place 2 c k })

-- IO Unit
abbrev pub main_type : Tree
main_type = Tree.apply (prim 6 (codes "IO") 8 2)
    (argument_and (argument Written (prim 3 (codes "Unit") 11 4)) no_argument) (place 2 8 2)

abbrev pub exports : Exports
exports = record {
  home = numbered 0;
  name = M;
  items = (codes "main", item 0) ∷ [];
  sigs = record { braces = 0; params = 0; type = main_type } ∷ [];
}

abbrev pub accepted : Accepted
accepted = record { header = place 1 1 6; exports = exports; checked = checked }

-- Prim and main
abbrev pub built : Built
built = with_rank nothing_yet (accepted ∷ [])

-- ---- its run
abbrev pub evaluation : ℕ → Run
evaluation steps = full steps (env built.globals) (item 0) []

-- the tape is opened, gets its line and is closed
abbrev pub events : List Event
events = Event.opened (codes "a") ∷ Event.wrote 0 (codes "x") ∷ Event.closed_tape 0 ∷ []

pub record HandleAsWorked : Type 0 where
  -- by the rules its text declares main and nothing else
  pub derived : HasDerivations texts (runs 10) built
  -- main goes on as its clause says, and its core has its type
  pub follows : FollowsClauses derived.declares.modules built (item 0) core
  pub typed : Typed (env built.globals) Part.run [] core io_unit zero_use
  -- delta, bind, open, pure, beta, bind, write, pure, beta, close
  pub ends : came texts [] (runs 10) ≡ with_tape 0 [] false
  pub ended : (evaluation 10).verdict ≡ Verdict.ended
  pub done : (evaluation 10).last.events ≡ events
  pub closed : ClosedOnce events
  -- and before the close
  pub held : came texts [] (runs 9) ≡ with_tape 3 (line (codes "step bound reached")) true
