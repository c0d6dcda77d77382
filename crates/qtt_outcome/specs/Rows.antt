-- Worked calls over the tree of the module Main, as it is read.
use Rattle.std.specs.Prelude.{◌≡◌, ℕ, suc, pos, Bool, true, false, List, [], ◌∷◌, ◌++◌, codes, None}
use Rattle.qtt_base.specs.declared.place.Span.{Span}
use Rattle.qtt_usage.specs.Mult.{ω}
use Rattle.qtt_syntax.specs.declared.expr.Mark.TheVariants.{Written}
use Rattle.qtt_syntax.specs.declared.expr.Target.TheVariants.{Unknown}
use Rattle.qtt_syntax.specs.Tree.{Tree, Statement, Item, arguments, statements}
use Rattle.qtt_syntax.specs.Tree.Argument.{argument}
use Rattle.qtt_syntax.specs.Tree.Arguments.{no_argument, argument_and}
use Rattle.qtt_syntax.specs.Tree.Statement.{bind, run}
use Rattle.qtt_syntax.specs.Tree.Item.{signature, clause}
use Rattle.qtt_syntax.specs.Tree.Module.{module_text}
use Rattle.qtt_graph.specs.Rows.{at, M}
use Rattle.qtt_load.specs.Reading.{Texts}
use Rattle.qtt_load.specs.Rows.{stored}
use Rattle.qtt_words.specs.Asked.{Work, Asked}
use Rattle.qtt_build.specs.Build.{build}
use Rattle.qtt_outcome.specs.Stop.{◌>>=◌, of_build}
use Rattle.qtt_outcome.specs.Outcome.{Outcome, line, puts, tells, usage_line, outcome_of, put, answered}

-- ---- calls
abbrev pub asks : (steps budget : ℕ) → Work → Asked
asks steps budget w = record { work = w; steps = steps; budget = budget; jobs = 1 }

-- no text is there
abbrev pub nowhere : Texts
nowhere a = None

-- over the module Main of these items
abbrev pub over_within : (steps budget : ℕ) → Work → List Item → Outcome
over_within steps budget w is = outcome_of (do
  B ← of_build (build (stored (module_text (at 1) M (at 1) [] is ∷ [])) M budget)
  put [] (asks steps budget w) B w)

abbrev pub over : ℕ → Work → List Item → Outcome
over steps w is = over_within steps 100 w is

-- ---- main : IO Unit; main = e
abbrev pub place : ℕ → ℕ → Span
place l c = record { line = l; col = c; len = 1 }

abbrev pub word : List ℕ → ℕ → ℕ → Tree
word n l c = Tree.name (record { path = n; target = Unknown; span = place l c })

abbrev pub call : Tree → Tree → ℕ → ℕ → Tree
call f a l c = Tree.apply f (argument_and (argument Written a) no_argument) (place l c)

abbrev pub main_is : Tree → List Item
main_is e =
    signature false ω (codes "main") (place 2 1) (call (word (codes "IO") 2 8) (word (codes "Unit") 2 11) 2 8) (place 2 1)
    ∷ clause (codes "main") [] e (place 3 1) ∷ []

-- putLine "hello"
abbrev pub hello : List Item
hello = main_is (call (word (codes "putLine") 3 8) (Tree.text (codes "hello") (place 3 16)) 3 8)

-- do h <- open "a"; k <- write h "x"; close k
abbrev pub bound_to : List ℕ → ℕ → Tree → Statement
bound_to n l e = bind (record { name = n; span = place l 3 }) e

abbrev pub a_handle : List Item
a_handle = main_is (Tree.doing (statements
    (bound_to (codes "h") 4 (call (word (codes "open") 4 8) (Tree.text (codes "a") (place 4 13)) 4 8)
    ∷ bound_to (codes "k") 5 (Tree.apply (word (codes "write") 5 8)
    (arguments (argument Written (word (codes "h") 5 14) ∷ argument Written (Tree.text (codes "x") (place 5 16)) ∷ []))
    (place 5 8))
    ∷ run (call (word (codes "close") 6 3) (word (codes "k") 6 9) 6 3) (place 6 3) ∷ [])) (place 3 8))

-- ?h
abbrev pub a_hole : List Item
a_hole = main_is (Tree.hole (codes "h") (place 3 8))

-- a : Type; a = Int; b : Type; b = a; x : b; x = 3
abbrev pub defined_as : List ℕ → ℕ → Tree → Tree → List Item
defined_as n l type body =
    signature false ω n (place l 1) type (place l 1) ∷ clause n [] body (place (suc l) 1) ∷ []

abbrev pub type_at : ℕ → Tree
type_at l = Tree.universe 0 (place l 5) (place l 5)

abbrev pub named_int : List Item
named_int =
    defined_as (codes "a") 2 (type_at 2) (word (codes "Int") 3 5)
    ++ defined_as (codes "b") 4 (type_at 4) (word (codes "a") 5 5)
    ++ defined_as (codes "x") 6 (word (codes "b") 6 5) (Tree.number (pos 3) (place 7 5))

-- nothing on out, and a tape that was opened and has a line
abbrev pub with_tape : ℕ → List ℕ → Bool → Outcome
with_tape status told is_open = record {
  status = status;
  out = [];
  err = told;
  tapes = record { name = codes "a"; lines = codes "x" ∷ []; is_open = is_open } ∷ [];
}

pub record CallRows : Type 0 where
  pub usage : outcome_of (answered nowhere [] None) ≡ tells 64 usage_line
  pub check : over 2 (Work.check M) hello ≡ puts (line (codes "checked Main 1"))
  pub core : over 2 (Work.core M) hello ≡ puts (line (codes "Main.main : (IO Unit) = (putLine \"hello\")"))
  -- delta, and the action
  pub run : over 2 (Work.run M) hello ≡ puts (line (codes "hello"))
  pub bound : over 1 (Work.run M) hello ≡ tells 3 (codes "step bound reached")
  -- delta, bind, open, pure, beta, bind, write, pure, beta, close: the handle is closed by the last one
  pub handle : over 10 (Work.run M) a_handle ≡ with_tape 0 [] false
  pub handle_held : over 9 (Work.run M) a_handle ≡ with_tape 3 (line (codes "step bound reached")) true
  -- a hole is told, and not run
  pub hole_told : over 2 (Work.check M) a_hole
      ≡ puts (line (codes "checked Main 1") ++ line (codes "hole h Main:3:8 : (IO Unit)"))
  pub hole_not_run : over 2 (Work.run M) a_hole ≡ tells 1 (codes "Main:3:8: 37 HasHoles h")
  -- Int is b by two contractions: it has derivations, and one contraction does not show them
  pub two_contractions : over_within 2 2 (Work.check M) named_int ≡ puts (line (codes "checked Main 3"))
  pub over_budget : over_within 2 1 (Work.check M) named_int
      ≡ tells 1 (codes "Main:7:5: 24 BudgetSpent 1 compare Int Main.b")
