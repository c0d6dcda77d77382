-- The laws that the functions of this crate ensure.
use Rattle.std.specs.Prelude.{ℕ, List, ◌↔◌}
use Rattle.qtt_syntax.specs.Tree.{Tree}
use Rattle.qtt_term.specs.Term.{Term}
use Rattle.qtt_term.specs.Judgement.{Part}
use Rattle.qtt_term.specs.Ask.{Ending, Ends}
use Rattle.qtt_term.specs.Entries.{Entries, env}
use Rattle.qtt_term.specs.Scope.{Scope}
use Rattle.qtt_rules.specs.Report.{Report}
use Rattle.qtt_holes.specs.Hole.{Hole}
use Rattle.qtt_holes.specs.Walk.{Walked, way, walk}
use Rattle.qtt_holes.specs.Rules.{Walks, HasHole}

-- without a bound the way to a hole ends with what the rules derive, and so does the walk at a leaf
pub record HolesAreDerived : Type 0 where
  pub way : (G : Entries) (p : Part) (S : Scope) (ns : List (List ℕ)) (e : Tree) (A : Term) (w : Walked) →
      Ends (env G) (way G p S ns e A) (Ending.ok w) ↔ Walks G p S ns A e w
  pub hole : (G : Entries) (p : Part) (S : Scope) (ns : List (List ℕ)) (rs : List Report) (e : Tree) (A : Term)
      (h : Hole) → Ends (env G) (walk G p S ns rs e A) (Ending.ok h) ↔ HasHole G p S ns rs e A h
