-- Statements with others after them.
use Rattle.std.proofs.Common.{◌≡◌, ◌<◌, List, [], ◌∷◌, length, Some, None, refl, arith}
use Rattle.qtt_base.specs.declared.place.Span.{Span}
use Rattle.qtt_usage.specs.declared.mult.Mult.{Mult}
use Rattle.qtt_syntax.specs.declared.expr.Local.{Local}
use Rattle.qtt_syntax.specs.declared.expr.Statement as statement_code
use Rattle.qtt_syntax.specs.Tree.{Tree, Annotation}
use Rattle.qtt_syntax.specs.Tree.Statement.{bind, local, run}
use Rattle.qtt_syntax.specs.Tree.Statements.{statement_and}
use Rattle.qtt_term.specs.Judgement.{Part}
use Rattle.qtt_term.specs.Entries.{Entries}
use Rattle.qtt_term.specs.Scope.{Scope}
use Rattle.qtt_rules.specs.Judged.{Mode}
use Rattle.qtt_bidi.specs.Elaboration.{statements}
use Rattle.qtt_bidi.specs.Ends.{bind_then, let_then}
use Rattle.qtt_bidi.specs.Parts.{statement_trees}

none-after : {A : Type 0} → 0 < 0 → A
none-after h = let no : ⊥ = omega arith in absurd no

pub run-before : (G : Entries) (p : Part) (S : Scope) (m : Mode) (s r : Span) (e : Tree)
    (rest : List statement_code.Statement) → 0 < length rest →
    statements G p S m s (statement_and (run e r) (statement_trees rest)) ≡
    bind_then G p S m s None e (statement_trees rest)
run-before G p S m s r e [] h = none-after h
run-before G p S m s r e (t ∷ ts) h = refl

pub bind-before : (G : Entries) (p : Part) (S : Scope) (m : Mode) (s : Span) (x : Local) (e : Tree)
    (rest : List statement_code.Statement) → 0 < length rest →
    statements G p S m s (statement_and (bind x e) (statement_trees rest)) ≡
    bind_then G p S m s (Some x) e (statement_trees rest)
bind-before G p S m s x e [] h = none-after h
bind-before G p S m s x e (t ∷ ts) h = refl

pub let-before : (G : Entries) (p : Part) (S : Scope) (m : Mode) (s r : Span) (q : Mult) (x : Local) (A : Annotation)
    (e : Tree) (rest : List statement_code.Statement) → 0 < length rest →
    statements G p S m s (statement_and (local q x A e r) (statement_trees rest)) ≡
    let_then G p S m q x A e (statement_trees rest)
let-before G p S m s r q x A e [] h = none-after h
let-before G p S m s r q x A e (t ∷ ts) h = refl
