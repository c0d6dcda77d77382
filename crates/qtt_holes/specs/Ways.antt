-- The rows of the way to a hole over the parts that follow in the text.
use Rattle.std.specs.Prelude.{ℕ, List, Option}
use Rattle.qtt_base.specs.declared.place.Span.{Span}
use Rattle.qtt_usage.specs.declared.mult.Mult.{Mult}
use Rattle.qtt_syntax.specs.declared.expr.Local.{Local}
use Rattle.qtt_syntax.specs.Tree.{Tree, Annotation, Binders, Statements}
use Rattle.qtt_term.specs.Term.{Term}
use Rattle.qtt_term.specs.Judgement.{Part, under}
use Rattle.qtt_term.specs.Entries.{Entries}
use Rattle.qtt_term.specs.Scope.{Scope}
use Rattle.qtt_rules.specs.Asks.{Asks}
use Rattle.qtt_rules.specs.Judged.{Mode}
use Rattle.qtt_bidi.specs.Elaboration.{place, judge, valued}
use Rattle.qtt_bidi.specs.Ends.{list_place}
use Rattle.qtt_holes.specs.Walk.{Walked, let_way, bind_way, lambda_way, way, statements_way}

-- binders, and the body behind them
abbrev pub function_way : Entries → Part → Scope → List (List ℕ) → Span → Term → Binders → Tree → Asks Walked
function_way G p S ns s A bs e = lambda_way G p S ns s A bs (λ T ms B. way G p T ms e B)

-- a `let` over the statements after it
abbrev pub let_then : Entries → Part → Scope → List (List ℕ) → Mult → Local → Annotation → Tree → Statements → Term →
    Asks Walked
let_then G p S ns q x C e ss A =
    let_way p S ns A q x (valued G S C (λ n. judge G (under p q) S n e))
    (λ T ms B. statements_way G p T ms (list_place ss) ss B)

-- an action, with the name that it binds, and the statements after it, the first of them at s
abbrev pub bind_then : Entries → Part → Scope → List (List ℕ) → Span → Option Local → Tree → Statements → Term →
    Asks Walked
bind_then G p S ns s x e ss A =
    bind_way p S ns A s (place e) x (judge G p S Mode.synth e)
    (λ T ms B. statements_way G p T ms (list_place ss) ss B)
