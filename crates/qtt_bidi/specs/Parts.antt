-- What the calls that judge parts of expressions ensure.
use Rattle.std.specs.Prelude.{List, map, Result}
use Rattle.qtt_base.specs.declared.place.Span.{Span}
use Rattle.qtt_syntax.specs.Tree as tree
use Rattle.qtt_syntax.specs.Tree.{Tree, Arguments, Binders, Statements}
use Rattle.qtt_syntax.specs.View.{argument_of, binder_of, statement_of}
use Rattle.qtt_syntax.specs.declared.expr.Argument as argument_code
use Rattle.qtt_syntax.specs.declared.expr.Binder as binder_code
use Rattle.qtt_syntax.specs.declared.expr.Statement as statement_code
use Rattle.qtt_term.specs.declared.rule.Rule.{Rule}
use Rattle.qtt_term.specs.Term.{Term}
use Rattle.qtt_term.specs.Judgement.{Part}
use Rattle.qtt_term.specs.Ask.{◌>>=◌}
use Rattle.qtt_term.specs.Entries.{Entries}
use Rattle.qtt_term.specs.Scope.{Scope}
use Rattle.qtt_rules.specs.declared.errors.ElabError.{ElabError}
use Rattle.qtt_rules.specs.Refusal.{at}
use Rattle.qtt_rules.specs.Asks.{Asks}
use Rattle.qtt_rules.specs.Judged as rules
use Rattle.qtt_rules.specs.Judged.{Mode}
use Rattle.qtt_bidi.specs.declared.premises.Elaborator.{Elaborator}
use Rattle.qtt_bidi.specs.declared.scope.Scope as code_scope
use Rattle.qtt_bidi.specs.declared.judged.Judged.{Judged}
use Rattle.qtt_bidi.specs.Meaning.{Meaning}
use Rattle.qtt_bidi.specs.Elaboration.{is_type, place, judge, applied, synthesised_lambda, checked_lambda, global_row, statements}
use Rattle.qtt_bidi.specs.Ends.{written}
use Rattle.qtt_bidi.specs.Calls.{Answers, entries_of}
use Rattle.qtt_bidi.specs.Seen.{locals, judged_as}

-- ---- trees of lists of parts
abbrev pub argument_trees : List argument_code.Argument → Arguments
argument_trees es = tree.arguments (map argument_of es)

abbrev pub binder_trees : List binder_code.Binder → Binders
binder_trees bs = tree.binders (map binder_of bs)

abbrev pub statement_trees : List statement_code.Statement → Statements
statement_trees ss = tree.statements (map statement_of ss)

-- ---- parts of the rules
-- an expression of a written type, which is one by premise 1 of this rule
abbrev pub ascribed : Entries → Part → Scope → Rule → Tree → Tree → Asks rules.Judged
ascribed G p S r A e = do
  D ← is_type S (judge G Part.erased S Mode.synth A) (at (place A) r 1)
  judge G p S (Mode.check D.core) e

-- a function that is applied to arguments
abbrev pub application : Entries → Part → Scope → Span → Tree → Arguments → Asks rules.Judged
application G p S s f es = do
  j ← judge G p S Mode.synth f
  applied G p S s j es

-- ---- calls
-- a call judges a name of this meaning at written arguments
abbrev pub JudgesName : {C : Type 0} → Elaborator C → Part → code_scope.Scope → Mode → Span → Meaning → Arguments →
    Result Judged ElabError → Type 0
JudgesName K p S m s x es result =
    Answers K (global_row (entries_of K) p (locals S) m s x (written (entries_of K) p (locals S) es)) judged_as result

-- a call finds the type of a function
abbrev pub FindsLambda : {C : Type 0} → Elaborator C → Part → code_scope.Scope → Binders → Tree →
    Result Judged ElabError → Type 0
FindsLambda K p S bs e result =
    Answers K (synthesised_lambda (entries_of K) p (locals S) bs (λ T. judge (entries_of K) p T Mode.synth e)) judged_as
    result

-- a call checks a function at s against this type
abbrev pub ChecksLambda : {C : Type 0} → Elaborator C → Part → code_scope.Scope → Span → Term → Binders → Tree →
    Result Judged ElabError → Type 0
ChecksLambda K p S s A bs e result =
    Answers K
    (checked_lambda (entries_of K) p (locals S) s A bs (λ T B. judge (entries_of K) p T (Mode.check B) e)) judged_as
    result

-- a call judges an expression in this scope
abbrev pub JudgesIn : {C : Type 0} → Elaborator C → Part → Scope → Mode → Tree → Result Judged ElabError → Type 0
JudgesIn K p T m e result = Answers K (judge (entries_of K) p T m e) judged_as result

-- a call judges statements at s in this scope
abbrev pub JudgesBlock : {C : Type 0} → Elaborator C → Part → Scope → Mode → Span → Statements →
    Result Judged ElabError → Type 0
JudgesBlock K p T m s ss result = Answers K (statements (entries_of K) p T m s ss) judged_as result
