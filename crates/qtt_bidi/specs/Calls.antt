-- What the calls of an elaborator ensure.
use Rattle.std.specs.Prelude.{◌≡◌, ℕ, List, length, Result, MatchResult}
use Rattle.qtt_usage.specs.declared.mult.Mult.{Mult}
use Rattle.qtt_syntax.specs.Tree.{Tree}
use Rattle.qtt_term.specs.declared.term.Term as code_term
use Rattle.qtt_term.specs.Term.{◌+++◌}
use Rattle.qtt_term.specs.Signature.{Env}
use Rattle.qtt_term.specs.View.{terms, side_by_side}
use Rattle.qtt_term.specs.Judgement.{Part}
use Rattle.qtt_term.specs.Entries.{Entries, entries, env}
use Rattle.qtt_term.specs.Scope.{depth}
use Rattle.qtt_rules.specs.declared.errors.ElabError.{ElabError}
use Rattle.qtt_rules.specs.Asks.{Asks}
use Rattle.qtt_rules.specs.Judged.{Mode}
use Rattle.qtt_bidi.specs.declared.premises.Elaborator.{Elaborator}
use Rattle.qtt_bidi.specs.declared.scope.Scope.{Scope}
use Rattle.qtt_bidi.specs.declared.judged.Judged.{Judged}
use Rattle.qtt_bidi.specs.Elaboration.{Given, judge}
use Rattle.qtt_bidi.specs.Answers.{Reaches, Refuses, Gives}
use Rattle.qtt_bidi.specs.Seen.{locals, judged_as}

abbrev pub entries_of : {C : Type 0} → Elaborator C → Entries
entries_of K = entries K.globals.now

-- a call answers as this list of questions ends within the elaborator's budget
abbrev pub Answers : {C X A : Type 0} → Elaborator C → Asks A → (X → A) → Result X ElabError → Type 0
Answers K m view result = Gives (env (entries_of K)) K.budget m view result

-- a call judges this expression in this part, scope and mode
abbrev pub Judges : {C : Type 0} → Elaborator C → Part → Scope → Mode → Tree → Result Judged ElabError → Type 0
Judges K p S m e result = Answers K (judge (entries_of K) p (locals S) m e) judged_as result

-- one use for each variable of the scope
abbrev pub Counted : Scope → List Mult → Type 0
Counted S us = length us ≡ depth (locals S)

-- arguments are checked so: their cores stand behind the values before them
pub record Filled (E : Env) (n : ℕ) (m : Asks Given) (before after : List code_term.Term)
    (us : List Mult) : Type 0 where
  pub given : Given
  pub reaches : Reaches E n m given
  pub cores : side_by_side (terms after) ≡ side_by_side (terms before) +++ given.cores
  pub uses : us ≡ given.uses

abbrev pub Fills : {C : Type 0} → Elaborator C → Asks Given → List code_term.Term → List code_term.Term →
    Result (List Mult) ElabError → Type 0
Fills K m before after result =
    MatchResult result (λ us. Filled (env (entries_of K)) K.budget m before after us)
    (λ e. Refuses (env (entries_of K)) K.budget m e)
