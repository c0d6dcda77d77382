-- What the values of the code stand for.
use Rattle.std.specs.Prelude.{ℕ, Bool, true}
use Rattle.qtt_base.specs.declared.place.Span.{Span}
use Rattle.qtt_usage.specs.declared.mult.Mult.{Mult}
use Rattle.qtt_term.specs.declared.rule.Rule.TheVariants as rule
use Rattle.qtt_core_check.specs.declared.refusal.CoreRefusal.{CoreRefusal}
use Rattle.qtt_core_check.specs.declared.refusal.CoreRefusal.TheVariants as core_refusal
use Rattle.qtt_rules.specs.declared.detail.Detail.TheVariants as detail
use Rattle.qtt_rules.specs.declared.errors.ElabError.{ElabError}
use Rattle.qtt_rules.specs.declared.errors.ElabError.TheVariants as error
use Rattle.qtt_term.specs.declared.term.Term as code_term
use Rattle.qtt_term.specs.Term.{Term}
use Rattle.qtt_term.specs.Substitution.{ren, shift}
use Rattle.qtt_term.specs.View.{term, io}
use Rattle.qtt_term.specs.Scope.{Scope, with_var, with_name, scope_of}
use Rattle.qtt_term.specs.Forms.{Function}
use Rattle.qtt_usage.specs.Mult.{fits}
use Rattle.qtt_term.specs.Judgement.{Part}
use Rattle.qtt_rules.specs.Refusal.{Cause}
use Rattle.qtt_rules.specs.Judged.{Judged, judged, Mode}
use Rattle.qtt_bidi.specs.Elaboration.{Classified}
use Rattle.qtt_bidi.specs.Premises.{Action}
use Rattle.qtt_bidi.specs.declared.judged.Mode as code_mode
use Rattle.qtt_bidi.specs.declared.judged.Mode.TheVariants as mode
use Rattle.qtt_bidi.specs.declared.judged.Judged as code_judged
use Rattle.qtt_bidi.specs.declared.judged.Classified as code_classified
use Rattle.qtt_bidi.specs.declared.judged.FunctionType.{FunctionType}
use Rattle.qtt_bidi.specs.declared.judged.ActionType.{ActionType}
use Rattle.qtt_bidi.specs.declared.type_heads.HeadForm.{HeadForm}
use Rattle.qtt_bidi.specs.declared.type_heads.HeadForm.TheVariants as head_form
use Rattle.qtt_bidi.specs.declared.scope.Scope as code_scope
use Rattle.qtt_bidi.specs.declared.scope.Scope.TheVariants as scope

abbrev pub locals : code_scope.Scope → Scope
locals (scope.Outer c) = scope_of c.now
locals (scope.Named' p S q A) = with_name q (term A.now) (locals S)
locals (scope.Unnamed' p S q A) = with_var q (term A.now) (locals S)

-- what a name stands for, and its type
abbrev pub stands : code_term.Term × code_term.Term → Term × Term
stands x = (term x.0, term x.1)

-- under so many further variables
abbrev pub risen : ℕ → Term × Term → Term × Term
risen n x = (ren (shift n) x.0, ren (shift n) x.1)

abbrev pub mode_of : code_mode.Mode → Mode
mode_of mode.Synth = Mode.synth
mode_of (mode.Check A) = Mode.check (term A)

abbrev pub judged_as : code_judged.Judged → Judged
judged_as j = judged (term j.ty) (term j.core) j.uses

abbrev pub classified : code_classified.Classified → Classified
classified c = record { core = term c.core; level = c.level }

abbrev pub function : FunctionType → Function
function f = record { mult = f.mult; domain = term f.domain; codomain = term f.codomain }

abbrev pub action_as : ActionType → Action
action_as a = record { io = io a.kind; result = term a.result }

-- what is kept of a type whose head has not the form that is looked for
abbrev pub other_form : HeadForm → ℕ → Term → Cause
other_form head_form.Sort = Cause.not_a_type
other_form head_form.Function = Cause.not_a_function
other_form head_form.Family = Cause.not_a_family
other_form head_form.Action = Cause.not_an_action

-- a use fits a multiplicity, in the run part
abbrev pub fitting : Part → Mult → Mult → Bool
fitting Part.erased u q = true
fitting Part.run u q = fits u q

-- what is told where the core judgement does not accept the term of a name
abbrev pub not_accepted : ℕ → ℕ → Span → code_term.Term → CoreRefusal → ElabError
not_accepted b n s t (core_refusal.Fails r k) = error.Refused (detail.ErasedUse n t) s rule.Stands 1
not_accepted b n s t (core_refusal.Spent q) = error.Refused (detail.BudgetSpent b q) s rule.Stands 1
not_accepted b n s t core_refusal.Memory = error.Memory
