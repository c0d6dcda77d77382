-- Parts of the table of families, for the calls that judge them.
use Rattle.std.specs.Prelude.{◌≡◌, ℕ, Bool, List, [], Option}
use Rattle.std.specs.List.{list_all}
use Rattle.qtt_base.specs.declared.place.GlobalId.{GlobalId}
use Rattle.qtt_base.specs.declared.place.Span.{Span}
use Rattle.qtt_usage.specs.Mult.{𝟘, same_mult}
use Rattle.qtt_syntax.specs.Tree.{Tree, Param, Con}
use Rattle.qtt_term.specs.Term.{Term, Terms}
use Rattle.qtt_term.specs.Signature.{Tele}
use Rattle.qtt_term.specs.Judgement.{Part}
use Rattle.qtt_term.specs.Items.{FamilyEntry}
use Rattle.qtt_term.specs.Ask.{Ask, ◌>>=◌, Ending}
use Rattle.qtt_term.specs.Entries.{Entries, with_family}
use Rattle.qtt_term.specs.Scope.{Scope, no_scope, depth}
use Rattle.qtt_term.specs.Forms.{as_sort}
use Rattle.qtt_term.specs.declared.rule.Rule.TheVariants as rule
use Rattle.qtt_core_check.specs.declared.refusal.CoreRefusal.{CoreRefusal}
use Rattle.qtt_core_check.specs.declared.refusal.CoreRefusal.TheVariants as refusal
use Rattle.qtt_rules.specs.declared.detail.Detail.TheVariants as detail
use Rattle.qtt_rules.specs.declared.errors.ElabError.{ElabError}
use Rattle.qtt_rules.specs.declared.errors.ElabError.TheVariants as error
use Rattle.qtt_rules.specs.Refusal.{Cause, Place, Refusal, at}
use Rattle.qtt_rules.specs.Asks.{Asks, need, found, head_as}
use Rattle.qtt_rules.specs.Judged.{Mode}
use Rattle.qtt_positive.specs.FirstBad.{first_bad}
use Rattle.qtt_bidi.specs.Answers.{Told}
use Rattle.qtt_bidi.specs.Elaboration.{place, judge}
use Rattle.qtt_module.specs.Families.{Head, heading, pieces, end_of, is_within, parameters, behind_indices, indices, level, as_results, constructors, family_with, none_bad}

-- what the core judgement finds of a type of the item n, under d variables: its head is a Sort, of at most this level
abbrev pub core_sort : List ℕ → Span → ℕ → Term → Asks ℕ
core_sort n s d T = head_as as_sort (λ d t. Cause.core_refused n) d T (at s rule.Conversion 2)

abbrev pub sort_within : List ℕ → Option ℕ → Span → ℕ → Term → Asks (Unit {0})
sort_within n bound s d T = do
  l ← core_sort n s d T
  need (is_within bound l) (Cause.core_refused n) (at s rule.Conversion 2)

-- binders that are all at 0
abbrev pub are_erased : Tele → Bool
are_erased = list_all (λ b. same_mult 𝟘 b.0)

-- what is told where the core judgement does not accept a type of the item n at s
abbrev pub Untyped : List ℕ → ℕ → Span → CoreRefusal → ElabError → Type 0
Untyped n b s (refusal.Fails r k) e = Told (Cause.core_refused n) (at s r k) e
Untyped n b s (refusal.Spent q) e = e ≡ error.Refused (detail.BudgetSpent b q) s rule.Conversion 1
Untyped n b s refusal.Memory e = e ≡ error.Memory

-- a family without its constructors
abbrev pub head : Entries → GlobalId → List ℕ → List ℕ → List Param → Tree → Asks Head
head G f M n ps t = do
  P ← parameters G n no_scope ps
  l ← level G (behind_indices (pieces t) P.scope) (end_of t)
  Ts ← indices G n P.scope (pieces t)
  Ask.done (heading f M n P Ts l)

-- the results of a constructor of family f, behind k parameters and m fields
abbrev pub results : Entries → GlobalId → ℕ → ℕ → Scope → Tree → Asks Terms
results G f k m S e = do
  j ← judge G Part.erased S Mode.synth e
  found (as_results f k m j.core) (Cause.not_a_family (depth S) j.core) (at (place e) rule.Families 6)

-- a family that stands without its constructors already
abbrev pub completed : Entries → Head → List Con → Asks FamilyEntry
completed G F cs = do
  ds ← constructors G F 0 cs
  good ← none_bad cs (first_bad F.id (family_with F ds).family)
  Ask.done (family_with F ds)

-- what stands where a family is refused: besides what stood there the family without constructors, once it has ended
-- so
abbrev pub standing_bare : Entries → Ending Refusal Place Head → Entries
standing_bare G (Ending.ok F) = with_family (family_with F []) G
standing_bare G (Ending.fails r) = G
standing_bare G (Ending.spent p q) = G
