-- Premises of elaboration: heads of types, with what is kept where they are others, and uses of binders.
use Rattle.std.specs.Prelude.{ℕ, List, Option, Some, None, cond}
use Rattle.qtt_base.specs.declared.place.GlobalId.{GlobalId}
use Rattle.qtt_usage.specs.declared.mult.Mult.{Mult}
use Rattle.qtt_usage.specs.Mult.{fits}
use Rattle.qtt_usage.specs.Usage.{usage_at}
use Rattle.qtt_term.specs.Term.{Io, PrimTy, Named, Form, Term, Terms, node, ε, ◌▸◌, same_id}
use Rattle.qtt_term.specs.Contraction.{chain}
use Rattle.qtt_term.specs.Judgement.{Part}
use Rattle.qtt_term.specs.Question.{same_io}
use Rattle.qtt_term.specs.Ask.{Ask}
use Rattle.qtt_term.specs.Forms.{Function, as_function, as_sort}
use Rattle.qtt_term.specs.Scope.{Scope, depth}
use Rattle.qtt_rules.specs.Refusal.{Cause, Place}
use Rattle.qtt_rules.specs.Asks.{Asks, need, head_as}

-- ---- heads of types
-- this family, and what it is applied to
abbrev pub as_family : GlobalId → Term → Option Terms
as_family f (node (Form.fam g) ts) = cond (same_id f g) (Some ts) None
as_family f _ = None

-- IO or IO1 of a type
pub record Action : Type 0 where
  pub io : Io
  pub result : Term

abbrev pub as_action : Term → Option Action
as_action (node (Form.named (Named.prim_ty (PrimTy.io_of m))) (A ▸ ε)) = Some (record { io = m; result = A })
as_action _ = None

-- IO, or IO1, of a type
abbrev pub as_action_of : Io → Term → Option Term
as_action_of m A = chain (as_action A) (λ a. cond (same_io m a.io) (Some a.result) None)

abbrev pub sort_of : Scope → Term → Place → Asks ℕ
sort_of S = head_as as_sort Cause.not_a_type (depth S)

abbrev pub function_of : Scope → Term → Place → Asks Function
function_of S = head_as as_function Cause.not_a_function (depth S)

abbrev pub family_of : GlobalId → Scope → Term → Place → Asks Terms
family_of f S = head_as (as_family f) Cause.not_a_family (depth S)

abbrev pub action_of : Scope → Term → Place → Asks Action
action_of S = head_as as_action Cause.not_an_action (depth S)

abbrev pub result_of : Io → Scope → Term → Place → Asks Term
result_of m S = head_as (as_action_of m) Cause.not_an_action (depth S)

-- ---- uses
-- what the newest variable is used for fits its multiplicity, in the run part
unfoldable pub fit : Part → Option (List ℕ) → Mult → List Mult → Place → Asks (Unit {0})
fit Part.erased n q us p = Ask.done tt
fit Part.run n q us p = need (fits (usage_at us 0) q) (Cause.wrong_usage n q (usage_at us 0)) p
