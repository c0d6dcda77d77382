-- The level of a goal, in two questions.
use Rattle.std.specs.Prelude.{ℕ, Option, Some, None}
use Rattle.qtt_term.specs.Term.{Term}
use Rattle.qtt_term.specs.Signature.{Env}
use Rattle.qtt_term.specs.Judgement.{Ctx, Part}
use Rattle.qtt_term.specs.Infer.{Inferred, infer}
use Rattle.qtt_term.specs.Ask.{Ask, asked_at}
use Rattle.qtt_rules.specs.Refusal.{Place}
use Rattle.qtt_rules.specs.Asks.{Asks}
use Rattle.qtt_split.specs.Split.{level_in}

-- its type in the erased part, where it has one
abbrev pub type_of_goal : Env → Ctx → Place → Term → Asks (Option Term)
type_of_goal E Γ p A =
    asked_at p (infer E Part.erased Γ A) (λ (j : Inferred). Ask.done (Some j.type)) (λ e. Ask.done None)

-- the level of this type, under so many variables
abbrev pub level_of_type : Place → ℕ → Option Term → Asks ℕ
level_of_type p n (Some T) = Ask.head p n T (λ h. Ask.done (level_in h))
level_of_type p n None = Ask.done 0
