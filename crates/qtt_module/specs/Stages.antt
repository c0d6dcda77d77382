-- What the code's stages between two items stand for, and what judging items from stage to stage ensures.
use Rattle.std.specs.Prelude.{◌≡◌, ℕ, List, map, Result, MatchResult}
use Rattle.qtt_term.specs.Ask.{Ending, within}
use Rattle.qtt_term.specs.Entries.{Entries, entries, env}
use Rattle.qtt_rules.specs.declared.errors.ElabError.{ElabError}
use Rattle.qtt_rules.specs.declared.errors.ElabError.TheVariants as error
use Rattle.qtt_rules.specs.Refusal.{Place, Refusal, at, refused}
use Rattle.qtt_bidi.specs.Answers.{Kept, kept}
use Rattle.qtt_holes.specs.View.{hole}
use Rattle.qtt_module.specs.declared.judge.Judge.{Judge}
use Rattle.qtt_module.specs.declared.stage.Stage as code_stage
use Rattle.qtt_module.specs.Declarations.{Declaration}
use Rattle.qtt_module.specs.GivenBodies.{signed_of}
use Rattle.qtt_module.specs.Module.{Home, Stage, declare, in_turn}
use Rattle.qtt_module.specs.Text.{standing, standing_in_turn}

abbrev pub stage_of : code_stage.Stage → Stage
stage_of s = record {
  globals = entries s.globals;
  next = s.next;
  signed = map signed_of s.signed.items;
  holes = map hole s.holes.items;
}

abbrev pub home : {C : Type 0} → Judge C → Home
home J = record { id = J.module; name = J.home.now }

-- ---- endings
-- an ending keeps this at this place
abbrev pub KeepsAt : {A : Type 0} → ℕ → Ending Refusal Place A → Place → Kept → Type 0
KeepsAt n o p (Kept.premise c) = o ≡ Ending.fails (refused c p)
KeepsAt n o p (Kept.question_of b q) = (b ≡ n) × (o ≡ Ending.spent p q)
KeepsAt n o p Kept.nothing = ⊥

-- an ending is as a refusal says, where this stands; want of memory says nothing
abbrev pub RefusedSo : {A : Type 0} → ℕ → Ending Refusal Place A → (found expected : Entries) → ElabError → Type 0
RefusedSo n o G H (error.Refused d s r k) = KeepsAt n o (at s r k) (kept d) × (G ≡ H)
RefusedSo n o G H error.Memory = Unit {0}

-- from one stage to the next, or else what stands where the item is refused
abbrev pub Passes : Home → ℕ → Ending Refusal Place Stage → Entries → Stage → Result (Unit {0}) ElabError → Type 0
Passes M n o G T result =
    MatchResult result (λ u. o ≡ Ending.ok T) (λ e. RefusedSo n o T.globals G e)

-- one declaration
abbrev pub PassesOne : Home → ℕ → Stage → Declaration → Stage → Result (Unit {0}) ElabError → Type 0
PassesOne M n S d T result = Passes M n (within (env S.globals) n (declare M S d)) (standing M n S d) T result

-- declarations in turn, and the test behind the last one
abbrev pub PassesAll : Home → ℕ → Stage → List Declaration → Stage → Result (Unit {0}) ElabError → Type 0
PassesAll M n S ds T result = Passes M n (in_turn M n S ds) (standing_in_turn M n S ds) T result
