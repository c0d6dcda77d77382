-- What calls that judge modules answer.
use Rattle.std.specs.Prelude.{◌≡◌, List, ℕ, Result, Ok, Err}
use Rattle.qtt_term.specs.Entries.{Entries}
use Rattle.qtt_rules.specs.declared.errors.ElabError.{ElabError}
use Rattle.qtt_rules.specs.declared.errors.ElabError.TheVariants as elab
use Rattle.qtt_rules.specs.Refusal.{at}
use Rattle.qtt_diag.specs.Kept.{detail}
use Rattle.qtt_module.specs.declared.errors.ModuleError.{ModuleError}
use Rattle.qtt_module.specs.declared.errors.ModuleError.TheVariants as error
use Rattle.qtt_module.specs.Refused.{Refused, refused_of, Answer, refused_at}

-- the answer is this value, or this refusal; of want of memory nothing is said
abbrev pub Gives : {A X : Type 0} → (X → A) → Result X ModuleError → Answer A → Type 0
Gives view (Ok x) answer = answer ≡ Ok (view x)
Gives view (Err (error.Refused r)) answer = answer ≡ Err (refused_of r)
Gives view (Err error.Memory) answer = Unit {0}

-- it is this refusal, or want of memory
abbrev pub Says : Refused → ModuleError → Type 0
Says r (error.Refused x) = refused_of x ≡ r
Says r error.Memory = Unit {0}

-- this holds of the refusal, where the module is refused
abbrev pub WhereRefused : {X : Type 0} → Result X ModuleError → (Refused → Type 0) → Type 0
WhereRefused (Ok x) P = Unit {0}
WhereRefused (Err (error.Refused r)) P = P (refused_of r)
WhereRefused (Err error.Memory) P = Unit {0}

-- a refusal at a place of the module M, of what an error keeps, where these families and definitions stand; or want of
-- memory
abbrev pub Tells : List ℕ → Entries → ModuleError → ElabError → Type 0
Tells M G (error.Refused x) (elab.Refused d s r k) = refused_of x ≡ refused_at M G (at s r k) (detail d)
Tells M G (error.Refused x) elab.Memory = ⊥
Tells M G error.Memory e = Unit {0}
