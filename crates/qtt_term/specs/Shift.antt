-- Raised variables, and what stands for a variable that terms are put in for.
use Rattle.std.specs.Prelude.{ℕ, ◌+◌, if◌then◌else◌, nat_lt, List}
use Rattle.qtt_term.specs.Term.{Term, var}
use Rattle.qtt_term.specs.declared.substitution.Beyond.{Beyond}
use Rattle.qtt_term.specs.declared.substitution.Beyond.TheVariants as beyond
use Rattle.qtt_term.specs.Substitution.{ren, sub, lifts_ren, lifts, push, closed}
use Rattle.qtt_term.specs.View.{side_by_side}

-- every variable from `from` on, raised by `by`
unfoldable pub raised : ℕ → ℕ → ℕ → ℕ
raised from by i = if nat_lt i from then i else i + by

-- the values for the newest variables, the last of them for variable 0
abbrev pub values_in : List Term → ℕ → Term
values_in vs = push (side_by_side vs) var

-- values for all variables that a signature binds, the last of them for variable 0
abbrev pub signature_values : List Term → ℕ → Term
signature_values vs = push (side_by_side vs) closed

-- what stands for a variable beyond the values
abbrev pub term_beyond : Beyond → ℕ → Term
term_beyond beyond.Kept = var
term_beyond beyond.Unbound = closed

abbrev pub values_or : Beyond → List Term → ℕ → Term
values_or b vs = push (side_by_side vs) (term_beyond b)

-- branches with the number of their binders
abbrev pub ren_branch : (ℕ → ℕ) → ℕ × Term → ℕ × Term
ren_branch ρ b = (b.0, ren (lifts_ren b.0 ρ) b.1)

abbrev pub sub_branch : (ℕ → Term) → ℕ × Term → ℕ × Term
sub_branch σ b = (b.0, sub (lifts b.0 σ) b.1)
