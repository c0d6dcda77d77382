-- Whether a split binds a variable again.
use Rattle.std.specs.Prelude.{ℕ, Bool, ◌&&◌, ◌||◌, not, List}
use Rattle.qtt_term.specs.Judgement.{Ctx, mult_at, type_at}
use Rattle.qtt_unify.specs.Targets.{is_linear}
use Rattle.qtt_split.specs.Branch.{is_among, mentions_some}

-- it does not stay, and it is linear, or its type mentions one that is touched
abbrev pub goes_along : Ctx → List ℕ → List ℕ → ℕ → Bool
goes_along Γ stay touched v = not (is_among v stay) && (is_linear (mult_at Γ v) || mentions_some touched (type_at Γ v))
