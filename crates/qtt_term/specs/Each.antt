-- What holds of each form in a term, with the number of its components.
use Rattle.std.specs.Prelude.{ℕ, Bool, true, ◌&&◌}
use Rattle.qtt_term.specs.Term.{Form, Term, Terms, var, node, ε, ◌▸◌, size}

abbrev mutual
  pub Each : (Form → ℕ → Type 0) → Term → Type 0
  Each P (var i) = Unit {0}
  Each P (node F ts) = P F (size ts) × EachIn P ts

  pub EachIn : (Form → ℕ → Type 0) → Terms → Type 0
  EachIn P ε = Unit {0}
  EachIn P (t ▸ ts) = Each P t × EachIn P ts

-- the same of a test
abbrev mutual
  pub each : (Form → ℕ → Bool) → Term → Bool
  each p (var i) = true
  each p (node F ts) = p F (size ts) && each_in p ts

  pub each_in : (Form → ℕ → Bool) → Terms → Bool
  each_in p ε = true
  each_in p (t ▸ ts) = each p t && each_in p ts
