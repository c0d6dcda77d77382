-- Simultaneous substitution without capture: σ gives a term for each variable.
use Rattle.std.specs.Prelude.{ℕ, zero, suc, ◌+◌, ◌<◌, ◌-◌, max, List, Bool, eqb}
use Rattle.qtt_term.specs.Term.{binders, first, rest, Term, Terms, var, node, ε, ◌▸◌, Sort}

abbrev pub lift_ren : (ℕ → ℕ) → ℕ → ℕ
lift_ren ρ zero = zero
lift_ren ρ (suc i) = suc (ρ i)

abbrev pub lifts_ren : ℕ → (ℕ → ℕ) → ℕ → ℕ
lifts_ren zero ρ = ρ
lifts_ren (suc n) ρ = lifts_ren n (lift_ren ρ)

-- each variable renamed
abbrev mutual
  pub ren : (ℕ → ℕ) → Term → Term
  ren ρ (var i) = var (ρ i)
  ren ρ (node F ts) = node F (rens (binders F) ρ ts)

  pub rens : List ℕ → (ℕ → ℕ) → Terms → Terms
  rens ns ρ ε = ε
  rens ns ρ (t ▸ ts) = ren (lifts_ren (first ns) ρ) t ▸ rens (rest ns) ρ ts

-- a substitution under one more binder
abbrev pub lift : (ℕ → Term) → ℕ → Term
lift σ zero = var zero
lift σ (suc i) = ren suc (σ i)

abbrev pub lifts : ℕ → (ℕ → Term) → ℕ → Term
lifts zero σ = σ
lifts (suc n) σ = lifts n (lift σ)

abbrev mutual
  pub sub : (ℕ → Term) → Term → Term
  sub σ (var i) = σ i
  sub σ (node F ts) = node F (subs (binders F) σ ts)

  pub subs : List ℕ → (ℕ → Term) → Terms → Terms
  subs ns σ ε = ε
  subs ns σ (t ▸ ts) = sub (lifts (first ns) σ) t ▸ subs (rest ns) σ ts

-- a term for variable 0, and σ for the others
abbrev pub cons : Term → (ℕ → Term) → ℕ → Term
cons a σ zero = a
cons a σ (suc i) = σ i

-- terms for the newest variables, the last of them for variable 0
abbrev pub push : Terms → (ℕ → Term) → ℕ → Term
push ε σ = σ
push (a ▸ ts) σ = push ts (cons a σ)

-- the newest variable replaced
abbrev pub inst : Term → Term → Term
inst b a = sub (cons a var) b

-- a variable under n more binders
abbrev pub shift : ℕ → ℕ → ℕ
shift zero i = i
shift (suc n) i = suc (shift n i)

-- so many variables above the newest m, the outermost first
abbrev pub above : ℕ → ℕ → Terms
above m zero = ε
above m (suc k) = var (shift m k) ▸ above m k

-- what a signature says of a variable that it does not bind
abbrev pub closed : ℕ → Term
closed i = Sort 0

-- every free variable is below n
abbrev mutual
  pub Below : ℕ → Term → Type 0
  Below n (var i) = i < n
  Below n (node F ts) = AllBelow (binders F) n ts

  pub AllBelow : List ℕ → ℕ → Terms → Type 0
  AllBelow ns n ε = Unit {0}
  AllBelow ns n (t ▸ ts) = Below (first ns + n) t × AllBelow (rest ns) n ts

-- no variable is free
abbrev pub Closed : Term → Type 0
Closed t = Below 0 t

-- one more than the greatest variable that is free, and 0 where none is
abbrev mutual
  pub reach : Term → ℕ
  reach (var i) = suc i
  reach (node F ts) = reaches (binders F) ts

  pub reaches : List ℕ → Terms → ℕ
  reaches ns ε = 0
  reaches ns (t ▸ ts) = max (reach t - first ns) (reaches (rest ns) ts)

abbrev pub is_closed : Term → Bool
is_closed t = eqb (reach t) 0
