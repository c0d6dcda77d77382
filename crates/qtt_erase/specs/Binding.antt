-- Abstract binding trees: a variable, or an operator with its components, each under so many binders as the
-- operator says. Variables are de Bruijn indices.
use Rattle.std.specs.Prelude.{ℕ, zero, suc, ◌+◌, ◌<◌, List}
use Rattle.qtt_term.specs.Term.{first, rest}
use Rattle.qtt_term.specs.Substitution.{lifts_ren}

infixr 50 ◌◂◌
mutual
  pub data Tree (O : Type 0) : Type 0 where
    var : ℕ → Tree O
    node : O → Trees O → Tree O

  pub data Trees (O : Type 0) : Type 0 where
    ∅ : Trees O
    ◌◂◌ : Tree O → Trees O → Trees O

abbrev pub size : {O : Type 0} → Trees O → ℕ
size ∅ = 0
size (t ◂ ts) = suc (size ts)

infixr 50 ◌◂◂◌
abbrev pub ◌◂◂◌ : {O : Type 0} → Trees O → Trees O → Trees O
∅ ◂◂ us = us
(t ◂ ts) ◂◂ us = t ◂ (ts ◂◂ us)

-- a term for variable 0, and σ for the others
abbrev pub cons : {O : Type 0} → Tree O → (ℕ → Tree O) → ℕ → Tree O
cons a σ zero = a
cons a σ (suc i) = σ i

-- terms for the newest variables, the last of them for variable 0
abbrev pub push : {O : Type 0} → Trees O → (ℕ → Tree O) → ℕ → Tree O
push ∅ σ = σ
push (a ◂ ts) σ = push ts (cons a σ)

-- ---- simultaneous substitution without capture, where an operator has these binders, and none past the end
module _ {O : Type 0} (binders : O → List ℕ) where
  -- each variable renamed
  abbrev mutual
    pub ren : (ℕ → ℕ) → Tree O → Tree O
    ren ρ (Tree.var i) = Tree.var (ρ i)
    ren ρ (Tree.node F ts) = Tree.node F (rens (binders F) ρ ts)

    pub rens : List ℕ → (ℕ → ℕ) → Trees O → Trees O
    rens ns ρ ∅ = ∅
    rens ns ρ (t ◂ ts) = ren (lifts_ren (first ns) ρ) t ◂ rens (rest ns) ρ ts

  -- a substitution under one more binder
  abbrev pub lift : (ℕ → Tree O) → ℕ → Tree O
  lift σ zero = Tree.var zero
  lift σ (suc i) = ren suc (σ i)

  abbrev pub lifts : ℕ → (ℕ → Tree O) → ℕ → Tree O
  lifts zero σ = σ
  lifts (suc n) σ = lifts n (lift σ)

  abbrev mutual
    pub sub : (ℕ → Tree O) → Tree O → Tree O
    sub σ (Tree.var i) = σ i
    sub σ (Tree.node F ts) = Tree.node F (subs (binders F) σ ts)

    pub subs : List ℕ → (ℕ → Tree O) → Trees O → Trees O
    subs ns σ ∅ = ∅
    subs ns σ (t ◂ ts) = sub (lifts (first ns) σ) t ◂ subs (rest ns) σ ts

  -- the newest variable replaced
  abbrev pub inst : Tree O → Tree O → Tree O
  inst b a = sub (cons a Tree.var) b

  -- every free variable is below n
  abbrev mutual
    pub Below : ℕ → Tree O → Type 0
    Below n (Tree.var i) = i < n
    Below n (Tree.node F ts) = AllBelow (binders F) n ts

    pub AllBelow : List ℕ → ℕ → Trees O → Type 0
    AllBelow ns n ∅ = Unit {0}
    AllBelow ns n (t ◂ ts) = Below (first ns + n) t × AllBelow (rest ns) n ts
