-- Slots of a signature, and how arguments fill them. A text type is a tree in which parts may be unknown; a type of
-- a signature is matched with the text type of an argument.
use Rattle.std.specs.Prelude.{ℕ, zero, suc, nat_eq, if◌then◌else◌, List, [], ◌∷◌, Option, Some, None, slice_get}
use Rattle.qtt_syntax.specs.declared.expr.Named.{Named}
use Rattle.qtt_syntax.specs.declared.expr.Target.{Target}
use Rattle.qtt_syntax.specs.declared.expr.Target.TheVariants as target
use Rattle.qtt_syntax.specs.Tree.{Tree, Argument, Arguments}
use Rattle.qtt_syntax.specs.Tree.Tree.{name, apply, pi}
use Rattle.qtt_syntax.specs.Tree.Argument.{argument}
use Rattle.qtt_syntax.specs.Tree.Arguments.{no_argument, argument_and}
use Rattle.qtt_implicit.specs.Moving.{replaced, unknown, is_known, at_binder}

-- For each binder of a signature so far, the newest first, the expression that stands for it where the name is used,
-- or None for a slot that is not filled.
abbrev pub Slots : Type 0
Slots = List (Option Tree)

abbrev pub slot_tree : Option (Option Tree) → Tree
slot_tree (Some (Some t)) = t
slot_tree _ = unknown

-- a type of the signature where the name is used: a slot that is not filled is unknown
abbrev pub instance : Slots → Tree → Tree
instance σ = replaced (λ i n. slot_tree (slice_get σ i))

-- an unfilled slot takes what has no unknown part
abbrev pub take_up : Tree → Option Tree → Option Tree
take_up u (Some t) = Some t
take_up u None = if is_known u then Some u else None

abbrev pub fill_slot : ℕ → Tree → Slots → Slots
fill_slot i u [] = []
fill_slot zero u (s ∷ σ) = take_up u s ∷ σ
fill_slot (suc i) u (s ∷ σ) = s ∷ fill_slot i u σ

abbrev pub fill_by : Target → Tree → Slots → Slots
fill_by (target.Local i) u σ = fill_slot i u σ
fill_by (target.Global id) u σ = σ
fill_by target.Unknown u σ = σ

abbrev pub argument_count : Arguments → ℕ
argument_count no_argument = 0
argument_count (argument_and a more) = suc (argument_count more)

abbrev mutual
  -- two applications of as many arguments are matched part by part; everything else than a slot fills nothing
  pub matched : Tree → Tree → Slots → Slots
  matched (name n) u σ = fill_by n.target u σ
  matched (apply f xs s) (apply g ys t) σ =
      if nat_eq (argument_count xs) (argument_count ys) then matched_arguments xs ys (matched f g σ) else σ
  matched _ _ σ = σ

  pub matched_argument : Argument → Argument → Slots → Slots
  matched_argument (argument k p) (argument l u) σ = matched p u σ

  pub matched_arguments : Arguments → Arguments → Slots → Slots
  matched_arguments (argument_and a more) (argument_and b others) σ =
      matched_arguments more others (matched_argument a b σ)
  matched_arguments _ _ σ = σ

-- ---- types of functions
-- the argument replaces the newest binder
abbrev pub newest : Tree → ℕ → Named → Tree
newest x zero n = x
newest x (suc i) n = at_binder i n

-- the codomain of a function type, in which the argument replaces its binder; else unknown
abbrev pub codomain : Tree → Tree → Tree
codomain (pi k m n a b s) x = replaced (newest x) b
codomain _ x = unknown

abbrev pub codomains : Tree → List Tree → Tree
codomains t [] = t
codomains t (x ∷ xs) = codomains (codomain t x) xs
