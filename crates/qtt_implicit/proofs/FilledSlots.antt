-- What fills slots.
use Rattle.std.proofs.Common.{◌≡◌, ◌∙◌, refl, ap, sym, subst, ℕ, zero, suc, ◌-◌, ◌≤◌, arith, List, [], ◌∷◌, ◌++◌, map, length, reverse, take, drop, replicate, append_assoc, Option, Some, None, if◌then◌else◌, Bool, true, false, nat_eq}
use Rattle.std.proofs.lemmas.List.{reverse-append, reverse-reverse}
use Rattle.qtt_syntax.specs.declared.expr.Target.{Target}
use Rattle.qtt_syntax.specs.declared.expr.Target.TheVariants as target
use Rattle.qtt_syntax.specs.Tree.{Tree, Argument, Arguments}
use Rattle.qtt_syntax.specs.Tree.Tree.{name, apply, pi}
use Rattle.qtt_syntax.specs.Tree.Argument.{argument}
use Rattle.qtt_syntax.specs.Tree.Arguments.{no_argument, argument_and}
use Rattle.qtt_names.specs.Exports.{Sig}
use Rattle.qtt_implicit.specs.Matching.{Slots, fill_slot, fill_by, argument_count, matched, matched_argument, matched_arguments}
use Rattle.qtt_implicit.specs.Walk.{Given, slots_of, open_slots, given_to, brace_slots}

-- ---- slots that keep what fills them
abbrev pub Keeps : Slots → Slots → Type 0
Keeps [] [] = Unit {0}
Keeps [] (p ∷ τ) = ⊥
Keeps (o ∷ σ) [] = ⊥
Keeps (None ∷ σ) (p ∷ τ) = Keeps σ τ
Keeps (Some t ∷ σ) (p ∷ τ) = (p ≡ Some t) × Keeps σ τ

pub keeps_all : (σ : Slots) → Keeps σ σ
keeps_all [] = tt
keeps_all (None ∷ σ) = keeps_all σ
keeps_all (Some t ∷ σ) = (refl, keeps_all σ)

keeps_then : (ρ σ τ : Slots) → Keeps ρ σ → Keeps σ τ → Keeps ρ τ
keeps_then [] [] [] a b = tt
keeps_then [] [] (p ∷ τ) a b = b
keeps_then [] (o ∷ σ) τ a b = absurd a
keeps_then (n ∷ ρ) [] τ a b = absurd a
keeps_then (n ∷ ρ) (o ∷ σ) [] a b = absurd b
keeps_then (None ∷ ρ) (None ∷ σ) (p ∷ τ) a b = keeps_then ρ σ τ a b
keeps_then (None ∷ ρ) (Some t ∷ σ) (p ∷ τ) a b = keeps_then ρ σ τ a b.1
keeps_then (Some t ∷ ρ) (None ∷ σ) (p ∷ τ) a b = let e = a.0 in absurd cc
keeps_then (Some t ∷ ρ) (Some u ∷ σ) (p ∷ τ) a b = (b.0 ∙ a.0, keeps_then ρ σ τ a.1 b.1)

keeps-append : (σ τ ρ π : Slots) → Keeps σ τ → Keeps ρ π → Keeps (σ ++ ρ) (τ ++ π)
keeps-append [] [] ρ π a b = b
keeps-append [] (p ∷ τ) ρ π a b = absurd a
keeps-append (o ∷ σ) [] ρ π a b = absurd a
keeps-append (None ∷ σ) (p ∷ τ) ρ π a b = keeps-append σ τ ρ π a b
keeps-append (Some t ∷ σ) (p ∷ τ) ρ π a b = (a.0, keeps-append σ τ ρ π a.1 b)

reverse_more : (o : Option Tree) (σ : Slots) → reverse (o ∷ σ) ≡ reverse σ ++ o ∷ []
reverse_more o σ = reverse-append (o ∷ []) σ

keeps_reversed : (σ τ : Slots) → Keeps σ τ → Keeps (reverse σ) (reverse τ)
keeps_reversed [] [] a = tt
keeps_reversed [] (p ∷ τ) a = absurd a
keeps_reversed (o ∷ σ) [] a = absurd a
keeps_reversed (None ∷ σ) (p ∷ τ) a =
    rw (reverse_more None σ, reverse_more p τ)
    (keeps-append (reverse σ) (reverse τ) (None ∷ []) (p ∷ []) (keeps_reversed σ τ a) tt)
keeps_reversed (Some t ∷ σ) (p ∷ τ) a =
    rw (reverse_more (Some t) σ, reverse_more p τ)
    (keeps-append (reverse σ) (reverse τ) (Some t ∷ []) (p ∷ []) (keeps_reversed σ τ a.1) (a.0, tt))

-- ---- matching keeps what fills slots
fill_slot_keeps : (i : ℕ) (u : Tree) (σ : Slots) → Keeps σ (fill_slot i u σ)
fill_slot_keeps i u [] = tt
fill_slot_keeps zero u (None ∷ σ) = keeps_all σ
fill_slot_keeps zero u (Some t ∷ σ) = (refl, keeps_all σ)
fill_slot_keeps (suc i) u (None ∷ σ) = fill_slot_keeps i u σ
fill_slot_keeps (suc i) u (Some t ∷ σ) = (refl, fill_slot_keeps i u σ)

fill_by_keeps : (t : Target) (u : Tree) (σ : Slots) → Keeps σ (fill_by t u σ)
fill_by_keeps (target.Local i) u σ = fill_slot_keeps i u σ
fill_by_keeps (target.Global id) u σ = keeps_all σ
fill_by_keeps target.Unknown u σ = keeps_all σ

mutual
  matched_keeps : (p u : Tree) (σ : Slots) → Keeps σ (matched p u σ)
  matched_keeps (name n) u σ = fill_by_keeps n.target u σ
  matched_keeps (apply f xs s) (apply g ys t) σ =
      by (nat_eq (argument_count xs) (argument_count ys))
      (keeps_then σ (matched f g σ) (matched_arguments xs ys (matched f g σ)) (matched_keeps f g σ)
      (arguments_keep xs ys (matched f g σ)))
    where
      by : (b : Bool) → Keeps σ (matched_arguments xs ys (matched f g σ)) →
          Keeps σ (if b then matched_arguments xs ys (matched f g σ) else σ)
      by true k = k
      by false k = keeps_all σ
  matched_keeps (apply f xs s) u σ = keeps_all σ
  matched_keeps p u σ = keeps_all σ

  argument_keeps : (a b : Argument) (σ : Slots) → Keeps σ (matched_argument a b σ)
  argument_keeps (argument k p) (argument l u) σ = matched_keeps p u σ

  arguments_keep : (xs ys : Arguments) (σ : Slots) → Keeps σ (matched_arguments xs ys σ)
  arguments_keep (argument_and a more) (argument_and b others) σ =
      keeps_then σ (matched_argument a b σ) (matched_arguments more others (matched_argument a b σ))
      (argument_keeps a b σ) (arguments_keep more others (matched_argument a b σ))
  arguments_keep (argument_and a more) no_argument σ = keeps_all σ
  arguments_keep no_argument ys σ = keeps_all σ

-- arguments put slots of their own in front
abbrev pub Grown : Slots → Slots → Type 0
Grown σ ρ = (more : Slots) × ((τ : Slots) × ((ρ ≡ more ++ τ) × Keeps σ τ))

grown_by : (o : Option Tree) (σ ρ π : Slots) → Keeps σ ρ → Grown (o ∷ ρ) π → Grown σ π
grown_by o σ ρ π k (more, ([], (e, h))) = absurd (none o h)
  where
    none : (o : Option Tree) → Keeps (o ∷ ρ) [] → ⊥
    none None h = h
    none (Some t) h = h
grown_by o σ ρ π k (more, (p ∷ τ, (e, h))) =
    (more ++ p ∷ [], (τ, (e ∙ sym (append_assoc more (p ∷ []) τ), keeps_then σ ρ τ k (rest o h))))
  where
    rest : (o : Option Tree) → Keeps (o ∷ ρ) (p ∷ τ) → Keeps ρ τ
    rest None h = h
    rest (Some t) h = h.1

unchanged : (σ : Slots) → Grown σ σ
unchanged σ = ([], (σ, (refl, keeps_all σ)))

given_keeps : (σ : Slots) (T : Tree) (xs : List Given) → Grown σ (given_to σ T xs).0
given_keeps σ (pi k m n a b s) (x ∷ xs) =
    grown_by (Some x.tree) σ (matched a x.type σ) _ (matched_keeps a x.type σ)
    (given_keeps (Some x.tree ∷ matched a x.type σ) b xs)
given_keeps σ T xs = unchanged σ

-- ---- the first slots in braces
abbrev pub Begins : List Tree → List (Option Tree) → Type 0
Begins [] os = Unit {0}
Begins (t ∷ ts) [] = ⊥
Begins (t ∷ ts) (o ∷ os) = (o ≡ Some t) × Begins ts os

begins_front : (ts : List Tree) (rest τ more : Slots) → Keeps (map (λ t. Some t) ts ++ rest) τ →
    Begins ts (τ ++ more)
begins_front [] rest τ more k = tt
begins_front (t ∷ ts) rest [] more k = absurd k
begins_front (t ∷ ts) rest (p ∷ τ) more k = (k.0, begins_front ts rest τ more k.1)

begins_behind : (p : ℕ) (ts : List Tree) (rest τ more : Slots) →
    Keeps (replicate p None ++ (map (λ t. Some t) ts ++ rest)) τ → Begins ts (drop p (τ ++ more))
begins_behind zero ts rest τ more k = begins_front ts rest τ more k
begins_behind (suc p) ts rest [] more k = absurd k
begins_behind (suc p) ts rest (o ∷ τ) more k = begins_behind p ts rest τ more k

begins_taken : (n : ℕ) (ts : List Tree) (os : List (Option Tree)) → length ts ≤ n → Begins ts os → Begins ts (take n os)
begins_taken n [] os h b = tt
begins_taken n (t ∷ ts) [] h b = absurd b
begins_taken zero (t ∷ ts) (o ∷ os) h b = absurd (omega arith)
begins_taken (suc n) (t ∷ ts) (o ∷ os) h b = (b.0, begins_taken n ts os (omega arith) b.1)

-- the slots of the binders in braces begin with what was written in braces
pub begins : (S : Sig) (ts : List Tree) (T : Tree) (xs : List Given) → length ts ≤ S.braces →
    Begins ts (brace_slots S (given_to (open_slots S ts) T xs).0)
begins S ts T xs h = by (given_keeps (open_slots S ts) T xs)
  where
    by : Grown (open_slots S ts) (given_to (open_slots S ts) T xs).0 →
        Begins ts (brace_slots S (given_to (open_slots S ts) T xs).0)
    by (more, (τ, (e, k))) =
        let in_order : Slots = replicate S.params None ++ slots_of S.braces ts in
        let kept : Keeps in_order (reverse τ) =
        subst (λ (σ : Slots). Keeps σ (reverse τ)) (reverse-reverse in_order) (keeps_reversed (reverse in_order) τ k) in
        let all : reverse (given_to (open_slots S ts) T xs).0 ≡ reverse τ ++ reverse more =
        ap reverse e ∙ reverse-append more τ in
        begins_taken S.braces ts _ h
        (subst (λ (σ : Slots). Begins ts (drop S.params σ)) (sym all)
        (begins_behind S.params ts (replicate (S.braces - length ts) None) (reverse τ) (reverse more) kept))

-- ---- a name without an argument
abbrev pub AllOpen : Slots → Type 0
AllOpen [] = Unit {0}
AllOpen (None ∷ σ) = AllOpen σ
AllOpen (Some t ∷ σ) = ⊥

open_replicate : (n : ℕ) → AllOpen (replicate n None)
open_replicate zero = tt
open_replicate (suc n) = open_replicate n

open-append : (σ τ : Slots) → AllOpen σ → AllOpen τ → AllOpen (σ ++ τ)
open-append [] τ a b = b
open-append (None ∷ σ) τ a b = open-append σ τ a b
open-append (Some t ∷ σ) τ a b = absurd a

open_taken : (n : ℕ) (σ : Slots) → AllOpen σ → AllOpen (take n σ)
open_taken zero σ a = tt
open_taken (suc n) [] a = tt
open_taken (suc n) (None ∷ σ) a = open_taken n σ a
open_taken (suc n) (Some t ∷ σ) a = absurd a

open_dropped : (n : ℕ) (σ : Slots) → AllOpen σ → AllOpen (drop n σ)
open_dropped zero σ a = a
open_dropped (suc n) [] a = tt
open_dropped (suc n) (None ∷ σ) a = open_dropped n σ a
open_dropped (suc n) (Some t ∷ σ) a = absurd a

nothing_given : (σ : Slots) (T : Tree) → (given_to σ T []).0 ≡ σ
nothing_given σ (pi k m n a b s) = refl
nothing_given σ T = refl

-- the slots of the binders in braces are open
pub open_alone : (S : Sig) (T : Tree) → AllOpen (brace_slots S (given_to (open_slots S []) T []).0)
open_alone S T =
    let slots : Slots = replicate S.params None ++ replicate (S.braces - 0) None in
    let same : reverse (given_to (open_slots S []) T []).0 ≡ slots =
    ap reverse (nothing_given (open_slots S []) T) ∙ reverse-reverse slots in
    open_taken S.braces _ (open_dropped S.params _
    (subst AllOpen (sym same)
    (open-append (replicate S.params None) (replicate (S.braces - 0) None) (open_replicate S.params)
    (open_replicate (S.braces - 0)))))
