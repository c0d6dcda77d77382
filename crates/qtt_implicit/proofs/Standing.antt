-- What free local names stand for, slot by slot.
use Rattle.std.proofs.Common.{Result, Ok, Err, IfOk, ◌≡◌, ◌∙◌, refl, ap, sym, subst, ℕ, zero, suc, ◌+◌, ◌-◌, arith, Bool, true, false, [], ◌∷◌, ◌++◌, reverse, append_assoc, Option, Some, None, if◌then◌else◌, nat_eq}
use Rattle.std.proofs.lemmas.List.{reverse-append}
use Rattle.qtt_syntax.specs.declared.expr.Named.{Named}
use Rattle.qtt_syntax.specs.declared.expr.Target.{Target}
use Rattle.qtt_syntax.specs.declared.expr.Target.TheVariants as target
use Rattle.qtt_syntax.specs.Tree.{Tree}
use Rattle.qtt_syntax.specs.Tree.Tree.{name, number, text, universe, hole, the, apply, pi, lambda, letting, doing}
use Rattle.qtt_implicit.specs.Moving.{shifted, replaced_name, unknown_weight, weighed, is_known}
use Rattle.qtt_implicit.specs.Matching.{Slots, fill_slot, take_up}
use Rattle.qtt_implicit.specs.Nodes.{node_tree}
use Rattle.qtt_implicit.specs.Slots.{beyond, stands, seen, slot_list, shared_tree, weight, weight_of, one_node, IsSound, Resolves, Form, form, global_of, local_target, local_of, moved_slots}
use Rattle.qtt_implicit.specs.declared.filling.slots.Rest.{Rest}
use Rattle.qtt_implicit.specs.declared.filling.slots.Rest.TheVariants as rest
use Rattle.qtt_implicit.specs.declared.filling.slots.Shared.{Shared}
use Rattle.qtt_implicit.specs.declared.filling.weights.Weight.{Weight}
use Rattle.qtt_implicit.proofs.Moves.{free_stands, shifted_none, seen_moved, form_moved, weight_shifted}
use Rattle.qtt_implicit.proofs.Weights.{first_stands, later_stands}

-- ---- names that no slot fills
pub end_form : (r : Rest) (i m : ℕ) (n : Named) → form (shifted m (beyond r i n)) ≡ Form.named None
end_form r i m n = form_moved m 0 (beyond r i n) ∙ by r
  where
    by : (r : Rest) → form (beyond r i n) ≡ Form.named None
    by rest.Unknown = refl
    by (rest.Outer k) = refl

pub empty_form : (r : Rest) (σ : Slots) (i m : ℕ) (n : Named) → i ≡ 0 →
    form (shifted m (stands r (None ∷ σ) i n)) ≡ Form.named None
empty_form r σ i m n e = ap (λ (t : Tree). form (shifted m t)) (first_stands r None σ i n e)

pub later_resolves : (r : Rest) (o : Option Tree) (σ : Slots) (i j m : ℕ) (n : Named) (x : Option Shared) → i ≡ suc j →
    Resolves (shifted m (stands r σ j n)) x → Resolves (shifted m (stands r (o ∷ σ) i n)) x
later_resolves r o σ i j m n x e h =
    subst (λ (t : Tree). Resolves (shifted m t) x) (sym (later_stands r o σ i j n e)) h

pub first_resolves : (r : Rest) (t : Tree) (σ : Slots) (i m : ℕ) (n : Named) (s : Option Shared) → i ≡ 0 →
    Resolves (shifted m t) s → Resolves (shifted m (stands r (Some t ∷ σ) i n)) s
first_resolves r t σ i m n s e h =
    subst (λ (u : Tree). Resolves (shifted m u) s) (sym (first_stands r (Some t) σ i n e)) h

-- ---- trees that are no local names, and those that are
unlocal_name : (r : Rest) (m : ℕ) (σ : Slots) (n : Named) (t : Target) → n.target ≡ t → local_target t ≡ None →
    form (shifted m (replaced_name (stands r σ) 0 n t)) ≡ Form.named (global_of n.target)
unlocal_name r m σ n (target.Local i) h e = absurd cc
unlocal_name r m σ n (target.Global id) h e = form_moved m 0 (name n)
unlocal_name r m σ n target.Unknown h e = form_moved m 0 (name n)

pub unlocal_form : (r : Rest) (m : ℕ) (σ : Slots) (t : Tree) → local_of t ≡ None → form (seen r m σ t) ≡ form t
unlocal_form r m σ (name n) e = unlocal_name r m σ n n.target refl e
unlocal_form r m σ (number z s) e = refl
unlocal_form r m σ (text v s) e = refl
unlocal_form r m σ (universe l ls s) e = refl
unlocal_form r m σ (hole n s) e = refl
unlocal_form r m σ (the t v s) e = refl
unlocal_form r m σ (apply f xs s) e = refl
unlocal_form r m σ (pi k q n a b s) e = refl
unlocal_form r m σ (lambda bs b s) e = refl
unlocal_form r m σ (letting q n t v b s) e = refl
unlocal_form r m σ (doing ss s) e = refl

local_name : (r : Rest) (m : ℕ) (σ : Slots) (n : Named) (t : Target) (i : ℕ) → local_target t ≡ Some i →
    shifted m (replaced_name (stands r σ) 0 n t) ≡ shifted m (stands r σ i n)
local_name r m σ n (target.Local j) i e =
    let same : j ≡ i = cc in
    let none : j - 0 ≡ j = omega arith in
    ap (shifted m) (free_stands (stands r σ) 0 j n (omega arith) ∙ shifted_none (stands r σ (j - 0) n)
    ∙ ap (λ (k : ℕ). stands r σ k n) (none ∙ same))
local_name r m σ n (target.Global id) i e = absurd cc
local_name r m σ n target.Unknown i e = absurd cc

pub local_stands : (r : Rest) (m : ℕ) (σ : Slots) (t : Tree) (i : ℕ) → local_of t ≡ Some i →
    (n : Named) × (seen r m σ t ≡ shifted m (stands r σ i n))
local_stands r m σ (name n) i e = (n, local_name r m σ n n.target i e)
local_stands r m σ (number z s) i e = absurd cc
local_stands r m σ (text v s) i e = absurd cc
local_stands r m σ (universe l ls s) i e = absurd cc
local_stands r m σ (hole n s) i e = absurd cc
local_stands r m σ (the t v s) i e = absurd cc
local_stands r m σ (apply f xs s) i e = absurd cc
local_stands r m σ (pi k q n a b s) i e = absurd cc
local_stands r m σ (lambda bs b s) i e = absurd cc
local_stands r m σ (letting q n t v b s) i e = absurd cc
local_stands r m σ (doing ss s) i e = absurd cc

local_target_form : (t : Target) (i : ℕ) → local_target t ≡ Some i → Form.named (global_of t) ≡ Form.named None
local_target_form (target.Local j) i e = refl
local_target_form (target.Global id) i e = absurd cc
local_target_form target.Unknown i e = absurd cc

pub local_form : (t : Tree) (i : ℕ) → local_of t ≡ Some i → form t ≡ Form.named None
local_form (name n) i e = local_target_form n.target i e
local_form (number z s) i e = absurd cc
local_form (text v s) i e = absurd cc
local_form (universe l ls s) i e = absurd cc
local_form (hole n s) i e = absurd cc
local_form (the t v s) i e = absurd cc
local_form (apply f xs s) i e = absurd cc
local_form (pi k q n a b s) i e = absurd cc
local_form (lambda bs b s) i e = absurd cc
local_form (letting q n t v b s) i e = absurd cc
local_form (doing ss s) i e = absurd cc

-- ---- what a text type is, from what its name stands for
pub resolves_itself : (s : Shared) → IsSound s.slots.now → local_of (node_tree s.tree.now) ≡ None →
    Resolves (shared_tree s) (Some s)
resolves_itself s h e = (refl, (h, sym (unlocal_form s.rest s.moved (slot_list s.slots.now) (node_tree s.tree.now) e)))

pub resolves_unfilled : (s : Shared) (i : ℕ) → IsSound s.slots.now → local_of (node_tree s.tree.now) ≡ Some i →
    ((r : Rest) (n : Named) → Resolves (shifted s.moved (stands r (slot_list s.slots.now) i n)) None) →
    Resolves (shared_tree s) (Some s)
resolves_unfilled s i h e all =
    let (n, same) = local_stands s.rest s.moved (slot_list s.slots.now) (node_tree s.tree.now) i e in
    (refl, (h, local_form (node_tree s.tree.now) i e ∙ sym (all s.rest n) ∙ sym (ap form same)))

pub resolves_filled : (s t : Shared) (i : ℕ) → local_of (node_tree s.tree.now) ≡ Some i →
    ((r : Rest) (n : Named) → Resolves (shifted s.moved (stands r (slot_list s.slots.now) i n)) (Some t)) →
    Resolves (shared_tree s) (Some t)
resolves_filled s t i e all =
    let (n, same) = local_stands s.rest s.moved (slot_list s.slots.now) (node_tree s.tree.now) i e in
    subst (λ (u : Tree). Resolves u (Some t)) (sym same) (all s.rest n)

-- ---- slots that are filled
pub fill_first : (u : Tree) (o : Option Tree) (σ : Slots) (i : ℕ) → i ≡ 0 →
    fill_slot i u (o ∷ σ) ≡ take_up u o ∷ σ
fill_first u o σ zero e = refl
fill_first u o σ (suc i) e = absurd (omega arith)

pub fill_later : (u : Tree) (o : Option Tree) (σ : Slots) (i j : ℕ) → i ≡ suc j →
    fill_slot i u (o ∷ σ) ≡ o ∷ fill_slot j u σ
fill_later u o σ i j e = ap (λ (k : ℕ). fill_slot k u (o ∷ σ)) e

weight_known : (n u : ℕ) → (weight n u).known ≡ nat_eq u 0
unfolding weight
weight_known n u = refl

pub known_weight : (w : Weight) (t : Tree) → w ≡ weight_of t → w.known ≡ is_known t
known_weight w t e =
    ap (λ (v : Weight). v.known) e ∙ weight_known (weighed one_node t) (weighed unknown_weight t)

pub moved_none : (σ : Slots) → moved_slots 0 σ ≡ σ
moved_none [] = refl
moved_none (None ∷ σ) = ap (λ (τ : Slots). None ∷ τ) (moved_none σ)
moved_none (Some t ∷ σ) =
    ap (λ (τ : Slots). Some (shifted 0 t) ∷ τ) (moved_none σ) ∙ ap (λ (u : Tree). Some u ∷ σ) (shifted_none t)

pub turned_more : (o : Option Tree) (σ τ : Slots) → reverse (o ∷ σ) ++ τ ≡ reverse σ ++ o ∷ τ
turned_more o σ τ =
    ap (λ (ρ : Slots). ρ ++ τ) (reverse-append (o ∷ []) σ) ∙ append_assoc (reverse σ) (o ∷ []) τ

-- a text type that stands in a slot, behind more binders
pub moved_resolves : (s : Shared) (m k : ℕ) (x : Option Shared) → s.moved ≡ m + k → Resolves (shared_tree s) x →
    Resolves (shifted k (seen s.rest m (slot_list s.slots.now) (node_tree s.tree.now))) x
moved_resolves s m k x e h =
    subst (λ (u : Tree). Resolves u x)
    (ap (λ (d : ℕ). seen s.rest d (slot_list s.slots.now) (node_tree s.tree.now)) e
    ∙ sym (seen_moved s.rest m k (slot_list s.slots.now) (node_tree s.tree.now))) h

-- a slot that is moved, and its weight
pub moved_slot_more : (r : Rest) (m k d : ℕ) (σ : Slots) (t : Tree) (w : Weight) → d ≡ m + k →
    w ≡ weight_of (seen r m σ t) → (seen r d σ t ≡ shifted k (seen r m σ t)) × (w ≡ weight_of (seen r d σ t))
moved_slot_more r m k d σ t w e h =
    let same = ap (λ (x : ℕ). seen r x σ t) e ∙ sym (seen_moved r m k σ t) in
    (same, h ∙ sym (weight_shifted k (seen r m σ t)) ∙ sym (ap weight_of same))

-- a slot takes what is known
pub taken : (u : Tree) (σ : Slots) (i : ℕ) → i ≡ 0 → is_known u ≡ true → fill_slot i u (None ∷ σ) ≡ Some u ∷ σ
taken u σ i e k =
    fill_first u None σ i e
    ∙ ap (λ (b : Bool). (if b then Some u else None) ∷ σ) k

pub not_taken : (u : Tree) (σ : Slots) (i : ℕ) → i ≡ 0 → is_known u ≡ false → fill_slot i u (None ∷ σ) ≡ None ∷ σ
not_taken u σ i e k =
    fill_first u None σ i e
    ∙ ap (λ (b : Bool). (if b then Some u else None) ∷ σ) k

-- ---- what holds of a value that there is
pub if_ok : {A E : Type 0} (r : Result A E) (P Q : A → Type 0) → ((a : A) → P a → Q a) → IfOk r P → IfOk r Q
if_ok (Ok a) P Q f h = f a h
if_ok (Err e) P Q f h = h
