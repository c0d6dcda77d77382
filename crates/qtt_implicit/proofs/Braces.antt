-- The slots of a signature, and its chain of binders.
use Rattle.std.proofs.Common.{◌≡◌, ◌∙◌, refl, ap, sym, ℕ, zero, suc, ◌+◌, ◌-◌, ◌<◌, arith, false, List, [], ◌∷◌, ◌++◌, map, reverse, replicate, take, length, append_assoc, sum_by, Option, Some, None}
use mathlib.Core.Path.{ap₂}
use Rattle.std.specs.Prelude.{min}
use Rattle.std.proofs.lemmas.List.{reverse-append, append-nil}
use Rattle.qtt_base.specs.declared.place.Span.{Span}
use Rattle.qtt_syntax.specs.declared.expr.Mark.TheVariants.{Braced, Inserted}
use Rattle.qtt_syntax.specs.Tree.{Tree}
use Rattle.qtt_syntax.specs.Tree.Tree.{name, number, text, universe, hole, the, apply, pi, lambda, letting, doing}
use Rattle.qtt_syntax.specs.Tree.Argument.{argument}
use Rattle.qtt_implicit.specs.Moving.{placed, nodes}
use Rattle.qtt_implicit.specs.Matching.{Slots}
use Rattle.qtt_implicit.specs.Walk.{behind_binders, binder_names, slots_of, inserted_nodes}
use Rattle.qtt_implicit.specs.Slots.{form, weight, weight_of}
use Rattle.qtt_implicit.specs.Solving.{solved}
use Rattle.qtt_implicit.specs.declared.filling.weights.Weight.{Weight}
use Rattle.qtt_implicit.proofs.Matched.{form_function}
use Rattle.qtt_implicit.proofs.Moves.{nodes_placed}
use Rattle.qtt_implicit.proofs.SeenSignatures.{sum_more}

-- ---- chains
pub behind_no_function : (k : ℕ) (t : Tree) → form_function (form t) ≡ false → behind_binders k t ≡ t
behind_no_function zero t e = refl
behind_no_function (suc k) (name n) e = refl
behind_no_function (suc k) (number z s) e = refl
behind_no_function (suc k) (text v s) e = refl
behind_no_function (suc k) (universe l ls s) e = refl
behind_no_function (suc k) (hole n s) e = refl
behind_no_function (suc k) (the t v s) e = refl
behind_no_function (suc k) (apply f xs s) e = refl
behind_no_function (suc k) (pi m q n a b s) e = absurd cc
behind_no_function (suc k) (lambda bs b s) e = refl
behind_no_function (suc k) (letting m n t v b s) e = refl
behind_no_function (suc k) (doing ss s) e = refl

stays : (p b : ℕ) (t : Tree) → form_function (form t) ≡ false →
    behind_binders (p + b) t ≡ behind_binders b (behind_binders p t)
stays p b t e =
    behind_no_function (p + b) t e ∙ sym (behind_no_function b t e)
    ∙ ap (behind_binders b) (sym (behind_no_function p t e))

pub behind_both : (p b : ℕ) (t : Tree) → behind_binders (p + b) t ≡ behind_binders b (behind_binders p t)
behind_both zero b t = let e : 0 + b ≡ b = omega arith in ap (λ (k : ℕ). behind_binders k t) e
behind_both (suc p) b (pi m q n a c s) =
    let e : suc p + b ≡ suc (p + b) = omega arith in
    ap (λ (k : ℕ). behind_binders k (pi m q n a c s)) e ∙ behind_both p b c
behind_both (suc p) b (name n) = stays (suc p) b (name n) refl
behind_both (suc p) b (number z s) = stays (suc p) b (number z s) refl
behind_both (suc p) b (text v s) = stays (suc p) b (text v s) refl
behind_both (suc p) b (universe l ls s) = stays (suc p) b (universe l ls s) refl
behind_both (suc p) b (hole n s) = stays (suc p) b (hole n s) refl
behind_both (suc p) b (the t v s) = stays (suc p) b (the t v s) refl
behind_both (suc p) b (apply f xs s) = stays (suc p) b (apply f xs s) refl
behind_both (suc p) b (lambda bs c s) = stays (suc p) b (lambda bs c s) refl
behind_both (suc p) b (letting m n t v c s) = stays (suc p) b (letting m n t v c s) refl
behind_both (suc p) b (doing ss s) = stays (suc p) b (doing ss s) refl

pub no_names : (k : ℕ) (t : Tree) → form_function (form t) ≡ false → binder_names k t ≡ []
no_names zero t e = refl
no_names (suc k) (name n) e = refl
no_names (suc k) (number z s) e = refl
no_names (suc k) (text v s) e = refl
no_names (suc k) (universe l ls s) e = refl
no_names (suc k) (hole n s) e = refl
no_names (suc k) (the t v s) e = refl
no_names (suc k) (apply f xs s) e = refl
no_names (suc k) (pi m q n a b s) e = absurd cc
no_names (suc k) (lambda bs b s) e = refl
no_names (suc k) (letting m n t v b s) e = refl
no_names (suc k) (doing ss s) e = refl

-- ---- slots
abbrev pub empties : ℕ → Slots
empties n = replicate n None

more_empties : (n : ℕ) → empties n ++ None ∷ [] ≡ None ∷ empties n
more_empties zero = refl
more_empties (suc n) = ap (λ (σ : Slots). None ∷ σ) (more_empties n)

pub turned_empties : (n : ℕ) → reverse (empties n) ≡ empties n
turned_empties zero = refl
turned_empties (suc n) =
    reverse-append (None ∷ []) (empties n) ∙ ap (λ (σ : Slots). σ ++ None ∷ []) (turned_empties n) ∙ more_empties n

pub one_more_empty : (n : ℕ) (σ : Slots) → None ∷ (empties n ++ σ) ≡ empties (n + 1) ++ σ
one_more_empty n σ = let e : suc n ≡ n + 1 = omega arith in ap (λ (k : ℕ). empties k ++ σ) e

abbrev pub some : Tree → Option Tree
some t = Some t

-- the slots in front, turned round
pub turned_slots : (p q : ℕ) (ts : List Tree) →
    reverse (empties p ++ (map some ts ++ empties q)) ≡
    empties q ++ (reverse (map some ts) ++ (empties p ++ []))
turned_slots p q ts =
    reverse-append (empties p) (map some ts ++ empties q)
    ∙ ap₂ (λ (σ τ : Slots). σ ++ τ) (reverse-append (map some ts) (empties q)) (turned_empties p)
    ∙ append_assoc (reverse (empties q)) (reverse (map some ts)) (empties p)
    ∙ ap₂ (λ (σ τ : Slots). σ ++ (reverse (map some ts) ++ τ)) (turned_empties q) (sym (append-nil (empties p)))

pub turned_first : (t : Tree) (ts : List Tree) (σ : Slots) →
    reverse (map some (t ∷ ts)) ++ σ ≡ reverse (map some ts) ++ Some t ∷ σ
turned_first t ts σ =
    ap (λ (τ : Slots). τ ++ σ) (reverse-append (Some t ∷ []) (map some ts))
    ∙ append_assoc (reverse (map some ts)) (Some t ∷ []) σ

-- the slots of parameters, turned round
pub turned_params : (k : ℕ) (t : Tree) (ts : List Tree) (σ : Slots) →
    reverse (slots_of (suc k) (take (suc k) (t ∷ ts))) ++ σ ≡ reverse (slots_of k (take k ts)) ++ Some t ∷ σ
turned_params k t ts σ =
    let e : suc k - suc (length (take k ts)) ≡ k - length (take k ts) = omega arith in
    ap (λ (n : ℕ). reverse (Some t ∷ (map some (take k ts) ++ empties n)) ++ σ) e
    ∙ ap (λ (τ : Slots). τ ++ σ) (reverse-append (Some t ∷ []) (slots_of k (take k ts)))
    ∙ append_assoc (reverse (slots_of k (take k ts))) (Some t ∷ []) σ

pub turned_none : (k : ℕ) (σ : Slots) → reverse (slots_of k (take k [])) ++ σ ≡ empties k ++ σ
turned_none zero σ = refl
turned_none (suc k) σ =
    let e : suc k - 0 ≡ suc k = omega arith in
    ap (λ (n : ℕ). reverse (empties n) ++ σ) e ∙ ap (λ (τ : Slots). τ ++ σ) (turned_empties (suc k))

-- ---- nodes that are inserted
weight_nodes : (n u : ℕ) → (weight n u).nodes ≡ min n 1000001
unfolding weight
weight_nodes n u = refl

pub nodes_weight : (w : Weight) (t : Tree) → w ≡ weight_of t → w.nodes ≡ min (nodes t) 1000001
nodes_weight w t e = ap (λ (v : Weight). v.nodes) e ∙ weight_nodes (nodes t) _

pub inserted_first : (s : Span) (x : List ℕ) (xs : List (List ℕ)) (t : Tree) (ts : List (Option Tree)) →
    sum_by inserted_nodes (solved s 0 (x ∷ xs) (Some t ∷ ts)) ≡
    nodes t + sum_by inserted_nodes (solved s (0 - 1) xs ts)
inserted_first s x xs t ts =
    sum_more inserted_nodes (argument Inserted (placed s t)) (solved s (0 - 1) xs ts)
    ∙ ap (λ (n : ℕ). n + sum_by inserted_nodes (solved s (0 - 1) xs ts)) (nodes_placed s t)

pub inserted_later : (s : Span) (k : ℕ) (x : List ℕ) (xs : List (List ℕ)) (t : Tree) (ts : List (Option Tree)) →
    sum_by inserted_nodes (solved s (suc k) (x ∷ xs) (Some t ∷ ts)) ≡
    sum_by inserted_nodes (solved s (suc k - 1) xs ts)
inserted_later s k x xs t ts =
    sum_more inserted_nodes (argument Braced t) (solved s (suc k - 1) xs ts) ∙ omega arith

-- a slot that is filled where none that were written are to come, and one where some are
pub counted_first : (s : Span) (k l : ℕ) (w : Weight) (x : List ℕ) (xs : List (List ℕ)) (t : Tree)
    (ts : List (Option Tree)) (r total : ℕ) → k ≡ 0 → l ≡ k - 1 → w ≡ weight_of t →
    r ≡ min (sum_by inserted_nodes (solved s l xs ts)) 1000001 → total ≡ min (w.nodes + r) 1000001 →
    total ≡ min (sum_by inserted_nodes (solved s k (x ∷ xs) (Some t ∷ ts))) 1000001
counted_first s (suc k) l w x xs t ts r total e f h g o = absurd (omega arith)
counted_first s zero l w x xs t ts r total e f h g o =
    let a = inserted_first s x xs t ts in
    let n = nodes_weight w t h in
    let m = ap (λ (j : ℕ). sum_by inserted_nodes (solved s j xs ts)) f in
    omega (arith, a, n, m, g, o)

pub counted_later : (s : Span) (k l : ℕ) (x : List ℕ) (xs : List (List ℕ)) (t : Tree)
    (ts : List (Option Tree)) (r : ℕ) → 0 < k → l ≡ k - 1 →
    r ≡ min (sum_by inserted_nodes (solved s l xs ts)) 1000001 →
    r ≡ min (sum_by inserted_nodes (solved s k (x ∷ xs) (Some t ∷ ts))) 1000001
counted_later s zero l x xs t ts r e f g = absurd (omega arith)
counted_later s (suc k) l x xs t ts r e f g =
    let a = inserted_later s k x xs t ts in
    let m = ap (λ (j : ℕ). sum_by inserted_nodes (solved s j xs ts)) f in
    omega (arith, a, m, g)
