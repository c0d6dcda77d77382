-- Pairs of terms that are alike.
use Rattle.std.proofs.Common.{◌≡◌, ◌↔◌, ℕ, ◌+◌, ◌<◌, ◌≤◌, List, [], ◌∷◌, ◌++◌, length, take, get_or, Bool, true, false, refl, sym, ◌∙◌, ap, subst, arith}
use mathlib.Core.Path.{ap₂}
use Rattle.std.proofs.lemmas.List.{length-map, map_push, take_more, take_all}
use Rattle.qtt_term.specs.Term.{Form, Term, node}
use Rattle.qtt_term.specs.Question.{weight, weights}
use Rattle.qtt_term.specs.View.{side_by_side}
use Rattle.qtt_term.proofs.Components.{same_lists}
use Rattle.qtt_envconv.specs.declared.node.Node as node_code
use Rattle.qtt_envconv.specs.declared.sameness.Twins.{Twins}
use Rattle.qtt_envconv.specs.Nodes.{nodes}
use Rattle.qtt_envconv.specs.Nodes as n
use Rattle.qtt_envconv.specs.Twins.{AreAlike, left_weight, Joins}

-- ---- one pair more
pub alike-push : (ps : List Twins) (p : Twins) →
    AreAlike (ps ++ p ∷ []) ↔ ((n.node p.left ≡ n.node p.right) × AreAlike ps)
alike-push [] p = (λ h. h, λ h. h)
alike-push (q ∷ ps) p =
    let rest = alike-push ps p in
    (λ h. ((rest.0 h.1).0, (h.0, (rest.0 h.1).1)), λ h. (h.1.0, rest.1 (h.0, h.1.1)))

pub weight-push : (ps : List Twins) (p : Twins) →
    left_weight (ps ++ p ∷ []) ≡ weight (n.node p.left) + left_weight ps
weight-push [] p = refl
weight-push (q ∷ ps) p =
    let rest : left_weight (ps ++ p ∷ []) ≡ weight (n.node p.left) + left_weight ps = weight-push ps p in
    omega arith

-- ---- components one after the other
same_push : (xs ys : List Term) (x y : Term) → xs ++ x ∷ [] ≡ ys ++ y ∷ [] → (x ≡ y) × (xs ≡ ys)
same_push [] [] x y e = let same : x ≡ y = cc e in (same, refl)
same_push [] (b ∷ []) x y e = absurd (cc e)
same_push [] (b ∷ c ∷ ys) x y e = absurd (cc e)
same_push (a ∷ []) [] x y e = absurd (cc e)
same_push (a ∷ c ∷ xs) [] x y e = absurd (cc e)
same_push (a ∷ xs) (b ∷ ys) x y e =
    let tails : xs ++ x ∷ [] ≡ ys ++ y ∷ [] = cc e in
    let heads : a ≡ b = cc e in
    let rest = same_push xs ys x y tails in
    (rest.0, ap₂ ◌∷◌ heads rest.1)

weights-push : (xs : List Term) (x : Term) →
    weights (side_by_side (xs ++ x ∷ [])) ≡ weight x + weights (side_by_side xs)
weights-push [] x = refl
weights-push (y ∷ xs) x =
    let rest : weights (side_by_side (xs ++ x ∷ [])) ≡ weight x + weights (side_by_side xs) = weights-push xs x in
    omega arith

-- so many pairs of components are in front of the others
pub record Pairing (xs ys : List Term) (old new : List Twins) : Type 0 where
  pub alike : AreAlike new ↔ ((xs ≡ ys) × AreAlike old)
  pub weighs : left_weight new ≡ weights (side_by_side xs) + left_weight old

pub paired-more : (xs ys : List Term) (old now new : List Twins) (p : Twins) → Pairing xs ys old now →
    new ≡ now ++ p ∷ [] → Pairing (xs ++ n.node p.left ∷ []) (ys ++ n.node p.right ∷ []) old new
paired-more xs ys old now new p so_far is = record { alike = (to, from); weighs = weight }
  where
    to : AreAlike new → ((xs ++ n.node p.left ∷ [] ≡ ys ++ n.node p.right ∷ []) × AreAlike old)
    to h =
        let last = (alike-push now p).0 (subst AreAlike is h) in
        let front = so_far.alike.0 last.1 in
        (ap₂ (λ zs z. zs ++ z ∷ []) front.0 last.0, front.1)

    from : (xs ++ n.node p.left ∷ [] ≡ ys ++ n.node p.right ∷ []) × AreAlike old → AreAlike new
    from h =
        let same = same_push xs ys (n.node p.left) (n.node p.right) h.0 in
        subst AreAlike (sym is) ((alike-push now p).1 (same.0, so_far.alike.1 (same.1, h.1)))

    weight : left_weight new ≡ weights (side_by_side (xs ++ n.node p.left ∷ [])) + left_weight old
    weight =
        omega (
          arith,
          ap left_weight is,
          weight-push now p,
          so_far.weighs,
          weights-push xs (n.node p.left),
        )

pub paired-next : (xs ys : List node_code.Node) (i : ℕ) (old now new : List Twins) (p : Twins) → i < length xs →
    i < length ys → p.left ≡ get_or xs i p.left → p.right ≡ get_or ys i p.right →
    Pairing (nodes (take i xs)) (nodes (take i ys)) old now → new ≡ now ++ p ∷ [] →
    Pairing (nodes (take (i + 1) xs)) (nodes (take (i + 1) ys)) old new
paired-next xs ys i old now new p h k l r so_far is =
    subst (λ zs. Pairing zs (nodes (take (i + 1) ys)) old new) (sym (taken xs p.left h l))
    (subst (λ zs. Pairing (nodes (take i xs) ++ n.node p.left ∷ []) zs old new) (sym (taken ys p.right k r))
    (paired-more (nodes (take i xs)) (nodes (take i ys)) old now new p so_far is))
  where
    taken : (zs : List node_code.Node) (z : node_code.Node) → i < length zs → z ≡ get_or zs i z →
        nodes (take (i + 1) zs) ≡ nodes (take i zs) ++ n.node z ∷ []
    taken zs z b e =
        ap nodes (take_more zs i z b ∙ ap (λ w. take i zs ++ w ∷ []) (sym e)) ∙ map_push n.node (take i zs) z

pub paired-all : (xs ys : List node_code.Node) (i : ℕ) (old new : List Twins) → length xs ≤ i → length ys ≤ i →
    Pairing (nodes (take i xs)) (nodes (take i ys)) old new → Pairing (nodes xs) (nodes ys) old new
paired-all xs ys i old new h k pairs =
    subst (λ zs. Pairing (nodes zs) (nodes ys) old new) (take_all i xs h)
    (subst (λ zs. Pairing (nodes (take i xs)) (nodes zs) old new) (take_all i ys k) pairs)

-- ---- two forms
pub forms-join : (F G : Form) (xs ys : List Term) (old new : List Twins) → F ≡ G → Pairing xs ys old new →
    Joins (node F (side_by_side xs)) (node G (side_by_side ys)) old new true
forms-join F G xs ys old new e pairs = ((to, from), omega (arith, pairs.weighs))
  where
    to : AreAlike new → ((node F (side_by_side xs) ≡ node G (side_by_side ys)) × AreAlike old)
    to h = (ap₂ node e (ap side_by_side (pairs.alike.0 h).0), (pairs.alike.0 h).1)

    from : (node F (side_by_side xs) ≡ node G (side_by_side ys)) × AreAlike old → AreAlike new
    from h =
        let parts : side_by_side xs ≡ side_by_side ys = cc (h.0) in
        pairs.alike.1 (same_lists xs ys parts, h.1)

pub forms-differ : (F G : Form) (xs ys : List Term) → (F ≡ G → ⊥) →
    node F (side_by_side xs) ≡ node G (side_by_side ys) → ⊥
forms-differ F G xs ys d e = let same : F ≡ G = cc e in d same

pub counts-differ : (F G : Form) (xs ys : List node_code.Node) → (length xs ≡ length ys → ⊥) →
    node F (side_by_side (nodes xs)) ≡ node G (side_by_side (nodes ys)) → ⊥
counts-differ F G xs ys d e =
    let parts : side_by_side (nodes xs) ≡ side_by_side (nodes ys) = cc e in
    d (sym (length-map xs n.node) ∙ ap length (same_lists (nodes xs) (nodes ys) parts) ∙ length-map ys n.node)

-- ---- the last pair taken
pub last-differs : (p : Twins) (old all new : List Twins) (t u : Term) (b : Bool) → all ≡ old ++ p ∷ [] →
    t ≡ n.node p.left → u ≡ n.node p.right → Joins t u old new b → b ≡ false → AreAlike all → ⊥
last-differs p old all new t u b is l r joins e h =
    let apart : t ≡ u → ⊥ = subst (Joins t u old new) e joins in
    apart (l ∙ ((alike-push old p).0 (subst AreAlike is h)).0 ∙ sym r)

pub last-joined : (p : Twins) (old all new : List Twins) (t u : Term) (b : Bool) → all ≡ old ++ p ∷ [] →
    t ≡ n.node p.left → u ≡ n.node p.right → Joins t u old new b → b ≡ true →
    (AreAlike new ↔ AreAlike all) × (left_weight new < left_weight all)
last-joined p old all new t u b is l r joins e = ((to, from), omega (arith, goes.1, weighs, lefts))
  where
    goes : (AreAlike new ↔ ((t ≡ u) × AreAlike old)) × (left_weight new < weight t + left_weight old)
    goes = subst (Joins t u old new) e joins

    to : AreAlike new → AreAlike all
    to h =
        let parts = goes.0.0 h in
        subst AreAlike (sym is) ((alike-push old p).1 (sym l ∙ parts.0 ∙ r, parts.1))

    from : AreAlike all → AreAlike new
    from h =
        let parts = (alike-push old p).0 (subst AreAlike is h) in
        goes.0.1 (l ∙ parts.0 ∙ sym r, parts.1)

    weighs : left_weight all ≡ weight (n.node p.left) + left_weight old
    weighs = ap left_weight is ∙ weight-push old p

    lefts : weight t ≡ weight (n.node p.left)
    lefts = ap weight l
