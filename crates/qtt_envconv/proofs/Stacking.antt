-- Stacks of pairs.
use Rattle.std.proofs.Common.{◌≡◌, ℕ, ◌+◌, List, [], ◌∷◌, ◌++◌, length, refl, sym, ◌∙◌, ap, subst, append_assoc, arith}
use Rattle.std.proofs.lemmas.List.{length-map, map_push}
use Rattle.qtt_term.specs.Signature.{Env}
use Rattle.qtt_term.specs.Question.{Item, beside}
use Rattle.qtt_term.specs.View.{side_by_side}
use Rattle.qtt_conv.proofs.Stacking.{beside-push}
use Rattle.qtt_envconv.specs.declared.node.Node as node_code
use Rattle.qtt_envconv.specs.declared.comparing.Pair.{Pair}
use Rattle.qtt_envconv.specs.Nodes.{node, nodes, IsReady, AreReady}
use Rattle.qtt_envconv.specs.Pairs.{pair}
use Rattle.qtt_envconv.specs.Stacks.{path, item_of, pairs, PairsReady}

pub pairs_pushed : (ps : List Pair) (p : Pair) (all : List Pair) → all ≡ ps ++ p ∷ [] → pairs all ≡ item_of p ∷ pairs ps
pairs_pushed ps p all is = ap pairs is ∙ go ps
  where
    go : (qs : List Pair) → pairs (qs ++ p ∷ []) ≡ item_of p ∷ pairs qs
    go [] = refl
    go (q ∷ qs) = ap (λ is. is ++ item_of q ∷ []) (go qs)

-- the last components are moved onto the stack
pub pushed-goes : (way : List ℕ) (lefts rights ls rs : List node_code.Node) (p : Pair) (stack all : List Pair) →
    lefts ≡ ls ++ p.left ∷ [] → rights ≡ rs ++ p.right ∷ [] → length ls ≡ length rs →
    path p.route ≡ way ++ length ls ∷ [] → all ≡ stack ++ p ∷ [] →
    beside way 0 (side_by_side (nodes ls)) (side_by_side (nodes rs)) ++ pairs all ≡ beside way 0
    (side_by_side (nodes lefts)) (side_by_side (nodes rights)) ++ pairs stack
pushed-goes way lefts rights ls rs p stack all left_is right_is as_many place is =
    let before : List Item = beside way 0 (side_by_side (nodes ls)) (side_by_side (nodes rs)) in
    let same_place : 0 + length (nodes ls) ≡ length ls = omega (arith, length-map ls node) in
    let lengths : length (nodes ls) ≡ length (nodes rs) = length-map ls node ∙ as_many ∙ sym (length-map rs node) in
    ap (λ is. before ++ is) (pairs_pushed stack p all is ∙
    ap (λ i. pair i (node p.left) (node p.right) ∷ pairs stack)
    (place ∙ ap (λ k. way ++ k ∷ []) (sym same_place)))
    ∙ sym (append_assoc before (pair (way ++ (0 + length (nodes ls)) ∷ []) (node p.left) (node p.right) ∷ [])
    (pairs stack))
    ∙ ap (λ is. is ++ pairs stack)
    (sym (beside-push way 0 (nodes ls) (nodes rs) (node p.left) (node p.right) lengths)
    ∙ ap (λ ts. beside way 0 (side_by_side ts) (side_by_side (nodes rs ++ node p.right ∷ [])))
    (sym (ap nodes left_is ∙ map_push node ls p.left))
    ∙ ap (λ ts. beside way 0 (side_by_side (nodes lefts)) (side_by_side ts))
    (sym (ap nodes right_is ∙ map_push node rs p.right)))

-- ---- what is ready
-- of nodes, the last one and the others
pub ready-last : (E : Env) (all ns : List node_code.Node) (n : node_code.Node) → all ≡ ns ++ n ∷ [] →
    AreReady E all → AreReady E ns × IsReady E n
ready-last E all ns n is r = go ns (subst (AreReady E) is r)
  where
    go : (ms : List node_code.Node) → AreReady E (ms ++ n ∷ []) → AreReady E ms × IsReady E n
    go [] (r, rs) = (tt, r)
    go (m ∷ ms) (r, rs) = let both = go ms rs in ((r, both.0), both.1)

pub ready-pushed : (E : Env) (ps : List Pair) (p : Pair) (all : List Pair) → all ≡ ps ++ p ∷ [] → PairsReady E ps →
    IsReady E p.left → IsReady E p.right → PairsReady E all
ready-pushed E ps p all is r l k = subst (PairsReady E) (sym is) (go ps r)
  where
    go : (qs : List Pair) → PairsReady E qs → PairsReady E (qs ++ p ∷ [])
    go [] r = (l, k, tt)
    go (q ∷ qs) (a, b, rs) = (a, b, go qs rs)

-- of pairs, the last one and the others
pub ready-popped : (E : Env) (ps : List Pair) (p : Pair) (all : List Pair) → all ≡ ps ++ p ∷ [] → PairsReady E all →
    PairsReady E ps × IsReady E p.left × IsReady E p.right
ready-popped E ps p all is r = go ps (subst (PairsReady E) is r)
  where
    go : (qs : List Pair) → PairsReady E (qs ++ p ∷ []) → PairsReady E qs × IsReady E p.left × IsReady E p.right
    go [] (a, b, rs) = (tt, a, b)
    go (q ∷ qs) (a, b, rs) = let both = go qs rs in ((a, b, both.0), both.1, both.2)
