-- Terms put in the place of components.
use Rattle.std.proofs.Common.{◌≡◌, ℕ, zero, suc, ◌≤◌, List, [], ◌∷◌, ◌++◌, length, map, refl, sym, ap, ◌∙◌, ◌+◌, ◌<◌, take, get_or, arith, length-take}
use Rattle.std.proofs.Math.ListN.{set}
use Rattle.std.proofs.lemmas.List.{set_past, length-map, map_push, take_more}
use Rattle.qtt_prims.specs.declared.lit.Lit.{Lit}
use Rattle.qtt_term.specs.Signature.{Env}
use Rattle.qtt_term.specs.Term.{Terms, ε, ◌▸◌}
use Rattle.qtt_term.specs.Contraction.{literal_term}
use Rattle.qtt_term.specs.View.{side_by_side}
use Rattle.qtt_envconv.specs.declared.node.Node as node_code
use Rattle.qtt_envconv.specs.declared.literal.Literal.{Literal}
use Rattle.qtt_envconv.specs.Shapes.{literal}
use Rattle.qtt_envconv.specs.Nodes.{node, nodes, put, over, IsReady, AreReady}

pub put-set : (ns : List node_code.Node) (i : ℕ) (n : node_code.Node) →
    side_by_side (nodes (set ns i n)) ≡ put i (node n) (side_by_side (nodes ns))
put-set [] i n = refl
put-set (m ∷ ns) zero n = refl
put-set (m ∷ ns) (suc i) n = ap (λ ts. node m ▸ ts) (put-set ns i n)

-- past the end nothing is put
pub put-past : (ns : List node_code.Node) (i : ℕ) (n : node_code.Node) → length ns ≤ i →
    side_by_side (nodes ns) ≡ put i (node n) (side_by_side (nodes ns))
put-past ns i n h = ap (λ ms. side_by_side (nodes ms)) (sym (set_past ns i n h)) ∙ put-set ns i n

-- one literal more
pub over-push : (ls : List Lit) (l : Lit) (ts : Terms) →
    over (ls ++ l ∷ []) ts ≡ put (length ls) (literal_term l) (over ls ts)
over-push [] l ε = refl
over-push [] l (t ▸ ts) = refl
over-push (k ∷ ls) l ε = refl
over-push (k ∷ ls) l (t ▸ ts) = ap (λ ss. literal_term k ▸ ss) (over-push ls l ts)

pub literals-go : (now then : List node_code.Node) (ts : Terms) (ls : List Literal) (i : ℕ) (d : Literal) →
    i < length ls → side_by_side (nodes now) ≡ over (map literal (take i ls)) ts →
    side_by_side (nodes then) ≡ put i (literal_term (literal (get_or ls i d))) (side_by_side (nodes now)) →
    side_by_side (nodes then) ≡ over (map literal (take (i + 1) ls)) ts
literals-go now then ts ls i d h now_is is_put =
    let ks : List Lit = map literal (take i ls) in
    let l : Lit = literal (get_or ls i d) in
    let count : i ≡ length ks = omega (arith, length-map (take i ls) literal, length-take i ls) in
    is_put ∙ ap (put i (literal_term l)) now_is ∙ ap (λ k. put k (literal_term l) (over ks ts)) count
    ∙ sym (over-push ks l ts)
    ∙ ap (λ ms. over ms ts) (sym (ap (map literal) (take_more ls i d h) ∙ map_push literal (take i ls) (get_or ls i d)))

pub ready-set : (E : Env) (ns : List node_code.Node) (i : ℕ) (n : node_code.Node) → AreReady E ns → IsReady E n →
    AreReady E (set ns i n)
ready-set E [] i n hs h = hs
ready-set E (m ∷ ns) zero n hs h = (h, hs.1)
ready-set E (m ∷ ns) (suc i) n hs h = (hs.0, ready-set E ns i n hs.1 h)

pub ready-push : (E : Env) (ns : List node_code.Node) (n : node_code.Node) → AreReady E ns → IsReady E n →
    AreReady E (ns ++ n ∷ [])
ready-push E [] n hs h = (h, hs)
ready-push E (m ∷ ns) n hs h = (hs.0, ready-push E ns n hs.1 h)
