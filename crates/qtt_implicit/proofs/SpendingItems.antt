-- An item of a filled text is within the limit.
use Rattle.std.proofs.Common.{◌≡◌, ◌∙◌, refl, ap, sym, subst, ℕ, zero, suc, ◌+◌, ◌-◌, ◌≤◌, arith, List, [], ◌∷◌, reverse, Result, Ok, Err, if◌then◌else◌, Bool, true, false, nat_le, sum_by}
use Rattle.std.specs.Prelude.{unwrap_or}
use Rattle.qtt_base.specs.Limits.{standard}
use Rattle.qtt_base.specs.declared.place.Span.{Span}
use Rattle.qtt_syntax.specs.declared.expr.Mark.{Mark}
use Rattle.qtt_syntax.specs.declared.expr.Mark.TheVariants.{Written, Braced, Inserted}
use Rattle.qtt_syntax.specs.Tree.{Tree, Shape, Shapes, Param, Con, Item, shapes}
use Rattle.qtt_syntax.specs.Tree.Shape.{variable, wildcard, constructor, dot}
use Rattle.qtt_syntax.specs.Tree.Shapes.{no_shape, shape_and}
use Rattle.qtt_syntax.specs.Tree.Param.{param}
use Rattle.qtt_syntax.specs.Tree.Con.{con}
use Rattle.qtt_syntax.specs.Tree.Item.{family, signature as typing, clause}
use Rattle.qtt_syntax.specs.Tree.Module.{module_text}
use Rattle.qtt_names.specs.Exports.{Sig}
use Rattle.qtt_implicit.specs.Moving.{nodes}
use Rattle.qtt_implicit.specs.Known.{Known, signature_named}
use Rattle.qtt_implicit.specs.Filling.{Stop}
use Rattle.qtt_implicit.specs.Walk.{Types, behind, is_inserted, walk}
use Rattle.qtt_implicit.specs.Patterns.{Columns, Met, Seen, AllSeen, signature_of, braces_of, new_variables, with_slots, all_with_slots, clause_shapes, all_marks, place_among, renumbered, renumbered_shape, renumbered_shapes, walk_shape, walk_shapes, shape_nodes, shapes_nodes, shape_list}
use Rattle.qtt_implicit.specs.Filled.{Grown, Params, Refusal, Filled, FilledText, with_own, walk_params, walk_cons, no_sig, walk_clause, walk_item, param_nodes, con_nodes, item_nodes, place_of, grown, filled_item, and_item, item_then, filled_items, with_items, at_start}
use Rattle.qtt_implicit.specs.Laws.{unless, FilledIsWithinLimit, items_of}
use Rattle.qtt_implicit.proofs.Outcomes.{Takes, Spends, then_spends, done_spends, weaker_spends}
use Rattle.qtt_implicit.proofs.SeenSignatures.{Each, all_of, sum_more}
use Rattle.qtt_implicit.proofs.RenumberedTrees.{weighed_same}
use Rattle.qtt_implicit.proofs.Spending.{one, put_spends, spends}

-- ---- nodes of patterns without the variables that were put in
abbrev mutual
  own_nodes : Shape → ℕ
  own_nodes (variable k n s) = unless (is_inserted k)
  own_nodes (wildcard k s) = 1
  own_nodes (constructor k h ps s) = 1 + all_own_nodes ps
  own_nodes (dot k e s) = 1 + nodes e

  all_own_nodes : Shapes → ℕ
  all_own_nodes no_shape = 0
  all_own_nodes (shape_and p more) = own_nodes p + all_own_nodes more

new_own : (k i : ℕ) (s : Span) (ps : Shapes) → all_own_nodes (new_variables k i s ps) ≡ all_own_nodes ps
new_own zero i s ps = refl
new_own (suc k) i s ps = let e = new_own k (suc i) s ps in omega (arith, e)

at_most_one : (k : Mark) → unless (is_inserted k) ≤ 1
at_most_one Written = omega arith
at_most_one Braced = omega arith
at_most_one Inserted = omega arith

module _ (K : Known) where
  mutual
    slots_own : (p : Shape) (i : ℕ) → own_nodes (with_slots K p i).0 ≤ shape_nodes p
    slots_own (variable k n s) i = at_most_one k
    slots_own (wildcard k s) i = omega arith
    slots_own (constructor k h ps s) i =
        let c = braces_of (signature_of K h.target) in
        let new = new_own c i h.span (all_with_slots K ps (i + c)).0 in
        let all = all_slots_own ps (i + c) in
        omega (arith, new, all)
    slots_own (dot k e s) i = omega arith

    all_slots_own : (ps : Shapes) (i : ℕ) → all_own_nodes (all_with_slots K ps i).0 ≤ shapes_nodes ps
    all_slots_own no_shape i = omega arith
    all_slots_own (shape_and p more) i =
        let first = slots_own p i in
        let others = all_slots_own more (with_slots K p i).1 in
        omega (arith, first, others)

one_put : (k : Mark) (n : ℕ) → n ≡ (if is_inserted k then 1 else 0) → 1 ≤ unless (is_inserted k) + n
one_put Written n e = omega arith
one_put Braced n e = omega arith
one_put Inserted n e = omega (arith, e)

module _ (K : Known) (ms : List Mark) where
  side_spends : (Γ : Types) (e : Tree) → Spends (λ r n. nodes r.tree ≤ nodes e + n) (walk K Γ (renumbered ms e))
  side_spends Γ e =
      let same = weighed_same (place_among (reverse ms)) one (λ d t. refl) 0 e in
      weaker_spends (spends K Γ (renumbered ms e)) (λ r n p. omega (arith, p, same))

  mutual
    shape_spends : (v : Met) (T : Tree) (p : Shape) →
        Spends (λ (r : Seen) n. shape_nodes r.shape ≤ own_nodes p + n) (walk_shape K v T (renumbered_shape ms p))
    shape_spends v T (variable k n s) =
        then_spends (put_spends (if is_inserted k then 1 else 0)) (λ added i e. done_spends
        (let p = one_put k i e in omega (arith, p)))
    shape_spends v T (wildcard k s) = done_spends (omega arith)
    shape_spends v T (constructor k h ps s) =
        then_spends (shapes_spend v _ ps) (λ ps' i p. done_spends (omega (arith, p)))
    shape_spends v T (dot k e s) =
        then_spends (side_spends v.types e) (λ e' i p. done_spends (omega (arith, p)))

    shapes_spend : (v : Met) (cs : Columns) (ps : Shapes) →
        Spends (λ (r : AllSeen) n. shapes_nodes r.shapes ≤ all_own_nodes ps + n)
        (walk_shapes K v cs (renumbered_shapes ms ps))
    shapes_spend v cs no_shape = done_spends (omega arith)
    shapes_spend v cs (shape_and p more) =
        then_spends (shape_spends v _ p) (λ p' i a.
        then_spends (shapes_spend _ _ more) (λ more' j b. done_spends (omega (arith, a, b))))

-- ---- items
pub listed_nodes : (ps : Shapes) → sum_by shape_nodes (shape_list ps) ≡ shapes_nodes ps
listed_nodes no_shape = refl
listed_nodes (shape_and p more) =
    sum_more shape_nodes p (shape_list more) ∙ ap (λ n. shape_nodes p + n) (listed_nodes more)

shapes_listed : (ps : List Shape) → shapes_nodes (shapes ps) ≡ sum_by shape_nodes ps
shapes_listed [] = refl
shapes_listed (p ∷ ps) = ap (λ n. shape_nodes p + n) (shapes_listed ps) ∙ sym (sum_more shape_nodes p ps)

abbrev ItemAdds : Item → Grown → ℕ → Type 0
ItemAdds i g n = item_nodes g.item ≤ item_nodes i + n

module _ (K : Known) where
  params_spend : (Γ : Types) (ps : List Param) →
      Spends (λ (r : Params) n. sum_by param_nodes r.params ≤ sum_by param_nodes ps + n) (walk_params K Γ ps)
  params_spend Γ [] = done_spends (omega arith)
  params_spend Γ (param m n t s ∷ more) =
      then_spends (spends K Γ t) (λ t' i p.
      then_spends (params_spend (behind t'.tree Γ) more) (λ more' j q. done_spends
      (let a = sum_more param_nodes (param m n t s) more in
      let b = sum_more param_nodes (param m n t'.tree s) more'.params in
      omega (arith, a, b, p, q))))

  cons_spend : (Γ : Types) (cs : List Con) →
      Spends (λ cs' n. sum_by con_nodes cs' ≤ sum_by con_nodes cs + n) (walk_cons K Γ cs)
  cons_spend Γ [] = done_spends (omega arith)
  cons_spend Γ (con n t s ∷ more) =
      then_spends (spends K Γ t) (λ t' i p.
      then_spends (cons_spend Γ more) (λ more' j q. done_spends
      (let a = sum_more con_nodes (con n t s) more in
      let b = sum_more con_nodes (con n t'.tree s) more' in
      omega (arith, a, b, p, q))))

  clause_spends : (S : Sig) (n : List ℕ) (ps : List Shape) (side : Tree) (s : Span) →
      Spends (ItemAdds (clause n ps side s)) (walk_clause K S n (clause_shapes K S.braces s ps) side s)
  clause_spends S n ps side s =
      let W : Shapes = clause_shapes K S.braces s ps in
      let ms : List Mark = all_marks W in
      let a = new_own S.braces 0 s (all_with_slots K (shapes ps) S.braces).0 in
      let b = all_slots_own K (shapes ps) S.braces in
      let c = shapes_listed ps in
      then_spends (shapes_spend K ms _ _ W) (λ ps' i p.
      then_spends (side_spends K ms ps'.met.types side) (λ side' j q. done_spends
      (let d = listed_nodes ps'.shapes in omega (arith, a, b, c, d, p, q))))

item_spends : (K : Known) (i : Item) → Spends (ItemAdds i) (walk_item K i)
unfolding walk_item
item_spends K (family n ns ps t cs s) =
    then_spends (params_spend K [] ps) (λ ps' i p.
    then_spends (spends K ps'.types t) (λ t' j q.
    then_spends (cons_spend _ ps'.types cs) (λ cs' k r. done_spends (omega (arith, p, q, r)))))
item_spends K (typing p m n ns t s) = then_spends (spends K [] t) (λ t' i q. done_spends (omega (arith, q)))
item_spends K (clause n ps side s) = clause_spends K (unwrap_or (signature_named K n) no_sig) n ps side s

-- ---- texts
abbrev IsWithin : ℕ → Item → Type 0
IsWithin limit i = item_nodes i ≤ limit

abbrev OfItem : ℕ → Result Grown Refusal → Type 0
OfItem limit (Ok g) = IsWithin limit g.item
OfItem limit (Err e) = Unit {0}

abbrev OfItems : ℕ → Result Filled Refusal → Type 0
OfItems limit (Ok r) = Each (IsWithin limit) r.items
OfItems limit (Err e) = Unit {0}

item_filled : (limit : ℕ) (K : Known) (i : Item) → OfItem limit (filled_item limit K i)
item_filled limit K i = by (nat_le (item_nodes i) limit) refl
  where
    grows : item_nodes i ≤ limit → (r : Result (Grown × ℕ) Stop) → Takes (ItemAdds i) (limit - item_nodes i) r →
        OfItem limit (grown limit (place_of i) r)
    grows h (Ok r) (n, e, p) = omega (arith, h, e, p)
    grows h (Err e) p = tt

    by : (b : Bool) → nat_le (item_nodes i) limit ≡ b →
        OfItem limit (if b then grown limit (place_of i) (walk_item K i (limit - item_nodes i))
        else Err (Refusal.too_large (limit + 1) (place_of i)))
    by true e = grows (grind (arith, e)) (walk_item K i (limit - item_nodes i))
        ((item_spends K i).at (limit - item_nodes i))
    by false e = tt

items_filled : (limit : ℕ) (K : Known) (is : List Item) → OfItems limit (filled_items limit K is)
items_filled limit K [] = tt
items_filled limit K (i ∷ is) =
    by (filled_item limit K i) (item_filled limit K i) (λ g. items_filled limit (with_own g.own K) is)
  where
    front : (g : Grown) (r : Result Filled Refusal) → IsWithin limit g.item → OfItems limit r →
        OfItems limit (and_item g.item r)
    front g (Ok r) p q = (p, q)
    front g (Err e) p q = tt

    by : (r : Result Grown Refusal) → OfItem limit r →
        ((g : Grown) → OfItems limit (filled_items limit (with_own g.own K) is)) →
        OfItems limit (item_then r (λ g. filled_items limit (with_own g.own K) is))
    by (Ok g) p more = front g (filled_items limit (with_own g.own K) is) p (more g)
    by (Err e) p more = tt

same_text : (x y : FilledText) (p : Result FilledText Refusal) → p ≡ Ok x → p ≡ Ok y → x ≡ y
same_text x y p e f = cc

pub filled_is_within_limit : FilledIsWithinLimit
filled_is_within_limit home imports (module_text h n ns is items) r e =
    all_of (IsWithin standard.filled_nodes) (items_of r.text)
    (by (filled_items standard.filled_nodes (at_start home imports) items)
    (items_filled standard.filled_nodes (at_start home imports) items) e)
  where
    by : (q : Result Filled Refusal) → OfItems standard.filled_nodes q → with_items (module_text h n ns is) q ≡ Ok r →
        Each (IsWithin standard.filled_nodes) (items_of r.text)
    by (Ok q) p f =
        subst (λ (t : FilledText). Each (IsWithin standard.filled_nodes) (items_of t.text)) (same_text _ r _ refl f) p
    by (Err q) p f = absurd cc
