-- Stacks of pairs.
use Rattle.std.proofs.Common.{◌≡◌, ℕ, suc, ◌+◌, ◌-◌, ◌<◌, List, [], ◌∷◌, ◌++◌, length, refl, sym, ◌∙◌, ap, append_assoc, arith}
use Rattle.std.proofs.lemmas.List.{length-map, map_push}
use Rattle.qtt_term.specs.declared.term.Term as code
use Rattle.qtt_term.specs.Term.{Term}
use Rattle.qtt_term.specs.Question.{Item, beside, weight_of}
use Rattle.qtt_term.specs.View.{term, terms, side_by_side}
use Rattle.qtt_confluence.proofs.Count.{weight-positive}
use Rattle.qtt_conv.specs.declared.comparing.Pair.{Pair}
use Rattle.qtt_conv.specs.Pairs.{pair}
use Rattle.qtt_conv.specs.Stacks.{item_of, pairs}

pub pairs_pushed : (ps : List Pair) (p : Pair) (all : List Pair) → all ≡ ps ++ p ∷ [] → pairs all ≡ item_of p ∷ pairs ps
pairs_pushed ps p all is = ap pairs is ∙ go ps
  where
    go : (qs : List Pair) → pairs (qs ++ p ∷ []) ≡ item_of p ∷ pairs qs
    go [] = refl
    go (q ∷ qs) = ap (λ is. is ++ item_of q ∷ []) (go qs)

-- one pair of components more behind the others
pub beside-push : (path : List ℕ) (k : ℕ) (ls rs : List Term) (x y : Term) → length ls ≡ length rs →
    beside path k (side_by_side (ls ++ x ∷ [])) (side_by_side (rs ++ y ∷ [])) ≡ beside path k (side_by_side ls)
    (side_by_side rs) ++ pair (path ++ (k + length ls) ∷ []) x y ∷ []
beside-push path k [] [] x y e = let same_place : k ≡ k + 0 =
    omega arith in ap (λ i. pair (path ++ i ∷ []) x y ∷ []) same_place
beside-push path k [] (r ∷ rs) x y e = absurd (omega arith)
beside-push path k (l ∷ ls) [] x y e = absurd (omega arith)
beside-push path k (l ∷ ls) (r ∷ rs) x y e =
    let same_place : suc k + length ls ≡ k + length (l ∷ ls) = omega arith in
    ap (λ is. pair (path ++ k ∷ []) l r ∷ is)
    (beside-push path (suc k) ls rs x y (omega arith) ∙
    ap (λ i. beside path (suc k) (side_by_side ls) (side_by_side rs) ++ pair (path ++ i ∷ []) x y ∷ [])
    same_place)

-- a pair that is done with makes a stack lighter, and so do components that are lighter
pub done-lighter : (p : Pair) (is all : List Item) → all ≡ item_of p ∷ is → weight_of is < weight_of all
done-lighter p is all e = let w =
    weight-positive (item_of p).left in let f : weight_of all ≡ weight_of (item_of p ∷ is) =
    ap weight_of e in omega arith

-- the last components are moved onto the stack
pub pushed-goes : (path : List ℕ) (lefts rights ls rs : List code.Term) (p : Pair) (stack all : List Pair) →
    lefts ≡ ls ++ p.left ∷ [] → rights ≡ rs ++ p.right ∷ [] → length ls ≡ length rs →
    p.path.items ≡ path ++ length ls ∷ [] → all ≡ stack ++ p ∷ [] →
    beside path 0 (side_by_side (terms ls)) (side_by_side (terms rs)) ++ pairs all ≡ beside path 0
    (side_by_side (terms lefts)) (side_by_side (terms rights)) ++ pairs stack
pushed-goes path lefts rights ls rs p stack all left_is right_is as_many place is =
    let before : List Item = beside path 0 (side_by_side (terms ls)) (side_by_side (terms rs)) in
    let same_place : 0 + length (terms ls) ≡ length ls = omega (arith, length-map ls term) in
    let lengths : length (terms ls) ≡ length (terms rs) = length-map ls term ∙ as_many ∙ sym (length-map rs term) in
    ap (λ is. before ++ is) (pairs_pushed stack p all is ∙
    ap (λ i. pair i (term p.left) (term p.right) ∷ pairs stack)
    (place ∙ ap (λ k. path ++ k ∷ []) (sym same_place)))
    ∙ sym (append_assoc before (pair (path ++ (0 + length (terms ls)) ∷ []) (term p.left) (term p.right) ∷ [])
    (pairs stack))
    ∙ ap (λ is. is ++ pairs stack)
    (sym (beside-push path 0 (terms ls) (terms rs) (term p.left) (term p.right) lengths)
    ∙ ap (λ ts. beside path 0 (side_by_side ts) (side_by_side (terms rs ++ term p.right ∷ [])))
    (sym (ap terms left_is ∙ map_push term ls p.left))
    ∙ ap (λ ts. beside path 0 (side_by_side (terms lefts)) (side_by_side ts))
    (sym (ap terms right_is ∙ map_push term rs p.right)))
