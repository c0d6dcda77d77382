-- One more line of a listing.
use Rattle.std.proofs.Common.{◌≡◌, ℕ, suc, ◌+◌, ◌<◌, List, [], ◌∷◌, ◌++◌, length, get_or, take, map, flat_map, sym, ◌∙◌, ap, arith, append_assoc, append-nil, add-one}
use Rattle.std.proofs.lemmas.List.{length-map, length-take-le, map-append, flat_map_more}
use Rattle.std.proofs.Math.Seq.{take-suc}
use Rattle.qtt_term.specs.Items.{DefinitionEntry}
use Rattle.qtt_code.specs.Instruction.{Block, Program}
use Rattle.qtt_code.specs.Listing.{block_lines, listing_from, listing}

-- the first k + 1 of a list
one-more : {X : Type 0} (xs : List X) (k : ℕ) (x : X) → k < length xs → x ≡ get_or xs k x →
    take (k + 1) xs ≡ take k xs ++ x ∷ []
one-more xs k x h e = ap (λ n. take n xs) (add-one k) ∙ take-suc xs k x h ∙ ap (λ y. take k xs ++ y ∷ []) (sym e)

pub piece-next : {X Y : Type 0} (f : Y → List ℕ) (v : X → Y) (front : List ℕ) (xs : List X) (k : ℕ) (x : X) →
    k < length xs → x ≡ get_or xs k x →
    (front ++ flat_map f (map v (take k xs))) ++ f (v x) ≡ front ++ flat_map f (map v (take (k + 1) xs))
piece-next f v front xs k x h e =
    flat_map_more f front (map v (take k xs)) (v x)
    ∙ ap (λ ys. front ++ flat_map f ys) (sym (ap (map v) (one-more xs k x h e) ∙ map-append v (take k xs) (x ∷ [])))

listing-append : (names : List DefinitionEntry) (n : ℕ) (Bs : Program) (B : Block) →
    listing_from names n (Bs ++ B ∷ []) ≡ listing_from names n Bs ++ block_lines names (n + length Bs) B
listing-append names n [] B =
    append-nil (block_lines names n B) ∙ ap (λ m. block_lines names m B) (let z : n ≡ n + 0 = omega arith in z)
listing-append names n (A ∷ Bs) B =
    ap (λ l. block_lines names n A ++ l) (listing-append names (suc n) Bs B)
    ∙ sym (append_assoc (block_lines names n A) (listing_from names (suc n) Bs)
    (block_lines names (suc n + length Bs) B))
    ∙ ap (λ m. block_lines names n A ++ listing_from names (suc n) Bs ++ block_lines names m B)
    (let z : suc n + length Bs ≡ n + suc (length Bs) = omega arith in z)

pub block-next : {X : Type 0} (names : List DefinitionEntry) (v : X → Block) (xs : List X) (k : ℕ) (x : X) →
    k < length xs → x ≡ get_or xs k x →
    listing names (map v (take k xs)) ++ block_lines names k (v x) ≡ listing names (map v (take (k + 1) xs))
block-next names v xs k x h e =
    ap (λ m. listing names (map v (take k xs)) ++ block_lines names m (v x))
    (let n = length-map (take k xs) v in let l = length-take-le k xs (omega (arith, h)) in let z : k ≡ 0 + length
    (map v (take k xs)) = omega (arith, n, l) in z)
    ∙ sym (listing-append names 0 (map v (take k xs)) (v x))
    ∙ ap (listing names) (sym (ap (map v) (one-more xs k x h e) ∙ map-append v (take k xs) (x ∷ [])))
