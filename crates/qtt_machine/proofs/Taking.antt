-- Values taken from a stack, and what is left.
use Rattle.std.proofs.Common.{◌≡◌, ℕ, ◌+◌, ◌-◌, ◌≤◌, List, [], ◌∷◌, ◌++◌, Some, length, take, drop, reverse, refl, sym, ◌∙◌, ap, arith, length-drop}
use Rattle.std.proofs.lemmas.List.{reverse-append, length-reverse, take-append-drop, drop_at, drop-drop, length-map, drop-map, take-map, drop-take, take_rest}
use Rattle.qtt_code.specs.Value.{Value, Values, ◌▹◌, side_by_side}
use Rattle.qtt_code.specs.Machine.{taken}
use Rattle.qtt_value.specs.declared.val.Val.{Val}
use Rattle.qtt_value.specs.View.{value, values}

-- the newest first, each in front of those before it
abbrev put : List Value → Values → Values
put [] vs = vs
put (z ∷ zs) vs = put zs (z ▹ vs)

put-append : (xs ys : List Value) (vs : Values) → put (xs ++ ys) vs ≡ put ys (put xs vs)
put-append [] ys vs = refl
put-append (x ∷ xs) ys vs = put-append xs ys (x ▹ vs)

put-reverse : (ys : List Value) → put (reverse ys) Values.none ≡ side_by_side ys
put-reverse [] = refl
put-reverse (y ∷ ys) =
    ap (λ zs. put zs Values.none) (reverse-append (y ∷ []) ys)
    ∙ put-append (reverse ys) (y ∷ []) Values.none
    ∙ ap (λ vs. y ▹ vs) (put-reverse ys)

taken_front : (zs left : List Value) (vs : Values) →
    taken (length zs) vs (zs ++ left) ≡ Some (record { values = put zs vs; left = left })
taken_front [] left vs = refl
taken_front (z ∷ zs) left vs = taken_front zs left (z ▹ vs)

-- a list ends with so many of its elements
module _ (ys : List Value) (k : ℕ) (h : k ≤ length ys) where
  front : List Value
  front = take (length ys - k) ys

  rest : List Value
  rest = drop (length ys - k) ys

  split : reverse ys ≡ reverse rest ++ reverse front
  unfolding front rest
  split = ap reverse (sym (take-append-drop (length ys - k) ys)) ∙ reverse-append (take (length ys - k) ys)
      (drop (length ys - k) ys)

  rest-length : length (reverse rest) ≡ k
  unfolding rest
  rest-length = let a = length-drop (length ys - k) ys in length-reverse (drop (length ys - k) ys) ∙ omega (arith, a, h)

  pub left_behind : drop k (reverse ys) ≡ reverse (take (length ys - k) ys)
  unfolding front
  left_behind = ap (drop k) split ∙ drop_at (reverse rest) (reverse front) k rest-length

  pub taken_last : taken k Values.none (reverse ys) ≡ Some
      (record { values = side_by_side (drop (length ys - k) ys); left = drop k (reverse ys) })
  unfolding front rest
  taken_last =
      ap (taken k Values.none) split
      ∙ ap (λ n. taken n Values.none (reverse rest ++ reverse front)) (sym rest-length)
      ∙ taken_front (reverse rest) (reverse front) Values.none
      ∙ ap (λ vs. Some (record { values = vs; left = reverse front })) (put-reverse rest)
      ∙ ap (λ l. Some (record { values = side_by_side rest; left = l })) (sym left_behind)

-- ---- of the values of a frame, which begin at a place of the stack
pub own-length : (S : List Val) (b : ℕ) → length (reverse (values (drop b S))) ≡ length S - b
own-length S b = length-reverse (values (drop b S)) ∙ length-map (drop b S) value ∙ length-drop b S

module _ (S : List Val) (b k : ℕ) (h : k ≤ length (reverse (values (drop b S)))) where
  own : k ≤ length S - b
  own = let a = own-length S b in omega (arith, a, h)

  pub taken_top : b ≤ length S →
      taken k Values.none (reverse (values (drop b S))) ≡ Some
      (record {
        values = side_by_side (values (drop (length S - k) S));
        left = drop k (reverse (values (drop b S)));
      })
  taken_top p =
      let n = length-map (drop b S) value in
      let m = length-drop b S in
      let o = own in
      let e : b + (length (values (drop b S)) - k) ≡ length S - k = omega (arith, n, m, o, p) in
      taken_last (values (drop b S)) k (omega (arith, n, m, o))
      ∙ ap (λ vs. Some (record { values = side_by_side vs; left = drop k (reverse (values (drop b S))) }))
      (drop-map value (length (values (drop b S)) - k) (drop b S) ∙
      ap values (drop-drop (length (values (drop b S)) - k) b S ∙ ap (λ j. drop j S) e))

  pub forgotten_top : b ≤ length S →
      reverse (values (drop b (take (length S - k) S))) ≡ drop k (reverse (values (drop b S)))
  forgotten_top p =
      let n = length-map (drop b S) value in
      let m = length-drop b S in
      let o = own in
      let e : length S - k ≡ b + (length (values (drop b S)) - k) = omega (arith, n, m, o, p) in
      ap (λ j. reverse (values (drop b (take j S)))) e
      ∙ ap (λ l. reverse (values l)) (drop-take b (length (values (drop b S)) - k) S)
      ∙ ap reverse (sym (take-map value (length (values (drop b S)) - k) (drop b S)))
      ∙ sym (left_behind (values (drop b S)) k (omega (arith, n, m, o)))

  pub taken_rest : (T : List Val) (n : ℕ) → b ≤ length S → T ≡ S → n ≡ length S →
      taken k Values.none (reverse (values (drop b S)))
      ≡ Some (record {
        values = side_by_side (values (take (length T - (n - k)) (drop (n - k) T)));
        left = drop k (reverse (values (drop b S)));
      })
  taken_rest T n p t e =
      taken_top p
      ∙ ap (λ l. Some (record { values = side_by_side (values l); left = drop k (reverse (values (drop b S))) }))
      (ap (λ j. drop (j - k) S) (sym e) ∙ ap (drop (n - k)) (sym t) ∙ sym (take_rest T (n - k)))
