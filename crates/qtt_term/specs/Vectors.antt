-- Vectors, whose lengths stand in their types: a program of numbers and vectors, whole, and functions over them.
-- Items have the numbers that they have in the text.
use Rattle.std.specs.Prelude.{ℕ, suc, pos, [], ◌∷◌}
use Rattle.qtt_usage.specs.Mult.{𝟘, 𝟙, ω}
use Rattle.qtt_term.specs.Term.{Form, Term, var, node, ε, ◌▸◌, Sort, Pi, Lam, App, Fam, Def, IntLit, Trap}
use Rattle.qtt_term.specs.Signature.{Family, Env, UnitTy, IntTy}
use Rattle.qtt_term.specs.Programs.{item, program, many, io_unit, put, shown, added, nat, nat_family, z, s, plus, plus_body}

-- data Vect (a : Type) : Nat -> Type where
-- Nil : Vect a Z; Cons : (0 k : Nat) -> (1 x : a) -> (1 xs : Vect a k) -> Vect a (S k)
abbrev pub vect : Term → Term → Term
vect a n = Fam (item 4) (a ▸ n ▸ ε)

abbrev pub vect_family : Family
vect_family = record {
  params = (𝟘, Sort 0) ∷ [];
  indices = nat ∷ [];
  level = 0;
  constructors = record { fields = []; results = z ▸ ε }
      ∷ record { fields = (𝟘, nat) ∷ (𝟙, var 1) ∷ (𝟙, vect (var 2) (var 1)) ∷ []; results = s (var 2) ▸ ε } ∷ [];
}

abbrev pub nil : Term → Term
nil a = node (Form.con (item 4) 0 1) (a ▸ ε)

abbrev pub cons : Term → Term → Term → Term → Term
cons a k x xs = node (Form.con (item 4) 1 1) (a ▸ k ▸ x ▸ xs ▸ ε)

abbrev pub append : Term → Term → Term → Term → Term → Term
append a m n xs ys = App 𝟙 (App 𝟙 (App 𝟘 (App 𝟘 (App 𝟘 (Def (item 7)) a) m) n) xs) ys

-- append : (0 a : Type) -> (0 m : Nat) -> (0 n : Nat) -> (1 xs : Vect a m) -> (1 ys : Vect a n) -> Vect a (plus m
-- n)
abbrev pub append_type : Term
append_type =
    Pi 𝟘 (Sort 0) (Pi 𝟘 nat (Pi 𝟘 nat (Pi 𝟙 (vect (var 2) (var 1)) (Pi 𝟙 (vect (var 3) (var 1))
    (vect (var 4) (plus (var 3) (var 2)))))))

-- append a _ n Nil ys = ys; append a _ n (Cons k x xs) ys = Cons (plus k n) x (append a k n xs ys).
-- The linear ys is bound again in each branch
abbrev pub append_body : Term
append_body =
    Lam 𝟘 (Sort 0) (Lam 𝟘 nat (Lam 𝟘 nat (Lam 𝟙 (vect (var 2) (var 1)) (Lam 𝟙 (vect (var 3) (var 1)) (App 𝟙
    (node (Form.case 𝟙 (item 4) 1 2 (0 ∷ 3 ∷ []))
    (var 4 ▸ Pi 𝟙 (vect (var 6) (var 4)) (vect (var 7) (plus (var 2) (var 5)))
    ▸ Lam 𝟙 (vect (var 4) (var 2)) (var 0)
    ▸ Lam 𝟙 (vect (var 7) (var 5))
    (cons (var 8) (plus (var 3) (var 6)) (var 2) (append (var 8) (var 3) (var 6) (var 1) (var 0)))
    ▸ var 1 ▸ ε))
    (var 0))))))

abbrev pub total : Term → Term → Term
total n xs = App ω (App 𝟘 (Def (item 8)) n) xs

-- total : (0 n : Nat) -> Vect Int n -> Int; total _ Nil = 0; total _ (Cons k x xs) = addInt x (total k xs)
abbrev pub total_type : Term
total_type = Pi 𝟘 nat (Pi ω (vect IntTy (var 0)) IntTy)

abbrev pub total_body : Term
total_body =
    Lam 𝟘 nat (Lam ω (vect IntTy (var 0))
    (node (Form.case ω (item 4) 1 2 (0 ∷ 3 ∷ []))
    (IntTy ▸ IntTy ▸ IntLit (pos 0) ▸ added (var 1) (total (var 2) (var 0)) ▸ var 0 ▸ ε)))

-- main = putLine (showInt (total (plus (S (S Z)) (S Z))
-- (append Int (S (S Z)) (S Z) (Cons (S Z) 4 (Cons Z 5 Nil)) (Cons Z 6 Nil))))
abbrev pub fifteen : Term
fifteen = put (shown (total (plus (s (s z)) (s z)) (append IntTy (s (s z)) (s z)
    (cons IntTy (s z) (IntLit (pos 4)) (cons IntTy z (IntLit (pos 5)) (nil IntTy)))
    (cons IntTy z (IntLit (pos 6)) (nil IntTy)))))

abbrev pub vectors : Env
vectors =
    program ((0, nat_family) ∷ (4, vect_family) ∷ [])
    ((3, many (Pi ω nat (Pi ω nat nat)) plus_body) ∷ (7, many append_type append_body) ∷ (8, many total_type total_body)
    ∷ (9, many io_unit fifteen) ∷ [])

-- head : (0 a : Type) -> (0 n : Nat) -> Vect a (S n) -> a; head a n (Cons k x xs) = x
abbrev pub head_type : Term
head_type = Pi 𝟘 (Sort 0) (Pi 𝟘 nat (Pi ω (vect (var 1) (s (var 0))) (var 2)))

-- the goal over vectors of every length: a where the length is a successor, and else Unit
abbrev pub head_goal : ℕ → Term → Term → Term
head_goal a n xs =
    App 𝟘 (node (Form.case 𝟘 (item 0) 0 1 (0 ∷ 1 ∷ [])) (Pi 𝟘 (vect (var (suc a)) (var 0)) (Sort 0)
    ▸ Lam 𝟘 (vect (var a) z) UnitTy ▸ Lam 𝟘 (vect (var (suc a)) (s (var 0))) (var (suc (suc a))) ▸ n ▸ ε)) xs

-- no clause is for Nil, whose length is no successor: its branch is absurd
abbrev pub head_body : Term
head_body =
    Lam 𝟘 (Sort 0) (Lam 𝟘 nat (Lam ω (vect (var 1) (s (var 0))) (node (Form.case ω (item 4) 1 2 (0 ∷ 3 ∷ []))
    (var 2 ▸ head_goal 4 (var 1) (var 0) ▸ Trap (head_goal 2 z (nil (var 2))) ▸ var 1 ▸ var 0 ▸ ε))))

abbrev pub judged_head_type : Term
judged_head_type = Pi 𝟘 (Sort 0) (Pi 𝟘 nat (Pi ω (vect (var 1) (s (var 0))) (head_goal 2 (s (var 1)) (var 0))))
