-- Qualified names, as they are split.
use Rattle.std.proofs.Common.{◌≡◌, ◌≢◌, ℕ, ◌==◌, Bool, true, false, cond, List, [], ◌∷◌, ◌++◌, Option, Some, None, refl, sym, ap, ◌∙◌}
use Rattle.std.proofs.lemmas.Bool.{eqb-true, eqb-false}
use mathlib.Core.Path.{ap₂}
use Rattle.qtt_names.specs.Target.{in_front, split_at_dot}
use Rattle.qtt_names_laws.specs.Sight.{dot, IsPlain, IsQualified}

tail_of : (x y : ℕ) (xs ys : List ℕ) → x ∷ xs ≡ y ∷ ys → xs ≡ ys
tail_of x y xs ys e = cc

head_of : (x y : ℕ) (xs ys : List ℕ) → x ∷ xs ≡ y ∷ ys → x ≡ y
head_of x y xs ys e = cc

-- what a split says
abbrev pub Split : List ℕ → Option (List ℕ × List ℕ) → Type 0
Split path None = IsPlain path
Split path (Some s) = IsQualified path s.0 s.1

empty_plain : IsPlain []
empty_plain [] k e = absurd (cc e)
empty_plain (x ∷ m) k e = absurd (cc e)

pub split_is : (path : List ℕ) → Split path (split_at_dot path)
split_is [] = empty_plain
split_is (b ∷ more) = by (split_at_dot more) (split_is more)
  where
    plain : b ≢ dot → IsPlain more → IsPlain (b ∷ more)
    plain d h [] k e = d (head_of b dot more k e)
    plain d h (x ∷ m) k e = h m k (tail_of b x more (m ++ dot ∷ k) e)

    at : (t : Bool) → (b == dot) ≡ t → IsPlain more → Split (b ∷ more) (cond t (Some ([], more)) None)
    at true e h = record { spelled = ap (λ (x : ℕ). x ∷ more) (eqb-true b dot e); last = h }
    at false e h = plain (eqb-false b dot e) h

    by : (o : Option (List ℕ × List ℕ)) → Split more o → Split (b ∷ more) (in_front b o more)
    by None h = at (b == dot) refl h
    by (Some s) h = record { spelled = ap (λ (l : List ℕ). b ∷ l) h.spelled; last = h.last }

-- the last dot stands at one place
last_dot : (m n l k : List ℕ) → IsPlain n → IsPlain k → m ++ dot ∷ n ≡ l ++ dot ∷ k → (m ≡ l) × (n ≡ k)
last_dot [] n [] k p q e = (refl, tail_of dot dot n k e)
last_dot [] n (x ∷ l) k p q e = absurd (p l k (tail_of dot x n (l ++ dot ∷ k) e))
last_dot (y ∷ m) n [] k p q e = absurd (q m n (sym (tail_of y dot (m ++ dot ∷ n) k e)))
last_dot (y ∷ m) n (x ∷ l) k p q e =
    let r = last_dot m n l k p q (tail_of y x (m ++ dot ∷ n) (l ++ dot ∷ k) e) in
    (ap₂ (λ a b. a ∷ b) (head_of y x (m ++ dot ∷ n) (l ++ dot ∷ k) e) r.0, r.1)

split_unique : (path : List ℕ) (o q : Option (List ℕ × List ℕ)) → Split path o → Split path q → o ≡ q
split_unique path None None h k = refl
split_unique path None (Some t) h k = absurd (h t.0 t.1 k.spelled)
split_unique path (Some s) None h k = absurd (k s.0 s.1 h.spelled)
split_unique path (Some s) (Some t) h k =
    let r = last_dot s.0 s.1 t.0 t.1 h.last k.last (sym h.spelled ∙ k.spelled) in
    ap₂ (λ a b. Some (a, b)) r.0 r.1

pub split_at : (path : List ℕ) (o : Option (List ℕ × List ℕ)) → Split path o → split_at_dot path ≡ o
split_at path o h = split_unique path (split_at_dot path) o (split_is path) h
