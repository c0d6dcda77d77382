-- Names in lists, as they are looked up.
use Rattle.std.proofs.Common.{◌≡◌, ◌≢◌, ℕ, suc, ◌+◌, ◌<◌, ◌≤◌, Bool, true, false, cond, not, nat_lt, List, [], ◌∷◌, ◌++◌, length, position, Option, Some, None, option_map, refl, sym, ap, ◌∙◌, subst, arith, true≢false, one-add, inl, inr, ◌⊎◌}
use Rattle.std.specs.List.{prefix_len}
use Rattle.std.specs.Cmp.Lexicographic.{bytes_decides}
use Rattle.std.proofs.lemmas.Bool.{false_from_ne_true, ltb-true, ltb-false, lt-ltb, le-ltb, cases_Bool}
use Rattle.qtt_names.specs.Scope.{same_name, entry_of}
use Rattle.qtt_names_laws.specs.Sight.{First, Absent, Entry, names}
use Rattle.qtt_names_laws.specs.Sight.Absent.{none, other}

pub same : (a b : List ℕ) → same_name a b ≡ true → a ≡ b
same a b e = (bytes_decides a b).0 e

pub same_from : (a b : List ℕ) → a ≡ b → same_name a b ≡ true
same_from a b e = (bytes_decides a b).1 e

pub apart : (a b : List ℕ) → same_name a b ≡ false → a ≢ b
apart a b e q = true≢false (sym (same_from a b q) ∙ e)

pub apart_from : (a b : List ℕ) → a ≢ b → same_name a b ≡ false
apart_from a b h = false_from_ne_true (same_name a b) (λ e. h (same a b e))

-- ---- positions

position_step : (t : List ℕ → Bool) (x : List ℕ) (xs : List (List ℕ)) →
    position t (x ∷ xs) ≡ cond (t x) (Some 0) (option_map suc (position t xs))
position_step t x xs = by (t x) (cases_Bool (nat_lt p (length xs)))
  where
    p : ℕ
    p = prefix_len (λ y. not (t y)) xs

    short : (b : Bool) → nat_lt p (length xs) ≡ b → nat_lt (1 + p) (length (x ∷ xs)) ≡ b
    short true e =
        let h : p < length xs = ltb-true _ _ e in
        lt-ltb _ _ (omega arith)
    short false e =
        let h : length xs ≤ p = ltb-false _ _ e in
        le-ltb _ _ (omega arith)

    by : (b : Bool) → (nat_lt p (length xs) ≡ true) ⊎ (nat_lt p (length xs) ≡ false) →
        cond (nat_lt (cond (not b) (1 + p) 0) (length (x ∷ xs))) (Some (cond (not b) (1 + p) 0)) None ≡
        cond b (Some 0) (option_map suc (cond (nat_lt p (length xs)) (Some p) None))
    by true h = ap (λ (c : Bool). cond c (Some 0) None) (lt-ltb 0 (length (x ∷ xs)) (omega arith))
    by false (inl e) =
        ap (λ (c : Bool). cond c (Some (1 + p)) None) (short true e) ∙ ap Some (one-add p) ∙
        sym (ap (λ (c : Bool). option_map suc (cond c (Some p) None)) e)
    by false (inr e) =
        ap (λ (c : Bool). cond c (Some (1 + p)) None) (short false e) ∙
        sym (ap (λ (c : Bool). option_map suc (cond c (Some p) None)) e)

-- what a position says
abbrev pub Placed : List ℕ → List (List ℕ) → Option ℕ → Type 0
Placed n xs None = Absent n xs
Placed n xs (Some i) = First n xs i

pub placed : (n : List ℕ) (xs : List (List ℕ)) → Placed n xs (position (same_name n) xs)
placed n [] = none
placed n (x ∷ xs) =
    subst (Placed n (x ∷ xs)) (sym (position_step (same_name n) x xs))
    (by (same_name n x) refl (position (same_name n) xs) (placed n xs))
  where
    by : (b : Bool) → same_name n x ≡ b → (o : Option ℕ) → Placed n xs o →
        Placed n (x ∷ xs) (cond b (Some 0) (option_map suc o))
    by true e o h = subst (λ (m : List ℕ). First n (m ∷ xs) 0) (same n x e) First.here
    by false e None h = other (apart n x e) h
    by false e (Some i) h = First.behind (apart n x e) h

there : (n x : List ℕ) (xs : List (List ℕ)) → n ≡ x → position (same_name n) (x ∷ xs) ≡ Some 0
there n x xs e =
    position_step (same_name n) x xs ∙
    ap (λ (t : Bool). cond t (Some 0) (option_map suc (position (same_name n) xs))) (same_from n x e)

further : (n x : List ℕ) (xs : List (List ℕ)) → n ≢ x →
    position (same_name n) (x ∷ xs) ≡ option_map suc (position (same_name n) xs)
further n x xs d =
    position_step (same_name n) x xs ∙
    ap (λ (t : Bool). cond t (Some 0) (option_map suc (position (same_name n) xs))) (apart_from n x d)

pub first_is : (n : List ℕ) (xs : List (List ℕ)) (i : ℕ) → First n xs i → position (same_name n) xs ≡ Some i
first_is n _ _ (First.here {more = more}) = there n n more refl
first_is n _ _ (First.behind {m = m} {more = more} {i = i} d h) =
    further n m more d ∙ ap (option_map suc) (first_is n more i h)

pub absent_is : (n : List ℕ) (xs : List (List ℕ)) → Absent n xs → position (same_name n) xs ≡ None
absent_is n _ none = refl
absent_is n _ (other {m = m} {more = more} d h) = further n m more d ∙ ap (option_map suc) (absent_is n more h)

pub first_absent : (n : List ℕ) (xs : List (List ℕ)) (i : ℕ) → First n xs i → Absent n xs → ⊥
first_absent n _ _ First.here (other d h) = d refl
first_absent n _ _ (First.behind {more = more} {i = i} d h) (other e k) = first_absent n more i h k

-- ---- a name more

pub absent_append : (n m : List ℕ) (xs : List (List ℕ)) → Absent n xs → n ≢ m → Absent n (xs ++ m ∷ [])
absent_append n m _ none d = other d none
absent_append n m _ (other {more = more} e h) d = other e (absent_append n m more h d)

pub absent_front : (n m : List ℕ) (xs : List (List ℕ)) → Absent n (xs ++ m ∷ []) → Absent n xs
absent_front n m [] h = none
absent_front n m (x ∷ xs) (other e h) = other e (absent_front n m xs h)

pub absent_last : (n m : List ℕ) (xs : List (List ℕ)) → Absent n (xs ++ m ∷ []) → n ≢ m
absent_last n m [] (other e h) = e
absent_last n m (x ∷ xs) (other e h) = absent_last n m xs h

-- ---- entries

module _ {A : Type 0} where
  -- what an entry says
  abbrev pub Held : List ℕ → List (List ℕ × A) → Option A → Type 0
  Held n es None = Absent n (names es)
  Held n es (Some a) = Entry n a es

  pub held : (n : List ℕ) (es : List (List ℕ × A)) → Held n es (entry_of n es)
  held n [] = none
  held n (e ∷ es) = by (same_name n e.0) refl (entry_of n es) (held n es)
    where
      by : (b : Bool) → same_name n e.0 ≡ b → (o : Option A) → Held n es o → Held n (e ∷ es) (cond b (Some e.1) o)
      by true q o h = subst (λ (m : List ℕ). Entry n e.1 ((m, e.1) ∷ es)) (same n e.0 q) Entry.here
      by false q None h = other (apart n e.0 q) h
      by false q (Some a) h = Entry.behind (apart n e.0 q) h

  pub entry_is : (n : List ℕ) (a : A) (es : List (List ℕ × A)) → Entry n a es → entry_of n es ≡ Some a
  entry_is n a _ (Entry.here {more = more}) =
      ap (λ (t : Bool). cond t (Some a) (entry_of n more)) (same_from n n refl)
  entry_is n a _ (Entry.behind {m = m} {b = b} {more = more} d h) =
      ap (λ (t : Bool). cond t (Some b) (entry_of n more)) (apart_from n m d) ∙ entry_is n a more h

  pub no_entry_is : (n : List ℕ) (es : List (List ℕ × A)) → Absent n (names es) → entry_of n es ≡ None
  no_entry_is n [] h = refl
  no_entry_is n (e ∷ es) (other d h) =
      ap (λ (t : Bool). cond t (Some e.1) (entry_of n es)) (apart_from n e.0 d) ∙ no_entry_is n es h
