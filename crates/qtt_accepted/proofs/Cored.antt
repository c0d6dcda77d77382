-- A group without a hole gives the body of its clauses.
use Rattle.std.proofs.Common.{◌≡◌, ℕ, suc, Bool, true, false, cond, List, [], ◌∷◌, ◌++◌, eqb, reverse, bytes_eq, refl, sym, ap, subst, ◌∙◌}
use Rattle.std.specs.List.{list_any}
use Rattle.qtt_term.specs.Term.{Term}
use Rattle.qtt_term.specs.Judgement.{Part}
use Rattle.qtt_term.specs.Ask.{Ask, ◌>>=◌, Ending, Ends}
use Rattle.qtt_term.specs.Entries.{Entries, env}
use Rattle.qtt_core_check.proofs.Parts.{parts, ended}
use Rattle.qtt_core_check.proofs.Answered.{ends-then}
use Rattle.qtt_split.specs.Tree.{Leaf, leaves}
use Rattle.qtt_split.specs.Node.{Clause}
use Rattle.qtt_split.specs.Plan.{Planned}
use Rattle.qtt_split.specs.Group.{Defined, dots_of, scope_at, dots_agree, side_at, Numbered, sides_of, all_sides, body_with, body_holds, tree_of, body_of}
use Rattle.qtt_bidi.specs.Elaboration.{judge}
use Rattle.qtt_holes.specs.Hole.{Hole}
use Rattle.qtt_holes.specs.Walk.{has_hole, walk}
use Rattle.qtt_module.specs.Sides.{names_of, Side, side_or_hole, holes_from, cores, Given, end_group, group_of}

-- ---- sides without a hole
abbrev NoHole : Numbered Side → Type 0
NoHole [] = Unit {0}
NoHole ((k, Side.core t) ∷ xs) = NoHole xs
NoHole ((k, Side.hole h) ∷ xs) = ⊥

still-some : (xs : Numbered Side) (h : Hole) (hs : List Hole) → holes_from (h ∷ hs) xs ≡ [] → ⊥
still-some [] h hs e = absurd (cc e)
still-some ((k, Side.core t) ∷ xs) h hs e = still-some xs h hs e
still-some ((k, Side.hole g) ∷ xs) h hs e =
    by_test (list_any (λ (x : Hole). bytes_eq x.name g.name) (h ∷ hs)) e (still-some xs h)
  where
    by_test : (b : Bool) → holes_from (cond b (h ∷ hs) ((h ∷ hs) ++ (g ∷ []))) xs ≡ [] →
        ((hs : List Hole) → holes_from (h ∷ hs) xs ≡ [] → ⊥) → ⊥
    by_test true e rest = rest hs e
    by_test false e rest = rest (hs ++ (g ∷ [])) e

none-from : (xs : Numbered Side) → holes_from [] xs ≡ [] → NoHole xs
none-from [] e = tt
none-from ((k, Side.core t) ∷ xs) e = none-from xs e
none-from ((k, Side.hole h) ∷ xs) e = still-some xs h [] e

both-none : (xs ys : Numbered Side) → NoHole (xs ++ ys) → NoHole xs × NoHole ys
both-none [] ys n = (tt, n)
both-none ((k, Side.core t) ∷ xs) ys n = both-none xs ys n
both-none ((k, Side.hole h) ∷ xs) ys n = absurd n

cores-append : (xs ys : Numbered Side) → cores (xs ++ ys) ≡ cores xs ++ cores ys
cores-append [] ys = refl
cores-append ((k, Side.core t) ∷ xs) ys = ap (λ zs. (k, t) ∷ zs) (cores-append xs ys)
cores-append ((k, Side.hole h) ∷ xs) ys = cores-append xs ys

core-is : (t u : Term) → Side.core t ≡ Side.core u → t ≡ u
core-is t u e = cc e

module _ (G : Entries) (p : Part) where
  -- a clause at a leaf
  side-cored : (c : Clause) (l : Leaf) (t : Term) → Ends (env G) (side_or_hole G p c l) (Ending.ok (Side.core t)) →
      Ends (env G) (side_at (judge G) p c l) (Ending.ok t)
  unfolding side_or_hole
  side-cored c l t x = by (has_hole c.side) x
    where
      by : (b : Bool) → Ends (env G) (elim b [
        | false ↦ side_at (judge G) p c l >>= λ t. Ask.done (Side.core t)
        | true ↦ dots_agree (judge G) l (dots_of c.patterns) l.dots >>= λ d.
            walk G p (scope_at l) (reverse (names_of c.patterns)) l.reported c.side l.goal >>= λ h.
            Ask.done (Side.hole h)
      ]) (Ending.ok (Side.core t)) → Ends (env G) (side_at (judge G) p c l) (Ending.ok t)
      by false y =
          let r = parts (side_at (judge G) p c l) _ _ y in
          subst (λ z. Ends (env G) (side_at (judge G) p c l) (Ending.ok z)) (core-is r.mid t (ended _ _ r.after))
          r.first
      by true y =
          let d = parts _ _ _ y in
          let h = parts _ _ _ d.after in
          let e : Side.hole h.mid ≡ Side.core t = ended _ _ h.after in absurd (cc e)

  one-cored : (n : ℕ) (c : Clause) (k : ℕ) (l : Leaf) (ls : List Leaf) (s : Side) (xs : Numbered Side) →
      NoHole ((k, s) ∷ xs) → Ends (env G) (side_or_hole G p c l) (Ending.ok s) →
      (NoHole xs → Ends (env G) (sides_of (side_at (judge G) p) n c (suc k) ls) (Ending.ok (cores xs))) →
      Ends (env G) (side_at (judge G) p c l >>= λ t. sides_of (side_at (judge G) p) n c (suc k) ls >>= λ ts.
      Ask.done ((k, t) ∷ ts)) (Ending.ok (cores ((k, s) ∷ xs)))
  one-cored n c k l ls (Side.core t) xs none x rest =
      ends-then (side_at (judge G) p c l) _ (side-cored c l t x)
      (ends-then (sides_of (side_at (judge G) p) n c (suc k) ls) _ (rest none) Ends.is_done)
  one-cored n c k l ls (Side.hole h) xs none x rest = absurd none

  -- a clause at its leaves
  sides-cored : (n : ℕ) (c : Clause) (k : ℕ) (ls : List Leaf) (xs : Numbered Side) → NoHole xs →
      Ends (env G) (sides_of (side_or_hole G p) n c k ls) (Ending.ok xs) →
      Ends (env G) (sides_of (side_at (judge G) p) n c k ls) (Ending.ok (cores xs))
  sides-cored n c k [] xs none x =
      subst (λ ys. Ends (env G) (sides_of (side_at (judge G) p) n c k []) (Ending.ok (cores ys))) (ended [] xs x)
      Ends.is_done
  sides-cored n c k (l ∷ ls) xs none x =
      by (eqb l.clause n) x (λ ys none y. sides-cored n c (suc k) ls ys none y)
    where
      by : (b : Bool) → Ends (env G) (elim b [
        | true ↦ side_or_hole G p c l >>= λ t. sides_of (side_or_hole G p) n c (suc k) ls >>= λ ts.
            Ask.done ((k, t) ∷ ts)
        | false ↦ sides_of (side_or_hole G p) n c (suc k) ls
      ]) (Ending.ok xs) →
          ((ys : Numbered Side) → NoHole ys →
          Ends (env G) (sides_of (side_or_hole G p) n c (suc k) ls) (Ending.ok ys) →
          Ends (env G) (sides_of (side_at (judge G) p) n c (suc k) ls) (Ending.ok (cores ys))) →
          Ends (env G) (elim b [
            | true ↦ side_at (judge G) p c l >>= λ t. sides_of (side_at (judge G) p) n c (suc k) ls >>= λ ts.
                Ask.done ((k, t) ∷ ts)
            | false ↦ sides_of (side_at (judge G) p) n c (suc k) ls
          ]) (Ending.ok (cores xs))
      by true y rest =
          let s = parts (side_or_hole G p c l) _ xs y in
          let r = parts (sides_of (side_or_hole G p) n c (suc k) ls) _ xs s.after in
          let e : (k, s.mid) ∷ r.mid ≡ xs = ended _ _ r.after in
          subst (λ ys. Ends (env G) (side_at (judge G) p c l >>= λ t.
          sides_of (side_at (judge G) p) n c (suc k) ls >>= λ ts. Ask.done ((k, t) ∷ ts)) (Ending.ok (cores ys))) e
          (one-cored n c k l ls s.mid r.mid (subst NoHole (sym e) none) s.first (λ h. rest r.mid h r.first))
      by false y rest = rest xs none y

  -- clauses in text order
  all-cored : (n : ℕ) (cs : List Clause) (ls : List Leaf) (xs : Numbered Side) → NoHole xs →
      Ends (env G) (all_sides (side_or_hole G p) n cs ls) (Ending.ok xs) →
      Ends (env G) (all_sides (side_at (judge G) p) n cs ls) (Ending.ok (cores xs))
  all-cored n [] ls xs none x =
      subst (λ ys. Ends (env G) (all_sides (side_at (judge G) p) n [] ls) (Ending.ok (cores ys))) (ended [] xs x)
      Ends.is_done
  all-cored n (c ∷ cs) ls xs none x =
      let s = parts (sides_of (side_or_hole G p) n c 0 ls) _ xs x in
      let r = parts (all_sides (side_or_hole G p) (suc n) cs ls) _ xs s.after in
      let e : s.mid ++ r.mid ≡ xs = ended _ _ r.after in
      let h = both-none s.mid r.mid (subst NoHole (sym e) none) in
      subst (λ ys. Ends (env G) (all_sides (side_at (judge G) p) n (c ∷ cs) ls) (Ending.ok ys))
      (sym (cores-append s.mid r.mid) ∙ ap cores e)
      (ends-then (sides_of (side_at (judge G) p) n c 0 ls) _ (sides-cored n c 0 ls s.mid h.0 s.first)
      (ends-then (all_sides (side_at (judge G) p) (suc n) cs ls) _ (all-cored (suc n) cs ls r.mid h.1 r.first)
      Ends.is_done))

-- ---- the body
ended-cored : (D : Defined) (P : Planned) (xs : Numbered Side) (hs : List Hole) (b : Term) → holes_from [] xs ≡ hs →
    Ends (env D.group.globals) (end_group D P xs hs) (Ending.ok (Given.body b)) →
    NoHole xs × ((body_with P (cores xs) ≡ b)
    × Ends (env D.group.globals) (body_holds D (body_with P (cores xs))) (Ending.ok tt))
unfolding end_group
ended-cored D P xs [] b e x =
    let r = parts (body_holds D (body_with P (cores xs))) _ _ x in
    let d : Given.body (body_with P (cores xs)) ≡ Given.body b = ended _ _ r.after in
    (none-from xs e, (cc d, r.first))
ended-cored D P xs (h ∷ hs) b e x = let d : Given.holes (h ∷ hs) ≡ Given.body b = ended _ _ x in absurd (cc d)

pub group-body : (D : Defined) (b : Term) → Ends (env D.group.globals) (group_of D) (Ending.ok (Given.body b)) →
    Ends (env D.group.globals) (body_of (judge D.group.globals) D) (Ending.ok b)
unfolding group_of body_of
group-body D b x =
    let p = parts (tree_of D) _ _ x in
    let s = parts (all_sides (side_or_hole D.group.globals D.group.part) 0 D.group.clauses (leaves p.mid.tree)) _ _
    p.after in
    let r = ended-cored D p.mid s.mid (holes_from [] s.mid) b refl s.after in
    subst (λ z. Ends (env D.group.globals) (body_of (judge D.group.globals) D) (Ending.ok z)) r.1.0
    (ends-then (tree_of D) _ p.first
    (ends-then (all_sides (side_at (judge D.group.globals) D.group.part) 0 D.group.clauses (leaves p.mid.tree)) _
    (all-cored D.group.globals D.group.part 0 D.group.clauses (leaves p.mid.tree) s.mid r.0 s.first)
    (ends-then (body_holds D (body_with p.mid (cores s.mid))) _ r.1.1 Ends.is_done)))

-- its tree
pub group-tree : (D : Defined) (b : Term) → Ends (env D.group.globals) (group_of D) (Ending.ok (Given.body b)) →
    (P : Planned) × Ends (env D.group.globals) (tree_of D) (Ending.ok P)
unfolding group_of
group-tree D b x = let p = parts (tree_of D) _ _ x in (p.mid, p.first)
