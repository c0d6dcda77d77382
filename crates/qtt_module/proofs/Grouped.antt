-- What a group of clauses ends with is what its rules derive.
use Rattle.std.proofs.Common.{◌≡◌, ℕ, suc, ◌+◌, ◌<◌, ◌≤◌, ◌⊎◌, inl, inr, Bool, true, false, eqb, List, [], ◌∷◌, length, reverse, Any, Option, Some, None, refl, sym, ◌∙◌, subst, arith}
use Rattle.std.specs.List.{list_any}
use Rattle.std.proofs.lemmas.Bool.{eqb-true, eqb-false, eq-eqb}
use Rattle.std.proofs.lemmas.List.Folds.{Any-from_list_any, list_any-from_Any}
use Rattle.qtt_base.specs.declared.place.Span.{Span}
use Rattle.qtt_usage.specs.Mult.{fits}
use Rattle.qtt_syntax.specs.Tree.{Tree, Shape}
use Rattle.qtt_term.specs.Term.{Term}
use Rattle.qtt_term.specs.Signature.{Env}
use Rattle.qtt_term.specs.Contraction.{Conv}
use Rattle.qtt_term.specs.Judgement.{Part}
use Rattle.qtt_term.specs.Ask.{Ask, ◌>>=◌, Ends}
use Rattle.qtt_term.specs.Entries.{Entries, env}
use Rattle.qtt_rules.specs.Refusal.{Place}
use Rattle.qtt_rules.specs.Asks.{alike}
use Rattle.qtt_rules.specs.Judged.{Mode}
use Rattle.qtt_split.specs.Tree.{Leaf, leaves}
use Rattle.qtt_split.specs.Missing.{uncovered}
use Rattle.qtt_split.specs.Node.{Clause}
use Rattle.qtt_split.specs.Plan.{Planned, plan}
use Rattle.qtt_split.specs.Group.{Defined, dots_of, scope_at, dots_agree, side_at, Numbered, sides_of, all_sides, covers, reaches, body_with, or_body_refused, body_holds, tree_of}
use Rattle.qtt_core_check.proofs.Parts.{parts, ended}
use Rattle.qtt_core_check.proofs.Answered.{ends-then as joined}
use Rattle.qtt_bidi.specs.Elaboration.{judge}
use Rattle.qtt_bidi.proofs.Endings.{Gives, holding, held, asked, asks}
use Rattle.qtt_bidi.proofs.Derived.{derived}
use Rattle.qtt_bidi.proofs.Reached.{ends}
use Rattle.qtt_holes.specs.Hole.{Hole}
use Rattle.qtt_holes.specs.Walk.{has_hole, walk}
use Rattle.qtt_holes.specs.Rules.{HasHole}
use Rattle.qtt_holes.proofs.Passing.{uses_so, so_uses}
use Rattle.qtt_holes.proofs.Tails.{elaborated, walked}
use Rattle.qtt_holes.proofs.Walked.{walk_so}
use Rattle.qtt_holes.proofs.Walking.{so_walk}
use Rattle.qtt_module.specs.Sides.{names_of, Side, side_or_hole, holes_from, cores, Given, end_group, group_of}
use Rattle.qtt_module.specs.GroupRules.{HasTree, DotsAgree, GivesSide, GivesSides, GivesAllSides, BodyAccepted, GivesGroup}

-- ---- comparisons
alike_so : {E : Env} (p : Place) (n : ℕ) (t s : Term) (b : Bool) → Gives E (alike p n t s) b → b ≡ true → Conv E t s
alike_so p n t s b (Ends.are_equal e x) h = e
alike_so p n t s b (Ends.are_different e x) h = let d : false ≡ true = ended false b x ∙ h in absurd (cc d)

so_alike : {E : Env} (p : Place) (n : ℕ) (t s : Term) → Conv E t s → Gives E (alike p n t s) true
so_alike p n t s e = Ends.are_equal e Ends.is_done

-- ---- what a tree leaves out
module _ {E : Env} (D : Defined) where
  covers_so : (o : Option (List Shape)) (u : Unit {0}) → Gives E (covers D o) u → (o ≡ None) ⊎ (D.may_miss ≡ true)
  covers_so None u x = inl refl
  covers_so (Some ps) u x = inr (holding _ _ u x)

  so_covers : (o : Option (List Shape)) → (o ≡ None) ⊎ (D.may_miss ≡ true) → Gives E (covers D o) tt
  so_covers None h = Ends.is_done
  so_covers (Some ps) (inl e) = absurd (cc e)
  so_covers (Some ps) (inr e) = held _ _ e

abbrev Of : ℕ → Leaf → Type 0
Of n l = l.clause ≡ n

any_so : (ls : List Leaf) (n : ℕ) → list_any (λ (l : Leaf). eqb l.clause n) ls ≡ true → Any (Of n) ls
any_so ls n e =
    let (k, l, i, s, h) = Any-from_list_any (λ (l : Leaf). eqb l.clause n) ls e in
    (k, l, i, s, eqb-true l.clause n h)

so_any : (ls : List Leaf) (n : ℕ) → Any (Of n) ls → list_any (λ (l : Leaf). eqb l.clause n) ls ≡ true
so_any ls n a =
    let (k, l, i, s, h) = a in
    list_any-from_Any (λ (l : Leaf). eqb l.clause n) ls (k, l, i, s, eq-eqb l.clause n h)

module _ {E : Env} (D : Defined) (ls : List Leaf) where
  reaches_so : (n : ℕ) (cs : List Clause) (u : Unit {0}) → Gives E (reaches D ls n cs) u → (m : ℕ) → n ≤ m →
      m < n + length cs → Any (Of m) ls
  reaches_so n [] u x m a b = absurd (omega (arith, a, b))
  reaches_so n (c ∷ cs) u x m a b =
      let f = parts _ _ _ x in
      by (eqb n m) refl (any_so ls n (holding _ _ f.mid f.first))
      (λ i j. reaches_so (suc n) cs u f.after m i j)
    where
      by : (t : Bool) → eqb n m ≡ t → Any (Of n) ls → (suc n ≤ m → m < suc n + length cs → Any (Of m) ls) →
          Any (Of m) ls
      by true e h r = subst (λ k. Any (Of k) ls) (eqb-true n m e) h
      by false e h r = let d = eqb-false n m e in r (later n m a d) (omega (arith, b))
        where
          later : (i k : ℕ) → i ≤ k → (i ≡ k → ⊥) → suc i ≤ k
          later i k p q = omega (arith, p, q)

  so_reaches : (n : ℕ) (cs : List Clause) → ((m : ℕ) → n ≤ m → m < n + length cs → Any (Of m) ls) →
      Gives E (reaches D ls n cs) tt
  so_reaches n [] h = Ends.is_done
  so_reaches n (c ∷ cs) h =
      joined _ _ (held _ _ (so_any ls n (h n (omega (arith)) (omega (arith)))))
      (so_reaches (suc n) cs (λ m a b. h m (omega (arith, a)) (omega (arith, b))))

tree_so : (D : Defined) (P : Planned) → Gives (env D.group.globals) (tree_of D) P → HasTree D P
unfolding tree_of
tree_so D P x =
    let p = parts (plan D.group D.type D.labels) _ P x in
    let c = parts (covers D (uncovered p.mid.tree)) _ P p.after in
    let r = parts (reaches D (leaves p.mid.tree) 0 D.group.clauses) _ P c.after in
    subst (HasTree D) (ended _ _ r.after) (record {
      planned = p.first;
      covers = covers_so D (uncovered p.mid.tree) c.mid c.first;
      reached = λ n h. reaches_so D (leaves p.mid.tree) 0 D.group.clauses r.mid r.first n (omega (arith))
          (omega (arith, h));
    })

so_tree : (D : Defined) (P : Planned) → HasTree D P → Gives (env D.group.globals) (tree_of D) P
unfolding tree_of
so_tree D P h =
    joined (plan D.group D.type D.labels) _ h.planned
    (joined (covers D (uncovered P.tree)) _ (so_covers D (uncovered P.tree) h.covers)
    (joined (reaches D (leaves P.tree) 0 D.group.clauses) _
    (so_reaches D (leaves P.tree) 0 D.group.clauses (λ m a b. h.reached m (omega (arith, b)))) Ends.is_done))

-- ---- dot patterns
dots_so : (G : Entries) (l : Leaf) (ds : List (Tree × Span)) (cs : List (Term × Term)) (u : Unit {0}) →
    Gives (env G) (dots_agree (judge G) l ds cs) u → DotsAgree G l ds cs
dots_so G l [] cs u x = DotsAgree.no_dot
dots_so G l (d ∷ ds) [] u x = DotsAgree.no_column
dots_so G l (d ∷ ds) (c ∷ cs) u x =
    let e = parts _ _ _ x in
    let s = parts _ _ _ e.after in
    let b = parts _ _ _ s.after in
    DotsAgree.more (derived d.0 G Part.erased (scope_at l) (Mode.check c.1) e.mid e.first)
    (alike_so _ _ _ c.0 s.mid s.first (holding _ _ b.mid b.first)) (dots_so G l ds cs u b.after)

so_dots : (G : Entries) (l : Leaf) (ds : List (Tree × Span)) (cs : List (Term × Term)) → DotsAgree G l ds cs →
    Gives (env G) (dots_agree (judge G) l ds cs) tt
so_dots G l [] [] h = Ends.is_done
so_dots G l [] (c ∷ cs) h = Ends.is_done
so_dots G l (d ∷ ds) [] h = Ends.is_done
so_dots G l (d ∷ ds) (c ∷ cs) (DotsAgree.more e v h) =
    joined _ _ (ends e) (joined _ _ (so_alike _ _ _ c.0 v) (joined _ _ (held _ _ refl) (so_dots G l ds cs h)))

-- ---- a clause at a leaf
module _ (G : Entries) (p : Part) where
  side_so : (c : Clause) (l : Leaf) (s : Side) → Gives (env G) (side_or_hole G p c l) s → GivesSide G p c l s
  unfolding side_or_hole side_at
  side_so c l s x = by (has_hole c.side) x
    where
      by : (b : Bool) → Gives (env G) (elim b [
        | false ↦ side_at (judge G) p c l >>= λ t. Ask.done (Side.core t)
        | true ↦ dots_agree (judge G) l (dots_of c.patterns) l.dots >>= λ d.
            walk G p (scope_at l) (reverse (names_of c.patterns)) l.reported c.side l.goal >>= λ h.
            Ask.done (Side.hole h)
      ]) s → GivesSide G p c l s
      by false y =
          let t = parts (side_at (judge G) p c l) _ s y in
          let d = parts _ _ t.mid t.first in
          let e = parts (judge G p (scope_at l) (Mode.check l.goal) c.side) _ t.mid d.after in
          let u = parts _ _ t.mid e.after in
          subst (GivesSide G p c l) (ended _ _ t.after)
          (subst (λ z. GivesSide G p c l (Side.core z)) (ended _ _ u.after)
          (GivesSide.elaborates (dots_so G l (dots_of c.patterns) l.dots d.mid d.first)
          (derived c.side G p (scope_at l) (Mode.check l.goal) e.mid e.first)
          (uses_so fits p l.context e.mid.uses l.reported u.mid u.first)))
      by true y =
          let d = parts _ _ s y in
          let h = parts _ _ s d.after in
          subst (GivesSide G p c l) (ended _ _ h.after)
          (GivesSide.has_hole (dots_so G l (dots_of c.patterns) l.dots d.mid d.first)
          (walk_so G p (scope_at l) (reverse (names_of c.patterns)) l.reported c.side l.goal h.mid h.first))

  hole_in : (c : Clause) (l : Leaf) (h : Hole) →
      HasHole G p (scope_at l) (reverse (names_of c.patterns)) l.reported c.side l.goal h → has_hole c.side ≡ true
  hole_in c l _ (HasHole.has_hole d u) = walked d

  so_side : (c : Clause) (l : Leaf) (s : Side) → GivesSide G p c l s → Gives (env G) (side_or_hole G p c l) s
  unfolding side_or_hole side_at
  so_side c l _ (GivesSide.elaborates {j = j} d e u) = by (has_hole c.side) (elaborated e)
    where
      by : (b : Bool) → b ≡ false → Gives (env G) (elim b [
        | false ↦ side_at (judge G) p c l >>= λ t. Ask.done (Side.core t)
        | true ↦ dots_agree (judge G) l (dots_of c.patterns) l.dots >>= λ d.
            walk G p (scope_at l) (reverse (names_of c.patterns)) l.reported c.side l.goal >>= λ h.
            Ask.done (Side.hole h)
      ]) (Side.core j.core)
      by false k =
          joined (side_at (judge G) p c l) _
          (joined _ _ (so_dots G l (dots_of c.patterns) l.dots d) (joined _ _ (ends e)
          (joined _ _ (so_uses fits p l.context j.uses l.reported u) Ends.is_done))) Ends.is_done
      by true k = absurd (cc k)
  so_side c l _ (GivesSide.has_hole {h = h} d w) = by (has_hole c.side) (hole_in c l h w)
    where
      by : (b : Bool) → b ≡ true → Gives (env G) (elim b [
        | false ↦ side_at (judge G) p c l >>= λ t. Ask.done (Side.core t)
        | true ↦ dots_agree (judge G) l (dots_of c.patterns) l.dots >>= λ d.
            walk G p (scope_at l) (reverse (names_of c.patterns)) l.reported c.side l.goal >>= λ h.
            Ask.done (Side.hole h)
      ]) (Side.hole h)
      by true k =
          joined _ _ (so_dots G l (dots_of c.patterns) l.dots d)
          (joined _ _ (so_walk G p (scope_at l) (reverse (names_of c.patterns)) l.reported c.side l.goal h w)
          Ends.is_done)
      by false k = absurd (cc k)

  -- ---- at its leaves
  sides_so : (n : ℕ) (c : Clause) (k : ℕ) (ls : List Leaf) (xs : Numbered Side) →
      Gives (env G) (sides_of (side_or_hole G p) n c k ls) xs → GivesSides G p n c k ls xs
  sides_so n c k [] xs x = subst (GivesSides G p n c k []) (ended _ _ x) GivesSides.none
  sides_so n c k (l ∷ ls) xs x = by (eqb l.clause n) refl (λ ys y. sides_so n c (suc k) ls ys y) x
    where
      by : (b : Bool) → eqb l.clause n ≡ b →
          ((ys : Numbered Side) → Gives (env G) (sides_of (side_or_hole G p) n c (suc k) ls) ys →
          GivesSides G p n c (suc k) ls ys) →
          Gives (env G) (elim b [
            | true ↦ side_or_hole G p c l >>= λ t.
                sides_of (side_or_hole G p) n c (suc k) ls >>= λ ts. Ask.done ((k, t) ∷ ts)
            | false ↦ sides_of (side_or_hole G p) n c (suc k) ls
          ]) xs → GivesSides G p n c k (l ∷ ls) xs
      by true e rest y =
          let s = parts (side_or_hole G p c l) _ xs y in
          let m = parts (sides_of (side_or_hole G p) n c (suc k) ls) _ xs s.after in
          subst (GivesSides G p n c k (l ∷ ls)) (ended _ _ m.after)
          (GivesSides.its_own (eqb-true l.clause n e) (side_so c l s.mid s.first) (rest m.mid m.first))
      by false e rest y = GivesSides.another (eqb-false l.clause n e) (rest xs y)

  so_sides : (n : ℕ) (c : Clause) (k : ℕ) (ls : List Leaf) (xs : Numbered Side) → GivesSides G p n c k ls xs →
      Gives (env G) (sides_of (side_or_hole G p) n c k ls) xs
  so_sides n c k _ _ GivesSides.none = Ends.is_done
  so_sides n c k _ _ (GivesSides.its_own {l = l} {ls = ls} {x = s} {xs = xs} e d m) =
      by (eqb l.clause n) (eq-eqb l.clause n e) (so_sides n c (suc k) ls xs m)
    where
      by : (b : Bool) → b ≡ true → Gives (env G) (sides_of (side_or_hole G p) n c (suc k) ls) xs →
          Gives (env G) (elim b [
            | true ↦ side_or_hole G p c l >>= λ t.
                sides_of (side_or_hole G p) n c (suc k) ls >>= λ ts. Ask.done ((k, t) ∷ ts)
            | false ↦ sides_of (side_or_hole G p) n c (suc k) ls
          ]) ((k, s) ∷ xs)
      by true h y = joined (side_or_hole G p c l) _ (so_side c l s d) (joined _ _ y Ends.is_done)
      by false h y = absurd (cc h)
  so_sides n c k _ xs (GivesSides.another {l = l} {ls = ls} d m) =
      by (eqb l.clause n) refl (so_sides n c (suc k) ls xs m)
    where
      by : (b : Bool) → eqb l.clause n ≡ b → Gives (env G) (sides_of (side_or_hole G p) n c (suc k) ls) xs →
          Gives (env G) (elim b [
            | true ↦ side_or_hole G p c l >>= λ t.
                sides_of (side_or_hole G p) n c (suc k) ls >>= λ ts. Ask.done ((k, t) ∷ ts)
            | false ↦ sides_of (side_or_hole G p) n c (suc k) ls
          ]) xs
      by true h y = absurd (d (eqb-true l.clause n h))
      by false h y = y

  all_sides_so : (ls : List Leaf) (n : ℕ) (cs : List Clause) (xs : Numbered Side) →
      Gives (env G) (all_sides (side_or_hole G p) n cs ls) xs → GivesAllSides G p ls n cs xs
  all_sides_so ls n [] xs x = subst (GivesAllSides G p ls n []) (ended _ _ x) GivesAllSides.none
  all_sides_so ls n (c ∷ cs) xs x =
      let a = parts (sides_of (side_or_hole G p) n c 0 ls) _ xs x in
      let b = parts (all_sides (side_or_hole G p) (suc n) cs ls) _ xs a.after in
      subst (GivesAllSides G p ls n (c ∷ cs)) (ended _ _ b.after)
      (GivesAllSides.more (sides_so n c 0 ls a.mid a.first) (all_sides_so ls (suc n) cs b.mid b.first))

  so_all_sides : (ls : List Leaf) (n : ℕ) (cs : List Clause) (xs : Numbered Side) → GivesAllSides G p ls n cs xs →
      Gives (env G) (all_sides (side_or_hole G p) n cs ls) xs
  so_all_sides ls n _ _ GivesAllSides.none = Ends.is_done
  so_all_sides ls n _ _ (GivesAllSides.more {c = c} {cs = cs} {xs = xs} {ys = ys} a b) =
      joined (sides_of (side_or_hole G p) n c 0 ls) _ (so_sides n c 0 ls xs a)
      (joined (all_sides (side_or_hole G p) (suc n) cs ls) _ (so_all_sides ls (suc n) cs ys b) Ends.is_done)

-- ---- the body
module _ (D : Defined) where
  not_refused : (b : Bool) (u : Unit {0}) → Gives (env D.group.globals) (or_body_refused D b) u → b ≡ true
  not_refused true u x = refl
  not_refused false u x = elim x [ ]

  body_so : (t : Term) (u : Unit {0}) → Gives (env D.group.globals) (body_holds D t) u → BodyAccepted D t
  unfolding body_holds
  body_so t u x =
      let r = asked _ _ _ _ u x in
      let s = parts _ _ u r.after in
      record {
        found = r.mid;
        accepted = r.first;
        same_type = alike_so _ _ _ D.type s.mid s.first (not_refused s.mid u s.after);
      }

  so_body : (t : Term) → BodyAccepted D t → Gives (env D.group.globals) (body_holds D t) tt
  unfolding body_holds
  so_body t a = asks _ _ _ _ a.accepted (joined _ _ (so_alike _ _ _ D.type a.same_type) Ends.is_done)

  -- ---- the group
  end_so : (P : Planned) (xs : Numbered Side) (g : Given) → HasTree D P →
      GivesAllSides D.group.globals D.group.part (leaves P.tree) 0 D.group.clauses xs → (hs : List Hole) →
      holes_from [] xs ≡ hs → Gives (env D.group.globals) (end_group D P xs hs) g → GivesGroup D g
  unfolding end_group
  end_so P xs g p s [] e x =
      let b = parts (body_holds D (body_with P (cores xs))) _ g x in
      subst (GivesGroup D) (ended _ _ b.after)
      (GivesGroup.has_body p s e (body_so (body_with P (cores xs)) b.mid b.first))
  end_so P xs g p s (h ∷ hs) e x = subst (GivesGroup D) (ended _ _ x) (GivesGroup.has_holes p s e)

  pub group_so : (g : Given) → Gives (env D.group.globals) (group_of D) g → GivesGroup D g
  unfolding group_of
  group_so g x =
      let p = parts (tree_of D) _ g x in
      let s = parts (all_sides (side_or_hole D.group.globals D.group.part) 0 D.group.clauses (leaves p.mid.tree)) _ g
      p.after in
      end_so p.mid s.mid g (tree_so D p.mid p.first)
      (all_sides_so D.group.globals D.group.part (leaves p.mid.tree) 0 D.group.clauses s.mid s.first)
      (holes_from [] s.mid) refl s.after

  so_end : (P : Planned) (xs : Numbered Side) (hs : List Hole) → hs ≡ [] → BodyAccepted D (body_with P (cores xs)) →
      Gives (env D.group.globals) (end_group D P xs hs) (Given.body (body_with P (cores xs)))
  unfolding end_group
  so_end P xs [] e b =
      joined (body_holds D (body_with P (cores xs))) _ (so_body (body_with P (cores xs)) b) Ends.is_done
  so_end P xs (h ∷ hs) e b = absurd (cc e)

  so_holes : (P : Planned) (xs : Numbered Side) (os : List Hole) (h : Hole) (hs : List Hole) → os ≡ h ∷ hs →
      Gives (env D.group.globals) (end_group D P xs os) (Given.holes (h ∷ hs))
  unfolding end_group
  so_holes P xs os h hs e =
      subst (λ os. Gives (env D.group.globals) (end_group D P xs os) (Given.holes (h ∷ hs))) (sym e) Ends.is_done

  pub so_group : (g : Given) → GivesGroup D g → Gives (env D.group.globals) (group_of D) g
  unfolding group_of
  so_group _ (GivesGroup.has_body {P = P} {xs = xs} p s e b) =
      joined (tree_of D) _ (so_tree D P p)
      (joined (all_sides (side_or_hole D.group.globals D.group.part) 0 D.group.clauses (leaves P.tree)) _
      (so_all_sides D.group.globals D.group.part (leaves P.tree) 0 D.group.clauses xs s)
      (so_end P xs (holes_from [] xs) e b))
  so_group _ (GivesGroup.has_holes {P = P} {xs = xs} {h = h} {hs = hs} p s e) =
      joined (tree_of D) _ (so_tree D P p)
      (joined (all_sides (side_or_hole D.group.globals D.group.part) 0 D.group.clauses (leaves P.tree)) _
      (so_all_sides D.group.globals D.group.part (leaves P.tree) 0 D.group.clauses xs s)
      (so_holes P xs (holes_from [] xs) h hs e))
