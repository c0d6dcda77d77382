-- Sides that are gathered leaf by leaf, and clause by clause.
use Rattle.std.proofs.Common.{◌≡◌, ◌∙◌, ℕ, suc, ◌+◌, ◌<◌, ◌≤◌, true, false, cond, eqb, bytes_eq, List, [], ◌∷◌, ◌++◌, length, get_or, map, drop, Result, Ok, Err, MatchResult, IsErrAnd, refl, sym, ap, subst, arith, append_assoc, append-nil}
use Rattle.std.proofs.lemmas.List.{drop_more, drop_all}
use Rattle.std.specs.Borrow.{Bor}
use Rattle.std.specs.List.{list_any}
use mathlib.Core.Path.{fun_ext}
use Rattle.qtt_syntax.specs.declared.module.Clause as code_clause
use Rattle.qtt_term.specs.Signature.{Env}
use Rattle.qtt_term.specs.Term.{Term}
use Rattle.qtt_term.specs.Ask.{Ask, ◌>>=◌, Ending, within}
use Rattle.qtt_rules.specs.declared.errors.ElabError.{ElabError}
use Rattle.qtt_rules.specs.Asks.{Asks}
use Rattle.qtt_bidi.specs.Answers.{Reaches, Refuses}
use Rattle.qtt_bidi.proofs.Within.{here}
use Rattle.qtt_split.specs.declared.tree.Leaf as code_leaf
use Rattle.qtt_split.specs.Calls.{clause_of}
use Rattle.qtt_split.specs.Group.{Numbered, sides_of, all_sides}
use Rattle.qtt_split.specs.Node.{Clause}
use Rattle.qtt_split.specs.Tree.{Leaf}
use Rattle.qtt_split.proofs.Binding.{changed-then, then-done}
use Rattle.qtt_holes.specs.Hole.{Hole}
use Rattle.qtt_module.specs.Sides.{Side, add_hole, holes_from, cores}
use Rattle.qtt_module.specs.declared.sides.Sides.{Sides}
use Rattle.qtt_module.specs.GroupCalls.{leaf_at, Collected, collected, with_sides, Gathered}
use Rattle.qtt_module.proofs.Onward.{past, then-same, refused-so}

-- ---- what is collected
cores-append : (xs ys : Numbered Side) → cores (xs ++ ys) ≡ cores xs ++ cores ys
cores-append [] ys = refl
cores-append ((k, Side.core t) ∷ xs) ys = ap (λ zs. (k, t) ∷ zs) (cores-append xs ys)
cores-append ((k, Side.hole h) ∷ xs) ys = cores-append xs ys

holes-append : (xs ys : Numbered Side) (hs : List Hole) →
    holes_from hs (xs ++ ys) ≡ holes_from (holes_from hs xs) ys
holes-append [] ys hs = refl
holes-append ((k, Side.core t) ∷ xs) ys hs = holes-append xs ys hs
holes-append ((k, Side.hole h) ∷ xs) ys hs = holes-append xs ys (add_hole h hs)

pub with-none : (T : Collected) → T ≡ with_sides T []
with-none T = ap (λ es. record { cores = es; holes = T.holes }) (sym (append-nil T.cores))

pub with-more : (T : Collected) (xs ys : Numbered Side) → with_sides (with_sides T xs) ys ≡ with_sides T (xs ++ ys)
with-more T xs ys =
    ap (λ es. record { cores = es; holes = holes_from (holes_from T.holes xs) ys })
    (append_assoc T.cores (cores xs) (cores ys) ∙ ap (λ es. T.cores ++ es) (sym (cores-append xs ys)))
    ∙ ap (λ hs. record { cores = T.cores ++ cores (xs ++ ys); holes = hs }) (sym (holes-append xs ys T.holes))

abbrev pub collecting : Numbered Term → List Hole → Collected
collecting es hs = record { cores = es; holes = hs }

-- a hole of a name that was told adds nothing
pub told-before : (T : Collected) (k : ℕ) (h : Hole) → list_any (λ (x : Hole). bytes_eq x.name h.name) T.holes ≡ true →
    T ≡ with_sides T ((k, Side.hole h) ∷ [])
told-before T k h e =
    with-none T ∙ ap (λ hs. record { cores = T.cores ++ []; holes = hs })
    (sym (ap (λ b. cond b T.holes (T.holes ++ h ∷ [])) e))

pub told-new : (T : Collected) (k : ℕ) (h : Hole) → list_any (λ (x : Hole). bytes_eq x.name h.name) T.holes ≡ false →
    record { cores = T.cores; holes = T.holes ++ h ∷ [] } ≡ with_sides T ((k, Side.hole h) ∷ [])
told-new T k h e =
    ap (λ es. record { cores = es; holes = T.holes ++ h ∷ [] }) (sym (append-nil T.cores))
    ∙ ap (λ hs. record { cores = T.cores ++ []; holes = hs })
    (sym (ap (λ b. cond b T.holes (T.holes ++ h ∷ [])) e))

-- ---- lists of questions with others before them
abbrev pub behind : Numbered Side → Numbered Side → Asks (Numbered Side)
behind xs ys = Ask.done (xs ++ ys)

module _ (E : Env) (n : ℕ) where
  -- xs were gathered, and then those of m with an own first part
  joined : (xs zs : Numbered Side) (m : Asks (Numbered Side)) →
      within E n ((m >>= (λ ts. Ask.done (zs ++ ts))) >>= behind xs) ≡ within E n (m >>= behind (xs ++ zs))
  joined xs zs m =
      changed-then E n m (λ ts. zs ++ ts) (behind xs)
      ∙ ap (λ f. within E n (m >>= f))
      (fun_ext (λ (ts : Numbered Side). ap (λ us. Ask.done us) (sym (append_assoc xs zs ts))))

  -- ---- leaf by leaf
  module _ (side : Clause → Leaf → Asks Side) (k : ℕ) (c : Clause) where
    abbrev pub rest : ℕ → List (Bor code_leaf.Leaf) → Asks (Numbered Side)
    rest i ls = sides_of side k c i (map leaf_at ls)

    pub record SidesSoFar (ls : List (Bor code_leaf.Leaf)) (i : ℕ) (before now : Collected) : Type 0 where
      pub sides : Numbered Side
      pub is : within E n (rest 0 ls) ≡ within E n (rest i (drop i ls) >>= behind sides)
      pub are : now ≡ with_sides before sides

    pub no-side : (ls : List (Bor code_leaf.Leaf)) (T : Collected) → SidesSoFar ls 0 T T
    no-side ls T = record { sides = []; is = sym (then-done E n (rest 0 ls)); are = with-none T }

    its-own : (i : ℕ) (l : Leaf) (ls : List Leaf) → eqb l.clause k ≡ true →
        sides_of side k c i (l ∷ ls)
        ≡ (side c l >>= (λ t. sides_of side k c (suc i) ls >>= (λ ts. Ask.done ((i, t) ∷ ts))))
    its-own i l ls e = rw (e, sides_of) refl

    another : (i : ℕ) (l : Leaf) (ls : List Leaf) → eqb l.clause k ≡ false →
        sides_of side k c i (l ∷ ls) ≡ sides_of side k c (suc i) ls
    another i l ls e = rw (e, sides_of) refl

    module _ (ls : List (Bor code_leaf.Leaf)) (i : ℕ) (l : Bor code_leaf.Leaf) (h : i < length ls)
        (e : l ≡ get_or ls i l) {before now : Collected} (so : SidesSoFar ls i before now) where
      abbrev others : List Leaf
      others = map leaf_at (drop (i + 1) ls)

      turn : within E n (rest 0 ls) ≡ within E n (sides_of side k c i (leaf_at l ∷ others) >>= behind so.sides)
      turn = so.is ∙ ap (λ xs. within E n (rest i xs >>= behind so.sides))
          (drop_more ls i l h ∙ ap (λ y. y ∷ drop (i + 1) ls) (sym e))

      next : suc i ≡ i + 1
      next = omega arith

      pub of-another : eqb (leaf_at l).clause k ≡ false → SidesSoFar ls (i + 1) before now
      of-another d = record {
        sides = so.sides;
        is = turn ∙ ap (λ m. within E n (m >>= behind so.sides)) (another i (leaf_at l) others d)
            ∙ ap (λ j. within E n (sides_of side k c j others >>= behind so.sides)) next;
        are = so.are;
      }

      abbrev following : Side → Asks (Numbered Side)
      following t = sides_of side k c (suc i) others >>= (λ ts. Ask.done ((i, t) ∷ ts))

      pub one-more : (x : Side) {after : Collected} → eqb (leaf_at l).clause k ≡ true →
          Reaches E n (side c (leaf_at l)) x → after ≡ with_sides now ((i, x) ∷ []) →
          SidesSoFar ls (i + 1) before after
      one-more x d r a = record {
        sides = so.sides ++ (i, x) ∷ [];
        is = turn ∙ ap (λ m. within E n (m >>= behind so.sides)) (its-own i (leaf_at l) others d)
            ∙ then-same E n (side c (leaf_at l) >>= following) (following x) (behind so.sides)
            (past E n (side c (leaf_at l)) following x r)
            ∙ joined so.sides ((i, x) ∷ []) (sides_of side k c (suc i) others)
            ∙ ap (λ j. within E n (sides_of side k c j others >>= behind (so.sides ++ (i, x) ∷ []))) next;
        are = a ∙ ap (λ T. with_sides T ((i, x) ∷ [])) so.are ∙ with-more before so.sides ((i, x) ∷ []);
      }

      pub refused-at : (r : ElabError) → eqb (leaf_at l).clause k ≡ true → Refuses E n (side c (leaf_at l)) r →
          Refuses E n (rest 0 ls) r
      refused-at r d f =
          refused-so E n (sides_of side k c i (leaf_at l ∷ others) >>= behind so.sides) (rest 0 ls) r turn
          (here E n _ (behind so.sides) r
          (subst (λ m. Refuses E n m r) (sym (its-own i (leaf_at l) others d))
          (here E n (side c (leaf_at l)) following r f)))

    pub all-gathered : (ls : List (Bor code_leaf.Leaf)) (i : ℕ) {before now : Collected} → length ls ≤ i →
        SidesSoFar ls i before now → Gathered E n (rest 0 ls) before now
    unfolding within ◌>>=◌
    all-gathered ls i h so = record {
      sides = so.sides;
      reaches = record {
        is = so.is ∙ ap (λ xs. within E n (rest i xs >>= behind so.sides)) (drop_all i ls h)
            ∙ ap (λ xs. Ending.ok xs) (append-nil so.sides);
      };
      are = so.are;
    }

  -- ---- clause by clause
  module _ (side : Clause → Leaf → Asks Side) (ls : List Leaf) where
    abbrev pub clauses_from : ℕ → List code_clause.Clause → Asks (Numbered Side)
    clauses_from i cs = all_sides side i (map clause_of cs) ls

    pub record ClausesSoFar (cs : List code_clause.Clause) (i : ℕ) (before now : Collected) : Type 0 where
      pub sides : Numbered Side
      pub is : within E n (clauses_from 0 cs) ≡ within E n (clauses_from i (drop i cs) >>= behind sides)
      pub are : now ≡ with_sides before sides

    pub no-clause : (cs : List code_clause.Clause) (T : Collected) → ClausesSoFar cs 0 T T
    no-clause cs T = record { sides = []; is = sym (then-done E n (clauses_from 0 cs)); are = with-none T }

    module _ (cs : List code_clause.Clause) (i : ℕ) (c : code_clause.Clause) (h : i < length cs)
        (e : c ≡ get_or cs i c) {before now : Collected} (so : ClausesSoFar cs i before now) where
      abbrev pub own : Asks (Numbered Side)
      own = sides_of side i (clause_of c) 0 ls

      abbrev later : List code_clause.Clause
      later = drop (i + 1) cs

      abbrev after_own : Numbered Side → Asks (Numbered Side)
      after_own ts = all_sides side (suc i) (map clause_of later) ls >>= (λ ss. Ask.done (ts ++ ss))

      clause-turn : within E n (clauses_from 0 cs) ≡ within E n ((own >>= after_own) >>= behind so.sides)
      clause-turn = so.is ∙ ap (λ xs. within E n (clauses_from i xs >>= behind so.sides))
          (drop_more cs i c h ∙ ap (λ y. y ∷ later) (sym e))

      next-clause : suc i ≡ i + 1
      next-clause = omega arith

      pub one-clause : {after : Collected} → Gathered E n own now after → ClausesSoFar cs (i + 1) before after
      one-clause g = record {
        sides = so.sides ++ g.sides;
        is = clause-turn ∙ then-same E n (own >>= after_own) (after_own g.sides) (behind so.sides)
            (past E n own after_own g.sides g.reaches)
            ∙ joined so.sides g.sides (all_sides side (suc i) (map clause_of later) ls)
            ∙ ap (λ j. within E n (all_sides side j (map clause_of later) ls >>= behind (so.sides ++ g.sides)))
            next-clause;
        are = g.are ∙ ap (λ T. with_sides T g.sides) so.are ∙ with-more before so.sides g.sides;
      }

      pub refused-in : (r : ElabError) → Refuses E n own r → Refuses E n (clauses_from 0 cs) r
      refused-in r f =
          refused-so E n ((own >>= after_own) >>= behind so.sides) (clauses_from 0 cs) r clause-turn
          (here E n (own >>= after_own) (behind so.sides) r (here E n own after_own r f))

    pub all-clauses : (cs : List code_clause.Clause) (i : ℕ) {before now : Collected} → length cs ≤ i →
        ClausesSoFar cs i before now → Gathered E n (clauses_from 0 cs) before now
    unfolding within ◌>>=◌
    all-clauses cs i h so = record {
      sides = so.sides;
      reaches = record {
        is = so.is ∙ ap (λ xs. within E n (clauses_from i xs >>= behind so.sides)) (drop_all i cs h)
            ∙ ap (λ xs. Ending.ok xs) (append-nil so.sides);
      };
      are = so.are;
    }

-- the refusal that a question mark passes on
pub passed : (E : Env) (n : ℕ) (m : Asks (Numbered Side)) (before : Collected) (r : Result Sides ElabError)
    (e : ElabError) → IsErrAnd r (λ y. y ≡ e) → Refuses E n m e →
    MatchResult r (λ more. Gathered E n m before (collected more)) (λ x. Refuses E n m x)
passed E n m before (Ok x) e h f = absurd h
passed E n m before (Err y) e h f = subst (λ z. Refuses E n m z) (sym h) f
