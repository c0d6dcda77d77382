-- A tree needs no more splits, one below another, than its clauses have constructor patterns.
use Rattle.std.proofs.Common.{◌≡◌, ℕ, zero, suc, ◌+◌, ◌≤◌, List, [], ◌∷◌, Option, Some, None, Bool, true, false, cond, refl, sym, ap, subst, ◌∙◌, arith}
use Rattle.std.specs.Prelude.{map, length, ◌&&◌, ◌||◌, not, eqb}
use Rattle.std.proofs.lemmas.Bool.{eq-eqb, eqb-true}
use Rattle.qtt_usage.specs.declared.mult.Mult.{Mult}
use Rattle.qtt_syntax.specs.Tree.{Shape}
use Rattle.qtt_term.specs.declared.term.ConId.{ConId}
use Rattle.qtt_term.specs.Term.{Term, var, ε, ◌▸◌}
use Rattle.qtt_term.specs.Substitution.{ren, shift, push, closed}
use Rattle.qtt_term.specs.Signature.{Tele, ConSig, fam_at, Refl}
use Rattle.qtt_term.specs.Judgement.{Ctx, mult_at, type_at, branch_type, ext}
use Rattle.qtt_term.specs.Ask.{Ask, ◌>>=◌}
use Rattle.qtt_term.specs.Entries.{env}
use Rattle.qtt_rules.specs.Refusal.{Cause}
use Rattle.qtt_rules.specs.Asks.{Asks, found}
use Rattle.qtt_unify.specs.Equations.{Verdict}
use Rattle.qtt_unify.specs.Deletion.{Deletion, deletion}
use Rattle.qtt_unify.specs.Targets.{is_linear}
use Rattle.qtt_split.specs.Constructors.{labels_of, constructor_entry}
use Rattle.qtt_split.specs.Tests.{Test, at}
use Rattle.qtt_split.specs.Seen.{live, oldest_first}
use Rattle.qtt_split.specs.Node.{Clause, Row, Node, Decision, decide, Examined, examined, constructors_of, constructors_at, constructors_left, all_constructors}
use Rattle.qtt_split.specs.Branch.{is_among, mentions_some, reverted, put, put_all, bound_again, stands, again, branch_node, moved_row}
use Rattle.qtt_split.specs.Tree.{Tree}
use Rattle.qtt_split.specs.Motive.{reverted_goal, some_form, motive, deletion_motive}
use Rattle.qtt_split.specs.Split.{fields_of, con_at, Group, grown, Grows, count_leaf, Division, division, Site, con_of_fields, branches, solved_node, solved_again, with_branch, splitting, reverted_at, free_variables, unmentioned, level_where, level_of, split_by, refl_id, delete_by, split_at, verdicts, first_stuck, split_or_delete}
use Rattle.qtt_split.specs.Plan.{start_columns, start_rows, start, with_rows, grow_at, grow_by, grow}
use Rattle.qtt_split.specs.Laws.{SplitsAreEnough}
use Rattle.qtt_split.proofs.Counting.{IsMade, is_made, examined_counts, decided, decide_less, fewer}

-- ---- lists of questions
-- each answer that may come is such a one
abbrev pub Only : {A : Type 0} → (A → Type 0) → Asks A → Type 0
Only Q (Ask.done a) = Q a
Only Q (Ask.fail f) = Unit {0}
Only Q (Ask.head p n t g) = (h : Term) → Only Q (g h)
Only Q (Ask.read p n t g) = (h : Term) → Only Q (g h)
Only Q (Ask.compare p n t s m w) = Only Q m × Only Q w

only_bind : {A B : Type 0} (Q : B → Type 0) (m : Asks A) (f : A → Asks B) → ((a : A) → Only Q (f a)) → Only Q (m >>= f)
unfolding ◌>>=◌
only_bind Q (Ask.done a) f h = h a
only_bind Q (Ask.fail e) f h = tt
only_bind Q (Ask.head p n t g) f h = λ s. only_bind Q (g s) f h
only_bind Q (Ask.read p n t g) f h = λ s. only_bind Q (g s) f h
only_bind Q (Ask.compare p n t s m w) f h = (only_bind Q m f h, only_bind Q w f h)

-- what goes on alike behind each answer that may come, goes on alike
bind_agrees : {A B : Type 0} (Q : A → Type 0) (m : Asks A) (k l : A → Asks B) → Only Q m → ((a : A) → Q a → k a ≡ l a) →
    (m >>= k) ≡ (m >>= l)
unfolding ◌>>=◌
bind_agrees Q (Ask.done a) k l o h = h a o
bind_agrees Q (Ask.fail e) k l o h = refl
bind_agrees Q (Ask.head p n t g) k l o h = λ i. Ask.head p n t (λ s. bind_agrees Q (g s) k l (o s) h i)
bind_agrees Q (Ask.read p n t g) k l o h = λ i. Ask.read p n t (λ s. bind_agrees Q (g s) k l (o s) h i)
bind_agrees Q (Ask.compare p n t s m w) k l o h =
    λ i. Ask.compare p n t s (bind_agrees Q m k l o.0 h i) (bind_agrees Q w k l o.1 h i)

-- the division of a variable is over that variable
over_it : (G : Group) (N : Node) (x : Examined) → Only (λ (D : Division). D.over.variable ≡ x.variable) (division G N x)
unfolding division
over_it G N x =
    only_bind (λ (D : Division). D.over.variable ≡ x.variable) _ _ λ h.
    only_bind (λ (D : Division). D.over.variable ≡ x.variable) _ _ λ F.
    only_bind (λ (D : Division). D.over.variable ≡ x.variable) _ _ λ ok.
    only_bind (λ (D : Division). D.over.variable ≡ x.variable) _ _ λ ts. refl

-- ---- the split variable is not reverted, and becomes a constructor
abbrev pub NotIn : ℕ → List (Mult × ℕ) → Type 0
NotIn x [] = Unit {0}
NotIn x (b ∷ rs) = (eqb x b.1 ≡ false) × NotIn x rs

stays : (x v : ℕ) (stay : List ℕ) (b : Bool) → is_among x stay ≡ true → (not (is_among v stay) && b) ≡ true →
    eqb x v ≡ false
stays x v stay b h e = by_test (eqb x v) refl
  where
    by_test : (c : Bool) → eqb x v ≡ c → c ≡ false
    by_test false p = refl
    by_test true p =
        let same : is_among v stay ≡ true = subst (λ y. is_among y stay ≡ true) (eqb-true x v p) h in
        cc

pub not_reverted : (Γ : Ctx) (x : ℕ) (stay : List ℕ) → is_among x stay ≡ true → (touched vs : List ℕ) →
    NotIn x (reverted Γ stay touched vs)
not_reverted Γ x stay h touched [] = tt
not_reverted Γ x stay h touched (v ∷ vs) =
    by_test (not (is_among v stay) && (is_linear (mult_at Γ v) || mentions_some touched (type_at Γ v))) refl
    (not_reverted Γ x stay h (v ∷ touched) vs) (not_reverted Γ x stay h touched vs)
  where
    by_test : (c : Bool) → (not (is_among v stay) && (is_linear (mult_at Γ v) || mentions_some touched (type_at Γ v))) ≡
        c →
        NotIn x (reverted Γ stay (v ∷ touched) vs) → NotIn x (reverted Γ stay touched vs) →
        NotIn x (cond c ((mult_at Γ v, v) ∷ reverted Γ stay (v ∷ touched) vs) (reverted Γ stay touched vs))
    by_test true e more less =
        (stays x v stay (is_linear (mult_at Γ v) || mentions_some touched (type_at Γ v)) h e, more)
    by_test false e more less = less

made_deeper : {t : Term} → IsMade t → IsMade (ren suc t)
made_deeper is_made = is_made

pub made_again : (x : ℕ) (rs : List (Mult × ℕ)) (δ : ℕ → Term) → NotIn x rs → IsMade (δ x) → IsMade (bound_again rs δ x)
made_again x [] δ o h = h
made_again x (b ∷ rs) δ o h =
    made_again x rs (put b.1 (var 0) (λ i. ren suc (δ i))) o.1
    (subst (λ c. IsMade (cond c (var 0) (ren suc (δ x)))) (sym o.0) (made_deeper h))

pub made_there : (x n : ℕ) (con : Term) (s : List (ℕ × Term)) → IsMade con → IsMade (stands x con s n x)
made_there x n con s h = subst (λ c. IsMade (cond c con (put_all s (λ i. var (shift n i)) x))) (sym (eq-eqb x x refl)) h

pub first_among : (x : ℕ) (xs : List ℕ) → is_among x (x ∷ xs) ≡ true
first_among x xs = ap (λ b. b || is_among x xs) (eq-eqb x x refl)

-- ---- what grows alike in the branches of a split grows alike at the split
branches_agree : (g l : Grows) (W : Site) →
    ((c : ℕ) (d : ConSig) (s : List (ℕ × Term)) (left : ℕ) →
    g (solved_node W c d s) left ≡ l (solved_node W c d s) left) →
    (c : ℕ) (ds : List ConSig) (vs : List Verdict) (left : ℕ) → branches g W c ds vs left ≡ branches l W c ds vs left
branches_agree g l W h c [] vs left = refl
branches_agree g l W h c (d ∷ ds) [] left = refl
branches_agree g l W h c (d ∷ ds) (Verdict.solved s ∷ vs) left =
    λ i. h c d s left i >>= λ a. branches_agree g l W h (suc c) ds vs a.left i >>=
    λ bs. Ask.done (with_branch (length d.fields) (solved_again W c d s) a.tree bs)
branches_agree g l W h c (d ∷ ds) (Verdict.clash ∷ vs) left =
    λ i. count_leaf W.group left >>= λ less. branches_agree g l W h (suc c) ds vs less i >>= λ bs.
    Ask.done (with_branch (length d.fields) []
    (Tree.absurd (branch_type (push W.division.over.params closed) d W.motive)) bs)
branches_agree g l W h c (d ∷ ds) (Verdict.stuck n u t ∷ vs) left =
    λ i. count_leaf W.group left >>= λ less. branches_agree g l W h (suc c) ds vs less i >>= λ bs.
    Ask.done (with_branch (length d.fields) []
    (Tree.absurd (branch_type (push W.division.over.params closed) d W.motive)) bs)

module _ (G : Group) (N : Node) (r : Row) (rows : List Row) (is : N.rows ≡ r ∷ rows) (x : Examined)
    (e : examined r.columns ≡ Some x) (j : ℕ)
    (few : constructors_at r.columns + constructors_left rows ≤ suc j) (g l : Grows)
    (agree : (M : Node) (left : ℕ) → decided (decide G.globals M.rows) ≤ j → g M left ≡ l M left) where
  at_branch : (v : ℕ) → v ≡ x.variable → (Θ : Tele) (names : List (Option (List ℕ))) (id : ConId) (con : Term)
      (s : List (ℕ × Term)) (rs : List (Mult × ℕ)) →
      IsMade con → NotIn v rs → (left : ℕ) → g (branch_node N Θ names v id con s rs) left ≡ l
      (branch_node N Θ names v id con s rs) left
  at_branch v p Θ names id con s rs h o left =
      let δ = bound_again rs (stands v con s (length Θ)) in
      let there : IsMade (δ x.variable) =
      subst (λ y. IsMade (δ y)) p (made_again v rs (stands v con s (length Θ)) o (made_there v (length Θ) con s h))
      in
      let less = fewer G.globals x δ there r rows e in
      let moved : suc (decided (decide G.globals (map (moved_row δ) N.rows))) ≤ constructors_at r.columns +
      constructors_left rows =
      subst (λ rs'. suc (decided (decide G.globals (map (moved_row δ) rs'))) ≤ constructors_at r.columns +
      constructors_left rows) (sym is) less in
      agree (branch_node N Θ names v id con s rs) left (omega arith)

  unreverted : (v : ℕ) (free : List ℕ) → NotIn v (reverted_at N v free)
  unreverted v free =
      not_reverted N.context v (v ∷ free) (first_among v free) (v ∷ free) (live (length N.context) N.seen)

  split_agrees : (D : Division) → D.over.variable ≡ x.variable → (vs : List Verdict) (left : ℕ) →
      split_by g G N D vs left ≡ split_by l G N D vs left
  unfolding split_by
  split_agrees D p vs left =
      let rs = reverted_at N D.over.variable (free_variables D.over) in
      let goal = reverted_goal N.context rs N.goal in
      let site : ℕ → Site = λ lv. record {
        group = G;
        node = N;
        division = D;
        motive =
            motive (record { env = env G.globals; family = D.family; params = D.over.params; level = lv })
            D.over.targets D.over.variable goal;
        reverted = rs;
      } in
      λ i. unmentioned (at D.span Test.parameters) (length N.context) rs D.over.params >>= λ ok.
      level_where (some_form D.over.targets) (level_of (env G.globals) N.context (at D.span Test.level) goal) >>= λ lv.
      branches_agree g l (site lv)
      (λ c d s. at_branch D.over.variable p (fields_of D.mult D.over.params d)
      (labels_of (constructor_entry G.globals (con_at (site lv) c))) (con_at (site lv) c)
      (con_of_fields (site lv) c (length d.fields)) s rs is_made (unreverted D.over.variable (free_variables D.over)))
      0 (fam_at (env G.globals) D.family).constructors vs left i >>= λ bs.
      Ask.done (grown (Tree.split (splitting (site lv)) bs.branches) bs.left)

  delete_agrees : (D : Division) → D.over.variable ≡ x.variable → (d : Deletion) (left : ℕ) →
      delete_by g N D d left ≡ delete_by l N D d left
  unfolding delete_by
  delete_agrees D p d left =
      let v = D.over.variable in
      let rs = reverted_at N v [] in
      let proof = Refl d.type d.point in
      λ i. unmentioned (at D.span Test.endpoints) (length N.context) rs (d.type ▸ d.point ▸ ε) >>= λ ok.
      at_branch v p [] [] refl_id proof [] rs is_made (unreverted v []) left i >>= λ a.
      Ask.done (grown
      (Tree.delete (record {
        variable = v;
        mult = D.mult;
        type = d.type;
        point = d.point;
        motive = deletion_motive v
            (reverted_goal N.context rs N.goal);
        reverted = rs;
      })
      (again N.context rs (stands v proof [] 0)) a.tree)
      a.left)

  after_agrees : (D : Division) → D.over.variable ≡ x.variable → (left : ℕ) (vs : List Verdict) (o : Option Cause) →
      split_or_delete g G N D vs left o ≡ split_or_delete l G N D vs left o
  after_agrees D p left vs None = split_agrees D p vs left
  after_agrees D p left vs (Some c) =
      λ i. deletion (at D.span Test.deletion) D.family D.over >>= λ o. found o c (at D.span Test.equations) >>=
      λ d. delete_agrees D p d left i

  pub split_at_agrees : (left : ℕ) → split_at g G N x left ≡ split_at l G N x left
  unfolding split_at
  split_at_agrees left =
      bind_agrees (λ (D : Division). D.over.variable ≡ x.variable) (division G N x)
      (λ D. verdicts (env G.globals) D (fam_at (env G.globals) D.family).constructors >>=
      λ vs. split_or_delete g G N D vs left (first_stuck vs))
      (λ D. verdicts (env G.globals) D (fam_at (env G.globals) D.family).constructors >>=
      λ vs. split_or_delete l G N D vs left (first_stuck vs)) (over_it G N x)
      (λ D p. λ i. verdicts (env G.globals) D (fam_at (env G.globals) D.family).constructors >>=
      λ vs. after_agrees D p left vs (first_stuck vs) i)

-- ---- nodes
-- a node that decides on so many patterns at most
grow_at_agrees : (j : ℕ) (G : Group) (N : Node) (r : Row) (rows : List Row) → constructors_at r.columns +
    constructors_left rows ≤ suc j → (g l : Grows) →
    ((M : Node) (left : ℕ) → decided (decide G.globals M.rows) ≤ j → g M left ≡ l M left) →
    (left : ℕ) (o : Option Examined) → examined r.columns ≡ o →
    grow_at g G (with_rows N (r ∷ rows)) r left o ≡ grow_at l G (with_rows N (r ∷ rows)) r left o
grow_at_agrees j G N r rows few g l agree left None e = refl
grow_at_agrees j G N r rows few g l agree left (Some x) e =
    split_at_agrees G (with_rows N (r ∷ rows)) r rows refl x e j few g l agree left

grow_by_agrees : (j : ℕ) (G : Group) (N : Node) (left : ℕ) (d : Decision) → decided d ≤ suc j → (g l : Grows) →
    ((M : Node) (left : ℕ) → decided (decide G.globals M.rows) ≤ j → g M left ≡ l M left) →
    grow_by g G N left d ≡ grow_by l G N left d
grow_by_agrees j G N left Decision.none_left few g l agree = refl
grow_by_agrees j G N left (Decision.stuck_on s t) few g l agree = refl
grow_by_agrees j G N left (Decision.decides r rows) few g l agree =
    grow_at_agrees j G N r rows few g l agree left (examined r.columns) refl

-- where no pattern is left, nothing is split
at_zero : (G : Group) (N : Node) (left : ℕ) (d : Decision) → decided d ≤ 0 → (g l : Grows) →
    grow_by g G N left d ≡ grow_by l G N left d
at_zero G N left Decision.none_left few g l = refl
at_zero G N left (Decision.stuck_on s t) few g l = refl
at_zero G N left (Decision.decides r rows) few g l = by_examined (examined r.columns) refl
  where
    by_examined : (o : Option Examined) → examined r.columns ≡ o →
        grow_at g G (with_rows N (r ∷ rows)) r left o ≡ grow_at l G (with_rows N (r ∷ rows)) r left o
    by_examined None e = refl
    by_examined (Some x) e = let some = examined_counts x r.columns e in absurd (omega arith)

one_more : (n : ℕ) (G : Group) (N : Node) (left : ℕ) → decided (decide G.globals N.rows) ≤ n →
    grow (suc n) G N left ≡ grow n G N left
unfolding grow
one_more zero G N left few =
    at_zero G N left (decide G.globals N.rows) few (grow zero G) (λ M l. Ask.done (grown (Tree.missing M.goal []) l))
one_more (suc n) G N left few =
    grow_by_agrees n G N left (decide G.globals N.rows) few (grow (suc n) G) (grow n G)
    (λ M less h. one_more n G M less h)

so_many_more : (n more : ℕ) (G : Group) (N : Node) (left : ℕ) → decided (decide G.globals N.rows) ≤ n →
    grow (n + more) G N left ≡ grow n G N left
so_many_more n zero G N left few = ap (λ k. grow k G N left) (omega arith)
so_many_more n (suc more) G N left few =
    ap (λ k. grow k G N left) (omega arith) ∙ one_more (n + more) G N left (omega arith) ∙ so_many_more n more G N left
    few

-- ---- the first node
start_columns_less : (Γ : Ctx) (ps : List Shape) (is : List ℕ) →
    constructors_at (start_columns Γ ps is) ≤ constructors_of ps
start_columns_less Γ [] is = omega arith
start_columns_less Γ (p ∷ ps) [] = omega arith
start_columns_less Γ (p ∷ ps) (i ∷ is) = let h = start_columns_less Γ ps is in omega arith

pub start_less : (Γ : Ctx) (n : ℕ) (cs : List Clause) → constructors_left (start_rows Γ n cs) ≤ all_constructors cs
start_less Γ n [] = omega arith
start_less Γ n (c ∷ cs) =
    let first = start_columns_less Γ c.patterns (oldest_first (length Γ)) in
    let others = start_less Γ (suc n) cs in
    omega arith

pub splits_are_enough : SplitsAreEnough
splits_are_enough G labels O left more =
    let N = start G labels O in
    let less = decide_less G.globals N.rows in
    let first = start_less (ext [] O.binders) 0 G.clauses in
    so_many_more (all_constructors G.clauses) more G N left (omega arith)
