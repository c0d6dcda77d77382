-- A node's tree is what is prepared there, and then its branches.
use Rattle.std.proofs.Common.{◌≡◌, ◌∙◌, ℕ, zero, suc, List, [], ◌∷◌, length, Option, Some, None, Result, refl, sym, ap, subst}
use mathlib.Core.Path.{ap₂, fun_ext}
use Rattle.qtt_base.specs.declared.place.Span.{Span}
use Rattle.qtt_usage.specs.declared.mult.Mult.{Mult}
use Rattle.qtt_term.specs.Term.{Term, ε, ◌▸◌}
use Rattle.qtt_term.specs.Signature.{Tele, Env, fam_at, Refl}
use Rattle.qtt_term.specs.Ask.{Ask, ◌>>=◌, within}
use Rattle.qtt_term.specs.Entries.{env}
use Rattle.qtt_rules.specs.declared.errors.ElabError.{ElabError}
use Rattle.qtt_rules.specs.Refusal.{Cause}
use Rattle.qtt_rules.specs.Asks.{Asks, found}
use Rattle.qtt_unify.specs.Equations.{Verdict}
use Rattle.qtt_unify.specs.Deletion.{Deletion, deletion}
use Rattle.qtt_split.specs.Answers.{Reaches, Fails, Refuses, Gives}
use Rattle.qtt_split.specs.Tests.{Test, at}
use Rattle.qtt_split.specs.Tree.{Deleting}
use Rattle.qtt_split.specs.Branch.{again, branch_node, stands}
use Rattle.qtt_split.specs.Node.{Row, Node, Decision, decide, Examined, examined}
use Rattle.qtt_split.specs.Motive.{reverted_goal, some_form, motive, deletion_motive}
use Rattle.qtt_split.specs.Split.{Group, Grown, Grows, Division, division, verdicts, first_stuck, reverted_at, free_variables, unmentioned, level_where, level_of, refl_id, split_by, delete_by, split_or_delete, split_at}
use Rattle.qtt_split.specs.Plan.{with_rows, grow_at, grow_by, grow}
use Rattle.qtt_split.specs.Ends.{leaf_grown, none_grown}
use Rattle.qtt_split.specs.Prepared.{Prepared, reverts, motive_at, site, split_parts, deleted, deletion_parts, stuck_parts, parts_by, parts_at, at_leaf, prepared_by, prepared, continued, grow_below}
use Rattle.qtt_split.proofs.Within.{on, on_done, past, here, later, tail}

-- ---- lists of questions, one behind another
pub then-then : {A B C : Type 0} (m : Asks A) (f : A → Asks B) (k : B → Asks C) →
    ((m >>= f) >>= k) ≡ (m >>= (λ a. f a >>= k))
unfolding ◌>>=◌
then-then (Ask.done a) f k = refl
then-then (Ask.fail e) f k = refl
then-then (Ask.head p n t g) f k = λ i. Ask.head p n t (λ h. then-then (g h) f k i)
then-then (Ask.read p n t g) f k = λ i. Ask.read p n t (λ r. then-then (g r) f k i)
then-then (Ask.compare p n t s m w) f k = λ i. Ask.compare p n t s (then-then m f k i) (then-then w f k i)

pub then-same : {A : Type 0} (m : Asks A) → (m >>= (λ a. Ask.done a)) ≡ m
unfolding ◌>>=◌
then-same (Ask.done a) = refl
then-same (Ask.fail e) = refl
then-same (Ask.head p n t g) = λ i. Ask.head p n t (λ h. then-same (g h) i)
then-same (Ask.read p n t g) = λ i. Ask.read p n t (λ r. then-same (g r) i)
then-same (Ask.compare p n t s m w) = λ i. Ask.compare p n t s (then-same m i) (then-same w i)

-- what goes on alike behind each answer
pub alike-behind : {A B : Type 0} (m : Asks A) (k l : A → Asks B) → ((a : A) → k a ≡ l a) → (m >>= k) ≡ (m >>= l)
alike-behind m k l h = ap (λ f. m >>= f) (fun_ext h)

-- what follows is put behind the last question
pub inwards : {A B C : Type 0} (m : Asks A) (f : A → Asks B) (k : B → Asks C) (l : A → Asks C) →
    ((a : A) → l a ≡ (f a >>= k)) → (m >>= l) ≡ ((m >>= f) >>= k)
inwards m f k l h = alike-behind m l (λ a. f a >>= k) h ∙ sym (then-then m f k)

-- behind a changed answer
pub changed : {A B C : Type 0} (m : Asks A) (f : A → B) (k : B → Asks C) →
    ((m >>= (λ a. Ask.done (f a))) >>= k) ≡ (m >>= (λ a. k (f a)))
unfolding ◌>>=◌
changed m f k = then-then m (λ a. Ask.done (f a)) k

-- ---- a split
module _ (g : Grows) (G : Group) (N : Node) (D : Division) (left : ℕ) where
  abbrev next : Prepared → Asks Grown
  next = continued g left

  abbrev Reverted : Type 0
  Reverted = List (Mult × ℕ)

  with-motive : (vs : List Verdict) (rs : Reverted) →
      ((motive_at G N D rs >>= (λ P. Ask.done (Prepared.split (site G N D rs P) vs))) >>= next)
      ≡ (motive_at G N D rs >>= (λ P. next (Prepared.split (site G N D rs P) vs)))
  with-motive vs rs = changed (motive_at G N D rs) (λ (P : Term). Prepared.split (site G N D rs P) vs) next

  split-parts : (vs : List Verdict) → split_by g G N D vs left ≡ (split_parts G N D vs >>= next)
  unfolding split_by ◌>>=◌
  split-parts vs =
      let p = at D.span Test.parameters in
      let rs = reverted_at N D.over.variable (free_variables D.over) in
      let goal = reverted_goal N.context rs N.goal in
      let level = level_where (some_form D.over.targets)
      (level_of (env G.globals) N.context (at D.span Test.level) goal) in
      let moved : ℕ → Term = λ l. motive
      (record { env = env G.globals; family = D.family; params = D.over.params; level = l })
      D.over.targets D.over.variable goal in
      let further : Reverted → Asks Prepared = λ rs. motive_at G N D rs >>=
      (λ P. Ask.done (Prepared.split (site G N D rs P) vs)) in
      let m = unmentioned p (length N.context) rs D.over.params in
      alike-behind m _ _
      (λ (u : Unit {0}). sym (changed level moved (λ P. next (Prepared.split (site G N D rs P) vs)))) ∙
      alike-behind m _ (λ u. further rs >>= next) (λ (u : Unit {0}). sym (with-motive vs rs)) ∙
      sym (changed m (λ (u : Unit {0}). rs) (λ rs. further rs >>= next)) ∙
      sym (then-then (reverts p N D.over.variable (free_variables D.over) D.over.params) further next)

  deletion-parts : (d : Deletion) → delete_by g N D d left ≡ (deletion_parts N D d >>= next)
  unfolding delete_by ◌>>=◌
  deletion-parts d =
      let p = at D.span Test.endpoints in
      let rs = reverted_at N D.over.variable [] in
      let m = unmentioned p (length N.context) rs (d.type ▸ d.point ▸ ε) in
      sym (changed m (λ (u : Unit {0}). rs) (λ rs. next (deleted N D d rs))) ∙
      sym (changed (reverts p N D.over.variable [] (d.type ▸ d.point ▸ ε)) (deleted N D d) next)

  parts-by : (vs : List Verdict) (o : Option Cause) →
      split_or_delete g G N D vs left o ≡ (parts_by G N D vs o >>= next)
  parts-by vs None = split-parts vs
  parts-by vs (Some c) =
      inwards (deletion (at D.span Test.deletion) D.family D.over) _ next _
      (λ (o : Option Deletion). inwards (found o c (at D.span Test.equations)) (deletion_parts N D) next _
      deletion-parts)

-- ---- a node
module _ (g : Grows) (G : Group) (left : ℕ) where
  parts-at : (N : Node) (x : Examined) → split_at g G N x left ≡ (parts_at G N x >>= continued g left)
  unfolding split_at parts_at
  parts-at N x =
      inwards (division G N x) _ (continued g left) _
      (λ (D : Division). inwards (verdicts (env G.globals) D (fam_at (env G.globals) D.family).constructors) _
      (continued g left) _
      (λ (vs : List Verdict). parts-by g G N D left vs (first_stuck vs)))

  ended : (m : Asks Grown) → m ≡ ((m >>= (λ t. Ask.done (Prepared.ended t))) >>= continued g left)
  ended m = sym (then-same m) ∙ sym (changed m Prepared.ended (continued g left))

  at-leaf : (N : Node) (r : Row) (o : Option Examined) →
      grow_at g G N r left o ≡ (at_leaf G N r left o >>= continued g left)
  at-leaf N r None = ended (leaf_grown G N r left)
  at-leaf N r (Some x) = parts-at N x

  prepared-by : (N : Node) (d : Decision) → grow_by g G N left d ≡ (prepared_by G N left d >>= continued g left)
  unfolding ◌>>=◌
  prepared-by N Decision.none_left = ended (none_grown G N left)
  prepared-by N (Decision.stuck_on s t) = refl
  prepared-by N (Decision.decides r rows) = at-leaf (with_rows N (r ∷ rows)) r (examined r.columns)

pub grow-prepared : (n : ℕ) (G : Group) (N : Node) (left : ℕ) →
    grow n G N left ≡ (prepared G N left >>= continued (grow_below n G) left)
unfolding grow prepared
grow-prepared zero G N left = prepared-by (grow_below zero G) G left N (decide G.globals N.rows)
grow-prepared (suc n) G N left = prepared-by (grow_below (suc n) G) G left N (decide G.globals N.rows)

-- ---- a deletion, from its components
pub deleted-as : (N : Node) (D : Division) (d : Deletion) (rs : List (Mult × ℕ)) (A s P : Term) (M : Node) (Θ : Tele) →
    A ≡ d.type → s ≡ d.point → P ≡ deletion_motive D.over.variable (reverted_goal N.context rs N.goal) →
    M ≡ branch_node N [] [] D.over.variable refl_id (Refl d.type d.point) [] rs →
    Θ ≡ again N.context rs (stands D.over.variable (Refl d.type d.point) [] 0) →
    Prepared.delete (record {
      variable = D.over.variable;
      mult = D.mult;
      type = A;
      point = s;
      motive = P;
      reverted = rs;
    }) M Θ ≡ deleted N D d rs
deleted-as N D d rs A s P M Θ a b e f h =
    let over : Term → Term → Term → Deleting = λ A s P. record {
      variable = D.over.variable;
      mult = D.mult;
      type = A;
      point = s;
      motive = P;
      reverted = rs;
    } in
    ap (λ B. Prepared.delete (over B s P) M Θ) a ∙ ap (λ u. Prepared.delete (over d.type u P) M Θ) b ∙
    ap (λ Q. Prepared.delete (over d.type d.point Q) M Θ) e ∙
    ap₂ (Prepared.delete (over d.type d.point
    (deletion_motive D.over.variable (reverted_goal N.context rs N.goal)))) f h

-- ---- a constructor that is stuck
module _ (E : Env) (n : ℕ) (N : Node) (D : Division) (c : Cause) where
  abbrev pub deletion_asked : Asks (Option Deletion)
  deletion_asked = deletion (at D.span Test.deletion) D.family D.over

  abbrev by_deletion : Option Deletion → Asks Prepared
  by_deletion o = found o c (at D.span Test.equations) >>= deletion_parts N D

  pub deletion-refused : (e : ElabError) → Refuses E n deletion_asked e → Refuses E n (stuck_parts N D c) e
  deletion-refused e h = here E n deletion_asked by_deletion e h

  pub not-deleted : Reaches E n deletion_asked None → Fails E n (stuck_parts N D c) c (at D.span Test.equations)
  unfolding within ◌>>=◌
  not-deleted r = record { is = past E n deletion_asked by_deletion r }

  pub is-deleted : {X : Type 0} (d : Deletion) (view : X → Prepared) (result : Result X ElabError) →
      Reaches E n deletion_asked (Some d) → Gives E n (deletion_parts N D d) view result →
      Gives E n (stuck_parts N D c) view result
  is-deleted d view result r h =
      tail E n deletion_asked by_deletion view result r
      (tail E n (found (Some d) c (at D.span Test.equations)) (deletion_parts N D) view result {a = d} on_done h)

-- ---- a split, or a constructor that is stuck
module _ (E : Env) (n : ℕ) (G : Group) (N : Node) (x : Examined) where
  abbrev pub verdicts_asked : Division → Asks (List Verdict)
  verdicts_asked D = verdicts (env G.globals) D (fam_at (env G.globals) D.family).constructors

  abbrev by_verdicts : Division → List Verdict → Asks Prepared
  by_verdicts D vs = parts_by G N D vs (first_stuck vs)

  abbrev by_division : Division → Asks Prepared
  by_division D = verdicts_asked D >>= by_verdicts D

  pub division-refused : (e : ElabError) → Refuses E n (division G N x) e → Refuses E n (parts_at G N x) e
  unfolding parts_at
  division-refused e h = here E n (division G N x) by_division e h

  pub verdicts-refused : (D : Division) (e : ElabError) → Reaches E n (division G N x) D →
      Refuses E n (verdicts_asked D) e → Refuses E n (parts_at G N x) e
  unfolding parts_at
  verdicts-refused D e r h =
      later E n (division G N x) by_division e r (here E n (verdicts_asked D) (by_verdicts D) e h)

  pub after-verdicts : {X : Type 0} (D : Division) (vs : List Verdict) (view : X → Prepared)
      (result : Result X ElabError) → Reaches E n (division G N x) D → Reaches E n (verdicts_asked D) vs →
      Gives E n (parts_by G N D vs (first_stuck vs)) view result → Gives E n (parts_at G N x) view result
  unfolding parts_at
  after-verdicts D vs view result r s h =
      tail E n (division G N x) by_division view result r (tail E n (verdicts_asked D) (by_verdicts D) view result s h)

-- ---- by the clause that decides
module _ (E : Env) (n : ℕ) (G : Group) (N : Node) (left : ℕ) where
  pub by-decision : {X : Type 0} (d : Decision) (view : X → Prepared) (result : Result X ElabError) →
      decide G.globals N.rows ≡ d → Gives E n (prepared_by G N left d) view result →
      Gives E n (prepared G N left) view result
  unfolding prepared
  by-decision d view result e h = subst (λ d. Gives E n (prepared_by G N left d) view result) (sym e) h

  pub none-refused : (e : ElabError) → Refuses E n (none_grown G N left) e →
      Refuses E n (prepared_by G N left Decision.none_left) e
  none-refused e h = here E n (none_grown G N left) (λ g. Ask.done (Prepared.ended g)) e h

  pub none-left : (g : Grown) → Reaches E n (none_grown G N left) g →
      Reaches E n (prepared_by G N left Decision.none_left) (Prepared.ended g)
  none-left g h =
      on {E = E} {n = n} {m = none_grown G N left} (λ g. Ask.done (Prepared.ended g)) h on_done

  pub stuck-on : (s : Span) (t : Term) → Fails E n (prepared_by G N left (Decision.stuck_on s t))
      (Cause.pattern_stuck (length N.context) t t) (at s Test.on_variable)
  unfolding within
  stuck-on s t = record { is = refl }

  pub by-examined : {X : Type 0} (r : Row) (rows : List Row) (o : Option Examined) (view : X → Prepared)
      (result : Result X ElabError) → examined r.columns ≡ o →
      Gives E n (at_leaf G (with_rows N (r ∷ rows)) r left o) view result →
      Gives E n (prepared_by G N left (Decision.decides r rows)) view result
  by-examined r rows o view result e h =
      subst (λ o. Gives E n (at_leaf G (with_rows N (r ∷ rows)) r left o) view result) (sym e) h

  pub leaf-refused : (r : Row) (e : ElabError) → Refuses E n (leaf_grown G N r left) e →
      Refuses E n (at_leaf G N r left None) e
  leaf-refused r e h = here E n (leaf_grown G N r left) (λ g. Ask.done (Prepared.ended g)) e h

  pub leaf-there : (r : Row) (g : Grown) → Reaches E n (leaf_grown G N r left) g →
      Reaches E n (at_leaf G N r left None) (Prepared.ended g)
  leaf-there r g h =
      on {E = E} {n = n} {m = leaf_grown G N r left} (λ g. Ask.done (Prepared.ended g)) h on_done
