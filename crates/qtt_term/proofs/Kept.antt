-- What the items of an environment keep, as facts of the environment.
use Rattle.std.proofs.Common.{◌≡◌, ℕ, ◌+◌, ◌≤◌, arith, List, [], ◌∷◌, length, Option, Some, None, option_map, Bool, true, false, cond, eqb, refl, sym, ap, ◌∙◌, subst}
use Rattle.std.specs.Bool.{Decides}
use Rattle.std.specs.List.{list_all}
use Rattle.std.proofs.lemmas.Bool.{and_parts, and_from, eqb-true}
use Rattle.std.proofs.lemmas.Bool.Decides.{Decides-eqb, Decides-like}
use Rattle.qtt_base.specs.declared.place.GlobalId.{GlobalId}
use Rattle.qtt_term.specs.declared.globals.Globals.{Globals}
use Rattle.qtt_term.specs.Term.{binders, first, rest, Term, Terms, var, node, ε, ◌▸◌, size, same_id}
use Rattle.qtt_term.specs.Substitution.{Below, AllBelow, Closed, reach, reaches, is_closed}
use Rattle.qtt_term.specs.Signature.{Constructor, family_of, definition_of}
use Rattle.qtt_term.specs.Contraction.{BodiesClosed}
use Rattle.qtt_term.specs.Environment.{ResultsAre, ResultsCounted}
use Rattle.qtt_term.specs.Keyed.{with_id, inserted, all_inserted}
use Rattle.qtt_term.specs.Items.{FamilyEntry, DefinitionEntry, family_id, definition_id, given_body, with_body, body_closed, all_bodies_closed, results_counted, all_results_counted}
use Rattle.qtt_term.specs.Globals.{families, definitions, env}
use Rattle.qtt_term.proofs.Order.{all-inserted, found_behind}
use Rattle.qtt_term.proofs.Options.{none≢some, some-injective}

-- ---- the tests
mutual
  pub reach-below : (t : Term) (n : ℕ) → reach t ≤ n → Below n t
  reach-below (var i) n h = omega arith
  reach-below (node F ts) n h = reaches-below ts (binders F) n h

  reaches-below : (ts : Terms) (ns : List ℕ) (n : ℕ) → reaches ns ts ≤ n → AllBelow ns n ts
  reaches-below ε ns n h = tt
  reaches-below (t ▸ ts) ns n h =
      (reach-below t (first ns + n) (omega arith), reaches-below ts (rest ns) n (omega arith))

mutual
  pub below-reach : (t : Term) (n : ℕ) → Below n t → reach t ≤ n
  below-reach (var i) n b = omega arith
  below-reach (node F ts) n b = below-reaches ts (binders F) n b

  below-reaches : (ts : Terms) (ns : List ℕ) (n : ℕ) → AllBelow ns n ts → reaches ns ts ≤ n
  below-reaches ε ns n b = omega arith
  below-reaches (t ▸ ts) ns n b =
      let here : reach t ≤ first ns + n = below-reach t (first ns + n) b.0 in
      let others : reaches (rest ns) ts ≤ n = below-reaches ts (rest ns) n b.1 in
      omega arith

pub closed-decided : (t : Term) → Decides (is_closed t) (Closed t)
closed-decided t =
    Decides-like (is_closed t) (λ e. reach-below t 0 (subst (λ k. k ≤ 0) (sym e) (omega arith)))
    (λ c. zero-is (reach t) (below-reach t 0 c)) (Decides-eqb (reach t) 0)
  where
    zero-is : (k : ℕ) → k ≤ 0 → k ≡ 0
    zero-is k h = omega arith

results-are : (n : ℕ) (cs : List Constructor) → list_all (λ c. eqb (size c.results) n) cs ≡ true → ResultsAre n cs
results-are n [] h = tt
results-are n (c ∷ cs) h =
    let parts = and_parts (eqb (size c.results) n) (list_all (λ d. eqb (size d.results) n) cs) h in
    (eqb-true (size c.results) n parts.0, results-are n cs parts.1)

-- ---- what each element of a list passes
-- what is found passes
pub found-passes : {X : Type 0} (key : X → GlobalId) (p : X → Bool) (id : GlobalId) (xs : List X) (x : X) →
    list_all p xs ≡ true → with_id key id xs ≡ Some x → p x ≡ true
found-passes key p id [] x h e = absurd (none≢some e)
found-passes {X = X} key p id (y ∷ ys) x h e =
    by_test (same_id (key y) id) refl (found-passes key p id ys x (and_parts (p y) (list_all p ys) h).1)
  where
    by_test : (b : Bool) → same_id (key y) id ≡ b → (with_id key id ys ≡ Some x → p x ≡ true) → p x ≡ true
    by_test true t others =
        let first : Some y ≡ Some x = sym (ap (λ b. cond b (Some y) (with_id key id ys)) t) ∙ e in
        subst (λ z. p z ≡ true) (some-injective first) (and_parts (p y) (list_all p ys) h).0
    by_test false t others = others (sym (found_behind key id y ys t) ∙ e)

pub all-all_inserted : {X : Type 0} (key : X → GlobalId) (p : X → Bool) (xs ys : List X) → list_all p xs ≡ true →
    list_all p ys ≡ true →
    list_all p (all_inserted key xs ys) ≡ true
all-all_inserted key p [] ys h k = k
all-all_inserted key p (x ∷ xs) ys h k =
    let parts = and_parts (p x) (list_all p xs) h in
    all-all_inserted key p xs (inserted key x ys) parts.1 (all-inserted key p x ys parts.0 k)

pub closed-with_body : (i : GlobalId) (b : Term) (ds : List DefinitionEntry) → Closed b →
    all_bodies_closed ds ≡ true → all_bodies_closed (with_body i b ds) ≡ true
closed-with_body i b [] c h = refl
closed-with_body i b (d ∷ ds) c h =
    let parts = and_parts (body_closed d.definition) (all_bodies_closed ds) h in
    and_from (body_closed (cond (same_id d.id i) (given_body b d) d).definition) (all_bodies_closed (with_body i b ds))
    (by_test (same_id d.id i)) (closed-with_body i b ds c parts.1)
  where
    by_test : (t : Bool) → body_closed (cond t (given_body b d) d).definition ≡ true
    by_test true = (closed-decided b).1 c
    by_test false = (and_parts (body_closed d.definition) (all_bodies_closed ds) h).0

-- ---- environments
bodies-closed : (ds : List DefinitionEntry) (d : GlobalId) (b : Term) → all_bodies_closed ds ≡ true →
    (definition_of (option_map (λ e. e.definition) (with_id definition_id d ds))).body ≡ Some b → Closed b
bodies-closed ds d b h e = of_found (with_id definition_id d ds) refl e
  where
    of_body : (o : Option Term) → elim o [ None ↦ true | Some c ↦ is_closed c ] ≡ true → o ≡ Some b → Closed b
    of_body None k s = absurd (none≢some s)
    of_body (Some c) k s = (closed-decided b).0 (subst (λ t. is_closed t ≡ true) (some-injective s) k)

    of_found : (o : Option DefinitionEntry) → with_id definition_id d ds ≡ o →
        (definition_of (option_map (λ x. x.definition) o)).body ≡ Some b → Closed b
    of_found None f s = absurd (none≢some s)
    of_found (Some x) f s = of_body x.definition.body
        (found-passes definition_id (λ y. body_closed y.definition) d ds x h f) s

-- no variable is free in a body of an environment
pub globals-closed : (g : Globals) → BodiesClosed (env g)
globals-closed g d b e = bodies-closed (definitions g) d b g.bodies_closed e

results-counted : (Fs : List FamilyEntry) (f : GlobalId) (o : Option FamilyEntry) → with_id family_id f Fs ≡ o →
    all_results_counted Fs ≡ true →
    ResultsAre (length (family_of (option_map (λ e. e.family) o)).indices)
    (family_of (option_map (λ e. e.family) o)).constructors
results-counted Fs f None e h = tt
results-counted Fs f (Some F) e h =
    results-are (length F.family.indices) F.family.constructors
    (found-passes family_id (λ G. results_counted G.family) f Fs F h e)

-- each constructor's result has one term for each index of its family
pub globals-counted : (g : Globals) → ResultsCounted (env g)
globals-counted g f = results-counted (families g) f (with_id family_id f (families g)) refl g.results_counted
