-- Environments of worked examples: their bodies are closed, results are counted, and terms have the types that are
-- inferred.
use Rattle.std.proofs.Common.{◌≡◌, ℕ, List, [], ◌∷◌, length, Option, Some, None, option_map, true, eqb, refl, subst}
use Rattle.std.proofs.lemmas.Bool.{eqb-true, and_parts}
use Rattle.std.specs.List.{list_all}
use Rattle.qtt_usage.specs.Uses.{Use}
use Rattle.qtt_term.specs.Term.{Term, size}
use Rattle.qtt_term.specs.Substitution.{Closed, is_closed}
use Rattle.qtt_term.specs.Signature.{Constructor, family_of, definition_of}
use Rattle.qtt_term.specs.Contraction.{BodiesClosed}
use Rattle.qtt_term.specs.Judgement.{Part, Typed}
use Rattle.qtt_term.specs.Environment.{ResultsAre, ResultsCounted}
use Rattle.qtt_term.specs.Keyed.{with_id}
use Rattle.qtt_term.specs.Items.{FamilyEntry, DefinitionEntry, family_id, definition_id, body_closed, all_bodies_closed, results_counted, all_results_counted}
use Rattle.qtt_term.specs.Entries.{Entries, env}
use Rattle.qtt_term.specs.Ask.{within}
use Rattle.qtt_term.specs.FirstSpent.{Says}
use Rattle.qtt_term.specs.Infer.{infer}
use Rattle.qtt_term.specs.Rows.{typed_so}
use Rattle.qtt_term.proofs.Kept.{closed-decided, found-passes}
use Rattle.qtt_confluence.proofs.Endings.{says}
use Rattle.qtt_core_check.proofs.Sound.{sound}

-- ---- lists of entries
some-of : {A : Type 0} {a b : A} → Some a ≡ Some b → a ≡ b
some-of e = cc e

pub entries-closed : (K : Entries) → all_bodies_closed K.definitions ≡ true → BodiesClosed (env K)
entries-closed K h d b e = of-found (with_id definition_id d K.definitions) refl e
  where
    of-body : (o : Option Term) → elim o [ None ↦ true | Some c ↦ is_closed c ] ≡ true → o ≡ Some b → Closed b
    of-body None k s = absurd (cc s)
    of-body (Some c) k s = (closed-decided b).0 (subst (λ t. is_closed t ≡ true) (some-of s) k)

    of-found : (o : Option DefinitionEntry) → with_id definition_id d K.definitions ≡ o →
        (definition_of (option_map (λ x. x.definition) o)).body ≡ Some b → Closed b
    of-found None f s = absurd (cc s)
    of-found (Some x) f s =
        of-body x.definition.body (found-passes definition_id (λ y. body_closed y.definition) d K.definitions x h f) s

results-are : (n : ℕ) (cs : List Constructor) → list_all (λ c. eqb (size c.results) n) cs ≡ true → ResultsAre n cs
results-are n [] h = tt
results-are n (c ∷ cs) h =
    let p = and_parts (eqb (size c.results) n) (list_all (λ d. eqb (size d.results) n) cs) h in
    (eqb-true (size c.results) n p.0, results-are n cs p.1)

pub entries-counted : (K : Entries) → all_results_counted K.families ≡ true → ResultsCounted (env K)
entries-counted K h f = of-found (with_id family_id f K.families) refl
  where
    of-found : (o : Option FamilyEntry) → with_id family_id f K.families ≡ o →
        ResultsAre (length (family_of (option_map (λ e. e.family) o)).indices)
        (family_of (option_map (λ e. e.family) o)).constructors
    of-found None e = tt
    of-found (Some F) e =
        results-are (length F.family.indices) F.family.constructors
        (found-passes family_id (λ G. results_counted G.family) f K.families F h e)

-- ---- types
pub record HasType (K : Entries) (p : Part) (t A : Term) : Type 0 where
  pub use_of_term : Use
  pub typed : Typed (env K) p [] t A use_of_term

pub has-type : (K : Entries) → ResultsCounted (env K) → (p : Part) (n : ℕ) (t A : Term) →
    within (env K) n (infer (env K) p [] t) ≡ typed_so A → HasType K p t A
has-type K counted p n t A e =
    let E = env K in
    let r = (sound E counted).has_uses p [] t _ (subst (Says E n (infer E p [] t)) e (says E n (infer E p [] t))) in
    record { use_of_term = r.use_of_term; typed = r.holds }
