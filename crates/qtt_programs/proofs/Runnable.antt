-- A program whose items the judgement accepts is well formed and complete.
use Rattle.std.proofs.Common.{◌≡◌, ℕ, Bool, true, false, ◌&&◌, cond, eqb, List, [], ◌∷◌, length, Option, Some, None, refl, sym, ◌∙◌, ap, subst}
use Rattle.std.proofs.lemmas.Bool.{eqb-true, and_parts}
use mathlib.Core.Path.{ap₂}
use Rattle.std.proofs.lemmas.List.{append-nil}
use Rattle.qtt_base.specs.declared.place.GlobalId.{GlobalId}
use Rattle.qtt_usage.specs.declared.mult.Mult.{Mult}
use Rattle.qtt_usage.specs.Mult.{𝟘, 𝟙, ω}
use Rattle.qtt_usage.specs.Uses.{zero_use}
use Rattle.qtt_term.specs.Term.{Term, same_id}
use Rattle.qtt_term.specs.Substitution.{Closed}
use Rattle.qtt_term.specs.Signature.{Family, Definition, Env, There, prim_id, family_of, bool_id, line_id, eq_id, unit_family, bool_family, line_family, eq_family}
use Rattle.qtt_term.specs.Contraction.{Conv}
use Rattle.qtt_term.specs.Judgement.{Part, Typed}
use Rattle.qtt_term.specs.Environment.{NoTape, part_of, FamilyFormed, DefinitionFormed, WellFormed, Complete}
use Rattle.qtt_term.specs.PrimEnvironment.{prim_family, prim_env}
use Rattle.qtt_term.specs.Programs.{item, listed, of_main, or, program, many, io_unit}
use Rattle.qtt_term.proofs.Options.{none≢some, some-injective, cond-some}
use Rattle.qtt_term.proofs.PrimFormed.{prim_formed}
use Rattle.qtt_preserve.specs.Grows.{Grows}
use Rattle.qtt_preserve.proofs.Sound.{typed-below}
use Rattle.qtt_preserve.proofs.Grow.{family-formed-grows}
use Rattle.qtt_term.specs.Environment.{ResultsAre, ResultsCounted}
use Rattle.qtt_core_check.proofs.Sound.{results-counted}
use Rattle.qtt_programs.specs.Programs.{IsRunnable}
use Rattle.qtt_programs.proofs.Judging.{tape_free, no_tape, of_type, of_sort, typed, is-type}

-- ---- families
-- each family of a list, under its id
abbrev pub EachFamily : (GlobalId → Family → Type 0) → List (ℕ × Family) → Type 0
EachFamily P [] = Unit {0}
EachFamily P (x ∷ xs) = P (item x.0) x.1 × EachFamily P xs

-- a family of Prim is not of Main
not-of-main : (f : GlobalId) (n : ℕ) (F G : Family) (o : Option Family) → (o ≡ Some G → eqb f.module.0 1 ≡ false) →
    cond (same_id f (prim_id n)) (Some F) o ≡ Some G → eqb f.module.0 1 ≡ false
not-of-main f n F G o others e = by_test (same_id f (prim_id n)) refl e
  where
    by_test : (b : Bool) → same_id f (prim_id n) ≡ b → cond b (Some F) o ≡ Some G → eqb f.module.0 1 ≡ false
    by_test true s e =
        let r = and_parts (eqb f.module.0 0) (eqb f.item n) s in
        ap (λ m. eqb m 1) (eqb-true f.module.0 0 r.0)
    by_test false s e = others e

prim-not-of-main : (f : GlobalId) (F : Family) → prim_family f ≡ Some F → eqb f.module.0 1 ≡ false
prim-not-of-main f F e =
    not-of-main f 3 unit_family F
    (cond (same_id f bool_id) (Some bool_family)
    (cond (same_id f line_id) (Some line_family) (cond (same_id f eq_id) (Some eq_family) None)))
    (not-of-main f 4 bool_family F
    (cond (same_id f line_id) (Some line_family) (cond (same_id f eq_id) (Some eq_family) None))
    (not-of-main f 5 line_family F (cond (same_id f eq_id) (Some eq_family) None)
    (not-of-main f 13 eq_family F None (λ h. absurd (none≢some h))))) e

id-is : (f : GlobalId) (n : ℕ) → eqb f.module.0 1 ≡ true → eqb n f.item ≡ true → item n ≡ f
id-is f n e h = ap₂ (λ m i. record { «module» = record { 0 = m }; item = i }) (sym (eqb-true f.module.0 1 e))
    (eqb-true n f.item h)

one-listed : (P : GlobalId → Family → Type 0) (f : GlobalId) (F : Family) (xs : List (ℕ × Family)) →
    EachFamily P xs → eqb f.module.0 1 ≡ true →
    listed xs f.item ≡ Some F → P f F
one-listed P f F [] h m e = absurd (none≢some e)
one-listed P f F (x ∷ xs) h m e = by_test (eqb x.0 f.item) refl e (λ n. one-listed P f F xs h.1 m n)
  where
    by_test : (b : Bool) → eqb x.0 f.item ≡ b → cond b (Some x.1) (listed xs f.item) ≡ Some F →
        (listed xs f.item ≡ Some F → P f F) → P f F
    by_test true t e next = subst (λ G. P f G) (some-injective e) (subst (λ g. P g x.1) (id-is f x.0 m t) h.0)
    by_test false t e next = next e

-- the result of each constructor has a term for each index
abbrev pub ResultsSo : GlobalId → Family → Type 0
ResultsSo f F = ResultsAre (length F.indices) F.constructors

prim-results : (f : GlobalId) (F : Family) → prim_family f ≡ Some F → ResultsSo f F
prim-results f F e = subst (λ o. ResultsAre (length (family_of o).indices) (family_of o).constructors) e
    (results-counted prim_env prim_formed f)

module _ (fs : List (ℕ × Family)) (ds : List (ℕ × Definition)) where
  prim-stays : (f : GlobalId) (F : Family) → prim_family f ≡ Some F → prim_family f ≡ (program fs ds).family f
  prim-stays f F e = sym (ap (λ b. or (cond b (listed fs f.item) None) (prim_family f)) (prim-not-of-main f F e))

  there-stays : (f : GlobalId) (o : Option Family) → There o → prim_family f ≡ o →
      prim_family f ≡ (program fs ds).family f
  there-stays f None t e = elim t [ ]
  there-stays f (Some F) t e = prim-stays f F e

  grows : Grows prim_env (program fs ds)
  grows = record {
    families = λ f F e. (
      F,
      sym (prim-stays f F e) ∙ e,
      record {
        params = refl;
        indices = refl;
        level = refl;
        added = [];
        constructors = append-nil F.constructors;
      },
    );
    definitions = λ d A e. absurd (none≢some e);
  }

  -- a family of the program is one of Main or one of Prim
  either-family : (P : GlobalId → Family → Type 0) → EachFamily P fs →
      ((f : GlobalId) (F : Family) → prim_family f ≡ Some F → P f F) →
      (f : GlobalId) (F : Family) → (program fs ds).family f ≡ Some F → P f F
  either-family P hs prims f F e = by_main (of_main fs f) refl e
    where
      by_main : (o : Option Family) → of_main fs f ≡ o → or o (prim_family f) ≡ Some F → P f F
      by_main None s e = prims f F e
      by_main (Some G) s e =
          let r = cond-some (eqb f.module.0 1) (listed fs f.item) F (s ∙ e) in one-listed P f F fs hs r.0 r.1

  results : EachFamily ResultsSo fs → ResultsCounted (program fs ds)
  results hs f = at ((program fs ds).family f) refl
    where
      at : (o : Option Family) →
          (program fs ds).family f ≡ o → ResultsAre (length (family_of o).indices) (family_of o).constructors
      at None e = tt
      at (Some F) e = either-family ResultsSo hs prim-results f F e

-- ---- definitions
-- a definition with a body that is not 0, accepted with each question within n contractions
abbrev pub accepted_body : Env → ℕ → Mult → Term → Option Term → Bool
accepted_body E n ω A (Some b) = of_type E n Part.run A b
accepted_body E n q A o = false

abbrev pub accepted_definition : Env → ℕ → Definition → Bool
accepted_definition E n D = of_sort E n D.type && accepted_body E n D.mult D.type D.body

abbrev pub all_accepted : Env → ℕ → List (ℕ × Definition) → Bool
all_accepted E n [] = true
all_accepted E n (x ∷ xs) = accepted_definition E n x.1 && all_accepted E n xs

record HasBody (E : Env) (n : ℕ) (D : Definition) : Type 0 where
  body : Term
  is : D.body ≡ Some body
  mult_is : D.mult ≡ ω
  judged : of_type E n Part.run D.type body ≡ true

has-body : (E : Env) (n : ℕ) (D : Definition) → accepted_body E n D.mult D.type D.body ≡ true → HasBody E n D
has-body E n D e = at D.mult D.body refl refl e
  where
    at : (q : Mult) (o : Option Term) → D.mult ≡ q → D.body ≡ o → accepted_body E n q D.type o ≡ true → HasBody E n D
    at 𝟘 o q h e = absurd (cc e)
    at 𝟙 o q h e = absurd (cc e)
    at ω None q h e = absurd (cc e)
    at ω (Some b) q h e = record { body = b; is = h; mult_is = q; judged = e }

not-one : ω ≡ 𝟙 → ⊥
not-one e = cc e

definition-formed : (E : Env) → ResultsCounted E → (n : ℕ) (D : Definition) → accepted_definition E n D ≡ true →
    DefinitionFormed E D
definition-formed E counted n D e =
    let r = and_parts (of_sort E n D.type) (accepted_body E n D.mult D.type D.body) e in
    let b = has-body E n D r.1 in
    let h = typed E counted n Part.run D.type b.body b.judged in
    let s : (c : Term) → D.body ≡ Some c → b.body ≡ c = λ c x. some-injective (sym b.is ∙ x) in
    record {
      mult = λ x. not-one (sym b.mult_is ∙ x);
      is_type = is-type E counted n D.type r.0;
      type_no_tape = no_tape D.type (and_parts (tape_free D.type) _ r.0).0;
      closed = λ c x. subst Closed (s c x) (typed-below h);
      typed = λ c x. subst (λ q. Typed E (part_of q) [] c D.type zero_use) (sym b.mult_is)
          (subst (λ t. Typed E Part.run [] t D.type zero_use) (s c x) h);
      no_tape = λ c x. subst NoTape (s c x) (no_tape b.body (and_parts (tape_free b.body) _ b.judged).0);
    }

-- one of a list of accepted definitions
one-accepted : (E : Env) (n i : ℕ) (D : Definition) (xs : List (ℕ × Definition)) → all_accepted E n xs ≡ true →
    listed xs i ≡ Some D → accepted_definition E n D ≡ true
one-accepted E n i D [] a e = absurd (none≢some e)
one-accepted E n i D (x ∷ xs) a e =
    let r = and_parts (accepted_definition E n x.1) (all_accepted E n xs) a in by_test (eqb x.0 i) e r.0
    (one-accepted E n i D xs r.1)
  where
    by_test : (b : Bool) → cond b (Some x.1) (listed xs i) ≡ Some D → accepted_definition E n x.1 ≡ true →
        (listed xs i ≡ Some D → accepted_definition E n D ≡ true) → accepted_definition E n D ≡ true
    by_test true e first next = ap (accepted_definition E n) (sym (some-injective e)) ∙ first
    by_test false e first next = next e

-- ---- a program with its main
module _ (fs : List (ℕ × Family)) (ds : List (ℕ × Definition)) (n : ℕ) (counted : EachFamily ResultsSo fs)
    (a : all_accepted (program fs ds) n ds ≡ true) where
  of-definitions : (d : GlobalId) (D : Definition) → (program fs ds).definition d ≡ Some D →
      accepted_definition (program fs ds) n D ≡ true
  of-definitions d D e =
      one-accepted (program fs ds) n d.item D ds a (cond-some (eqb d.module.0 1) (listed ds d.item) D e).1

  program-formed : EachFamily (FamilyFormed (program fs ds)) fs → WellFormed (program fs ds)
  program-formed hs = record {
    prims = record { units = refl; truths = refl; lines = refl; equalities = refl };
    families = either-family fs ds (FamilyFormed (program fs ds)) hs
        (λ f F e. family-formed-grows (grows fs ds) (λ g t. there-stays fs ds g (prim_family g) t refl)
        (prim_formed.families f F e));
    definitions = λ d D e. definition-formed (program fs ds) (results fs ds counted) n D (of-definitions d D e);
  }

  program-complete : Complete (program fs ds)
  program-complete d D e m =
      let r = and_parts (of_sort (program fs ds) n D.type) (accepted_body (program fs ds) n D.mult D.type D.body)
      (of-definitions d D e) in
      let b = has-body (program fs ds) n D r.1 in
      subst There (sym b.is) tt

  pub runnable : EachFamily (FamilyFormed (program fs ds)) fs →
      (m : ℕ) (b : Term) → listed ds m ≡ Some (many io_unit b) → IsRunnable (program fs ds) (item m)
  runnable hs m b e = record {
    formed = program-formed hs;
    complete = program-complete;
    is_main = record { definition = many io_unit b; there = e; usable = tt; typed = Conv.same };
  }
