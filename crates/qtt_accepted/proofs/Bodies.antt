-- An accepted body without a Tape keeps the environment well formed.
use Rattle.std.proofs.Common.{◌≡◌, Bool, true, false, List, [], ◌∷◌, length, Option, Some, None, refl, sym, ap, subst, ◌∙◌, cond, option_map, arith}
use Rattle.qtt_base.specs.declared.place.GlobalId.{GlobalId}
use Rattle.qtt_usage.specs.declared.mult.Mult.{Mult}
use Rattle.qtt_usage.specs.Uses.{Key, zero_use}
use Rattle.qtt_usage.specs.Usage.{use_of}
use Rattle.qtt_term.specs.Term.{Term, same_id}
use Rattle.qtt_term.specs.Signature.{Definition, Env, There}
use Rattle.qtt_term.specs.Substitution.{Closed}
use Rattle.qtt_term.specs.Contraction.{Conv}
use Rattle.qtt_term.specs.Judgement.{Typed}
use Rattle.qtt_term.specs.Keyed.{with_id}
use Rattle.qtt_term.specs.Items.{DefinitionEntry, definition_id, given_body}
use Rattle.qtt_term.specs.Infer.{Premise, infer}
use Rattle.qtt_term.specs.Ask.{Ending, Ends, ◌>>=◌}
use Rattle.qtt_term.specs.Environment.{NoTape, part_of, DefinitionFormed, WellFormed}
use Rattle.qtt_term.proofs.Options.{none≢some, some-injective}
use Rattle.qtt_term.proofs.Order.{with_id-changed}
use Rattle.qtt_term.proofs.Same.{same_id-is}
use Rattle.qtt_term.specs.Entries.{Entries, env, with_body}
use Rattle.qtt_core_check.proofs.Sound.{sound, results-counted}
use Rattle.qtt_rules.specs.Refusal.{Cause, Place, refused}
use Rattle.qtt_rules.specs.Asks.{alike}
use Rattle.qtt_split.specs.Tests.{Test, at}
use Rattle.qtt_split.specs.Group.{Defined, or_body_refused, body_holds}
use Rattle.qtt_bidi.proofs.Endings.{asked}
use Rattle.qtt_preserve.specs.Grows.{DefinitionGrows, Grows, FamiliesStay}
use Rattle.qtt_preserve.proofs.Grow.{judged-grows, family-formed-grows, definition-formed-grows}
use Rattle.qtt_preserve.proofs.Facts.{in_scope_holds}
use Rattle.qtt_accepted.specs.Laws.{BodiesKeepForm}
use Rattle.qtt_accepted.proofs.Families.{as-it-is}
use Rattle.qtt_accepted.proofs.Added.{prims-stay}
use mathlib.Core.Path.{fun_ext}

no-use : (x : Key) → use_of [] x ≡ zero_use x
no-use (Key.v i) = refl
no-use (Key.h n) = refl

no-uses : (us : List Mult) → length us ≡ 0 → use_of us ≡ zero_use
no-uses [] e = fun_ext λ x. no-use x
no-uses (u ∷ us) e = absurd (omega (arith, e))

alike-so : {E : Env} (D : Defined) (p : Place) (t s : Term) → Ends E (alike p 0 t s >>= or_body_refused D)
    (Ending.ok tt) → Conv E t s
unfolding ◌>>=◌
alike-so D p t s (Ends.are_equal e x) = e
alike-so D p t s (Ends.are_different e x) = elim x [ ]

body-typed : (D : Defined) (b : Term) → WellFormed (env D.group.globals) → NoTape b → Ends (env D.group.globals)
    (body_holds D b) (Ending.ok tt) →
    Typed (env D.group.globals) D.group.part [] b D.type zero_use
unfolding body_holds
body-typed D b w n x =
    let E = env D.group.globals in
    let r = asked (at D.group.first Test.body) (infer E D.group.part [] b) _
    (λ (e : Premise). refused (Cause.core_refused D.name)
    (record { span = D.group.first; rule = e.rule; number = e.number })) tt x in
    let s = sound E (results-counted E w) in
    Typed.conversion (subst (Typed E D.group.part [] b r.mid.type)
    (no-uses r.mid.uses (s.has_uses D.group.part [] b r.mid r.first).counted)
    (s.typed D.group.part [] b r.mid n r.first))
    (alike-so D (at D.group.first Test.body) r.mid.type D.type r.after)

-- ---- the environment with the body
abbrev pub given : Term → Definition → Definition
given b A = record { mult = A.mult; type = A.type; body = Some b }

entry-id : (x : GlobalId) (ys : List DefinitionEntry) (y : DefinitionEntry) → with_id definition_id x ys ≡ Some y →
    same_id y.id x ≡ true
entry-id x [] y e = absurd (none≢some e)
entry-id x (z ∷ zs) y e = by_test (λ h. entry-id x zs y h) (same_id z.id x) refl e
  where
    by_test : (with_id definition_id x zs ≡ Some y → same_id y.id x ≡ true) → (c : Bool) → same_id z.id x ≡ c → cond c
        (Some z) (with_id definition_id x zs) ≡ Some y → same_id y.id x ≡ true
    by_test later true t h = subst (λ (y : DefinitionEntry). same_id y.id x ≡ true) (some-injective h) t
    by_test later false t h = later h

module _ (G : Entries) (d : GlobalId) (b : Term) (A : Definition) (there : (env G).definition d ≡ Some A)
    (bare : A.body ≡ None) where
  abbrev change : DefinitionEntry → DefinitionEntry
  change y = cond (same_id y.id d) (given_body b y) y

  lookup : (x : GlobalId) → with_id definition_id x (with_body d b G).definitions ≡ option_map change
      (with_id definition_id x G.definitions)
  lookup x = with_id-changed definition_id d (given_body b) x G.definitions (λ y. refl)

  is-it : (x : GlobalId) (y : DefinitionEntry) → with_id definition_id x G.definitions ≡ Some y → same_id y.id d ≡
      true → y.definition ≡ A
  is-it x y q t =
      let at-d : with_id definition_id d G.definitions ≡ Some y = ap (λ z. with_id definition_id z G.definitions)
      (sym (same_id-is y.id d t) ∙ same_id-is y.id x (entry-id x G.definitions y q)) ∙ q in
      some-injective (sym (ap (option_map (λ (y : DefinitionEntry). y.definition)) at-d) ∙ there)

  pub grown : (x : GlobalId) (B : Definition) → (env G).definition x ≡ Some B → (C : Definition) ×
      ((env (with_body d b G)).definition x ≡ Some C) × DefinitionGrows B C
  grown x B h = by_entry (with_id definition_id x G.definitions) refl h
    where
      by_test : (y : DefinitionEntry) (c : Bool) → same_id y.id d ≡ c → with_id definition_id x G.definitions ≡ Some y →
          DefinitionGrows y.definition (cond c (given_body b y) y).definition
      by_test y true t q = record {
        mult = refl;
        type = refl;
        body = λ c e. absurd
            (none≢some (sym (ap (λ (D : Definition). D.body) (is-it x y q t) ∙ bare) ∙ e));
      }
      by_test y false t q = record { mult = refl; type = refl; body = λ c e. e }

      by_entry : (o : Option DefinitionEntry) → with_id definition_id x G.definitions ≡ o → option_map
          (λ (y : DefinitionEntry). y.definition) o ≡ Some B →
          (C : Definition) × ((env (with_body d b G)).definition x ≡ Some C) × DefinitionGrows B C
      by_entry None q e = absurd (none≢some e)
      by_entry (Some y) q e = (
        (change y).definition,
        ap (option_map (λ (y : DefinitionEntry). y.definition)) (lookup x ∙ ap (option_map change) q),
        subst (λ B. DefinitionGrows B (change y).definition) (some-injective e) (by_test y (same_id y.id d) refl q),
      )

  -- it has a body now
  pub its-body : (C : Definition) → (env (with_body d b G)).definition d ≡ Some C → There C.body
  its-body C h =
      by_entry (with_id definition_id d G.definitions) refl
      (sym (ap (option_map (λ (y : DefinitionEntry). y.definition)) (lookup d)) ∙ h)
    where
      by_entry : (o : Option DefinitionEntry) → with_id definition_id d G.definitions ≡ o →
          option_map (λ (y : DefinitionEntry). y.definition) (option_map change o) ≡ Some C → There C.body
      by_entry None q e = absurd (none≢some e)
      by_entry (Some y) q e =
          let f : (change y).definition ≡ C = some-injective e in
          let g : same_id y.id d ≡ true = entry-id d G.definitions y q in
          subst (λ (D : Definition). There D.body) f
          (subst (λ (c : Bool). There (cond c (given_body b y) y).definition.body) (sym g) tt)

  -- another definition stays
  pub apart-body : (x : GlobalId) → same_id x d ≡ false → (env (with_body d b G)).definition x ≡ (env G).definition x
  apart-body x t =
      ap (option_map (λ (y : DefinitionEntry). y.definition)) (lookup x)
      ∙ by_entry (with_id definition_id x G.definitions) refl
    where
      by_entry : (o : Option DefinitionEntry) → with_id definition_id x G.definitions ≡ o →
          option_map (λ (y : DefinitionEntry). y.definition) (option_map change o)
          ≡ option_map (λ (y : DefinitionEntry). y.definition) o
      by_entry None q = refl
      by_entry (Some y) q =
          let i : y.id ≡ x = same_id-is y.id x (entry-id x G.definitions y q) in
          let f : same_id y.id d ≡ false = ap (λ z. same_id z d) i ∙ t in
          ap (λ (c : Bool). Some (cond c (given_body b y) y).definition) f

  grows : Grows (env G) (env (with_body d b G))
  grows = record { families = λ f F h. (F, h, as-it-is F); definitions = grown }

  stay : FamiliesStay (env G) (env (with_body d b G))
  stay f t = refl

  pub data Changed (x : GlobalId) (C : Definition) : Type 0 where
    as_before : (env G).definition x ≡ Some C → Changed x C
    with_it : given b A ≡ C → Changed x C

  pub seen : (x : GlobalId) (C : Definition) → (env (with_body d b G)).definition x ≡ Some C → Changed x C
  seen x C h = by_entry (with_id definition_id x G.definitions) refl
      (sym (ap (option_map (λ (y : DefinitionEntry). y.definition)) (lookup x)) ∙ h)
    where
      by_test : (y : DefinitionEntry) (c : Bool) → same_id y.id d ≡ c → with_id definition_id x G.definitions ≡ Some y →
          (cond c (given_body b y) y).definition ≡ C → Changed x C
      by_test y true t q e = Changed.with_it (ap (given b) (sym (is-it x y q t)) ∙ e)
      by_test y false t q e = Changed.as_before (ap (option_map (λ (y : DefinitionEntry). y.definition)) q ∙ ap Some e)

      by_entry : (o : Option DefinitionEntry) → with_id definition_id x G.definitions ≡ o → option_map
          (λ (y : DefinitionEntry). y.definition) (option_map change o) ≡ Some C → Changed x C
      by_entry None q e = absurd (none≢some e)
      by_entry (Some y) q e = by_test y (same_id y.id d) refl q (some-injective e)

  keeps : WellFormed (env G) → NoTape b → Typed (env G) (part_of A.mult) [] b A.type zero_use → WellFormed
      (env (with_body d b G))
  keeps w n t = record {
    prims = prims-stay (env G) (env (with_body d b G)) stay w.prims;
    families = λ f F h. family-formed-grows grows stay (w.families f F h);
    definitions = λ x C h. formed C (seen x C h);
  }
    where
      own : DefinitionFormed (env (with_body d b G)) (given b A)
      own =
          let old = definition-formed-grows grows stay (w.definitions d A there) in
          record {
            mult = old.mult;
            is_type = old.is_type;
            type_no_tape = old.type_no_tape;
            closed = λ c e. subst Closed (some-injective e) (in_scope_holds (env G) (part_of A.mult) [] b A.type
                zero_use t);
            typed = λ c e. subst (λ c. Typed (env (with_body d b G)) (part_of A.mult) [] c A.type zero_use)
                (some-injective e) (judged-grows grows stay t);
            no_tape = λ c e. subst NoTape (some-injective e) n;
          }

      formed : {x : GlobalId} (C : Definition) → Changed x C → DefinitionFormed (env (with_body d b G)) C
      formed C (Changed.as_before h) = definition-formed-grows grows stay (w.definitions _ C h)
      formed C (Changed.with_it h) = subst (DefinitionFormed (env (with_body d b G))) h own

pub bodies_keep_form_holds : BodiesKeepForm
bodies_keep_form_holds D d A b w there bare ty pt n x =
    let E = env D.group.globals in
    keeps D.group.globals d b A there bare w n (subst (λ T. Typed E (part_of A.mult) [] b T zero_use) ty
    (subst (λ p. Typed E p [] b D.type zero_use) pt (body-typed D b w n x)))
