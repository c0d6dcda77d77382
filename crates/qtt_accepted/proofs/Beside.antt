-- Two environments side by side: a module's ids from one of them, and the others from the other.
use Rattle.std.proofs.Common.{◌≡◌, Bool, true, false, cond, Option, Some, None, refl, sym, ◌∙◌}
use Rattle.qtt_base.specs.declared.place.GlobalId.{GlobalId}
use Rattle.qtt_base.specs.declared.place.ModuleId.{ModuleId}
use Rattle.qtt_term.specs.Signature.{Family, Definition, Env, There}
use Rattle.qtt_term.specs.Environment.{FamilyFormed, DefinitionFormed, WellFormed, Complete}
use Rattle.qtt_term.specs.Keyed.{is_of}
use Rattle.qtt_term.proofs.Options.{none≢some}
use Rattle.qtt_preserve.specs.Grows.{DefinitionGrows, Grows, FamiliesStay}
use Rattle.qtt_preserve.proofs.Grow.{family-formed-grows, definition-formed-grows}
use Rattle.qtt_accepted.specs.Texts.{StandsIn}
use Rattle.qtt_accepted.proofs.Added.{prims-stay}
use Rattle.qtt_accepted.proofs.Families.{as-it-is}

-- a module's ids from D, and the others from E
abbrev pub beside : ModuleId → Env → Env → Env
beside m D E = record {
  family = λ f. cond (is_of (Some m) f) (D.family f) (E.family f);
  definition = λ d. cond (is_of (Some m) d) (D.definition d) (E.definition d);
}

as-defined : (A : Definition) → DefinitionGrows A A
as-defined A = record { mult = refl; type = refl; body = λ b e. e }

-- ---- what stands in one environment stands in the other
pub stands-grows : (D E : Env) → StandsIn D E → Grows D E
stands-grows D E s = record {
  families = λ f F h. (F, s.families f F h, as-it-is F);
  definitions = λ d A h. (A, s.definitions d A h, as-defined A);
}

pub stands-stay : (D E : Env) → StandsIn D E → FamiliesStay D E
stands-stay D E s f t = by_family (D.family f) refl t
  where
    by_family : (o : Option Family) → D.family f ≡ o → There o → D.family f ≡ E.family f
    by_family None e t = absurd t
    by_family (Some F) e t = e ∙ sym (s.families f F e)

-- ---- a module's items are those of S, and the others are of G, which stand in H
pub record Adds (m : ModuleId) (G S : Env) : Type 0 where
  pub families : (f : GlobalId) → is_of (Some m) f ≡ false → S.family f ≡ G.family f
  pub definitions : (d : GlobalId) → is_of (Some m) d ≡ false → S.definition d ≡ G.definition d

pub record Lacks (m : ModuleId) (H : Env) : Type 0 where
  pub families : (f : GlobalId) → is_of (Some m) f ≡ true → H.family f ≡ None
  pub definitions : (d : GlobalId) → is_of (Some m) d ≡ true → H.definition d ≡ None

module _ (m : ModuleId) (S H : Env) where
  pub stands-over : Lacks m H → StandsIn H (beside m S H)
  stands-over lacks = record {
    families = λ f F h. family f F h (is_of (Some m) f) refl;
    definitions = λ d A h. definition d A h (is_of (Some m) d) refl;
  }
    where
      family : (f : GlobalId) (F : Family) → H.family f ≡ Some F → (b : Bool) → is_of (Some m) f ≡ b →
          cond b (S.family f) (H.family f) ≡ Some F
      family f F h true e = absurd (none≢some (sym (lacks.families f e) ∙ h))
      family f F h false e = h

      definition : (d : GlobalId) (A : Definition) → H.definition d ≡ Some A → (b : Bool) → is_of (Some m) d ≡ b →
          cond b (S.definition d) (H.definition d) ≡ Some A
      definition d A h true e = absurd (none≢some (sym (lacks.definitions d e) ∙ h))
      definition d A h false e = h

  pub stands-beside : (G : Env) → Adds m G S → StandsIn G H → StandsIn S (beside m S H)
  stands-beside G adds s = record {
    families = λ f F h. family f F h (is_of (Some m) f) refl;
    definitions = λ d A h. definition d A h (is_of (Some m) d) refl;
  }
    where
      family : (f : GlobalId) (F : Family) → S.family f ≡ Some F → (b : Bool) → is_of (Some m) f ≡ b →
          cond b (S.family f) (H.family f) ≡ Some F
      family f F h true e = h
      family f F h false e = s.families f F (sym (adds.families f e) ∙ h)

      definition : (d : GlobalId) (A : Definition) → S.definition d ≡ Some A → (b : Bool) → is_of (Some m) d ≡ b →
          cond b (S.definition d) (H.definition d) ≡ Some A
      definition d A h true e = h
      definition d A h false e = s.definitions d A (sym (adds.definitions d e) ∙ h)

  pub beside-formed : (G : Env) → Adds m G S → StandsIn G H → Lacks m H → WellFormed S → WellFormed H →
      WellFormed (beside m S H)
  beside-formed G adds s lacks v w = record {
    prims = prims-stay H (beside m S H) stay w.prims;
    families = λ f F h. family f F (is_of (Some m) f) h;
    definitions = λ d A h. definition d A (is_of (Some m) d) h;
  }
    where
      above : StandsIn S (beside m S H)
      above = stands-beside G adds s

      over : StandsIn H (beside m S H)
      over = stands-over lacks

      stay : FamiliesStay H (beside m S H)
      stay = stands-stay H (beside m S H) over

      family : (f : GlobalId) (F : Family) (b : Bool) → cond b (S.family f) (H.family f) ≡ Some F →
          FamilyFormed (beside m S H) f F
      family f F true h =
          family-formed-grows (stands-grows S (beside m S H) above) (stands-stay S (beside m S H) above)
          (v.families f F h)
      family f F false h = family-formed-grows (stands-grows H (beside m S H) over) stay (w.families f F h)

      definition : (d : GlobalId) (A : Definition) (b : Bool) → cond b (S.definition d) (H.definition d) ≡ Some A →
          DefinitionFormed (beside m S H) A
      definition d A true h =
          definition-formed-grows (stands-grows S (beside m S H) above) (stands-stay S (beside m S H) above)
          (v.definitions d A h)
      definition d A false h =
          definition-formed-grows (stands-grows H (beside m S H) over) stay (w.definitions d A h)

  pub beside-complete : Complete S → Complete H → Complete (beside m S H)
  beside-complete c k d A h u = by_test (is_of (Some m) d) h
    where
      by_test : (b : Bool) → cond b (S.definition d) (H.definition d) ≡ Some A → There A.body
      by_test true e = c d A e u
      by_test false e = k d A e u
