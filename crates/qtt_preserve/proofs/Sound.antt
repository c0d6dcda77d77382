-- What proofs take from a well-formed and a complete environment.
use Rattle.std.proofs.Common.{◌≡◌, ℕ, zero, suc, ◌+◌, ◌<◌, List, [], ◌∷◌, length, Option, Some, None, refl, sym, subst, arith}
use Rattle.qtt_base.specs.declared.place.GlobalId.{GlobalId}
use Rattle.qtt_usage.specs.declared.mult.Mult.{Mult}
use Rattle.qtt_usage.specs.Mult.{𝟘, 𝟙, ω}
use Rattle.qtt_usage.specs.Uses.{Use, zero_use}
use Rattle.qtt_term.specs.Term.{Term, Terms}
use Rattle.qtt_term.specs.Substitution.{sub, closed, Below, AllBelow, Closed}
use Rattle.qtt_term.specs.Signature.{Tele, Definition, Env, definition_of, definition_at, There}
use Rattle.qtt_term.specs.Contraction.{BodiesClosed}
use Rattle.qtt_term.specs.Judgement.{Ctx, InScope, ext, Part, Usable, Judged, Typed, TypedAll}
use Rattle.qtt_term.specs.Environment.{part_of, DefinitionFormed, HasPrim, WellFormed, Complete}
use Rattle.qtt_term.proofs.Options.{none≢some}
use Rattle.qtt_term.proofs.Closed.{closed-kept}
use Rattle.qtt_preserve.specs.Within.{Has}
use Rattle.qtt_preserve.proofs.Travel.{erase}
use Rattle.qtt_preserve.proofs.Exact.{typed-has}

-- ---- a term's variables are those of its context
in-scope : (Γ : Ctx) (i : ℕ) → InScope Γ i → i < length Γ
in-scope [] i s = elim s [ ]
in-scope (b ∷ Γ) zero s = omega arith
in-scope (b ∷ Γ) (suc i) s = let p : i < length Γ = in-scope Γ i s in omega arith

length-ext : (Γ : Ctx) (Θ : Tele) → length (ext Γ Θ) ≡ length Θ + length Γ
length-ext Γ [] = omega arith
length-ext Γ (b ∷ Θ) = let e : length (ext (b ∷ Γ) Θ) ≡ length Θ + length (b ∷ Γ) = length-ext (b ∷ Γ) Θ in omega arith

mutual
  pub typed-below : {E : Env} {p : Part} {Γ : Ctx} {t A : Term} {u : Use} → Typed E p Γ t A u → Below (length Γ) t
  typed-below {Γ = Γ} (Typed.variable {i = i} s m e) = in-scope Γ i s
  typed-below (Typed.by_rule r hs e) = all-typed-below hs
  typed-below (Typed.conversion h c) = typed-below h

  all-typed-below : {E : Env} {p : Part} {Γ : Ctx} {ns : List ℕ} {ts : Terms} {js : List Judged} →
      TypedAll E p Γ ns ts js → AllBelow ns (length Γ) ts
  all-typed-below TypedAll.none = tt
  all-typed-below {Γ = Γ} {ns = ns} (TypedAll.more {t = t} {j = j} e h f hs) = (
    subst (λ n. Below n t) (let l : length (ext Γ j.binds) ≡ length j.binds + length Γ = length-ext Γ j.binds
        in omega arith) (typed-below h),
    all-typed-below hs,
  )

-- ---- definitions
-- a body has its type in each part in which the definition may be used
abbrev pub BodiesTyped : Env → Type 0
BodiesTyped E =
    (d : GlobalId) (b : Term) → (definition_at E d).body ≡ Some b →
    (p : Part) → Usable p (definition_at E d).mult → Has E p [] b (sub closed (definition_at E d).type) zero_use

pub record Sound (E : Env) : Type 0 where
  pub bodies : BodiesClosed E
  pub typed : BodiesTyped E
  pub prims : HasPrim E

in-part : {E : Env} {b A : Term} {u : Use} (q : Mult) (p : Part) → Usable p q → Has E (part_of q) [] b A u →
    Has E p [] b A u
in-part 𝟘 Part.run m h = absurd m
in-part 𝟙 Part.run m h = h
in-part ω Part.run m h = h
in-part q Part.erased m h = erase h

-- a definition that has a body is there
there-formed : {E : Env} (o : Option Definition) (b : Term) →
    ((D : Definition) → o ≡ Some D → DefinitionFormed E D) → (definition_of o).body ≡ Some b →
    DefinitionFormed E (definition_of o)
there-formed None b w e = absurd (none≢some e)
there-formed (Some D) b w e = w D refl

pub type-closed : {E : Env} {D : Definition} → DefinitionFormed E D → Closed D.type
type-closed d = typed-below d.is_type.1

pub sound_of : {E : Env} → WellFormed E → Sound E
sound_of {E} w = record {
  bodies = λ d b e. (formed d b e).closed b e;
  typed = λ d b e p m.
      subst (λ A. Has E p [] b A zero_use)
      (sym (closed-kept (definition_at E d).type (type-closed (formed d b e)) closed))
      (in-part (definition_at E d).mult p m (typed-has ((formed d b e).typed b e)));
  prims = w.prims;
}
  where
    formed : (d : GlobalId) (b : Term) → (definition_at E d).body ≡ Some b → DefinitionFormed E (definition_at E d)
    formed d b e = there-formed (E.definition d) b (w.definitions d) e

-- each definition that may be used in the run part has a body
abbrev pub Bodied : Env → Type 0
Bodied E = (d : GlobalId) → Usable Part.run (definition_at E d).mult → (b : Term) × ((definition_at E d).body ≡ Some b)

some-of : {A : Type 0} (o : Option A) → There o → (a : A) × (o ≡ Some a)
some-of None t = elim t [ ]
some-of (Some a) t = (a, refl)

body-of : (o : Option Definition) → ((D : Definition) → o ≡ Some D → Usable Part.run D.mult → There D.body) →
    Usable Part.run (definition_of o).mult →
    (b : Term) × ((definition_of o).body ≡ Some b)
body-of None whole m = elim m [ ]
body-of (Some D) whole m = some-of D.body (whole D refl m)

pub bodied_of : (E : Env) → Complete E → Bodied E
bodied_of E whole d m = body-of (E.definition d) (whole d) m
