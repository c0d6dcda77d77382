-- Well-formed environments hold no Tape, and what is judged once more is typed.
use Rattle.std.proofs.Common.{◌≡◌, ℕ, List, Option, Some, None, refl}
use Rattle.qtt_base.specs.declared.place.GlobalId.{GlobalId}
use Rattle.qtt_usage.specs.Uses.{Use, zero_use}
use Rattle.qtt_term.specs.Term.{Term, Sort}
use Rattle.qtt_term.specs.Signature.{Tele, Constructor, Family, Definition, Env, family_of, definition_of}
use Rattle.qtt_term.specs.Judgement.{Ctx, Part, Typed}
use Rattle.qtt_term.specs.Ask.{Ending, HeadIs, Ends}
use Rattle.qtt_term.specs.Infer.{Inferred, infer}
use Rattle.qtt_term.specs.Environment.{NoTape, Types, TypesBeside, TypesUpTo, ConstructorsFormed, FamilyFormed, DefinitionFormed, ResultsCounted, WellFormed}
use Rattle.qtt_term.proofs.Options.{none≢some}
use Rattle.qtt_core_check.proofs.Parts.{head-conv}
use Rattle.qtt_core_check.proofs.Sound.{sound}
use Rattle.qtt_accepted.specs.Tapeless.{TeleTapeless, TypesTapeless, ConstructorsTapeless, FamilyTapeless, Tapeless}

types-tapeless : {E : Env} {Γ : Ctx} {Θ : Tele} → Types E Γ Θ → TeleTapeless Θ
types-tapeless Types.none = tt
types-tapeless (Types.more h n hs) = (n, types-tapeless hs)

beside-tapeless : {E : Env} {Γ : Ctx} {Ts : List Term} → TypesBeside E Γ Ts → TypesTapeless Ts
beside-tapeless TypesBeside.none = tt
beside-tapeless (TypesBeside.more h n hs) = (n, beside-tapeless hs)

up-to-tapeless : {E : Env} {l : ℕ} {Γ : Ctx} {Θ : Tele} → TypesUpTo E l Γ Θ → TeleTapeless Θ
up-to-tapeless TypesUpTo.none = tt
up-to-tapeless (TypesUpTo.more h i n hs) = (n, up-to-tapeless hs)

constructors-tapeless : {E : Env} {F : Family} {cs : List Constructor} → ConstructorsFormed E F cs →
    ConstructorsTapeless cs
constructors-tapeless ConstructorsFormed.none = tt
constructors-tapeless (ConstructorsFormed.more h hs) = (
  record
      { fields = up-to-tapeless h.fields; results = h.no_tapes },
  constructors-tapeless hs,
)

family-tapeless : (E : Env) (f : GlobalId) (o : Option Family) → ((F : Family) → o ≡ Some F → FamilyFormed E f F) →
    FamilyTapeless (family_of o)
family-tapeless E f None h = record { params = tt; indices = tt; constructors = tt }
family-tapeless E f (Some F) h =
    let w = h F refl in record {
      params = types-tapeless w.params;
      indices = beside-tapeless w.indices;
      constructors =
          constructors-tapeless w.constructors;
    }

type-tapeless : (E : Env) (o : Option Definition) → ((D : Definition) → o ≡ Some D → DefinitionFormed E D) → NoTape
    (definition_of o).type
type-tapeless E None h = (λ x. x, tt)
type-tapeless E (Some D) h = (h D refl).type_no_tape

body-tapeless : (E : Env) (o : Option Definition) → ((D : Definition) → o ≡ Some D → DefinitionFormed E D) →
    (b : Term) → (definition_of o).body ≡ Some b → NoTape b
body-tapeless E None h b e = absurd (none≢some e)
body-tapeless E (Some D) h b e = (h D refl).no_tape b e

pub well-formed-tapeless : (E : Env) → WellFormed E → Tapeless E
well-formed-tapeless E w = record {
  families = λ f. family-tapeless E f (E.family f) (w.families f);
  types = λ d. type-tapeless E (E.definition d) (w.definitions d);
  bodies = λ d. body-tapeless E (E.definition d) (w.definitions d);
}

-- in the erased part every use may be zero
pub zeroed : {E : Env} {Γ : Ctx} {t A : Term} {u : Use} → Typed E Part.erased Γ t A u → Typed E Part.erased Γ t A
    zero_use
zeroed (Typed.variable s m e) = Typed.variable s m (λ x k. refl)
zeroed (Typed.by_rule r hs e) = Typed.by_rule r hs (λ x k. refl)
zeroed (Typed.conversion h c) = Typed.conversion (zeroed h) c

pub again-typed : (E : Env) → ResultsCounted E → (Γ : Ctx) (T : Term) (j : Inferred) (l : ℕ) → NoTape T → Ends E
    (infer E Part.erased Γ T) (Ending.ok j) → HeadIs E j.type (Sort l) →
    Typed E Part.erased Γ T (Sort l) zero_use
again-typed E counted Γ T j l n x h = Typed.conversion (zeroed ((sound E counted).typed Part.erased Γ T j n x))
    (head-conv h)
