-- An accepted signature keeps the environment well formed.
use Rattle.std.proofs.Common.{◌≡◌, ◌≢◌, ℕ, List, [], ◌∷◌, ◌++◌, Some, None, refl, ap, subst, ◌∙◌, option_map}
use Rattle.qtt_base.specs.declared.place.GlobalId.{GlobalId}
use Rattle.qtt_usage.specs.declared.mult.Mult.{Mult}
use Rattle.qtt_usage.specs.Mult.{𝟙}
use Rattle.qtt_syntax.specs.Tree.{Tree}
use Rattle.qtt_term.specs.Term.{Term, same_id}
use Rattle.qtt_term.specs.Signature.{Definition, Env}
use Rattle.qtt_term.specs.Judgement.{IsType}
use Rattle.qtt_term.specs.Keyed.{with_id}
use Rattle.qtt_term.specs.Items.{DefinitionEntry, definition_id, signature_entry}
use Rattle.qtt_term.specs.Environment.{NoTape, DefinitionFormed, WellFormed}
use Rattle.qtt_term.proofs.Options.{none≢some}
use Rattle.qtt_term.proofs.Order.{with_id-inserted}
use Rattle.qtt_term.specs.Entries.{Entries, env, with_definition}
use Rattle.qtt_term.specs.Scope.{no_scope}
use Rattle.qtt_core_check.proofs.Sound.{results-counted}
use Rattle.qtt_module.proofs.Declared.{signature_so}
use Rattle.qtt_module.specs.FamilyRules.{TypeOf, DeclaresSignature}
use Rattle.qtt_preserve.specs.Grows.{Grows, FamiliesStay}
use Rattle.qtt_preserve.proofs.Grow.{judged-grows, family-formed-grows, definition-formed-grows}
use Rattle.qtt_accepted.specs.Laws.{SignaturesKeepForm}
use Rattle.qtt_accepted.proofs.Formed.{well-formed-tapeless, again-typed}
use Rattle.qtt_accepted.proofs.Elaborated.{type-of}
use Rattle.qtt_accepted.proofs.Added.{Added, Comes, seen, kept, no-entry, mapped, prims-stay}

pub definition-added : (G : Entries) (s : DefinitionEntry) → (env G).definition s.id ≡ None → Added s.id s.definition
    (env G).definition (env (with_definition s G)).definition
definition-added G s e = record {
  is_new = e;
  all = λ x.
      ap (option_map (λ (d : DefinitionEntry). d.definition))
      (with_id-inserted definition_id s G.definitions x (no-entry (λ (d : DefinitionEntry). d.definition)
      (with_id definition_id s.id G.definitions) e))
      ∙ mapped (λ (d : DefinitionEntry). d.definition) (same_id s.id x) s (with_id definition_id x G.definitions);
}

module _ (G : Entries) (s : DefinitionEntry) (e : (env G).definition s.id ≡ None) where
  pub signature-grows : Grows (env G) (env (with_definition s G))
  signature-grows = record {
    families = λ f F h. (
      F,
      h,
      record {
        params = refl;
        indices = refl;
        level = refl;
        added = [];
        constructors =
            nothing-behind F.constructors;
      },
    );
    definitions = λ d A h. (
      A,
      kept (definition-added G s e) d A h,
      record
          { mult = refl; type = refl; body = λ b x. x },
    );
  }
    where
      nothing-behind : {X : Type 0} (xs : List X) → xs ++ [] ≡ xs
      nothing-behind [] = refl
      nothing-behind (x ∷ xs) = ap (λ ys. x ∷ ys) (nothing-behind xs)

  pub families-stay : FamiliesStay (env G) (env (with_definition s G))
  families-stay f t = refl

  pub definition-keeps : WellFormed (env G) → DefinitionFormed (env (with_definition s G)) s.definition → WellFormed
      (env (with_definition s G))
  definition-keeps w n = record {
    prims = prims-stay (env G) (env (with_definition s G)) families-stay w.prims;
    families = λ f F h. family-formed-grows signature-grows families-stay (w.families f F h);
    definitions = λ d A h. formed d A (seen (definition-added G s e) d A h);
  }
    where
      formed : (d : GlobalId) (A : Definition) → Comes ((env G).definition d ≡ Some A) (s.definition ≡ A) →
          DefinitionFormed (env (with_definition s G)) A
      formed d A (Comes.old h) = definition-formed-grows signature-grows families-stay (w.definitions d A h)
      formed d A (Comes.new h) = subst (DefinitionFormed (env (with_definition s G))) h n

-- of a type that is accepted
record Accepted (E : Env) (T : Term) : Type 0 where
  is_type : IsType E [] T
  no_tape : NoTape T

accepted : (G : Entries) → WellFormed (env G) → {t : Tree} {T : Term} → TypeOf G no_scope t T → Accepted (env G) T
accepted G w (TypeOf.type_of {D = D} x a) =
    let n = type-of G (well-formed-tapeless (env G) w) x tt in
    record {
      is_type = (
        a.level,
        again-typed (env G) (results-counted (env G) w) [] D.core a.found a.level n a.accepted
            a.is_sort,
      );
      no_tape = n;
    }

declared : (G : Entries) (d : GlobalId) (M n : List ℕ) (q : Mult) (t : Tree) (D : DefinitionEntry) → WellFormed
    (env G) → (env G).definition d ≡ None → q ≢ 𝟙 →
    DeclaresSignature G d M n q t D → WellFormed (env (with_definition D G))
declared G d M n q t _ w e u (DeclaresSignature.signed {T = T} x) =
    let s = signature_entry d _ q T in
    let a = accepted G w x in
    definition-keeps G s e w (record {
      mult = u;
      is_type = (a.is_type.0, judged-grows (signature-grows G s e) (families-stay G s e) a.is_type.1);
      type_no_tape = a.no_tape;
      closed = λ b h. absurd (none≢some h);
      typed = λ b h. absurd (none≢some h);
      no_tape = λ b h. absurd (none≢some h);
    })

pub signatures_keep_form_holds : SignaturesKeepForm
signatures_keep_form_holds G d M n q t D w e u x = declared G d M n q t D w e u (signature_so G d M n q t D x)
