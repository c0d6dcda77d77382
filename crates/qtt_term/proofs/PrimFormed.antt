-- The environment of the module Prim is well formed and complete.
use Rattle.std.proofs.Common.{◌≡◌, ℕ, [], ◌∷◌, refl, sym, subst, suc, length, Option, Some, None, Bool, true, false, cond, arith}
use Rattle.qtt_base.specs.declared.place.GlobalId.{GlobalId}
use Rattle.qtt_usage.specs.Mult.{𝟘, ω}
use Rattle.qtt_usage.specs.Uses.{zero_use}
use Rattle.qtt_term.specs.Term.{var, Sort}
use Rattle.qtt_term.specs.Signature.{Family, plain_constructor, unit_family, bool_family, line_family, eq_family, StringTy}
use Rattle.qtt_term.specs.Judgement.{Ctx, Part, Typed, Rule, TypedAll, Args, IsType}
use Rattle.qtt_term.specs.Positivity.{Good}
use Rattle.qtt_term.specs.Environment.{Types, TypesBeside, TypesUpTo, ConstructorFormed, ConstructorsFormed, FamilyFormed, WellFormed, Complete}
use Rattle.qtt_term.specs.PrimEnvironment.{prim_env}

sort_is_type : (Γ : Ctx) (l : ℕ) → IsType prim_env Γ (Sort l)
sort_is_type Γ l = (suc l, Typed.by_rule Rule.sort TypedAll.none (λ x k. refl))

string_typed : (Γ : Ctx) → Typed prim_env Part.erased Γ StringTy (Sort 0) zero_use
string_typed Γ = Typed.by_rule (Rule.named tt tt Args.none) TypedAll.none (λ x k. refl)

-- the parameters of Eq, the newest first
abbrev eq_params : Ctx
eq_params = (𝟘, var 0) ∷ (𝟘, Sort 0) ∷ []

type_param_is_type : IsType prim_env ((𝟘, Sort 0) ∷ []) (var 0)
type_param_is_type = (0, Typed.variable tt tt (λ x k. refl))

index_is_type : IsType prim_env eq_params (var 1)
index_is_type = (0, Typed.variable tt tt (λ x k. refl))

-- a constructor without fields, of a family without indices
no_fields : (F : Family) → F.indices ≡ [] → ConstructorFormed prim_env F (plain_constructor [])
no_fields F none = record {
  fields = TypesUpTo.none;
  one_each = subst (λ is. 0 ≡ length is) (sym none) refl;
  results = tt;
  no_tapes = tt;
}

unit_formed : (f : GlobalId) → FamilyFormed prim_env f unit_family
unit_formed f = record {
  params = Types.none;
  indices = TypesBeside.none;
  constructors = ConstructorsFormed.more (no_fields unit_family refl) ConstructorsFormed.none;
  positive = (tt, tt);
}

bool_formed : (f : GlobalId) → FamilyFormed prim_env f bool_family
bool_formed f = record {
  params = Types.none;
  indices = TypesBeside.none;
  constructors = ConstructorsFormed.more (no_fields bool_family refl)
      (ConstructorsFormed.more (no_fields bool_family refl) ConstructorsFormed.none);
  positive = (tt, (tt, tt));
}

got_formed : ConstructorFormed prim_env line_family (plain_constructor ((ω, StringTy) ∷ []))
got_formed = record {
  fields = TypesUpTo.more (string_typed []) (omega arith) (λ e. e, tt) TypesUpTo.none;
  one_each = refl;
  results = tt;
  no_tapes = tt;
}

line_formed : (f : GlobalId) → FamilyFormed prim_env f line_family
line_formed f = record {
  params = Types.none;
  indices = TypesBeside.none;
  constructors = ConstructorsFormed.more (no_fields line_family refl)
      (ConstructorsFormed.more got_formed ConstructorsFormed.none);
  positive = (tt, ((Good.absent (refl, tt), tt), tt));
}

eq_formed : (f : GlobalId) → FamilyFormed prim_env f eq_family
eq_formed f = record {
  params = Types.more (sort_is_type [] 0) (λ e. e, tt) (Types.more type_param_is_type tt Types.none);
  indices = TypesBeside.more index_is_type tt TypesBeside.none;
  constructors = ConstructorsFormed.more
      (record { fields = TypesUpTo.none; one_each = refl; results = (omega arith, tt); no_tapes = (tt, tt) })
      ConstructorsFormed.none;
  positive = (tt, tt);
}

-- one of a list of families, or one of those behind it
first_or : {f : GlobalId} {F G : Family} (b : Bool) (o : Option Family) → FamilyFormed prim_env f F →
    (o ≡ Some G → FamilyFormed prim_env f G) →
    cond b (Some F) o ≡ Some G → FamilyFormed prim_env f G
first_or {f} {F} {G} true o formed others e = let P : Family → Type 0 =
    λ H. FamilyFormed prim_env f H in subst P (cc e) formed
first_or false o formed others e = others e

none-is-no-family : {f : GlobalId} (F : Family) → None ≡ Some F → FamilyFormed prim_env f F
none-is-no-family F e = absurd (cc e)

pub prim_formed : WellFormed prim_env
prim_formed = record {
  prims = record { units = refl; truths = refl; lines = refl; equalities = refl };
  families = λ f F e.
      first_or _ _ (unit_formed f)
      (first_or _ _ (bool_formed f)
      (first_or _ _ (line_formed f) (first_or _ _ (eq_formed f) (λ d. none-is-no-family F d)))) e;
  definitions = λ d D e. absurd (cc e);
}

pub prim_complete : Complete prim_env
prim_complete d D e u = absurd (cc e)
