-- The multiplicities of the fields of the code's constructors.
use Rattle.std.proofs.Common.{◌≡◌, ℕ, zero, suc, ◌<◌, ◌≤◌, List, [], ◌∷◌, map, length, get_or, Some, None, refl, ap, sym, arith}
use Rattle.std.proofs.lemmas.Grind.{common_steps}
use Rattle.qtt_base.specs.declared.place.GlobalId.{GlobalId}
use Rattle.qtt_term.specs.Signature.{Constructor, Family, Env, family_at, family_of}
use Rattle.qtt_term.specs.Value.{mults, field_mults}

pub fields_found : {C : Type 0} (f : C → Constructor) (cs : List C) (k : ℕ) (d : C) → k < length cs →
    field_mults (map f cs) k ≡ mults (f (get_or cs k d)).fields
fields_found f [] k d h = absurd (omega arith)
fields_found f (c ∷ cs) zero d h = refl
fields_found f (c ∷ cs) (suc k) d h = fields_found f cs k d (omega arith)

pub fields_missing : {C : Type 0} (f : C → Constructor) (cs : List C) (k : ℕ) → length cs ≤ k →
    field_mults (map f cs) k ≡ []
fields_missing f [] k h = refl
fields_missing f (c ∷ cs) zero h = absurd (omega arith)
fields_missing f (c ∷ cs) (suc k) h = fields_missing f cs k (omega arith)

pub family_found : (E : Env) (id : GlobalId) (F : Family) → Some F ≡ E.family id → family_at E id ≡ F
family_found E id F e = ap family_of (sym e)

pub family_missing : (E : Env) (id : GlobalId) (k : ℕ) → None ≡ E.family id →
    field_mults (family_at E id).constructors k ≡ []
family_missing E id k e = ap (λ o. field_mults (family_of o).constructors k) (sym e)

pub ruleset found_fields = (common_steps, fields_found, fields_missing, family_found, family_missing)
