-- A text before its items: its scope, and one part and then another.
use Rattle.std.proofs.Common.{◌≡◌, ◌∙◌, List, [], ◌∷◌, map, Result, Ok, Err, IsErrAnd, refl, sym, ap, subst}
use Rattle.qtt_base.specs.declared.place.ModuleId.{ModuleId}
use Rattle.qtt_syntax.specs.Tree.{Module}
use Rattle.qtt_names.specs.declared.exports.Exports as code_exports
use Rattle.qtt_names.specs.declared.scope.Scope as code_scope
use Rattle.qtt_names.specs.Exports.{exports_of, export_of}
use Rattle.qtt_names.specs.PrimNames.{scope_of}
use Rattle.qtt_names.specs.Resolved.{resolved}
use Rattle.qtt_names.specs.View.{scope}
use Rattle.qtt_module.specs.declared.errors.ModuleError.{ModuleError}
use Rattle.qtt_module.specs.declared.errors.ModuleError.TheVariants as error
use Rattle.qtt_module.specs.Answer.{Gives}
use Rattle.qtt_module.specs.Prepared.{imported}
use Rattle.qtt_module.specs.Refused.{Answer, ◌>>=◌}

-- ---- what imports add to a scope
imports-same : (es : List code_exports.Exports) → map imported (map exports_of es) ≡ map export_of es
imports-same [] = refl
imports-same (e ∷ es) = ap (λ is. export_of e ∷ is) (imports-same es)

pub scope-same : (id : ModuleId) (m : Module) (es : List code_exports.Exports) (s : code_scope.Scope) →
    scope s ≡ scope_of id m (map export_of es) →
    resolved (scope_of id m (map imported (map exports_of es))) m ≡ resolved (scope s) m
scope-same id m es s h =
    ap (λ is. resolved (scope_of id m is) m) (imports-same es) ∙ ap (λ s. resolved s m) (sym h)

-- ---- one part, and then another
module _ {A B X Y : Type 0} (v : X → A) (view : Y → B) (m : Answer A) (k : A → Answer B) where
  refused-first : (e : ModuleError) → Gives v (Err e) m → Gives view (Err e) (m >>= k)
  unfolding ◌>>=◌
  refused-first (error.Refused r) h = ap (λ m. m >>= k) h
  refused-first error.Memory h = tt

  -- the refusal of the first is that of both
  pub first-refused : (r : Result Y ModuleError) (e : ModuleError) → IsErrAnd r (λ y. y ≡ e) → Gives v (Err e) m →
      Gives view r (m >>= k)
  first-refused (Ok y) e h g = absurd h
  first-refused (Err y) e h g = subst (λ z. Gives view (Err z) (m >>= k)) (sym h) (refused-first e g)

  -- behind the first
  pub then-gives : (x : X) (r : Result Y ModuleError) → m ≡ Ok (v x) → Gives view r (k (v x)) →
      Gives view r (m >>= k)
  unfolding ◌>>=◌
  then-gives x r h g = subst (λ m. Gives view r (m >>= k)) (sym h) g
