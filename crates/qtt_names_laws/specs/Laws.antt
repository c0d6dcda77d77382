-- What a name sees is what the code looks up.
use Rattle.std.specs.Prelude.{◌≡◌, ◌↔◌, ◌⊎◌, ℕ, List, ◌∷◌, take, reverse, Ok, Err}
use Rattle.qtt_base.specs.declared.place.ModuleId.{ModuleId}
use Rattle.qtt_syntax.specs.declared.expr.Named.{Named}
use Rattle.qtt_syntax.specs.declared.expr.Target.{Target}
use Rattle.qtt_syntax.specs.Tree.{Module}
use Rattle.qtt_names.specs.Answer.{Mistake, unbound, ambiguous}
use Rattle.qtt_names.specs.PrimNames.{prim_import, scope_of}
use Rattle.qtt_names.specs.Resolved.{resolved}
use Rattle.qtt_names.specs.Scope.{Imported}
use Rattle.qtt_names.specs.Target.{look_up}
use Rattle.qtt_names_laws.specs.Places.{items_of, name_of}
use Rattle.qtt_names_laws.specs.Faults.{FirstFault, text_uses}
use Rattle.qtt_names_laws.specs.Resolution.{seeing, TextResolves}
use Rattle.qtt_names_laws.specs.Sight.{Place, Sees, SeesNothing, SeesMore}

-- the place behind the first k items of a text and behind these binders, the oldest first
abbrev pub place : ModuleId → Module → List Imported → ℕ → List (List ℕ) → Place
place home m imports k Γ = record {
  home = home;
  name = name_of m;
  earlier = take k (items_of m);
  binders = reverse Γ;
  imports = prim_import ∷ imports;
}

-- ---- the laws

-- A target is answered exactly where the name sees it, and each fault exactly where the name sees nothing, or more
-- than one thing.
pub record NamesSeeByTheText : Type 0 where
  pub one : (home : ModuleId) (m : Module) (imports : List Imported) (k : ℕ) (Γ : List (List ℕ)) (n : Named)
      (t : Target) → (look_up (scope_of home m imports) k Γ n ≡ Ok (seeing n t)) ↔
      Sees (place home m imports k Γ) n.path t
  pub nothing : (home : ModuleId) (m : Module) (imports : List Imported) (k : ℕ) (Γ : List (List ℕ)) (n : Named) →
      (look_up (scope_of home m imports) k Γ n ≡ unbound n.path n.span) ↔ SeesNothing (place home m imports k Γ) n.path
  pub more : (home : ModuleId) (m : Module) (imports : List Imported) (k : ℕ) (Γ : List (List ℕ)) (n : Named) →
      (look_up (scope_of home m imports) k Γ n ≡ ambiguous n.path n.span) ↔ SeesMore (place home m imports k Γ) n.path

-- at each place a name sees one thing, nothing, or more than one thing, and no two of these
pub record SightIsAFunction : Type 0 where
  pub some : (p : Place) (path : List ℕ) → ((t : Target) × Sees p path t) ⊎ SeesNothing p path ⊎ SeesMore p path
  pub same : (p : Place) (path : List ℕ) (t u : Target) → Sees p path t → Sees p path u → t ≡ u
  pub not_nothing : (p : Place) (path : List ℕ) (t : Target) → Sees p path t → SeesNothing p path → ⊥
  pub not_more : (p : Place) (path : List ℕ) (t : Target) → Sees p path t → SeesMore p path → ⊥
  pub not_both : (p : Place) (path : List ℕ) → SeesNothing p path → SeesMore p path → ⊥

-- The text with targets is answered exactly where the rules relate it to the text, and a fault exactly where it is
-- the first one in text order.
pub record ResolvedByTheText : Type 0 where
  pub text : (home : ModuleId) (m n : Module) (imports : List Imported) →
      (resolved (scope_of home m imports) m ≡ Ok n) ↔ TextResolves home imports m n
  pub fault : (home : ModuleId) (m : Module) (imports : List Imported) (e : Mistake) →
      (resolved (scope_of home m imports) m ≡ Err e) ↔ FirstFault e (text_uses home imports m)
