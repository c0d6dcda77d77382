-- Strict positivity as a test: the first field that breaks it.
use Rattle.std.specs.Prelude.{◌≡◌, ℕ, suc, Bool, false, cond, not, ◌&&◌, ◌||◌, List, [], ◌∷◌, Option, Some, None, take, slice_get}
use Rattle.qtt_base.specs.declared.place.GlobalId.{GlobalId}
use Rattle.qtt_usage.specs.declared.mult.Mult.{Mult}
use Rattle.qtt_term.specs.Term.{Term, Terms, var, node, ε, ◌▸◌, Pi, Fam}
use Rattle.qtt_term.specs.Signature.{Tele, Constructor, Family}
use Rattle.qtt_term.specs.Positivity.{names_family, Good, GoodFields, GoodConstructors}

abbrev mutual
  pub occurs : GlobalId → Term → Bool
  occurs f (var i) = false
  occurs f (node F ts) = names_family f F || occurs_in f ts

  pub occurs_in : GlobalId → Terms → Bool
  occurs_in f ε = false
  occurs_in f (t ▸ ts) = occurs f t || occurs_in f ts

-- the family does not occur, or is applied to arguments without it, or stands behind arrows whose domains are
-- without it
abbrev pub is_good : GlobalId → Term → Bool
is_good f (Pi q A B) = not (occurs f A) && is_good f B
is_good f (Fam g ts) = not (occurs_in f ts)
is_good f t = not (occurs f t)

-- the first field whose type is not good, numbered from k
abbrev pub bad_field : GlobalId → ℕ → Tele → Option ℕ
bad_field f k [] = None
bad_field f k (b ∷ Θ) = cond (is_good f b.1) (bad_field f (suc k) Θ) (Some k)

abbrev pub or_later : ℕ → Option ℕ → Option (ℕ × ℕ) → Option (ℕ × ℕ)
or_later c None later = later
or_later c (Some k) later = Some (c, k)

abbrev pub bad_from : GlobalId → ℕ → List Constructor → Option (ℕ × ℕ)
bad_from f c [] = None
bad_from f c (d ∷ ds) = or_later c (bad_field f 0 d.fields) (bad_from f (suc c) ds)

-- the first constructor with such a field, and the field
abbrev pub first_bad : GlobalId → Family → Option (ℕ × ℕ)
first_bad f F = bad_from f 0 F.constructors

-- ---- the same in words of good types: each field of the constructors before this one is good, and so is each
-- field before this one, which is not
pub record IsFirstBad (f : GlobalId) (F : Family) (c k : ℕ) : Type 0 where
  pub earlier_constructors : GoodConstructors f (take c F.constructors)
  pub constructor : Constructor
  pub constructor_there : slice_get F.constructors c ≡ Some constructor
  pub earlier_fields : GoodFields f (take k constructor.fields)
  pub field : Mult × Term
  pub field_there : slice_get constructor.fields k ≡ Some field
  pub not_good : Good f field.1 → ⊥
