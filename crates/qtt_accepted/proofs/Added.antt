-- One more item.
use Rattle.std.proofs.Common.{◌≡◌, Bool, true, false, cond, Option, Some, None, refl, sym, ap, subst, ◌∙◌, option_map}
use Rattle.qtt_base.specs.declared.place.GlobalId.{GlobalId}
use Rattle.qtt_term.specs.Term.{same_id}
use Rattle.qtt_term.specs.Signature.{Env, There, unit_id, bool_id, line_id, eq_id}
use Rattle.qtt_term.specs.Environment.{HasPrim}
use Rattle.qtt_term.proofs.Options.{none≢some, some-injective}
use Rattle.qtt_term.proofs.Same.{same_id-is, id-same}
use Rattle.qtt_preserve.specs.Grows.{FamiliesStay}

-- item i is new and the others are as they were
pub record Added {A : Type 0} (i : GlobalId) (n : A) (D E : GlobalId → Option A) : Type 0 where
  pub is_new : D i ≡ None
  pub all : (x : GlobalId) → E x ≡ cond (same_id i x) (Some n) (D x)

pub data Comes (O N : Type 0) : Type 0 where
  old : O → Comes O N
  new : N → Comes O N

pub is-there : {A : Type 0} {a : A} (o : Option A) → o ≡ Some a → There o
is-there None e = absurd (none≢some e)
is-there (Some b) e = tt

module _ {A : Type 0} {i : GlobalId} {n : A} {D E : GlobalId → Option A} (added : Added i n D E) where
  pub seen : (x : GlobalId) (a : A) → E x ≡ Some a → Comes (D x ≡ Some a) (n ≡ a)
  seen x a e = by_test (same_id i x) (sym (added.all x) ∙ e)
    where
      by_test : (b : Bool) → cond b (Some n) (D x) ≡ Some a → Comes (D x ≡ Some a) (n ≡ a)
      by_test true h = Comes.new (some-injective h)
      by_test false h = Comes.old h

  pub kept : (x : GlobalId) (a : A) → D x ≡ Some a → E x ≡ Some a
  kept x a e = by_test (same_id i x) refl
    where
      by_test : (b : Bool) → same_id i x ≡ b → E x ≡ Some a
      by_test true t = absurd (none≢some (sym added.is_new ∙ ap D (same_id-is i x t) ∙ e))
      by_test false t = added.all x ∙ ap (λ b. cond b (Some n) (D x)) t ∙ e

  pub seen-id : (x : GlobalId) (a : A) → E x ≡ Some a → Comes (D x ≡ Some a) ((i ≡ x) × (n ≡ a))
  seen-id x a e = by_test (same_id i x) refl (sym (added.all x) ∙ e)
    where
      by_test : (b : Bool) → same_id i x ≡ b → cond b (Some n) (D x) ≡ Some a → Comes (D x ≡ Some a) ((i ≡ x) × (n ≡ a))
      by_test true t h = Comes.new (same_id-is i x t, some-injective h)
      by_test false t h = Comes.old h

  pub apart : (x : GlobalId) → same_id i x ≡ false → D x ≡ E x
  apart x t = sym (added.all x ∙ ap (λ b. cond b (Some n) (D x)) t)

  pub stays : (x : GlobalId) → There (D x) → D x ≡ E x
  stays x w = by_test (same_id i x) refl
    where
      by_test : (b : Bool) → same_id i x ≡ b → D x ≡ E x
      by_test true t = absurd (subst There (ap D (sym (same_id-is i x t)) ∙ added.is_new) w)
      by_test false t = apart x t

  pub itself : E i ≡ Some n
  itself = added.all i ∙ ap (λ b. cond b (Some n) (D i)) (id-same i)

pub no-entry : {X A : Type 0} (f : X → A) (o : Option X) → option_map f o ≡ None → o ≡ None
no-entry f None e = refl
no-entry f (Some x) e = absurd (none≢some (sym e))

pub mapped : {X A : Type 0} (f : X → A) (b : Bool) (x : X) (o : Option X) → option_map f (cond b (Some x) o) ≡ cond b
    (Some (f x)) (option_map f o)
mapped f true x o = refl
mapped f false x o = refl

pub prims-stay : (D E : Env) → FamiliesStay D E → HasPrim D → HasPrim E
prims-stay D E same h = record {
  units = sym (same unit_id (is-there (D.family unit_id) h.units)) ∙ h.units;
  truths = sym (same bool_id (is-there (D.family bool_id) h.truths)) ∙ h.truths;
  lines = sym (same line_id (is-there (D.family line_id) h.lines)) ∙ h.lines;
  equalities = sym (same eq_id (is-there (D.family eq_id) h.equalities)) ∙ h.equalities;
}
