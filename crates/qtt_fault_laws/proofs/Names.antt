-- The names of a text are kept.
use Rattle.std.proofs.Common.{◌≡◌, ℕ, Bool, true, false, cond, List, ◌∷◌, Some, Ok, Err, refl, sym, ap, ◌∙◌}
use Rattle.std.proofs.lemmas.Str.{is_utf8-from_IsUtf8, encodes-chars}
use Rattle.std.specs.Str.{IsUtf8, chars, encode_utf8_all}
use Rattle.qtt_base.specs.Parts.{has_long_part}
use Rattle.qtt_base.specs.declared.place.Span.{Span}
use Rattle.qtt_syntax.specs.declared.expr.Named.{Named}
use Rattle.qtt_names.specs.Answer.{Answer, ◌>>=◌}
use Rattle.qtt_names.specs.Patterns.{is_among, first_of}
use Rattle.qtt_names.specs.Scope.{Scope}
use Rattle.qtt_names.specs.Target.{target, with_target, look_up}
use Rattle.qtt_names.specs.declared.target.Found.{Found}
use Rattle.qtt_names.specs.declared.target.Found.TheVariants.{Nothing, One, Several}
use Rattle.qtt_reprint.proofs.Steps.{Names, Named_well, Hole_well}
use Rattle.qtt_diag.specs.Fault.{name_spelled}
use Rattle.qtt_fault_laws.specs.Kept.{IsKept}

-- bytes that are a name
abbrev pub Spells : List ℕ → Type 0
Spells n = name_spelled n ≡ Some n

spells : (n : List ℕ) → IsUtf8 n → Names (chars n) → Spells n
spells n valid names =
    let same : encode_utf8_all (names.head ∷ names.tail) ≡ n =
    ap encode_utf8_all (sym names.are) ∙ encodes-chars n valid in
    let short : has_long_part n ≡ false = ap has_long_part (sym same) ∙ names.form.short in
    rw (is_utf8-from_IsUtf8 n valid, short) refl

pub named_spells : (n : List ℕ) → Named_well n → Spells n
named_spells n w = spells n w.utf8 w.names

pub hole_spells : (n : List ℕ) → Hole_well n → Spells n
hole_spells n w = spells n w.utf8 w.names

-- ---- answers

abbrev pub Keeps : {A : Type 0} → Answer A → Type 0
Keeps (Ok a) = Unit {0}
Keeps (Err m) = IsKept m.kind m.word m.count

pub then_keeps : {A B : Type 0} (r : Answer A) (k : A → Answer B) → Keeps r → ((a : A) → Keeps (k a)) →
    Keeps (r >>= k)
unfolding ◌>>=◌
then_keeps (Ok a) k h f = f a
then_keeps (Err m) k h f = h

pub cond_keeps : {A : Type 0} (b : Bool) (r q : Answer A) → Keeps r → Keeps q → Keeps (cond b r q)
cond_keeps true r q f g = f
cond_keeps false r q f g = g

pub unbound_kept : (n : List ℕ) → Spells n → IsKept 10 n 0
unbound_kept n e = rw e refl

pub ambiguous_kept : (n : List ℕ) → Spells n → IsKept 11 n 0
ambiguous_kept n e = rw e refl

pub duplicate_kept : (n : List ℕ) → Spells n → IsKept 12 n 0
duplicate_kept n e = rw e refl

pub first_keeps : (before : List (List ℕ)) (n : List ℕ) (s : Span) → Spells n → Keeps (first_of before n s)
first_keeps before n s e = cond_keeps (is_among n before) _ _ (duplicate_kept n e) tt

target_keeps : (n : Named) (f : Found) → Spells n.path → Keeps (with_target n f)
target_keeps n Nothing e = unbound_kept n.path e
target_keeps n (One t) e = tt
target_keeps n Several e = ambiguous_kept n.path e

pub look_up_keeps : (s : Scope) (k : ℕ) (Γ : List (List ℕ)) (n : Named) → Spells n.path → Keeps (look_up s k Γ n)
unfolding look_up
look_up_keeps s k Γ n e = target_keeps n (target s k Γ n.path) e
