-- Options that are there.
use Rattle.std.proofs.Common.{◌≡◌, Bool, true, false, cond, Option, Some, None, refl, sym, ◌∙◌}
use Rattle.qtt_term.specs.Contraction.{chain}

pub none≢some : {A : Type 0} {a : A} → None ≡ Some a → ⊥
none≢some e = cc e

pub some-injective : {A : Type 0} {a b : A} → Some a ≡ Some b → a ≡ b
some-injective e = cc e

pub same-some : {A : Type 0} {o : Option A} {a b : A} → o ≡ Some a → o ≡ Some b → a ≡ b
same-some d e = some-injective (sym d ∙ e)

pub chain-some : {A B : Type 0} (o : Option A) (g : A → Option B) (b : B) → chain o g ≡ Some b →
    (a : A) × (o ≡ Some a) × (g a ≡ Some b)
chain-some None g b e = absurd (none≢some e)
chain-some (Some a) g b e = (a, refl, e)

pub cond-some : {A : Type 0} (t : Bool) (o : Option A) (a : A) → cond t o None ≡ Some a → (t ≡ true) × (o ≡ Some a)
cond-some true o a e = (refl, e)
cond-some false o a e = absurd (none≢some e)
