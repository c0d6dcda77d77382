-- Strict positivity: a family occurs in its fields only as the head of a result.
use Rattle.std.specs.Prelude.{◌≡◌, Bool, false, List, [], ◌∷◌}
use Rattle.qtt_base.specs.declared.place.GlobalId.{GlobalId}
use Rattle.qtt_usage.specs.declared.mult.Mult.{Mult}
use Rattle.qtt_term.specs.Term.{Form, Term, Terms, var, node, ε, ◌▸◌, Pi, Fam, same_id}
use Rattle.qtt_term.specs.Signature.{Tele, Constructor, Family}

-- whether a form names this family
abbrev pub names_family : GlobalId → Form → Bool
names_family f (Form.fam g) = same_id f g
names_family f (Form.con g c k) = same_id f g
names_family f (Form.case q g k m ns) = same_id f g
names_family f _ = false

-- the family does not occur
abbrev mutual
  pub Without : GlobalId → Term → Type 0
  Without f (var i) = Unit {0}
  Without f (node F ts) = (names_family f F ≡ false) × AllWithout f ts

  pub AllWithout : GlobalId → Terms → Type 0
  AllWithout f ε = Unit {0}
  AllWithout f (t ▸ ts) = Without f t × AllWithout f ts

-- a field's type is good for a family where it does not occur, or is applied to arguments without it, or stands
-- behind arrows whose domains are without it
pub data Good (f : GlobalId) : Term → Type 0 where
  absent : {t : Term} → Without f t → Good f t
  applied : {ts : Terms} → AllWithout f ts → Good f (Fam f ts)
  arrow : {q : Mult} {A B : Term} → Without f A → Good f B → Good f (Pi q A B)

abbrev pub GoodFields : GlobalId → Tele → Type 0
GoodFields f [] = Unit {0}
GoodFields f (b ∷ Θ) = Good f b.1 × GoodFields f Θ

abbrev pub GoodConstructors : GlobalId → List Constructor → Type 0
GoodConstructors f [] = Unit {0}
GoodConstructors f (c ∷ cs) = GoodFields f c.fields × GoodConstructors f cs

-- each field's type of each constructor is good
abbrev pub Positive : GlobalId → Family → Type 0
Positive f F = GoodConstructors f F.constructors
