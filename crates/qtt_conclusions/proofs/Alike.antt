-- Lists that tell convertible terms not apart conclude alike.
use Rattle.std.proofs.Common.{ℕ, refl, subst}
use Rattle.qtt_term.specs.Term.{Form, Term, Terms, var, node}
use Rattle.qtt_term.specs.Signature.{Env}
use Rattle.qtt_term.specs.Contraction.{Conv}
use Rattle.qtt_term.specs.Ask.{Ask, Ending}
use Rattle.qtt_term.specs.Forms.{as_sort, as_function}
use Rattle.qtt_term.specs.Premises.{found}
use Rattle.qtt_confluence.specs.Injective.{Convs}
use Rattle.qtt_conclusions.specs.Conclusions.{SameForm, HeadOf, Concludes}
use Rattle.qtt_conclusions.specs.Alike.{Alike, SameEnding, SameFunction, SameLevel}
use Rattle.qtt_conclusions.specs.Laws.{FormsAreAlike}

pub one-conclusion : {F P A : Type 0} {E : Env} {Same : A → A → Type 0} {m n : Ask F P A} {e r : Ending F P A} →
    Alike E Same m n → Concludes E m e → Concludes E n r → SameEnding Same e r
one-conclusion (Alike.done s) Concludes.is_done Concludes.is_done = SameEnding.ok s
one-conclusion Alike.fail Concludes.has_failed Concludes.has_failed = SameEnding.fails
one-conclusion (Alike.head c next) (Concludes.has_head {h = h} x xs) (Concludes.has_head {h = k} y ys) =
    one-conclusion (next h k x y) xs ys
one-conclusion (Alike.read c next) (Concludes.has_reading {r = h} x xs) (Concludes.has_reading {r = k} y ys) =
    one-conclusion (next h k x y) xs ys
one-conclusion (Alike.compare c d same other) (Concludes.are_convertible x xs) (Concludes.are_convertible y ys) =
    one-conclusion same xs ys
one-conclusion (Alike.compare c d same other) (Concludes.are_convertible x xs) (Concludes.are_apart y ys) =
    absurd (y (Conv.thence (Conv.back c) (Conv.thence x d)))
one-conclusion (Alike.compare c d same other) (Concludes.are_apart x xs) (Concludes.are_convertible y ys) =
    absurd (x (Conv.thence c (Conv.thence y (Conv.back d))))
one-conclusion (Alike.compare c d same other) (Concludes.are_apart x xs) (Concludes.are_apart y ys) =
    one-conclusion other xs ys

-- ---- forms
pub data Formed (E : Env) : Term → Term → Type 0 where
  at_variable : {i : ℕ} → Formed E (var i) (var i)
  at_form : {F : Form} {ts ss : Terms} → Convs E ts ss → Formed E (node F ts) (node F ss)

formed : {E : Env} (h k : Term) → SameForm E h k → Formed E h k
formed {E} (var i) (var j) s = subst (λ j. Formed E (var i) (var j)) (cc s.outlines) Formed.at_variable
formed (var i) (node G ss) s = absurd (cc s.outlines)
formed (node F ts) (var j) s = absurd (cc s.outlines)
formed {E} (node F ts) (node G ss) s =
    subst (λ G. Formed E (node F ts) (node G ss)) (cc s.outlines) (Formed.at_form s.components)

-- two heads of convertible terms
pub heads-formed : {E : Env} {t s : Term} (h k : Term) → Conv E t s → HeadOf E t h → HeadOf E s k → Formed E h k
heads-formed h k c x y = formed h k (y.alone h x.normal (Conv.thence (Conv.back c) x.convertible))

found-functions : {F P : Type 0} {E : Env} {h k : Term} (f : F) → Formed E h k →
    Alike E {P = P} (SameFunction E) (found (as_function h) f) (found (as_function k) f)
found-functions f Formed.at_variable = Alike.fail
found-functions f (Formed.at_form {F = Form.pi q} Convs.none) = Alike.fail
found-functions f (Formed.at_form {F = Form.pi q} (Convs.more a Convs.none)) = Alike.fail
found-functions f (Formed.at_form {F = Form.pi q} (Convs.more a (Convs.more b Convs.none))) =
    Alike.done (record { fixed_parts = refl; components = Convs.more a (Convs.more b Convs.none) })
found-functions f (Formed.at_form {F = Form.pi q} (Convs.more a (Convs.more b (Convs.more c cs)))) = Alike.fail
found-functions f (Formed.at_form cs) = Alike.fail

found-levels : {F P : Type 0} {E : Env} {h k : Term} (f : F) → Formed E h k →
    Alike E {P = P} (SameLevel E) (found (as_sort h) f) (found (as_sort k) f)
found-levels f Formed.at_variable = Alike.fail
found-levels f (Formed.at_form {F = Form.sort l} Convs.none) =
    Alike.done (record { fixed_parts = refl; components = Convs.none })
found-levels f (Formed.at_form {F = Form.sort l} (Convs.more a cs)) = Alike.fail
found-levels f (Formed.at_form cs) = Alike.fail

pub forms-are_alike : {F P : Type 0} (E : Env) → FormsAreAlike F P E
forms-are_alike E = record {
  function = λ p n t s f c. Alike.head c (λ h k x y. found-functions f (heads-formed h k c x y));
  universe = λ p n t s f c. Alike.head c (λ h k x y. found-levels f (heads-formed h k c x y));
  comparison = λ p n t s u v f c d.
      Alike.compare c d (Alike.done (record { fixed_parts = refl; components = Convs.none })) Alike.fail;
}
