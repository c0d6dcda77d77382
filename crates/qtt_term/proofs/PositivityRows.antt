-- Which small families are positive.
use Rattle.std.proofs.Common.{◌≡◌, refl, ap, subst}
use Rattle.qtt_base.specs.declared.place.GlobalId.{GlobalId}
use Rattle.qtt_usage.specs.Mult.{ω}
use Rattle.qtt_term.specs.Term.{Term, Pi}
use Rattle.qtt_term.specs.Signature.{IntTy}
use Rattle.qtt_term.specs.Positivity.{Without, Good}
use Rattle.qtt_term.specs.Programs.{item}
use Rattle.qtt_term.specs.PositivityRows.{itself, list_of, PositivityRows}

occurs : Without (item 0) itself → ⊥
occurs (e, t) = absurd (cc e)

no-domain : {B : Term} → Good (item 0) (Pi ω itself B) → ⊥
no-domain (Good.absent (a, (w, v))) = occurs w
no-domain (Good.arrow w g) = occurs w

no-domain_of_a_domain : Good (item 0) (Pi ω (Pi ω itself IntTy) IntTy) → ⊥
no-domain_of_a_domain (Good.absent (a, ((b, (w, v)), u))) = occurs w
no-domain_of_a_domain (Good.arrow (b, (w, v)) g) = occurs w

no-argument : {t : Term} → Good (item 0) t → t ≡ list_of itself → ⊥
no-argument (Good.absent w) e = absent-too e w
  where
    absent-too : {t : Term} → t ≡ list_of itself → Without (item 0) t → ⊥
    absent-too e w = let (a, (v, u)) = subst (Without (item 0)) e w in occurs v
no-argument (Good.applied {ts = ts} w) e =
    let heads : item 0 ≡ item 1 = cc e in
    let numbers : (item 0).item ≡ (item 1).item = ap (λ (g : GlobalId). g.item) heads in
    absurd (cc numbers)
no-argument (Good.arrow w g) e = absurd (cc e)

pub positivity_rows_hold : PositivityRows
positivity_rows_hold = record {
  numbers = (tt, ((Good.applied tt, tt), tt));
  vectors = (tt, ((Good.absent (refl, tt), (Good.absent tt, (Good.applied (tt, (tt, tt)), tt))), tt));
  behind_an_arrow = ((Good.arrow (refl, tt) (Good.applied tt), tt), tt);
  in_a_domain = λ p. no-domain p.0.0;
  in_a_domain_of_a_domain = λ p. no-domain_of_a_domain p.0.0;
  in_another_family = λ p. no-argument p.0.0 refl;
  without_it = ((Good.absent (refl, ((refl, tt), tt)), tt), tt);
}
