use Rattle.std.proofs.Common.{◌≡◌, ◌<◌, ◌∙◌, length, Some, slice_get, sym, ap, rules, arith}
use Rattle.std.proofs.lemmas.Bool.{ltb-true}
use Rattle.qtt_term.specs.Globals.{env}
use Rattle.qtt_term.specs.Signature.{con_sig}
use Rattle.qtt_term.specs.Items.{family, constructor}
use Rattle.qtt_term.specs.View.{term}
use Rattle.qtt_term.specs.Telescopes.{tele}
use Rattle.qtt_core_check.proofs.Families.{found-family, sig-there}
use Rattle.qtt_core_check.proofs.Places.{constructor-at, length-params}
use Rattle.qtt_bidi.proofs.premises.Elaborator.made.Goals as goal

pub returns : goal.returns
returns g c =
    let F = c.in-Some.family.now in
    let x = c.in-Some-get.constructor.now in
    let f = c.args.con.family in
    let i = c.args.con.place in
    let E = env c.args.self.now.globals.now in
    let e : E.family f ≡ Some (family F) = search rules in
    let v = c.deref.ensures.value in
    let l : i < length F.constructors.items =
    omega (arith, ltb-true _ _ (sym c.in-Some-get.ensures.lookup.0), ap length v) in
    let h = constructor-at F.constructors.items i x l (rw v at c.in-Some-get.ensures.lookup.1) in
    let found = found-family E f (family F) e in
    let k : c.len-params.result ≡ length F.params.items = search rules in
    let fs : tele c.in_ok-copied_binders.field-0.items ≡ tele x.fields.items = search rules in
    let t : term c.in_ok-result_type.field-0 ≡ (con_sig f c.len-params.result 0 (constructor x)).result =
    search rules in
    record {
      sig = con_sig f (length (family F).params) i (constructor x);
      there = ap (λ S. slice_get S.constructors i) found ∙ sig-there f (length (family F).params) i
          (family F).constructors (constructor x) h;
      params = k ∙ sym (length-params F) ∙ ap (λ S. length S.params) (sym found);
      fields = fs;
      type = t ∙ ap (λ n. (con_sig f n 0 (constructor x)).result) (k ∙ sym (length-params F));
    }
