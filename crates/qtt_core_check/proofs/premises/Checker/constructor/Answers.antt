use Rattle.std.proofs.Common.{◌≡◌, ◌≢◌, ◌+◌, ◌≤◌, ◌<◌, ◌∙◌, Some, None, length, slice_get, sym, ap, rules, arith}
use mathlib.Core.Path.{ap₂}
use Rattle.std.proofs.lemmas.Bool.{ltb-true, ltb-false}
use Rattle.std.proofs.lemmas.List.{length-map}
use Rattle.qtt_usage.specs.Mult.{𝟘}
use Rattle.qtt_term.specs.Globals.{env}
use Rattle.qtt_term.specs.Signature.{con_sig}
use Rattle.qtt_term.specs.Judgement.{erase_binds}
use Rattle.qtt_term.specs.Items.{family, constructor, field}
use Rattle.qtt_term.specs.View.{term}
use Rattle.qtt_preserve.proofs.Travel.{length-scale}
use Rattle.qtt_term.specs.Telescopes.{tele}
use Rattle.qtt_core_check.proofs.Scopes.{length-tele}
use Rattle.qtt_core_check.proofs.Families.{found-family, sig-there, con-missing-family, con-past, con-uncounted, con-counted}
use Rattle.qtt_core_check.proofs.Places.{constructor-at, constructor-past, length-params}
use Rattle.qtt_core_check.proofs.premises.Checker.constructor.Goals as goal

pub returns-in_default-clause-gives : goal.returns-in_default-clause-gives
returns-in_default-clause-gives g c =
    let e : (env c.args.self.now.globals.now).family c.args.con.family ≡ None = search rules in
    con-missing-family (env c.args.self.now.globals.now) c.args.con.family c.args.con.place c.args.params
    (c.args.params + c.args.fields) e

pub returns-in_default-get-clause-gives : goal.returns-in_default-get-clause-gives
returns-in_default-get-clause-gives g c =
    let F = c.in-Some.family.now in
    let e : (env c.args.self.now.globals.now).family c.args.con.family ≡ Some (family F) = search rules in
    let l : length c.deref.result.now ≤ c.args.con.place = ltb-false _ _ (sym c.in_default-get.ensures.lookup.0) in
    let m : length F.constructors.items ≤ c.args.con.place = omega (arith, l, ap length c.deref.ensures.value) in
    con-past (env c.args.self.now.globals.now) c.args.con.family c.args.con.place c.args.params
    (c.args.params + c.args.fields) (family F) e
    (constructor-past F.constructors.items c.args.con.place m)

pub returns-then-params-len-clause-gives : goal.returns-then-params-len-clause-gives
returns-then-params-len-clause-gives g c =
    let F = c.in-Some.family.now in
    let x = c.in-Some-get.constructor.now in
    let e : (env c.args.self.now.globals.now).family c.args.con.family ≡ Some (family F) = search rules in
    let v = c.deref.ensures.value in
    let l : c.args.con.place < length F.constructors.items =
    omega (arith, ltb-true _ _ (sym c.in-Some-get.ensures.lookup.0), ap length v) in
    let h = constructor-at F.constructors.items c.args.con.place x l (rw v at c.in-Some-get.ensures.lookup.1) in
    let d : c.args.params ≢ length F.params.items = search rules in
    con-uncounted (env c.args.self.now.globals.now) c.args.con.family c.args.con.place c.args.params
    (c.args.params + c.args.fields) (family F) e (constructor x) h
    (λ p q. d (p ∙ length-params F))

pub returns-then-fields-len-clause-gives : goal.returns-then-fields-len-clause-gives
returns-then-fields-len-clause-gives g c =
    let F = c.in-Some.family.now in
    let x = c.in-Some-get.constructor.now in
    let e : (env c.args.self.now.globals.now).family c.args.con.family ≡ Some (family F) = search rules in
    let v = c.deref.ensures.value in
    let l : c.args.con.place < length F.constructors.items =
    omega (arith, ltb-true _ _ (sym c.in-Some-get.ensures.lookup.0), ap length v) in
    let h = constructor-at F.constructors.items c.args.con.place x l (rw v at c.in-Some-get.ensures.lookup.1) in
    let d : c.args.fields ≢ length x.fields.items = search rules in
    let n = length-map x.fields.items field in
    con-uncounted (env c.args.self.now.globals.now) c.args.con.family c.args.con.place c.args.params
    (c.args.params + c.args.fields) (family F) e (constructor x) h
    (λ p q. d (omega (arith, p, q, n)))

pub returns-clause-gives : goal.returns-clause-gives
returns-clause-gives g c =
    let F = c.in-Some.family.now in
    let x = c.in-Some-get.constructor.now in
    let e : (env c.args.self.now.globals.now).family c.args.con.family ≡ Some (family F) = search rules in
    let v = c.deref.ensures.value in
    let l : c.args.con.place < length F.constructors.items =
    omega (arith, ltb-true _ _ (sym c.in-Some-get.ensures.lookup.0), ap length v) in
    let h = constructor-at F.constructors.items c.args.con.place x l (rw v at c.in-Some-get.ensures.lookup.1) in
    let a : c.args.params ≡ length F.params.items = search rules in
    let b : c.args.fields ≡ length x.fields.items = search rules in
    let p = a ∙ sym (length-params F) in
    con-counted (env c.args.self.now.globals.now) c.args.con.family c.args.con.place c.args.params
    (c.args.params + c.args.fields) (family F) e (constructor x) h p
    (ap₂ (λ m n. m + n) p (b ∙ sym (length-map x.fields.items field)))

pub returns-clause-made : goal.returns-clause-made
returns-clause-made g c =
    let F = c.in-Some.family.now in
    let x = c.in-Some-get.constructor.now in
    let f = c.args.con.family in
    let i = c.args.con.place in
    let e : (env c.args.self.now.globals.now).family f ≡ Some (family F) = search rules in
    let v = c.deref.ensures.value in
    let l : i < length F.constructors.items =
    omega (arith, ltb-true _ _ (sym c.in-Some-get.ensures.lookup.0), ap length v) in
    let h = constructor-at F.constructors.items i x l (rw v at c.in-Some-get.ensures.lookup.1) in
    let a : c.args.params ≡ length F.params.items = search rules in
    let found = found-family (env c.args.self.now.globals.now) f (family F) e in
    let ps : tele c.in_ok-parameter_binders.field-0.items ≡ erase_binds (family F).params = search rules in
    let fs : tele c.in_ok-copied_binders.field-0.items ≡ tele x.fields.items = search rules in
    let t : term c.in_ok-result_type.field-0 ≡ (con_sig f c.args.params 0 (constructor x)).result = search rules in
    record {
      sig = con_sig f (length (family F).params) i (constructor x);
      there = ap (λ S. slice_get S.constructors i) found ∙ sig-there f (length (family F).params) i
          (family F).constructors (constructor x) h;
      params = ps ∙ ap (λ S. erase_binds S.params) (sym found);
      fields = fs;
      type = t ∙ ap (λ k. (con_sig f k 0 (constructor x)).result) (a ∙ sym (length-params F));
    }

pub returns-clause-params : goal.returns-clause-params
returns-clause-params g c =
    let F = c.in-Some.family.now in
    let bs = c.in_ok-parameter_binders.field-0.items in
    let a : c.args.params ≡ length F.params.items = search rules in
    let ps : tele bs ≡ erase_binds (family F).params = search rules in
    sym (length-tele bs) ∙ ap length ps ∙ length-scale 𝟘 (family F).params ∙ length-params F ∙ sym a
