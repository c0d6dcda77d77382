use Rattle.std.proofs.Common.{◌≡◌, ◌+◌, ◌∙◌, eqb, Some, None, map, length, true, false, refl, sym, ap, rules}
use Rattle.std.proofs.lemmas.Bool.{eqb-true, and_parts}
use Rattle.std.proofs.lemmas.List.{length-map}
use Rattle.qtt_term.specs.Globals.{env}
use Rattle.qtt_term.specs.Contexts.{part}
use Rattle.qtt_term.specs.Signature.{fam_at}
use Rattle.qtt_term.specs.Items.{family}
use Rattle.qtt_term.specs.View.{branch, branches}
use Rattle.qtt_term.specs.Infer.{usable}
use Rattle.qtt_core_check.specs.Cases.{shaped}
use Rattle.qtt_core_check.proofs.Within.{holds, unmet}
use Rattle.qtt_core_check.proofs.Families.{found-family}
use Rattle.qtt_core_check.proofs.Matches.{counts-length, shape-seen}
use Rattle.qtt_core_check.proofs.premises.Checker.case_family.Goals as goal

pub returns-in_default-clause-gives : goal.returns-in_default-clause-gives
returns-in_default-clause-gives g c =
    let e : (env c.args.self.now.globals.now).family c.args.id ≡ None = search rules in unmet _ _ (rw e refl)

pub returns-then-not-usable-clause-gives : goal.returns-then-not-usable-clause-gives
returns-then-not-usable-clause-gives g c =
    let e : (env c.args.self.now.globals.now).family c.args.id ≡ Some (family c.in-Some.family.now) = search rules in
    let u : usable (part c.args.sigma) c.args.mult ≡ false = search rules in unmet _ _ (rw (e, u) refl)

pub returns-then-not-shaped-clause-gives : goal.returns-then-not-shaped-clause-gives
returns-then-not-shaped-clause-gives g c =
    let e : (env c.args.self.now.globals.now).family c.args.id ≡ Some (family c.in-Some.family.now) = search rules in
    let u : usable (part c.args.sigma) c.args.mult ≡ true = search rules in
    let ns = map (λ b. b.0) (branches c.args.branches.now) in
    let s : shaped (fam_at (env c.args.self.now.globals.now) c.args.id) c.args.params (c.args.indices + 1) ns ≡ false =
    ap (λ S. shaped S c.args.params (c.args.indices + 1) ns)
    (found-family (env c.args.self.now.globals.now) c.args.id (family c.in-Some.family.now) e)
    ∙ shape-seen c.args.id c.in-Some.family.now c.args.params c.args.indices ns ∙ sym c.shaped.ensures ∙ search rules in
    unmet _ _ (rw (s, u, e) refl)

pub returns-clause-gives : goal.returns-clause-gives
returns-clause-gives g c =
    let e : (env c.args.self.now.globals.now).family c.args.id ≡ Some (family c.in-Some.family.now) = search rules in
    let u : usable (part c.args.sigma) c.args.mult ≡ true = search rules in
    let ns = map (λ b. b.0) (branches c.args.branches.now) in
    let s : shaped (fam_at (env c.args.self.now.globals.now) c.args.id) c.args.params (c.args.indices + 1) ns ≡ true =
    ap (λ S. shaped S c.args.params (c.args.indices + 1) ns)
    (found-family (env c.args.self.now.globals.now) c.args.id (family c.in-Some.family.now) e)
    ∙ shape-seen c.args.id c.in-Some.family.now c.args.params c.args.indices ns ∙ sym c.shaped.ensures ∙ search rules in
    holds _ _ (rw (s, u, e) refl)

pub returns-clause-params : goal.returns-clause-params
returns-clause-params g c =
    let t : c.shaped.result ≡ true = search rules in
    let F = c.in-Some.family.now in
    let ps = and_parts (eqb c.args.params (length F.params.items)) _ (sym c.shaped.ensures ∙ t) in
    sym (eqb-true c.args.params (length F.params.items) ps.0)

pub returns-clause-branches : goal.returns-clause-branches
returns-clause-branches g c =
    let t : c.shaped.result ≡ true = search rules in
    let F = c.in-Some.family.now in
    let bs = c.args.branches.now in
    let ps = and_parts (eqb c.args.params (length F.params.items)) _ (sym c.shaped.ensures ∙ t) in
    let qs = and_parts (eqb c.args.indices (length F.indices.items)) _ ps.1 in
    sym (length-map (branches bs) (λ b. b.0) ∙ length-map bs branch)
    ∙ counts-length _ _ qs.1
    ∙ length-map F.constructors.items (λ c. length c.fields.items)
