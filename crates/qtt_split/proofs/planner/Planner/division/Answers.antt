use Rattle.std.proofs.Common.{◌≡◌, ◌∙◌, true, false, None, Some, length, option_map, rules, ap, sym, subst}
use Rattle.qtt_term.specs.Entries.{entries, env}
use Rattle.qtt_term.specs.Infer.{usable}
use Rattle.qtt_term.specs.Judgement.{mult_at, type_at}
use Rattle.qtt_term.specs.View.{term}
use Rattle.qtt_rules.specs.Asks.{head_of}
use Rattle.qtt_rules.specs.Refusal.{Cause}
use Rattle.qtt_unify.specs.Targets.{readings}
use Rattle.qtt_unify.specs.View.{all_terms, binders}
use Rattle.qtt_split.specs.Answers.{Reaches, Fails, Refuses}
use Rattle.qtt_split.specs.Branch.{label_at}
use Rattle.qtt_split.specs.Calls.{group_of}
use Rattle.qtt_split.specs.Columns.{examined_of}
use Rattle.qtt_split.specs.Divisions.{family_seen}
use Rattle.qtt_split.specs.Labels.{newest_labels}
use Rattle.qtt_split.specs.Nodes.{node_of}
use Rattle.qtt_split.specs.Split.{division, family_of, match_mult}
use Rattle.qtt_split.specs.Tests.{Test, at}
use Rattle.qtt_split.proofs.Divided.{head_asked, family_at_head, readings_asked, head-spent, not-a-family, not-usable, reading-spent, all-divided}
use Rattle.qtt_split.proofs.Within.{passed, reached}
use Rattle.qtt_split.proofs.planner.Planner.division.Goals as goal

pub returns-in_err-head : goal.returns-in_err-head
returns-in_err-head g c =
    let E = env (entries c.args.self.now.unifier.globals.now) in
    let n = c.args.self.now.unifier.budget in
    let G = group_of c.args.self.now in
    let N = node_of c.args.node.now in
    let x = examined_of c.args.x.now in
    let e = c.in_err-head.field-0.0 in
    let type : term c.in_ok-ty.ty ≡ type_at N.context x.variable =
    c.in_ok-ty.ensures ∙ ap (λ xs. type_at (binders xs) x.variable) c.deref.ensures.value in
    passed E n _ _ c.from_residual-in_err-head.result e c.from_residual-in_err-head.ensures.1
    (head-spent E n G N x e
    (subst (λ d. Refuses E n (head_of (at x.span Test.of_family) d (type_at N.context x.variable)) e)
    c.in_ok-depth.ensures
    (subst (λ t. Refuses E n (head_of (at x.span Test.of_family) c.in_ok-depth.depth t) e) type
    c.in_err-head.ensures)))

pub returns-in_default : goal.returns-in_default
returns-in_default g c =
    let E = env (entries c.args.self.now.unifier.globals.now) in
    let n = c.args.self.now.unifier.budget in
    let G = group_of c.args.self.now in
    let N = node_of c.args.node.now in
    let x = examined_of c.args.x.now in
    let h = term c.in_ok-head.head in
    let type : term c.in_ok-ty.ty ≡ type_at N.context x.variable =
    c.in_ok-ty.ensures ∙ ap (λ xs. type_at (binders xs) x.variable) c.deref.ensures.value in
    let asked : Reaches E n (head_asked E n G N x) h =
    subst (λ d. Reaches E n (head_of (at x.span Test.of_family) d (type_at N.context x.variable)) h)
    c.in_ok-depth.ensures
    (subst (λ t. Reaches E n (head_of (at x.span Test.of_family) c.in_ok-depth.depth t) h) type
    c.in_ok-head.ensures) in
    let none : family_at_head E n G N x h ≡ None =
    sym (ap (λ o. family_of E o h) c.named_constructor-con.ensures) ∙ sym c.in_ok-at.ensures ∙
    ap (λ o. option_map family_seen o) c.in_default.is in
    subst (λ e. Refuses E n (division G N x) e) (sym c.refused.ensures)
    (subst (λ d. Fails E n (division G N x) (Cause.not_a_family d (term c.in_ok-ty.ty)) (at x.span Test.of_family))
    (sym c.in_ok-depth.ensures)
    (subst (λ t. Fails E n (division G N x) (Cause.not_a_family (length N.context) t) (at x.span Test.of_family))
    (sym type) (not-a-family E n G N x h asked none)))

pub returns-then-not-is_usable : goal.returns-then-not-is_usable
returns-then-not-is_usable g c =
    let E = env (entries c.args.self.now.unifier.globals.now) in
    let n = c.args.self.now.unifier.budget in
    let G = group_of c.args.self.now in
    let N = node_of c.args.node.now in
    let x = examined_of c.args.x.now in
    let h = term c.in_ok-head.head in
    let type : term c.in_ok-ty.ty ≡ type_at N.context x.variable =
    c.in_ok-ty.ensures ∙ ap (λ xs. type_at (binders xs) x.variable) c.deref.ensures.value in
    let asked : Reaches E n (head_asked E n G N x) h =
    subst (λ d. Reaches E n (head_of (at x.span Test.of_family) d (type_at N.context x.variable)) h)
    c.in_ok-depth.ensures
    (subst (λ t. Reaches E n (head_of (at x.span Test.of_family) c.in_ok-depth.depth t) h) type
    c.in_ok-head.ensures) in
    let there : family_at_head E n G N x h ≡ Some (family_seen c.in-Some.at) =
    sym (ap (λ o. family_of E o h) c.named_constructor-con.ensures) ∙ sym c.in_ok-at.ensures ∙
    ap (λ o. option_map family_seen o) c.in-Some.is in
    let mult : c.mult_at-mult.result ≡ mult_at N.context x.variable =
    c.mult_at-mult.ensures ∙ ap (λ xs. mult_at (binders xs) x.variable) c.deref-2.ensures.value in
    let not_so : c.is_usable.result ≡ false = search rules in
    let erased : usable G.part (mult_at N.context x.variable) ≡ false =
    ap (usable G.part) (sym mult) ∙ sym c.is_usable.ensures ∙ not_so in
    let name : c.in_ok-name.name ≡ label_at N.labels x.variable =
    c.in_ok-name.ensures ∙ c.label_at.ensures ∙
    ap (λ xs. label_at (newest_labels xs) x.variable) c.deref-then-not-is_usable.ensures.value in
    subst (λ e. Refuses E n (division G N x) e) (sym c.refused-then-not-is_usable.ensures)
    (subst (λ l. Fails E n (division G N x) (Cause.erased_match l) (at x.span Test.usable)) (sym name)
    (not-usable E n G N x h (family_seen c.in-Some.at) asked there erased))

pub returns-in_err-targets : goal.returns-in_err-targets
returns-in_err-targets g c =
    let E = env (entries c.args.self.now.unifier.globals.now) in
    let n = c.args.self.now.unifier.budget in
    let G = group_of c.args.self.now in
    let N = node_of c.args.node.now in
    let x = examined_of c.args.x.now in
    let h = term c.in_ok-head.head in
    let F = family_seen c.in-Some.at in
    let e = c.in_err-targets.field-0.0 in
    let type : term c.in_ok-ty.ty ≡ type_at N.context x.variable =
    c.in_ok-ty.ensures ∙ ap (λ xs. type_at (binders xs) x.variable) c.deref.ensures.value in
    let asked : Reaches E n (head_asked E n G N x) h =
    subst (λ d. Reaches E n (head_of (at x.span Test.of_family) d (type_at N.context x.variable)) h)
    c.in_ok-depth.ensures
    (subst (λ t. Reaches E n (head_of (at x.span Test.of_family) c.in_ok-depth.depth t) h) type
    c.in_ok-head.ensures) in
    let there : family_at_head E n G N x h ≡ Some F =
    sym (ap (λ o. family_of E o h) c.named_constructor-con.ensures) ∙ sym c.in_ok-at.ensures ∙
    ap (λ o. option_map family_seen o) c.in-Some.is in
    let mult : c.mult_at-mult.result ≡ mult_at N.context x.variable =
    c.mult_at-mult.ensures ∙ ap (λ xs. mult_at (binders xs) x.variable) c.deref-2.ensures.value in
    let so : c.is_usable.result ≡ true = search rules in
    let may : usable G.part (mult_at N.context x.variable) ≡ true =
    ap (usable G.part) (sym mult) ∙ sym c.is_usable.ensures ∙ so in
    passed E n _ _ c.from_residual-in_err-targets.result e c.from_residual-in_err-targets.ensures.1
    (reading-spent E n G N x h F e asked there may
    (subst (λ d. Refuses E n (readings (at x.span Test.equations) d F.indices) e) c.in_ok-depth.ensures
    (subst (λ xs. Refuses E n (readings (at x.span Test.equations) c.in_ok-depth.depth (all_terms xs)) e)
    c.deref-3.ensures.value c.in_err-targets.ensures)))

pub returns : goal.returns
returns g c =
    let E = env (entries c.args.self.now.unifier.globals.now) in
    let n = c.args.self.now.unifier.budget in
    let G = group_of c.args.self.now in
    let N = node_of c.args.node.now in
    let x = examined_of c.args.x.now in
    let h = term c.in_ok-head.head in
    let F = family_seen c.in-Some.at in
    let ts = all_terms c.in_ok-targets.targets.items in
    let type : term c.in_ok-ty.ty ≡ type_at N.context x.variable =
    c.in_ok-ty.ensures ∙ ap (λ xs. type_at (binders xs) x.variable) c.deref.ensures.value in
    let asked : Reaches E n (head_asked E n G N x) h =
    subst (λ d. Reaches E n (head_of (at x.span Test.of_family) d (type_at N.context x.variable)) h)
    c.in_ok-depth.ensures
    (subst (λ t. Reaches E n (head_of (at x.span Test.of_family) c.in_ok-depth.depth t) h) type
    c.in_ok-head.ensures) in
    let there : family_at_head E n G N x h ≡ Some F =
    sym (ap (λ o. family_of E o h) c.named_constructor-con.ensures) ∙ sym c.in_ok-at.ensures ∙
    ap (λ o. option_map family_seen o) c.in-Some.is in
    let mult : c.mult_at-mult.result ≡ mult_at N.context x.variable =
    c.mult_at-mult.ensures ∙ ap (λ xs. mult_at (binders xs) x.variable) c.deref-2.ensures.value in
    let so : c.is_usable.result ≡ true = search rules in
    let may : usable G.part (mult_at N.context x.variable) ≡ true =
    ap (usable G.part) (sym mult) ∙ sym c.is_usable.ensures ∙ so in
    let read : Reaches E n (readings_asked E n G N x F) ts =
    subst (λ d. Reaches E n (readings (at x.span Test.equations) d F.indices) ts) c.in_ok-depth.ensures
    (subst (λ xs. Reaches E n (readings (at x.span Test.equations) c.in_ok-depth.depth (all_terms xs)) ts)
    c.deref-3.ensures.value c.in_ok-targets.ensures) in
    let made : match_mult G.part (mult_at N.context x.variable) ≡ c.match_mult.result =
    ap (match_mult G.part) (sym mult) ∙ sym c.match_mult.ensures in
    reached (all-divided E n G N x h F ts asked there may read)
    (ap (λ q. record {
      span = x.span;
      mult = q;
      family = F.family;
      over = record {
        context = N.context;
        variable = x.variable;
        params = F.params;
        indices = F.indices;
        targets = ts;
      };
    }) made)
