use Rattle.std.proofs.Common.{◌≡◌, ◌∙◌, length, map, rules, ap, sym}
use Rattle.std.proofs.lemmas.List.{length-map}
use Rattle.qtt_term.specs.declared.term.ConId.{ConId}
use Rattle.qtt_term.specs.Entries.{entries}
use Rattle.qtt_term.specs.Items.{field}
use Rattle.qtt_term.specs.Judgement.{scale, sub_binds}
use Rattle.qtt_term.specs.Substitution.{closed, push}
use Rattle.qtt_term.specs.Telescopes.{filled, tele}
use Rattle.qtt_term.specs.View.{term}
use Rattle.qtt_term.proofs.Binders.{if-ok}
use Rattle.qtt_unify.specs.View.{all_terms, binders, solution}
use Rattle.qtt_split.specs.Branch.{again, branch_node, made, stands}
use Rattle.qtt_split.specs.Calls.{group_of}
use Rattle.qtt_split.specs.Constructors.{constructor_entry, labels_of as labels_of_entry}
use Rattle.qtt_split.specs.Labels.{labels_of}
use Rattle.qtt_split.specs.Nodes.{node_of}
use Rattle.qtt_split.specs.Sites.{site_of, signature_in}
use Rattle.qtt_split.specs.Split.{fields_of, solved_node, solved_again}
use Rattle.qtt_split.proofs.Sited.{length-binds}
use Rattle.qtt_split.proofs.planner.Planner.solved.Goals as goal

pub returns-clause-node : goal.returns-clause-node
returns-clause-node g c =
    let W = c.args.site.now in
    let N = W.node.now in
    let D = W.division.now in
    let d = c.args.constructor.now in
    let con : ConId = record { family = D.family; place = c.args.place } in
    let S = map solution c.args.solved.now in
    let sig = signature_in c.args.self.now W c.args.place d in
    let count : c.in_ok-count.count ≡ length d.fields.items = search rules in
    let whole : c.in_ok-count.count ≡ length sig.fields = count ∙ sym (length-map d.fields.items field) in
    let value : term c.in_ok-value.value ≡ made con (all_terms D.params.items) (length sig.fields) =
    c.in_ok-value.ensures ∙ ap (λ xs. made con (all_terms xs) c.in_ok-count.count) c.deref.ensures.value ∙
    ap (made con (all_terms D.params.items)) whole in
    let fields : tele c.deref-4.result.now ≡ fields_of D.mult (all_terms D.params.items) sig =
    ap tele c.deref-4.ensures.value ∙ c.in_ok-fields.ensures ∙
    ap (λ xs. sub_binds (filled c.deref-3.result.now) (scale D.mult (tele xs))) c.deref-2.ensures.value ∙
    ap (λ xs. sub_binds (filled xs) (scale D.mult sig.fields)) c.deref-3.ensures.value in
    let L = labels_of_entry (constructor_entry (entries c.args.self.now.unifier.globals.now) con) in
    let names : labels_of c.deref-5.result.now ≡ L = ap labels_of c.deref-5.ensures.value ∙ c.in_ok-names.ensures in
    if-ok _ (λ e. node_of e.node ≡ solved_node (site_of (group_of c.args.self.now) W) c.args.place sig S)
    c.branch-site.result
    (λ e h. h ∙
    ap (λ Θ. branch_node (node_of N) Θ (labels_of c.deref-5.result.now) D.variable con (term c.in_ok-value.value) S
    c.deref-6.result.now) fields ∙
    ap (λ ls. branch_node (node_of N) (fields_of D.mult (all_terms D.params.items) sig) ls D.variable con
    (term c.in_ok-value.value) S c.deref-6.result.now) names ∙
    ap (λ t. branch_node (node_of N) (fields_of D.mult (all_terms D.params.items) sig) L D.variable con t S
    c.deref-6.result.now) value ∙
    ap (λ rs. branch_node (node_of N) (fields_of D.mult (all_terms D.params.items) sig) L D.variable con
    (made con (all_terms D.params.items) (length sig.fields)) S rs) c.deref-6.ensures.value)
    c.branch-site.ensures.node

pub returns-clause-again : goal.returns-clause-again
returns-clause-again g c =
    let W = c.args.site.now in
    let N = W.node.now in
    let D = W.division.now in
    let d = c.args.constructor.now in
    let con : ConId = record { family = D.family; place = c.args.place } in
    let S = map solution c.args.solved.now in
    let sig = signature_in c.args.self.now W c.args.place d in
    let count : c.in_ok-count.count ≡ length d.fields.items = search rules in
    let whole : c.in_ok-count.count ≡ length sig.fields = count ∙ sym (length-map d.fields.items field) in
    let value : term c.in_ok-value.value ≡ made con (all_terms D.params.items) (length sig.fields) =
    c.in_ok-value.ensures ∙ ap (λ xs. made con (all_terms xs) c.in_ok-count.count) c.deref.ensures.value ∙
    ap (made con (all_terms D.params.items)) whole in
    let fields : tele c.deref-4.result.now ≡ fields_of D.mult (all_terms D.params.items) sig =
    ap tele c.deref-4.ensures.value ∙ c.in_ok-fields.ensures ∙
    ap (λ xs. sub_binds (filled c.deref-3.result.now) (scale D.mult (tele xs))) c.deref-2.ensures.value ∙
    ap (λ xs. sub_binds (filled xs) (scale D.mult sig.fields)) c.deref-3.ensures.value in
    let long : length (tele c.deref-4.result.now) ≡ length sig.fields =
    ap length fields ∙ length-binds (push (all_terms D.params.items) closed) D.mult sig.fields in
    if-ok _ (λ e. tele e.again.items ≡ solved_again (site_of (group_of c.args.self.now) W) c.args.place sig S)
    c.branch-site.result
    (λ e h. h ∙
    ap (λ m. again (binders N.context.items) c.deref-6.result.now
    (stands D.variable (term c.in_ok-value.value) S m)) long ∙
    ap (λ t. again (binders N.context.items) c.deref-6.result.now (stands D.variable t S (length sig.fields))) value ∙
    ap (λ rs. again (binders N.context.items) rs
    (stands D.variable (made con (all_terms D.params.items) (length sig.fields)) S (length sig.fields)))
    c.deref-6.ensures.value)
    c.branch-site.ensures.again
