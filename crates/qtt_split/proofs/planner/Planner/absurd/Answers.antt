use Rattle.std.proofs.Common.{◌≡◌, ◌∙◌, [], length, rules, ap, sym}
use Rattle.std.proofs.lemmas.List.{length-map}
use Rattle.qtt_term.specs.Ask.{Ask}
use Rattle.qtt_term.specs.Entries.{entries, env}
use Rattle.qtt_term.specs.Items.{field}
use Rattle.qtt_term.specs.Telescopes.{tele}
use Rattle.qtt_term.specs.View.{term}
use Rattle.qtt_split.specs.declared.tree.Branch as code_branch
use Rattle.qtt_split.specs.declared.tree.Tree.{the_lemmas}
use Rattle.qtt_split.specs.declared.tree.Tree.TheVariants as code
use Rattle.qtt_split.specs.Calls.{group_of}
use Rattle.qtt_split.specs.Preparations.{grown_branch_of}
use Rattle.qtt_split.specs.Sites.{site_of, signature_in}
use Rattle.qtt_split.specs.Split.{count_leaf}
use Rattle.qtt_split.specs.Tree.{Tree}
use Rattle.qtt_split.specs.View.{Seen, branch_of}
use Rattle.qtt_split.proofs.Joined.{absurd-at}
use Rattle.qtt_split.proofs.Within.{on, on_done, passed, here, reached}
use Rattle.qtt_split.proofs.planner.Planner.absurd.Goals as goal

pub returns-in_err-less : goal.returns-in_err-less
returns-in_err-less g c =
    let E = env (entries c.args.self.now.unifier.globals.now) in
    let n = c.args.self.now.unifier.budget in
    let W = site_of (group_of c.args.self.now) c.args.site.now in
    let d = signature_in c.args.self.now c.args.site.now c.args.place c.args.constructor.now in
    let e = c.in_err-less.field-0.0 in
    passed E n _ _ c.from_residual.result e c.from_residual.ensures.1
    (here E n (count_leaf W.group c.args.left) (λ less. Ask.done (absurd-at W d less)) e c.in_err-less.ensures)

pub returns : goal.returns
returns g c =
    let E = env (entries c.args.self.now.unifier.globals.now) in
    let n = c.args.self.now.unifier.budget in
    let W = site_of (group_of c.args.self.now) c.args.site.now in
    let x = c.args.constructor.now in
    let d = signature_in c.args.self.now c.args.site.now c.args.place x in
    let less = c.in_ok-less.less in
    let A = c.in_ok-ty.ty in
    let count : c.in_ok-number.field-0 ≡ length x.fields.items = search rules in
    let fields : c.in_ok-number.field-0 ≡ length d.fields = count ∙ sym (length-map x.fields.items field) in
    let none : c.new.result.items ≡ [] = search rules in
    let made : code_branch.Branch = record {
      fields = c.in_ok-number.field-0;
      again = c.new.result;
      tree = code.Absurd A;
    } in
    let seen : branch_of made
    ≡ record { fields = c.in_ok-number.field-0; again = tele c.new.result.items; tree = Tree.absurd (term A) } =
    search (rules, the_lemmas) in
    let whole : grown_branch_of (record { branch = made; left = less }) ≡ absurd-at W d less =
    ap (λ (b : Seen). record { fields = b.fields; again = b.again; tree = b.tree; left = less }) seen ∙
    ap (λ k. record { fields = k; again = tele c.new.result.items; tree = Tree.absurd (term A); left = less })
    fields ∙
    ap (λ xs. record { fields = length d.fields; again = tele xs; tree = Tree.absurd (term A); left = less }) none ∙
    ap (λ t. record { fields = length d.fields; again = []; tree = Tree.absurd t; left = less }) c.in_ok-ty.ensures in
    reached
    (on {E = E} {n = n} {m = count_leaf W.group c.args.left} (λ less. Ask.done (absurd-at W d less))
    c.in_ok-less.ensures on_done) (sym whole)
