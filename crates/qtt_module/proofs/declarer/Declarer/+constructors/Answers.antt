use Rattle.std.proofs.Common.{◌≡◌, ◌-◌, suc, map, length, take, drop, subst, sym, rules}
use Rattle.qtt_syntax.specs.View.{con_of}
use Rattle.qtt_term.specs.Entries.{entries, env}
use Rattle.qtt_term.specs.Items.{constructor_entry}
use Rattle.qtt_bidi.specs.Answers.{Reaches, Refuses, Gives}
use Rattle.qtt_bidi.proofs.Taking.{nothing-in, first-in}
use Rattle.qtt_bidi.proofs.Within.{on_done, here, passed, reached}
use Rattle.qtt_module.specs.Families.{constructor, constructors}
use Rattle.qtt_module.specs.FamilyView.{head_of}
use Rattle.qtt_module.proofs.Appended.{none-behind, all-kept, entries-long, one-entry-more, list-given, list-kept, length-pushed}
use Rattle.qtt_module.proofs.declarer.Declarer.+constructors.Goals as goal

pub returns-in-empty-clause-gives : goal.returns-in-empty-clause-gives
returns-in-empty-clause-gives g t c =
    let G = entries c.args.self.now.elaborator.globals.now in
    let n = c.args.self.now.elaborator.budget in
    let F = head_of c.args.self.now.home.now c.args.head.now in
    let ds = c.args.before.items in
    subst (λ cs. Reaches (env G) n (constructors G F (length ds) (map con_of cs))
    (drop (length ds) (map constructor_entry ds)))
    (sym (nothing-in c.args.declared.now c.in-empty.len_below))
    (reached on_done (sym (none-behind (length ds) (map constructor_entry ds) (entries-long ds))))

pub returns-in-empty-clause-kept : goal.returns-in-empty-clause-kept
returns-in-empty-clause-kept g t c =
    let ds = c.args.before.items in
    all-kept (length ds) (map constructor_entry ds) (entries-long ds)

pub returns-in_err-next-in-len1-up-clause-gives : goal.returns-in_err-next-in-len1-up-clause-gives
returns-in_err-next-in-len1-up-clause-gives g t c =
    let G = entries c.args.self.now.elaborator.globals.now in
    let n = c.args.self.now.elaborator.budget in
    let F = head_of c.args.self.now.home.now c.args.head.now in
    let ds = c.args.before.items in
    let k : c.len.result ≡ length ds = search rules in
    let e = c.in_err-next-in-len1-up.field-0.0 in
    passed _ _ _ _ c.from_residual.result e c.from_residual.ensures.1
    (subst (λ cs. Refuses (env G) n (constructors G F (length ds) (map con_of cs)) e)
    (sym (first-in c.args.declared.now c.first-item.result c.in-len1-up.len_at_least c.first-item.is))
    (here _ _ _ _ _ (rw k at c.in_err-next-in-len1-up.ensures)))

pub returns-in_ok-push-in-len1-up-clause-gives : goal.returns-in_ok-push-in-len1-up-clause-gives
returns-in_ok-push-in-len1-up-clause-gives g t c =
    let G = entries c.args.self.now.elaborator.globals.now in
    let n = c.args.self.now.elaborator.budget in
    let F = head_of c.args.self.now.home.now c.args.head.now in
    let ds = c.args.before.items in
    let k : c.len.result ≡ length ds = search rules in
    let d = c.in_ok-next-in-len1-up.next in
    let es = c.push.new.self.items in
    let p = c.in_ok-push-in-len1-up.ensures.items in
    let cs = c.args.declared.now in
    let rest = take (length cs - 1) (drop 1 cs) in
    let r = c.constructors.result in
    let one = one-entry-more ds es d p in
    let inner : Gives (env G) n (constructors G F (suc (length ds)) (map con_of rest))
    (λ v. drop (length es) (map constructor_entry v.items)) r =
    subst (λ i. Gives (env G) n (constructors G F i (map con_of rest))
    (λ v. drop (length es) (map constructor_entry v.items)) r) (length-pushed ds es d p)
    c.constructors.ensures.gives in
    subst (λ cs. Gives (env G) n (constructors G F (length ds) (map con_of cs))
    (λ v. drop (length ds) (map constructor_entry v.items)) r)
    (sym (first-in cs c.first-item.result c.in-len1-up.len_at_least c.first-item.is))
    (list-given (λ v. map constructor_entry v.items) (map constructor_entry ds) (map constructor_entry es)
    (constructor_entry d) one (length ds) (length es) (entries-long ds) (entries-long es) (env G) n
    (constructor G F (length ds) (con_of c.first-item.result))
    (λ d. constructors G F (suc (length ds)) (map con_of rest)) r (rw k at c.in_ok-next-in-len1-up.ensures) inner
    c.constructors.ensures.kept)

pub returns-in_ok-push-in-len1-up-clause-kept : goal.returns-in_ok-push-in-len1-up-clause-kept
returns-in_ok-push-in-len1-up-clause-kept g t c =
    let ds = c.args.before.items in
    let d = c.in_ok-next-in-len1-up.next in
    let es = c.push.new.self.items in
    list-kept (λ v. map constructor_entry v.items) (map constructor_entry ds) (map constructor_entry es)
    (constructor_entry d) (one-entry-more ds es d c.in_ok-push-in-len1-up.ensures.items) (length ds) (length es)
    (entries-long ds) (entries-long es) c.constructors.result c.constructors.ensures.kept
