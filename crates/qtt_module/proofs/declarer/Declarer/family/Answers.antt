use Rattle.std.proofs.Common.{length, map, drop, sym, subst, ap, ◌∙◌}
use Rattle.qtt_syntax.specs.View.{con_of}
use Rattle.qtt_term.specs.Entries.{entries, env}
use Rattle.qtt_term.specs.Items.{constructor_entry}
use Rattle.qtt_positive.specs.FirstBad.{first_bad}
use Rattle.qtt_bidi.specs.Answers.{Reaches, Refuses}
use Rattle.qtt_bidi.proofs.Within.{on, on_done, here, later, passed, reached}
use Rattle.qtt_module.specs.Families.{constructors, family_with, none_bad}
use Rattle.qtt_module.specs.FamilyView.{head_of}
use Rattle.qtt_module.proofs.declarer.Declarer.family.Goals as goal

pub returns-in_err-constructors-clause-gives : goal.returns-in_err-constructors-clause-gives
returns-in_err-constructors-clause-gives g c =
    let G = entries c.args.self.now.elaborator.globals.now in
    let n = c.args.self.now.elaborator.budget in
    let F = head_of c.args.self.now.home.now c.args.head.now in
    let cs = map con_of c.args.declared.now in
    let e = c.in_err-constructors.field-0.0 in
    passed _ _ _ _ c.from_residual.result e c.from_residual.ensures.1
    (here _ _ _ _ e
    (subst (λ ds. Refuses (env G) n (constructors G F (length ds) cs) e) c.new.ensures.items
    c.in_err-constructors.ensures.gives))

pub returns-in_err-all_good-clause-gives : goal.returns-in_err-all_good-clause-gives
returns-in_err-all_good-clause-gives g c =
    let G = entries c.args.self.now.elaborator.globals.now in
    let n = c.args.self.now.elaborator.budget in
    let F = head_of c.args.self.now.home.now c.args.head.now in
    let cs = map con_of c.args.declared.now in
    let ds = map constructor_entry c.in_ok-constructors.constructors.items in
    let h = subst (λ xs. Reaches (env G) n (constructors G F (length xs) cs) (drop (length xs) ds))
    c.new.ensures.items c.in_ok-constructors.ensures.gives in
    let e = c.in_err-all_good.field-0.0 in
    passed _ _ _ _ c.from_residual-in_err-all_good.result e c.from_residual-in_err-all_good.ensures.1
    (later _ _ (constructors G F 0 cs) _ e h
    (here _ _ _ _ e
    (subst (λ X. Refuses (env G) n (none_bad cs (first_bad X.id X.family)) e) c.in_ok-family.ensures
    (c.in_err-all_good.ensures (env G) n))))

pub returns-clause-gives : goal.returns-clause-gives
returns-clause-gives g c =
    let G = entries c.args.self.now.elaborator.globals.now in
    let n = c.args.self.now.elaborator.budget in
    let F = head_of c.args.self.now.home.now c.args.head.now in
    let cs = map con_of c.args.declared.now in
    let ds = map constructor_entry c.in_ok-constructors.constructors.items in
    let h = subst (λ xs. Reaches (env G) n (constructors G F (length xs) cs) (drop (length xs) ds))
    c.new.ensures.items c.in_ok-constructors.ensures.gives in
    reached
    (on _ h
    (on _ (subst (λ X. Reaches (env G) n (none_bad cs (first_bad X.id X.family)) tt) c.in_ok-family.ensures
    (c.in_ok-all_good.ensures (env G) n)) on_done))
    (sym c.in_ok-family.ensures)

pub returns-clause-whole : goal.returns-clause-whole
returns-clause-whole g c =
    let F = head_of c.args.self.now.home.now c.args.head.now in
    let same = c.in_ok-family.ensures in
    same ∙ ap (family_with F) (sym (ap (λ X. X.constructors) same))
