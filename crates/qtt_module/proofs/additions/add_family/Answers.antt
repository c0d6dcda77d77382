use Rattle.std.proofs.Common.{map, refl}
use Rattle.qtt_syntax.specs.View.{con_of, param_of, tree_of}
use Rattle.qtt_term.specs.Entries.{entries, with_family}
use Rattle.qtt_term.specs.Items.{constructor_entry, family_entry}
use Rattle.qtt_module.specs.Families.{family}
use Rattle.qtt_module.specs.FamilyParts.{head}
use Rattle.qtt_module.specs.FamilyView.{head_of}
use Rattle.qtt_module.proofs.Added.{puts-passed, first-left, memory-left, bare-left, still-left, constructors-refused, family-puts}
use Rattle.qtt_module.proofs.Together.{head-refuses}
use Rattle.qtt_module.proofs.additions.add_family.Goals as goal

pub returns-in_err-head-clause-gives : goal.returns-in_err-head-clause-gives
returns-in_err-head-clause-gives g c =
    let G = entries c.args.globals.now in
    let d = c.args.declared.now in
    let M = c.args.home.now in
    let ps = map param_of d.params.items in
    let cs = map con_of d.constructors.items in
    let t = tree_of d.ty in
    let e = c.in_err-head.field-0.0 in
    puts-passed with_family G G c.args.budget (family G c.args.id M d.name ps t cs) c.from_residual.result e
    c.from_residual.ensures.1 (head-refuses G c.args.id M d.name ps t cs c.args.budget e c.in_err-head.ensures)

pub returns-in_err-family-clause-gives : goal.returns-in_err-family-clause-gives
returns-in_err-family-clause-gives g c =
    let G = entries c.args.globals.now in
    let H = entries c.put_bare.new.globals in
    let d = c.args.declared.now in
    let M = c.args.home.now in
    let ps = map param_of d.params.items in
    let cs = map con_of d.constructors.items in
    let t = tree_of d.ty in
    let F = head_of M c.in_ok-head.head in
    let e = c.in_err-family.field-0.0 in
    puts-passed with_family G H c.args.budget (family G c.args.id M d.name ps t cs)
    c.from_residual-in_err-family.result e c.from_residual-in_err-family.ensures.1
    (constructors-refused G H F c.in_ok-put_bare.ensures.ok c.args.budget c.args.id M d.name ps t cs
    c.in_ok-head.ensures e (rw c.deref.ensures.value at c.in_err-family.ensures.gives))

pub returns-in_err-family-clause-left : goal.returns-in_err-family-clause-left
returns-in_err-family-clause-left g c =
    let d = c.args.declared.now in
    bare-left (entries c.args.globals.now) (entries c.put_bare.new.globals)
    (head_of c.args.home.now c.in_ok-head.head) c.in_ok-put_bare.ensures.ok c.args.budget c.args.id c.args.home.now
    d.name (map param_of d.params.items) (tree_of d.ty) (map con_of d.constructors.items) c.in_ok-head.ensures
    c.from_residual-in_err-family.result

pub returns-clause-gives : goal.returns-clause-gives
returns-clause-gives g c =
    let G = entries c.args.globals.now in
    let H = entries c.put_bare.new.globals in
    let d = c.args.declared.now in
    let M = c.args.home.now in
    let ps = map param_of d.params.items in
    let cs = map con_of d.constructors.items in
    let t = tree_of d.ty in
    let F = head_of M c.in_ok-head.head in
    let E = c.in_ok-family.family in
    family-puts G H F c.in_ok-put_bare.ensures.ok c.args.budget c.args.id M d.name ps t cs c.in_ok-head.ensures
    (family_entry E) (map constructor_entry E.constructors.items) (entries c.give_constructors.new.globals)
    (rw c.deref.ensures.value at c.in_ok-family.ensures.gives) c.in_ok-family.ensures.whole
    c.in_ok-put_bare.ensures.absent c.give_constructors.result c.give_constructors.ensures.ok
    c.give_constructors.ensures.memory

pub returns-clause-left : goal.returns-clause-left
returns-clause-left g c =
    let d = c.args.declared.now in
    still-left (entries c.args.globals.now) (entries c.put_bare.new.globals)
    (head_of c.args.home.now c.in_ok-head.head) c.in_ok-put_bare.ensures.ok c.args.budget c.args.id c.args.home.now
    d.name (map param_of d.params.items) (tree_of d.ty) (map con_of d.constructors.items) c.in_ok-head.ensures
    (entries c.give_constructors.new.globals) c.give_constructors.result c.give_constructors.ensures.err

pub returns-in_err-head-clause-left : goal.returns-in_err-head-clause-left
returns-in_err-head-clause-left g c =
    let G = entries c.args.globals.now in
    let d = c.args.declared.now in
    first-left G G c.args.budget
    (head G c.args.id c.args.home.now d.name (map param_of d.params.items) (tree_of d.ty)) c.from_residual.result
    c.in_err-head.field-0.0 c.from_residual.ensures.1 c.in_err-head.ensures refl

pub returns-in_err-put_bare-clause-left : goal.returns-in_err-put_bare-clause-left
returns-in_err-put_bare-clause-left g c =
    let G = entries c.args.globals.now in
    let d = c.args.declared.now in
    memory-left G (entries c.put_bare.new.globals) c.args.budget
    (head G c.args.id c.args.home.now d.name (map param_of d.params.items) (tree_of d.ty))
    c.from_residual-in_err-put_bare.result c.in_err-put_bare.field-0.0 c.from_residual-in_err-put_bare.ensures.1
    c.in_err-put_bare.ensures.memory c.in_err-put_bare.ensures.err
