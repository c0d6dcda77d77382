-- Each form writes its pieces one after the other.
use Rattle.std.proofs.Common.{◌≡◌, ◌==◌, ◌++◌, ◌+◌, List, ℕ, not, ◌||◌, codes, length, map, rules, ap, sym, ◌∙◌, append_assoc}
use Rattle.qtt_term.specs.Term.{PrimTy, Form, node, ε, ◌▸◌, ◌+++◌, Pi, Lam, App, Fam, Delete, TypeOf, Call, Act, Trap, Tape}
use Rattle.qtt_term.specs.View.{action, branches, case, delete, io, side_by_side, term, terms}
use Rattle.qtt_term.specs.declared.term.Case.{out-Case}
use Rattle.qtt_term.specs.declared.term.Delete.{out-Delete}
use Rattle.qtt_term.specs.declared.term.Term as code
use Rattle.qtt_term.specs.declared.term.Term.{the_lemmas}
use Rattle.qtt_term.specs.Entries.{entries}
use Rattle.qtt_prims.specs.PrimNames.{action_name}
use Rattle.qtt_core_print.specs.Printing.{match_head, motive_text, text}
use Rattle.qtt_core_print.specs.Writing.{arguments_text, braced_text, branches_text, where_needed}
use Rattle.qtt_core_print.proofs.Grown.{on_ok}
use Rattle.qtt_core_print.proofs.Views.{action_text, app_shown, call_text, case_shown, constructor_text, delete_shown, family_text, io_shown, lam_shown, nested_6, nested_7, pi_shown, trap_shown}
use Rattle.qtt_core_print.proofs.printing.+printing.Goals as goal

pub put_case-returns : goal.put_case-returns
put_case-returns t c =
    let N = entries c.args.names.now in
    let n = c.args.depth in
    let a = out-Case c.args.case.now in
    let ps = terms a.params.items in
    let bs = branches a.branches.items in
    let form : case c.args.case.now ≡ node
    (Form.case a.mult a.family (length ps) (a.indices + 1) (map (λ b. b.0) bs))
    (side_by_side ps +++ (term a.motive ▸ (side_by_side (map (λ b. b.1) bs) +++ (term a.scrutinee ▸ ε)))) =
    search (rules, the_lemmas) in
    let head = match_head (codes "case") a.mult in
    let scrutinee = text N n (term a.scrutinee) in
    let motive = motive_text n (a.indices + 1) (text N (a.indices + 1 + n) (term a.motive)) in
    let all = branches_text N n a.family 0 bs in
    let old = c.args.out.now.items in
    let put_branches : c.put_branches.new.out.items ≡ c.put.new.out.items ++ all =
    c.in_ok-put_branches.ensures ∙
    ap (λ (v : _). c.put.new.out.items ++ branches_text N n a.family 0 (branches v)) c.deref.ensures.value in
    on_ok c.put-2.result
    (λ e. e ∙ ap (λ (v : List ℕ). v ++ codes " })") (put_branches ∙
    ap (λ (v : List ℕ). v ++ all) (c.in_ok-put.ensures ∙
    ap (λ (v : List ℕ). v ++ codes " {") (c.in_ok-put_motive.ensures ∙
    ap (λ (v : List ℕ). v ++ motive) (c.in_ok-put_term.ensures ∙
    ap (λ (v : List ℕ). v ++ scrutinee) c.in_ok-put_head.ensures)))) ∙
    sym (nested_7 old head scrutinee motive (codes " {") all (codes " })")) ∙
    ap (λ (v : List ℕ). old ++ v) (case_shown N n a.mult a.family (a.indices + 1) ps (term a.motive) bs
    (term a.scrutinee) ∙ sym (ap (text N n) form)))
    c.put-2.ensures

pub put_delete-returns : goal.put_delete-returns
put_delete-returns t c =
    let N = entries c.args.names.now in
    let n = c.args.depth in
    let a = out-Delete c.args.delete.now in
    let form : delete c.args.delete.now ≡
    Delete a.mult (term a.ty) (term a.point) (term a.motive) (term a.branch) (term a.scrutinee) =
    search (rules, the_lemmas) in
    on_ok c.put-3.result
    (λ e. e ∙ ap (λ (v : List ℕ). c.args.out.now.items ++ v)
    (delete_shown N n a.mult (term a.ty) (term a.point) (term a.motive) (term a.branch) (term a.scrutinee) ∙
    sym (ap (text N n) form)))
    (simp (
      c.in_ok-put_term-2.ensures,
      c.in_ok-put-2.ensures,
      c.in_ok-put.ensures,
      c.in_ok-put_motive.ensures,
      c.in_ok-put_term.ensures,
      c.in_ok-put_head.ensures,
      append_assoc,
    ) at c.put-3.ensures)

pub put_term-returns-in_ok-put_under-in-Pi : goal.put_term-returns-in_ok-put_under-in-Pi
put_term-returns-in_ok-put_under-in-Pi t c =
    let N = entries c.args.names.now in
    let n = c.args.depth in
    let p = c.in-Pi in
    let form : term c.args.t.now ≡ Pi p.mult (term p.domain.value) (term p.codomain.value) =
    search (rules, the_lemmas) in
    on_ok c.put-in-Pi-3.result
    (λ e. e ∙ ap (λ (v : List ℕ). c.args.out.now.items ++ v)
    (pi_shown N n p.mult (term p.domain.value) (term p.codomain.value) ∙
    sym (ap (text N n) form)))
    (simp (
      c.in_ok-put_under-in-Pi.ensures,
      c.in_ok-put-in-Pi-2.ensures,
      c.in_ok-put_binding-in-Pi.ensures,
      c.in_ok-put-in-Pi.ensures,
      c.deref.ensures,
      c.deref-in-Pi.ensures,
      append_assoc,
    ) at c.put-in-Pi-3.ensures)

pub put_term-returns-in_ok-put_under-in-Lam : goal.put_term-returns-in_ok-put_under-in-Lam
put_term-returns-in_ok-put_under-in-Lam t c =
    let N = entries c.args.names.now in
    let n = c.args.depth in
    let p = c.in-Lam in
    let form : term c.args.t.now ≡ Lam p.mult (term p.domain.value) (term p.body.value) =
    search (rules, the_lemmas) in
    on_ok c.put-in-Lam-3.result
    (λ e. e ∙ ap (λ (v : List ℕ). c.args.out.now.items ++ v)
    (lam_shown N n p.mult (term p.domain.value) (term p.body.value) ∙
    sym (ap (text N n) form)))
    (simp (
      c.in_ok-put_under-in-Lam.ensures,
      c.in_ok-put-in-Lam-2.ensures,
      c.in_ok-put_binding-in-Lam.ensures,
      c.in_ok-put-in-Lam.ensures,
      c.deref-in-Lam.ensures,
      c.deref-in-Lam-2.ensures,
      append_assoc,
    ) at c.put-in-Lam-3.ensures)

pub put_term-returns-in_ok-put_term-in-App-2 : goal.put_term-returns-in_ok-put_term-in-App-2
put_term-returns-in_ok-put_term-in-App-2 t c =
    let N = entries c.args.names.now in
    let n = c.args.depth in
    let p = c.in-App in
    let form : term c.args.t.now ≡ App p.mult (term p.function.value) (term p.argument.value) =
    search (rules, the_lemmas) in
    on_ok c.put-in-App-3.result
    (λ e. e ∙ ap (λ (v : List ℕ). c.args.out.now.items ++ v)
    (app_shown N n p.mult (term p.function.value) (term p.argument.value) ∙
    sym (ap (text N n) form)))
    (simp (
      c.in_ok-put_term-in-App-2.ensures,
      c.in_ok-put_at_mark-in-App.ensures,
      c.in_ok-put-in-App-2.ensures,
      c.in_ok-put_term-in-App.ensures,
      c.in_ok-put-in-App.ensures,
      c.deref-in-App.ensures,
      c.deref-in-App-2.ensures,
      append_assoc,
    ) at c.put-in-App-3.ensures)

pub put_term-returns-in_ok-put_arguments-in-Fam : goal.put_term-returns-in_ok-put_arguments-in-Fam
put_term-returns-in_ok-put_arguments-in-Fam t c =
    let N = entries c.args.names.now in
    let n = c.args.depth in
    let p = c.in-Fam in
    let form : term c.args.t.now ≡ Fam p.id (side_by_side (terms p.arguments.items)) =
    search (rules, the_lemmas) in
    on_ok c.put_where-in-Fam.result
    (λ e. e ∙ ap (λ (v : List ℕ). c.args.out.now.items ++ v)
    (family_text N n p.id c.is_empty-is_applied.result p.arguments.items
    (c.is_empty-is_applied.ensures ∙ ap (λ (v : List code.Term). length v == 0) c.as_slice.ensures.value) ∙
    sym (ap (text N n) form)))
    (simp (
      c.in_ok-put_arguments-in-Fam.ensures,
      c.in_ok-put_family-in-Fam.ensures,
      c.in_ok-put_where-in-Fam.ensures,
      c.deref-in-Fam.ensures.value,
      append_assoc,
    ) at c.put_where-in-Fam.ensures)

pub put_term-returns-in_ok-put_arguments-in-Con : goal.put_term-returns-in_ok-put_arguments-in-Con
put_term-returns-in_ok-put_arguments-in-Con t c =
    let N = entries c.args.names.now in
    let n = c.args.depth in
    let p = c.in-Con in
    let form : term c.args.t.now ≡
    node (Form.con p.constructor.family p.constructor.place (length (terms p.params.items)))
    (side_by_side (terms p.params.items) +++ side_by_side (terms p.fields.items)) =
    search (rules, the_lemmas) in
    on_ok c.put_where-in-Con-2.result
    (λ e. e ∙ ap (λ (v : List ℕ). c.args.out.now.items ++ v)
    (constructor_text N n p.constructor.family p.constructor.place c.is_empty.result c.is_empty-in-Con.result
    p.params.items p.fields.items (c.is_empty.ensures ∙
    ap (λ (v : List code.Term). length v == 0) c.as_slice-in-Con.ensures.value)
    (c.is_empty-in-Con.ensures ∙ ap (λ (v : List code.Term). length v == 0) c.as_slice-in-Con-2.ensures.value) ∙
    sym (ap (text N n) form)))
    (simp (
      c.in_ok-put_arguments-in-Con.ensures,
      c.in_ok-put_braced-in-Con.ensures,
      c.in_ok-put_constructor-in-Con.ensures,
      c.in_ok-put_where-in-Con.ensures,
      c.deref-in-Con.ensures.value,
      c.deref-in-Con-2.ensures.value,
      append_assoc,
    ) at c.put_where-in-Con-2.ensures)

pub put_term-returns-in_ok-put_term-in-IoTy : goal.put_term-returns-in_ok-put_term-in-IoTy
put_term-returns-in_ok-put_term-in-IoTy t c =
    let N = entries c.args.names.now in
    let n = c.args.depth in
    let p = c.in-IoTy in
    let form : term c.args.t.now ≡ TypeOf (PrimTy.io_of (io p.kind)) (term p.given.value ▸ ε) =
    search (rules, the_lemmas) in
    on_ok c.put-in-IoTy-4.result
    (λ e. e ∙ ap (λ (v : List ℕ). c.args.out.now.items ++ v)
    (io_shown N n (io p.kind) (term p.given.value) ∙
    sym (ap (text N n) form)))
    (simp (
      c.in_ok-put_term-in-IoTy.ensures,
      c.in_ok-put-in-IoTy-3.ensures,
      c.in_ok-put-in-IoTy-2.ensures,
      c.in_ok-put-in-IoTy.ensures,
      c.io_name.ensures,
      c.deref-in-IoTy.ensures,
      append_assoc,
    ) at c.put-in-IoTy-4.ensures)

pub put_term-returns-in_ok-put_arguments-in-Prim : goal.put_term-returns-in_ok-put_arguments-in-Prim
put_term-returns-in_ok-put_arguments-in-Prim t c =
    let N = entries c.args.names.now in
    let n = c.args.depth in
    let p = c.in-Prim in
    let form : term c.args.t.now ≡ Call p.primitive (side_by_side (terms p.arguments.items)) =
    search (rules, the_lemmas) in
    on_ok c.put_where-in-Prim-2.result
    (λ e. e ∙ ap (λ (v : List ℕ). c.args.out.now.items ++ v)
    (call_text N n p.primitive c.is_empty-is_applied-in-Prim.result p.arguments.items
    (c.is_empty-is_applied-in-Prim.ensures ∙
    ap (λ (v : List code.Term). length v == 0) c.as_slice-in-Prim.ensures.value) ∙
    sym (ap (text N n) form)))
    (simp (
      c.in_ok-put_arguments-in-Prim.ensures,
      c.in_ok-put-in-Prim.ensures,
      c.in_ok-put_where-in-Prim.ensures,
      c.as_bytes.ensures.value,
      c.name.ensures,
      c.deref-in-Prim.ensures.value,
      append_assoc,
    ) at c.put_where-in-Prim-2.ensures)

pub put_term-returns-in_ok-put_arguments-in-Act : goal.put_term-returns-in_ok-put_arguments-in-Act
put_term-returns-in_ok-put_arguments-in-Act t c =
    let N = entries c.args.names.now in
    let n = c.args.depth in
    let p = c.in-Act in
    let form : term c.args.t.now ≡
    Act (action p.kind) (length (terms p.types.items))
    (side_by_side (terms p.types.items) +++ side_by_side (terms p.arguments.items)) =
    search (rules, the_lemmas) in
    let is_applied = not c.is_empty-in-Act.result || not c.is_empty-in-Act-2.result in
    let types = braced_text N n (terms p.types.items) in
    let arguments = arguments_text N n (terms p.arguments.items) in
    let old = c.args.out.now.items in
    let put : c.put-in-Act.new.out.items ≡ c.put_where-in-Act.new.out.items ++ action_name p.kind =
    c.in_ok-put-in-Act.ensures ∙ ap (λ (v : List ℕ). c.put_where-in-Act.new.out.items ++ v)
    (c.as_bytes-in-Act.ensures.value ∙ c.name-in-Act.ensures) in
    let put_types : c.put_braced-in-Act.new.out.items ≡ c.put-in-Act.new.out.items ++ types =
    c.in_ok-put_braced-in-Act.ensures ∙
    ap (λ (v : _). c.put-in-Act.new.out.items ++ braced_text N n (terms v)) c.deref-in-Act.ensures.value in
    let put_arguments : c.put_arguments-in-Act.new.out.items ≡ c.put_braced-in-Act.new.out.items ++ arguments =
    c.in_ok-put_arguments-in-Act.ensures ∙
    ap (λ (v : _). c.put_braced-in-Act.new.out.items ++ arguments_text N n (terms v))
    c.deref-in-Act-2.ensures.value in
    on_ok c.put_where-in-Act-2.result
    (λ e. e ∙ ap (λ (v : List ℕ). v ++ where_needed is_applied (codes ")")) (put_arguments ∙
    ap (λ (v : List ℕ). v ++ arguments) (put_types ∙
    ap (λ (v : List ℕ). v ++ types) (put ∙
    ap (λ (v : List ℕ). v ++ action_name p.kind) c.in_ok-put_where-in-Act.ensures))) ∙
    sym (nested_6 old (where_needed is_applied (codes "(")) (action_name p.kind) types arguments
    (where_needed is_applied (codes ")"))) ∙
    ap (λ (v : List ℕ). old ++ v) (action_text N n p.kind c.is_empty-in-Act.result c.is_empty-in-Act-2.result
    p.types.items p.arguments.items
    (c.is_empty-in-Act.ensures ∙ ap (λ (v : List code.Term). length v == 0) c.as_slice-in-Act.ensures.value)
    (c.is_empty-in-Act-2.ensures ∙ ap (λ (v : List code.Term). length v == 0) c.as_slice-in-Act-2.ensures.value) ∙
    sym (ap (text N n) form)))
    c.put_where-in-Act-2.ensures

pub put_term-returns-in_ok-put_term-in-Trap : goal.put_term-returns-in_ok-put_term-in-Trap
put_term-returns-in_ok-put_term-in-Trap t c =
    let N = entries c.args.names.now in
    let n = c.args.depth in
    let p = c.in-Trap in
    let form : term c.args.t.now ≡ Trap (term p.ty.value) =
    search (rules, the_lemmas) in
    on_ok c.put-in-Trap-2.result
    (λ e. e ∙ ap (λ (v : List ℕ). c.args.out.now.items ++ v)
    (trap_shown N n (term p.ty.value) ∙
    sym (ap (text N n) form)))
    (simp (
      c.in_ok-put_term-in-Trap.ensures,
      c.in_ok-put-in-Trap.ensures,
      c.deref-in-Trap.ensures,
      append_assoc,
    ) at c.put-in-Trap-2.ensures)

pub put_term-returns-in_ok-put_number-in-Tape : goal.put_term-returns-in_ok-put_number-in-Tape
put_term-returns-in_ok-put_number-in-Tape t c =
    let N = entries c.args.names.now in
    let form : term c.args.t.now ≡ Tape c.in-Tape.number =
    search (rules, the_lemmas) in
    on_ok c.put-in-Tape-2.result
    (λ e. e ∙ ap (λ (v : List ℕ). c.args.out.now.items ++ v) (sym (ap (text N c.args.depth) form)))
    (simp (
      c.in_ok-put_number-in-Tape.ensures,
      c.in_ok-put-in-Tape.ensures,
      append_assoc,
    ) at c.put-in-Tape-2.ensures)
