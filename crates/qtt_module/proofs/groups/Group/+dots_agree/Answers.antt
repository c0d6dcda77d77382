use Rattle.std.proofs.Common.{◌∙◌, map, ap}
use mathlib.Core.Path.{ap₂}
use Rattle.qtt_term.specs.Entries.{env}
use Rattle.qtt_bidi.specs.Elaboration.{judge}
use Rattle.qtt_bidi.proofs.Taking.{nothing-in, first-in}
use Rattle.qtt_bidi.proofs.Within.{on_done, here, later, passed, tail, same, same-answer, same-refusal}
use Rattle.qtt_split.specs.Group.{dots_agree}
use Rattle.qtt_split.specs.View.{leaf_of}
use Rattle.qtt_module.specs.GroupCalls.{globals_of, dot_of, column_of}
use Rattle.qtt_module.proofs.Siding.{one-dot, no-dot, no-column}
use Rattle.qtt_module.proofs.groups.Group.+dots_agree.Goals as goal

pub returns-in_default : goal.returns-in_default
returns-in_default g t c =
    let E = env (globals_of c.args.self.now) in
    let N = c.args.self.now.elaborator.budget in
    let J = judge (globals_of c.args.self.now) in
    let l = leaf_of c.args.leaf.now in
    same-answer _ _ tt
    (ap (λ ds. dots_agree J l (map dot_of ds) (map column_of c.args.columns.now))
    (nothing-in c.args.dots.now c.in_default.len_below)
    ∙ no-dot (globals_of c.args.self.now) l (map column_of c.args.columns.now)) (on_done {E = E} {n = N})

pub returns-in_default-columns : goal.returns-in_default-columns
returns-in_default-columns g t c =
    let E = env (globals_of c.args.self.now) in
    let N = c.args.self.now.elaborator.budget in
    let J = judge (globals_of c.args.self.now) in
    let l = leaf_of c.args.leaf.now in
    same-answer _ _ tt
    (ap (λ xs. dots_agree J l (map dot_of c.args.dots.now) (map column_of xs))
    (nothing-in c.args.columns.now c.in_default-columns.len_below)
    ∙ no-column (globals_of c.args.self.now) l (map dot_of c.args.dots.now)) (on_done {E = E} {n = N})

pub returns-in_err-found : goal.returns-in_err-found
returns-in_err-found g t c =
    let E = env (globals_of c.args.self.now) in
    let N = c.args.self.now.elaborator.budget in
    let J = judge (globals_of c.args.self.now) in
    let l = leaf_of c.args.leaf.now in
    let d = c.dot-item.result in
    let x = c.column-item.result in
    let all = ap₂ (λ ds xs. dots_agree J l (map dot_of ds) (map column_of xs))
    (first-in c.args.dots.now d c.in-len1-up.len_at_least c.dot-item.is)
    (first-in c.args.columns.now x c.in-len1-up-columns.len_at_least c.column-item.is)
    ∙ one-dot (globals_of c.args.self.now) l (dot_of d) _ (column_of x) _ in
    let e = c.in_err-found.field-0.0 in
    passed _ _ _ _ c.from_residual.result e c.from_residual.ensures.1
    (same-refusal E N _ _ e all (here _ _ _ _ _ c.in_err-found.ensures.gives))

pub returns-in_err-agrees : goal.returns-in_err-agrees
returns-in_err-agrees g t c =
    let E = env (globals_of c.args.self.now) in
    let N = c.args.self.now.elaborator.budget in
    let J = judge (globals_of c.args.self.now) in
    let l = leaf_of c.args.leaf.now in
    let d = c.dot-item.result in
    let x = c.column-item.result in
    let all = ap₂ (λ ds xs. dots_agree J l (map dot_of ds) (map column_of xs))
    (first-in c.args.dots.now d c.in-len1-up.len_at_least c.dot-item.is)
    (first-in c.args.columns.now x c.in-len1-up-columns.len_at_least c.column-item.is)
    ∙ one-dot (globals_of c.args.self.now) l (dot_of d) _ (column_of x) _ in
    let e = c.in_err-agrees.field-0.0 in
    passed _ _ _ _ c.from_residual-in_err-agrees.result e c.from_residual-in_err-agrees.ensures.1
    (same-refusal E N _ _ e all (later _ _ _ _ _ c.in_ok-found.ensures.gives
    (here _ _ _ _ _ c.in_err-agrees.ensures)))

pub returns : goal.returns
returns g t c =
    let E = env (globals_of c.args.self.now) in
    let N = c.args.self.now.elaborator.budget in
    let J = judge (globals_of c.args.self.now) in
    let l = leaf_of c.args.leaf.now in
    let d = c.dot-item.result in
    let x = c.column-item.result in
    let all = ap₂ (λ ds xs. dots_agree J l (map dot_of ds) (map column_of xs))
    (first-in c.args.dots.now d c.in-len1-up.len_at_least c.dot-item.is)
    (first-in c.args.columns.now x c.in-len1-up-columns.len_at_least c.column-item.is)
    ∙ one-dot (globals_of c.args.self.now) l (dot_of d) _ (column_of x) _ in
    let r = c.dots_agree.result in
    same E N _ _ (λ u. u) r all
    (tail _ _ _ _ (λ u. u) r c.in_ok-found.ensures.gives
    (tail _ _ _ _ (λ u. u) r c.in_ok-agrees.ensures c.dots_agree.ensures))
