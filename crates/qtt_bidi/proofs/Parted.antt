-- Constructors and actions by the two lists of components that the code has of them.
use Rattle.std.proofs.Common.{◌≡◌, ◌++◌, length, Vec, Global, sym, ap, ◌∙◌, rules}
use Rattle.std.proofs.lemmas.List.{length-map, map-append}
use Rattle.std.proofs.lemmas.Grind.{common_steps}
use mathlib.Core.Path.{ap₂}
use Rattle.qtt_prims.specs.declared.prim.ActKind.{ActKind}
use Rattle.qtt_term.specs.declared.term.ConId.{ConId}
use Rattle.qtt_term.specs.declared.term.Term as code
use Rattle.qtt_term.specs.declared.term.Term.{the_lemmas}
use Rattle.qtt_term.specs.declared.term.Term.TheVariants as form
use Rattle.qtt_term.specs.Term.{Form, node, Act}
use Rattle.qtt_term.specs.View.{action, term, terms, side_by_side}
use Rattle.qtt_term.proofs.Binders.{side-joined}
use Rattle.qtt_core_check.specs.TwoLists.{con_parts, act_parts}

pub con-joined : (c : ConId) (ps fs : Vec code.Term Global) →
    term (form.Con c ps fs) ≡ node (Form.con c.family c.place (length ps.items))
    (side_by_side (terms (ps.items ++ fs.items)))
con-joined c ps fs =
    let s : term (form.Con c ps fs) ≡ con_parts c.family c.place ps.items fs.items = search (rules, the_lemmas) in
    s ∙ ap₂ (λ n ts. node (Form.con c.family c.place n) ts) (length-map ps.items term)
    (sym (side-joined (terms ps.items) (terms fs.items)) ∙ ap side_by_side (sym (map-append term ps.items fs.items)))

pub act-joined : (k : ActKind) (ts xs : Vec code.Term Global) →
    term (form.Act k ts xs) ≡ Act (action k) (length ts.items) (side_by_side (terms (ts.items ++ xs.items)))
act-joined k ts xs =
    let s : term (form.Act k ts xs) ≡ act_parts (action k) ts.items xs.items = search (rules, the_lemmas) in
    s ∙ ap₂ (λ n cs. Act (action k) n cs) (length-map ts.items term)
    (sym (side-joined (terms ts.items) (terms xs.items)) ∙ ap side_by_side (sym (map-append term ts.items xs.items)))

pub ruleset joined = (common_steps, con-joined, act-joined)
