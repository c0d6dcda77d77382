-- Constructors and actions by the two lists of components that the code has of them.
use Rattle.std.specs.Prelude.{ℕ, List, length, Bool, ◌&&◌, eqb}
use Rattle.qtt_base.specs.declared.place.GlobalId.{GlobalId}
use Rattle.qtt_term.specs.declared.term.Term as code
use Rattle.qtt_term.specs.Term.{Action, Form, Term, node, ◌+++◌, Act}
use Rattle.qtt_term.specs.Signature.{type_arguments, act_signature}
use Rattle.qtt_term.specs.View.{terms, side_by_side}

-- parameters, and then fields
abbrev pub con_parts : GlobalId → ℕ → List code.Term → List code.Term → Term
con_parts f c ts ss = node (Form.con f c (length (terms ts))) (side_by_side (terms ts) +++ side_by_side (terms ss))

-- type arguments, and then arguments
abbrev pub act_parts : Action → List code.Term → List code.Term → Term
act_parts a ts ss = Act a (length (terms ts)) (side_by_side (terms ts) +++ side_by_side (terms ss))

-- an action's own number of type arguments, and as many components in all as its signature has
abbrev pub act_shaped : Action → ℕ → ℕ → Bool
act_shaped a k n = eqb k (type_arguments a) && eqb n (length (act_signature a).arguments)
