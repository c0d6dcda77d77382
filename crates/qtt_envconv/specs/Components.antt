-- The components of a term, each with the number of binders under which it stands.
use Rattle.std.specs.Prelude.{ℕ, List, [], ◌∷◌, map}
use Rattle.qtt_term.specs.declared.term.Term as code
use Rattle.qtt_term.specs.Term.{Term, Terms, var, node, ε, ◌▸◌, binders, first, rest}
use Rattle.qtt_term.specs.Substitution.{sub, lifts}
use Rattle.qtt_term.specs.View.{term}
use Rattle.qtt_envconv.specs.declared.components.Component.{Component}

abbrev pub with_binders : List ℕ → Terms → List (ℕ × Term)
with_binders ns ε = []
with_binders ns (t ▸ ts) = (first ns, t) ∷ with_binders (rest ns) ts

abbrev pub component_list : Term → List (ℕ × Term)
component_list (var i) = []
component_list (node F ts) = with_binders (binders F) ts

-- components under no binder
abbrev pub plain : List code.Term → List (ℕ × Term)
plain = map (λ t. (0, term t))

abbrev pub seen : Component → ℕ × Term
seen c = (c.binders, term c.code.now)

-- a component where the free variables of the whole stand for σ
abbrev pub component_in : (ℕ → Term) → ℕ × Term → Term
component_in σ c = sub (lifts c.0 σ) c.1
