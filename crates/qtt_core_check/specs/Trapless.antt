-- Terms in which no Trap stands.
use Rattle.qtt_term.specs.Term.{Form, Term, Terms, var, node, ε, ◌▸◌}

abbrev pub IsTrap : Form → Type 0
IsTrap Form.trap = Unit {0}
IsTrap _ = ⊥

abbrev mutual
  pub NoTrap : Term → Type 0
  NoTrap (var i) = Unit {0}
  NoTrap (node F ts) = (IsTrap F → ⊥) × NoTraps ts

  pub NoTraps : Terms → Type 0
  NoTraps ε = Unit {0}
  NoTraps (t ▸ ts) = NoTrap t × NoTraps ts
