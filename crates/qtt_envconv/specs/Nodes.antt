-- What the terms of questions are.
use Rattle.std.specs.Prelude.{◌≡◌, ℕ, zero, suc, List, [], ◌∷◌, map, None}
use Rattle.qtt_prims.specs.declared.lit.Lit.{Lit}
use Rattle.qtt_term.specs.Term.{Term, Terms, var, ε, ◌▸◌}
use Rattle.qtt_term.specs.Term as t
use Rattle.qtt_term.specs.Signature.{Env}
use Rattle.qtt_term.specs.Contraction.{literal_term}
use Rattle.qtt_term.specs.Question.{head_step}
use Rattle.qtt_envconv.specs.declared.node.Node as node_code
use Rattle.qtt_envconv.specs.declared.node.Node.TheVariants as code
use Rattle.qtt_envconv.specs.declared.node.Stopped.{Stopped}
use Rattle.qtt_envconv.specs.Closures.{closure}
use Rattle.qtt_envconv.specs.Shapes.{literal}

-- a term in the place of component k
abbrev pub put : ℕ → Term → Terms → Terms
put k s ε = ε
put zero s (t ▸ ts) = s ▸ ts
put (suc k) s (t ▸ ts) = t ▸ put k s ts

-- literals in the place of the first components
abbrev pub over : List Lit → Terms → Terms
over [] ts = ts
over (l ∷ ls) ε = ε
over (l ∷ ls) (t ▸ ts) = literal_term l ▸ over ls ts

abbrev pub put_in : ℕ → Term → Term → Term
put_in k s (var i) = var i
put_in k s (t.node F ts) = t.node F (put k s ts)

abbrev pub over_in : List Lit → Term → Term
over_in ls (var i) = var i
over_in ls (t.node F ts) = t.node F (over ls ts)

abbrev pub node : node_code.Node → Term
node (code.Variable i) = var i
node (code.Literal l) = literal_term (literal l)
node (code.Closure c) = closure c
node (code.Stopped' c ls k p s) = put_in k (node s) (over_in (map literal ls.now) (closure c))

abbrev pub stopped : Stopped → Term
stopped s = put_in s.place (node s.inner.now) (over_in (map literal s.literals.now) (closure s.closure))

abbrev pub nodes : List node_code.Node → List Term
nodes = map node

-- what stopped is a head, and so is the component at which it stopped
abbrev pub IsReady : Env → node_code.Node → Type 0
IsReady E (code.Stopped' c ls k p s) =
    (head_step E (put_in k (node s) (over_in (map literal ls.now) (closure c))) ≡ None) × IsReady E s
IsReady E (code.Literal l) = Unit {0}
IsReady E (code.Variable i) = Unit {0}
IsReady E (code.Closure c) = Unit {0}

abbrev pub AreReady : Env → List node_code.Node → Type 0
AreReady E [] = Unit {0}
AreReady E (n ∷ ns) = IsReady E n × AreReady E ns
