-- What the walk answers at each form, from what it answers at the form's parts.
use Rattle.std.proofs.Common.{◌≡◌, refl, ℕ}
use Rattle.qtt_base.specs.declared.place.Span.{Span}
use Rattle.qtt_syntax.specs.Tree.{Arguments}
use Rattle.qtt_syntax.specs.Tree.Tree.{apply}
use Rattle.qtt_implicit.specs.Filling.{done, goes_on, ◌>>=◌}
use Rattle.qtt_implicit.specs.Known.{Known}
use Rattle.qtt_implicit.specs.Nodes.{node_tree}
use Rattle.qtt_implicit.specs.Walk.{Types, plainly_applied, walk, walk_arguments}
use Rattle.qtt_implicit.specs.declared.filling.trees.Node.{Node}
use Rattle.qtt_implicit.specs.declared.filling.trees.Node.TheVariants as code

-- an application of what is no name
pub function_walked : (K : Known) (Γ : Types) (f : Node) (xs : Arguments) (s : Span) (left : ℕ) →
    ((n : _) → f ≡ code.Name n → ⊥) →
    walk K Γ (apply (node_tree f) xs s) left ≡
    goes_on (walk K Γ (node_tree f) left) (λ f'. walk_arguments K Γ xs >>= λ xs'.
    done (plainly_applied f'.tree f'.type xs' s))
unfolding ◌>>=◌
function_walked K Γ (code.Unknown p) xs s left other = refl
function_walked K Γ (code.Name n) xs s left other = absurd (other n refl)
function_walked K Γ (code.Number z p) xs s left other = refl
function_walked K Γ (code.Text v p) xs s left other = refl
function_walked K Γ (code.Type l ls p) xs s left other = refl
function_walked K Γ (code.Hole n p) xs s left other = refl
function_walked K Γ (code.The' p t q e r) xs s left other = refl
function_walked K Γ (code.Apply' p f q ys r) xs s left other = refl
function_walked K Γ (code.Pi' k m n p a q b r) xs s left other = refl
function_walked K Γ (code.Lambda' p bs q b r) xs s left other = refl
function_walked K Γ (code.Let' m n t p e q b r) xs s left other = refl
function_walked K Γ (code.Do' p ss r) xs s left other = refl
