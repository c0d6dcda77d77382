-- Terms opened.
use Rattle.std.proofs.Common.{◌≡◌, ℕ, List, [], ◌∷◌, ◌++◌, map, Some, refl, sym, ap, ◌∙◌}
use mathlib.Core.Path.{ap₂}
use Rattle.std.proofs.lemmas.List.{map_push}
use Rattle.qtt_term.specs.Term.{Term, Terms, var, node, ε, ◌▸◌, binders, first, rest}
use Rattle.qtt_term.specs.Substitution.{sub, subs, lifts}
use Rattle.qtt_term.specs.View.{side_by_side}
use Rattle.qtt_envconv.specs.declared.components.Component.{Component}
use Rattle.qtt_envconv.specs.declared.node.Node as node_code
use Rattle.qtt_envconv.specs.declared.shape.Shape.{Shape}
use Rattle.qtt_envconv.specs.Components.{component_in, component_list, seen, with_binders}
use Rattle.qtt_envconv.specs.Nodes.{nodes}
use Rattle.qtt_envconv.specs.Nodes as n
use Rattle.qtt_envconv.specs.Shapes.{form, HasShape}

-- the components where the free variables of the whole stand for σ
substituted : (ns : List ℕ) (σ : ℕ → Term) (ts : Terms) →
    side_by_side (map (component_in σ) (with_binders ns ts)) ≡ subs ns σ ts
substituted ns σ ε = refl
substituted ns σ (t ▸ ts) = ap (λ ss. sub (lifts (first ns) σ) t ▸ ss) (substituted (rest ns) σ ts)

pub opened-means : (t : Term) (σ : ℕ → Term) (s : Shape) (ns : List node_code.Node) → HasShape t (Some s) →
    nodes ns ≡ map (component_in σ) (component_list t) → node (form s) (side_by_side (nodes ns)) ≡ sub σ t
opened-means (var i) σ s ns h e = absurd (cc h)
opened-means (node F ts) σ s ns h e =
    ap₂ node h (ap side_by_side e ∙ substituted (binders F) σ ts)

-- one component more
pub parts-go : (σ : ℕ → Term) (before after : List node_code.Node) (m : node_code.Node) (cs : List Component)
    (c : Component) → nodes before ≡ map (component_in σ) (map seen cs) → after ≡ before ++ m ∷ [] →
    n.node m ≡ component_in σ (seen c) → nodes after ≡ map (component_in σ) (map seen (cs ++ c ∷ []))
parts-go σ before after m cs c so_far is means =
    ap nodes is ∙ map_push n.node before m ∙ ap₂ (λ ts t. ts ++ t ∷ []) so_far means
    ∙ sym (ap (map (component_in σ)) (map_push seen cs c) ∙ map_push (component_in σ) (map seen cs) (seen c))
