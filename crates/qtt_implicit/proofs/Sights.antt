-- What the walk over patterns answers, among equal columns; and equal patterns as they are seen.
use Rattle.std.proofs.Common.{◌≡◌, ◌∙◌, ap, sym, subst, ℕ, List, Result}
use mathlib.Core.Path.{ap₂}
use Rattle.qtt_syntax.specs.Tree.{Tree, Shape, Shapes}
use Rattle.qtt_implicit.specs.Filling.{Stop}
use Rattle.qtt_implicit.specs.Known.{Known}
use Rattle.qtt_implicit.specs.Meeting.{IsStop}
use Rattle.qtt_implicit.specs.Patterns.{AllSeen, Columns, Met, Seen, walk_shape, walk_shapes}
use Rattle.qtt_implicit.specs.Walk.{Types, walk}
use Rattle.qtt_implicit.specs.declared.filling.stop.Stop as stop_code

abbrev pub seen : Shape → Tree → Met → Seen
seen p t v = record { shape = p; tree = t; met = v }

abbrev pub all_seen : Shapes → List Tree → Met → AllSeen
all_seen ps ts v = record { shapes = ps; trees = ts; met = v }

pub same_seen : (p q : Shape) (t u : Tree) (v w : Met) → p ≡ q → t ≡ u → v ≡ w → seen p t v ≡ seen q u w
same_seen p q t u v w e f g = ap₂ (λ a b. seen a b v) e f ∙ ap (seen q u) g

pub all_same_seen : (p q : Shapes) (t u : List Tree) (v w : Met) → p ≡ q → t ≡ u → v ≡ w →
    all_seen p t v ≡ all_seen q u w
all_same_seen p q t u v w e f g = ap₂ (λ a b. all_seen a b v) e f ∙ ap (all_seen q u) g

pub shape_at : (K : Known) (v : Met) (p : Shape) (l : ℕ) {T U : Tree} {r : Result (Seen × ℕ) Stop} → T ≡ U →
    walk_shape K v T p l ≡ r → walk_shape K v U p l ≡ r
shape_at K v p l e h = ap (λ (t : Tree). walk_shape K v t p l) (sym e) ∙ h

pub shape_stops_at : (x : stop_code.Stop) (K : Known) (v : Met) (p : Shape) (l : ℕ) {T U : Tree} → T ≡ U →
    IsStop x (walk_shape K v T p l) → IsStop x (walk_shape K v U p l)
shape_stops_at x K v p l e h = subst (λ (t : Tree). IsStop x (walk_shape K v t p l)) e h

pub shapes_at : (K : Known) (v : Met) (ps : Shapes) (l : ℕ) {cs ds : Columns} {r : Result (AllSeen × ℕ) Stop} →
    cs ≡ ds → walk_shapes K v cs ps l ≡ r → walk_shapes K v ds ps l ≡ r
shapes_at K v ps l e h = ap (λ (c : Columns). walk_shapes K v c ps l) (sym e) ∙ h

pub shapes_stop_at : (x : stop_code.Stop) (K : Known) (v : Met) (ps : Shapes) (l : ℕ) {cs ds : Columns} → cs ≡ ds →
    IsStop x (walk_shapes K v cs ps l) → IsStop x (walk_shapes K v ds ps l)
shapes_stop_at x K v ps l e h = subst (λ (c : Columns). IsStop x (walk_shapes K v c ps l)) e h

-- the same walk, of equal parts
pub same_shapes : (K : Known) (l : ℕ) {v w : Met} {cs ds : Columns} {ps qs : Shapes} → v ≡ w → cs ≡ ds → ps ≡ qs →
    walk_shapes K v cs ps l ≡ walk_shapes K w ds qs l
same_shapes K l {v} {w} {cs} {ds} {ps} {qs} e f g =
    ap₂ (λ (u : Met) (c : Columns). walk_shapes K u c ps l) e f ∙ ap (λ (r : Shapes). walk_shapes K w ds r l) g

pub same_walk : (K : Known) (l : ℕ) {Γ Δ : Types} {t u : Tree} → Γ ≡ Δ → t ≡ u → walk K Γ t l ≡ walk K Δ u l
same_walk K l e f = ap₂ (λ (g : Types) (t : Tree). walk K g t l) e f

pub same_walk_of : (t : Tree) (l : ℕ) {K L : Known} {Γ Δ : Types} → K ≡ L → Γ ≡ Δ → walk K Γ t l ≡ walk L Δ t l
same_walk_of t l e f = ap₂ (λ (k : Known) (g : Types). walk k g t l) e f
