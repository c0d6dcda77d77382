-- Marks of the components of a term.
use Rattle.std.proofs.Common.{◌≡◌, ℕ, zero, suc, ◌+◌, ◌-◌, ◌<◌, ◌≤◌, List, [], ◌∷◌, ◌++◌, Bool, true, false, ◌||◌, length, map, set, refl, sym, ◌∙◌, ap, arith, ◌⊎◌, inl, inr}
use mathlib.Core.Path.{ap₂}
use Rattle.std.proofs.Math.ListN.{replicate}
use Rattle.std.proofs.lemmas.Bool.{eq-eqb, ne_eqb}
use Rattle.std.proofs.lemmas.Grind.{common_steps}
use Rattle.qtt_prims.specs.declared.prim.Primitive.{Primitive}
use Rattle.qtt_term.specs.Term.{Action, first, rest}
use Rattle.qtt_term.specs.Substitution.{shift}
use Rattle.qtt_erase.specs.declared.lean.Lean as lean_lemmas
use Rattle.qtt_erase.specs.Binding.{Tree, ∅, ◌◂◌, ◌◂◂◌}
use Rattle.qtt_erase.specs.Operator.{Operator, App, Force, Con, Call, Act}
use Rattle.qtt_erase.specs.Lean.{Abstraction, Lean, Leans, Fun, Thunk, binders}
use Rattle.qtt_erase.specs.Erasure.{Slots}
use Rattle.qtt_erase.specs.View.{side_by_side}
use Rattle.qtt_closure.specs.Conversion.{mentions, any_mentions, captures}
use Rattle.qtt_closure.specs.Marks.{marked, all_marked, branches_marked}
use Rattle.qtt_closure.specs.Scopes.{slot_list}
use Rattle.qtt_closure.proofs.Starting.{shifted, shift-suc}

pub or-false : (a : Bool) → (a || false) ≡ a
or-false true = refl
or-false false = refl

or-true : (a : Bool) → (a || true) ≡ true
or-true true = refl
or-true false = refl

or-assoc : (a b c : Bool) → ((a || b) || c) ≡ (a || (b || c))
or-assoc true b c = refl
or-assoc false b c = refl

-- the marks of the variables from number i on, and besides of those that components mention
abbrev components_marked : List ℕ → ℕ → Leans → List Bool → List Bool
components_marked ns i ts [] = []
components_marked ns i ts (m ∷ ms) = (m || any_mentions ns i ts) ∷ components_marked ns (suc i) ts ms

node-marked : (F : Operator Abstraction) (ts : Leans) (i : ℕ) (ms : List Bool) →
    marked i (Tree.node F ts) ms ≡ components_marked (binders F) i ts ms
node-marked F ts i [] = refl
node-marked F ts i (m ∷ ms) = ap (λ ks. (m || any_mentions (binders F) i ts) ∷ ks) (node-marked F ts (suc i) ms)

none-marked : (ns : List ℕ) (i : ℕ) (ms : List Bool) → components_marked ns i ∅ ms ≡ ms
none-marked ns i [] = refl
none-marked ns i (m ∷ ms) = ap₂ ◌∷◌ (or-false m) (none-marked ns (suc i) ms)

more-marked : (ns : List ℕ) (i : ℕ) (t : Lean) (ts : Leans) (ms : List Bool) →
    components_marked ns i (t ◂ ts) ms ≡ components_marked (rest ns) i ts (marked (shift (first ns) i) t ms)
more-marked ns i t ts [] = refl
more-marked ns i t ts (m ∷ ms) =
    ap₂ ◌∷◌ (sym (or-assoc m (mentions (shift (first ns) i) t) (any_mentions (rest ns) i ts)))
    (more-marked ns (suc i) t ts ms ∙ ap (λ j. components_marked (rest ns) (suc i) ts (marked j t ms))
    (sym (shift-suc (first ns) i)))

list-marked : (ts : List Lean) (i : ℕ) (ms : List Bool) →
    components_marked [] i (side_by_side ts) ms ≡ all_marked i ts ms
list-marked [] i ms = none-marked [] i ms
list-marked (t ∷ ts) i ms = more-marked [] i t (side_by_side ts) ms ∙ list-marked ts i (marked i t ms)

branches-marked : (bs : List (ℕ × Lean)) (s : Lean) (i : ℕ) (ms : List Bool) →
    components_marked (map (λ b. b.0) bs) i (side_by_side (map (λ b. b.1) bs) ◂◂ s ◂ ∅) ms ≡ marked i s
    (branches_marked i bs ms)
branches-marked [] s i ms = more-marked [] i s ∅ ms ∙ none-marked [] i (marked i s ms)
branches-marked (b ∷ bs) s i ms =
    let e : shift b.0 i ≡ i + b.0 = let p = shifted b.0 i in omega arith in
    more-marked (b.0 ∷ map (λ b. b.0) bs) i b.1 (side_by_side (map (λ b. b.1) bs) ◂◂ s ◂ ∅) ms
    ∙ ap (λ j. components_marked (map (λ b. b.0) bs) i (side_by_side (map (λ b. b.1) bs) ◂◂ s ◂ ∅) (marked j b.1 ms)) e
    ∙ branches-marked bs s i (marked (i + b.0) b.1 ms)

-- ---- the forms
pub leaf_marked : (F : Operator Abstraction) (i : ℕ) (ms : List Bool) → marked i (Tree.node F ∅) ms ≡ ms
leaf_marked F i ms = node-marked F ∅ i ms ∙ none-marked (binders F) i ms

pub fun_marked : (i : ℕ) (b : Lean) (ms : List Bool) → marked i (Fun b) ms ≡ marked (i + 1) b ms
fun_marked i b ms =
    let e : suc i ≡ i + 1 = omega arith in
    node-marked (Operator.function Abstraction.fun) (b ◂ ∅) i ms ∙ more-marked (1 ∷ []) i b ∅ ms ∙
    none-marked [] i (marked (suc i) b ms) ∙ ap (λ j. marked j b ms) e

pub thunk_marked : (i : ℕ) (b : Lean) (ms : List Bool) → marked i (Thunk b) ms ≡ marked i b ms
thunk_marked i b ms = node-marked (Operator.function Abstraction.thunk) (b ◂ ∅) i ms ∙ more-marked
    (0 ∷ []) i b ∅ ms ∙ none-marked [] i (marked i b ms)

pub app_marked : (i : ℕ) (f a : Lean) (ms : List Bool) → marked i (App f a) ms ≡ marked i a (marked i f ms)
app_marked i f a ms =
    node-marked Operator.app (f ◂ a ◂ ∅) i ms ∙ more-marked [] i f (a ◂ ∅) ms ∙ more-marked [] i a ∅
    (marked i f ms) ∙ none-marked [] i (marked i a (marked i f ms))

pub force_marked : (i : ℕ) (f : Lean) (ms : List Bool) → marked i (Force f) ms ≡ marked i f ms
force_marked i f ms = node-marked Operator.force (f ◂ ∅) i ms ∙ more-marked [] i f ∅ ms ∙ none-marked [] i
    (marked i f ms)

pub con_marked : (i c : ℕ) (ts : List Lean) (ms : List Bool) →
    marked i (Con c (side_by_side ts)) ms ≡ all_marked i ts ms
con_marked i c ts ms = node-marked (Operator.con c) (side_by_side ts) i ms ∙ list-marked ts i ms

pub call_marked : (i : ℕ) (p : Primitive) (ts : List Lean) (ms : List Bool) →
    marked i (Call p (side_by_side ts)) ms ≡ all_marked i ts ms
call_marked i p ts ms = node-marked (Operator.prim p) (side_by_side ts) i ms ∙ list-marked ts i ms

pub act_marked : (i : ℕ) (a : Action) (ts : List Lean) (ms : List Bool) →
    marked i (Act a (side_by_side ts)) ms ≡ all_marked i ts ms
act_marked i a ts ms = node-marked (Operator.act a) (side_by_side ts) i ms ∙ list-marked ts i ms

pub case_marked : (i : ℕ) (bs : List (ℕ × Lean)) (s : Lean) (ms : List Bool) →
    marked i (Tree.node (Operator.case (map (λ b. b.0) bs)) (side_by_side (map (λ b. b.1) bs) ◂◂ s ◂ ∅)) ms ≡
    marked i s (branches_marked i bs ms)
case_marked i bs s ms =
    node-marked (Operator.case (map (λ b. b.0) bs)) (side_by_side (map (λ b. b.1) bs) ◂◂ s ◂ ∅) i ms ∙
    branches-marked bs s i ms

-- ---- a variable
unmarked : (ms : List Bool) (i j : ℕ) → ((k : ℕ) → k < length ms → i + k ≡ j → ⊥) → marked i (Tree.var j) ms ≡ ms
unmarked [] i j h = refl
unmarked (m ∷ ms) i j h =
    ap₂ ◌∷◌ (ap (λ b. m || b) (ne_eqb i j (λ e. h 0 (omega arith) (omega arith))) ∙ or-false m)
    (unmarked ms (suc i) j (λ k p e. h (suc k) (omega arith) (omega arith)))

pub variable_apart : (ms : List Bool) (i j : ℕ) → (j < i) ⊎ (length ms ≤ j - i) → marked i (Tree.var j) ms ≡ ms
variable_apart ms i j (inl h) = unmarked ms i j (λ k p e. omega arith)
variable_apart ms i j (inr h) = unmarked ms i j (λ k p e. omega arith)

marked_at : (ms : List Bool) (i k : ℕ) → k < length ms → marked i (Tree.var (i + k)) ms ≡ set ms k true
marked_at [] i k h = absurd (omega arith)
marked_at (m ∷ ms) i zero h =
    ap₂ ◌∷◌ (ap (λ b. m || b) (eq-eqb i (i + 0) (omega arith)) ∙ or-true m)
    (unmarked ms (suc i) (i + 0) (λ k p e. omega arith))
marked_at (m ∷ ms) i (suc k) h =
    let e : i + suc k ≡ suc i + k = omega arith in
    ap₂ ◌∷◌ (ap (λ b. m || b) (ne_eqb i (i + suc k) (λ e. omega arith)) ∙ or-false m)
    (ap (λ j. marked (suc i) (Tree.var j) ms) e ∙ marked_at ms (suc i) k (omega arith))

pub variable_marked : (ms : List Bool) (i j : ℕ) → i ≤ j → j - i < length ms →
    marked i (Tree.var j) ms ≡ set ms (j - i) true
variable_marked ms i j h p =
    let e : j ≡ i + (j - i) = omega arith in
    ap (λ k. marked i (Tree.var k) ms) e ∙ marked_at ms i (j - i) p

-- ---- marks of all variables in scope
pub captures_marked : (Γ : Slots) (t : Lean) (i : ℕ) →
    slot_list (marked i t (replicate (length Γ) false)) ≡ captures i t Γ
captures_marked [] t i = refl
captures_marked (s ∷ Γ) t i = ap (λ Δ. slot_list (mentions i t ∷ []) ++ Δ) (captures_marked Γ t (suc i))

-- what the functions that mark want
pub ruleset markings = (
  lean_lemmas.the_lemmas,
  common_steps,
  leaf_marked,
  fun_marked,
  thunk_marked,
  app_marked,
  force_marked,
  con_marked,
  call_marked,
  act_marked,
  case_marked,
)
