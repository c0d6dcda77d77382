-- What stands for a node's variables in a branch of a split: for the split variable its constructor of the fields, for
-- a solved one its solution, for a reverted one its new binder, and for each other itself.
use Rattle.std.specs.Prelude.{ℕ, zero, suc, Bool, ◌&&◌, ◌||◌, not, cond, eqb, List, [], ◌∷◌, ◌++◌, length, map, reverse, Option, None}
use Rattle.std.specs.List.{list_any}
use Rattle.qtt_usage.specs.declared.mult.Mult.{Mult}
use Rattle.qtt_term.specs.declared.term.ConId.{ConId}
use Rattle.qtt_term.specs.Term.{Form, Term, Terms, var, node, size, ◌+++◌}
use Rattle.qtt_term.specs.Substitution.{ren, rens, sub, shift, above}
use Rattle.qtt_term.specs.Signature.{Tele}
use Rattle.qtt_term.specs.Judgement.{Ctx, mult_at, type_at, ext}
use Rattle.qtt_term.specs.Reading.{mentions}
use Rattle.qtt_unify.specs.Targets.{is_linear}
use Rattle.qtt_split.specs.Seen.{Seen, Sights, all_seen_by, seen_deeper}
use Rattle.qtt_split.specs.Node.{Column, Row, Node, column}

-- ---- which variables are reverted
abbrev pub is_among : ℕ → List ℕ → Bool
is_among i xs = list_any (eqb i) xs

abbrev pub mentions_some : List ℕ → Term → Bool
mentions_some xs t = list_any (λ i. mentions i t) xs

-- Of variables in context order, but for those that stay: each that is linear, or whose type mentions one of `touched`;
-- these are the split variable, what is solved, and what was reverted before.
abbrev pub reverted : Ctx → List ℕ → List ℕ → List ℕ → List (Mult × ℕ)
reverted Γ stay touched [] = []
reverted Γ stay touched (v ∷ vs) =
    cond (not (is_among v stay) && (is_linear (mult_at Γ v) || mentions_some touched (type_at Γ v)))
    ((mult_at Γ v, v) ∷ reverted Γ stay (v ∷ touched) vs)
    (reverted Γ stay touched vs)

-- ---- what stands for variables: terms, or what was seen
abbrev pub put : {A : Type 0} → ℕ → A → (ℕ → A) → ℕ → A
put x a δ i = cond (eqb i x) a (δ i)

abbrev pub put_all : {A : Type 0} → List (ℕ × A) → (ℕ → A) → ℕ → A
put_all [] δ = δ
put_all (e ∷ s) δ = put e.0 e.1 (put_all s δ)

-- behind the new binders of the reverted variables; `new` is the newest binder, and `deeper` moves under one binder
-- more
abbrev pub rebound : {A : Type 0} → A → (A → A) → List (Mult × ℕ) → (ℕ → A) → ℕ → A
rebound new deeper [] δ = δ
rebound new deeper (b ∷ rs) δ = rebound new deeper rs (put b.1 new (λ i. deeper (δ i)))

-- ---- terms
-- under n binders more
abbrev pub raised : ℕ → Terms → Terms
raised n ts = rens [] (shift n) ts

-- constructor c with these parameters, under n fields, which are its fields
abbrev pub made : ConId → Terms → ℕ → Term
made c ps n = node (Form.con c.family c.place (size ps)) (raised n ps +++ above 0 n)

-- under n fields, where x is the constructor con and s is solved
abbrev pub stands : ℕ → Term → List (ℕ × Term) → ℕ → ℕ → Term
stands x con s n = put x con (put_all s (λ i. var (shift n i)))

abbrev pub bound_again : List (Mult × ℕ) → (ℕ → Term) → ℕ → Term
bound_again rs δ = rebound (var 0) (ren suc) rs δ

-- the new binders
abbrev pub again : Ctx → List (Mult × ℕ) → (ℕ → Term) → Tele
again Γ [] δ = []
again Γ (b ∷ rs) δ = (b.0, sub δ (type_at Γ b.1)) ∷ again Γ rs (put b.1 (var 0) (λ i. ren suc (δ i)))

-- ---- what was seen
-- the newest n variables
abbrev pub field_sights : ℕ → Sights
field_sights zero = Sights.no_sight
field_sights (suc n) = Sights.sight_and (Seen.open_at n) (field_sights n)

abbrev pub solved_sights : List (ℕ × Term) → List (ℕ × Seen)
solved_sights s = map (λ e. (e.0, Seen.by_equation e.1)) s

abbrev pub seen_as : ℕ → ConId → List (ℕ × Term) → ℕ → ℕ → Seen
seen_as x c s n = put x (Seen.made_of c (field_sights n)) (put_all (solved_sights s) (λ i. Seen.open_at (shift n i)))

-- ---- the names for which variables were bound
abbrev pub label_at : List (Option (List ℕ)) → ℕ → Option (List ℕ)
label_at [] i = None
label_at (l ∷ ls) zero = l
label_at (l ∷ ls) (suc i) = label_at ls i

-- a reverted variable is known by the name of the one for which it was bound
abbrev pub reverted_labels : List (Option (List ℕ)) → List (Mult × ℕ) → List (Option (List ℕ))
reverted_labels ls rs = map (λ b. label_at ls b.1) rs

-- ---- the node of a branch
abbrev pub moved_column : (ℕ → Term) → Column → Column
moved_column δ c = column c.pattern (sub δ c.term) (sub δ c.type)

abbrev pub moved_row : (ℕ → Term) → Row → Row
moved_row δ r = record { clause = r.clause; columns = map (moved_column δ) r.columns }

-- under these fields with these names, where x is constructor c, as the term con, s is solved, and rs are reverted
abbrev pub branch_node : Node → Tele → List (Option (List ℕ)) → ℕ → ConId → Term → List (ℕ × Term) → List (Mult × ℕ) →
    Node
branch_node N Θ names x c con s rs =
    let n = length Θ in
    let δ = stands x con s n in
    record {
      context = ext (ext N.context Θ) (again N.context rs δ);
      labels = reverse (reverted_labels N.labels rs) ++ (reverse names ++ N.labels);
      seen = all_seen_by (rebound (Seen.open_at 0) seen_deeper rs (seen_as x c s n)) (bound_again rs δ) N.seen;
      goal = sub (bound_again rs δ) N.goal;
      rows = map (moved_row (bound_again rs δ)) N.rows;
    }
