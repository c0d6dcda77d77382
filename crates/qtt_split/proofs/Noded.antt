-- The node of a branch, part by part.
use Rattle.std.proofs.Common.{◌≡◌, ◌∙◌, ℕ, ◌-◌, ◌≤◌, List, [], ◌∷◌, ◌++◌, Option, Bor, length, map, min, reverse, take, drop, refl, sym, ap, arith, append_assoc}
use Rattle.std.proofs.lemmas.List.{length-map, length-drop, map-append, reverse-append, take-append-le, take_all, drop_min}
use mathlib.Core.Path.{fun_ext}
use Rattle.std.specs.Option.{option_copied}
use Rattle.qtt_usage.specs.declared.mult.Mult.{Mult}
use Rattle.qtt_term.specs.declared.term.Term as code
use Rattle.qtt_term.specs.Judgement.{Ctx, ext}
use Rattle.qtt_term.specs.Signature.{Tele}
use Rattle.qtt_term.specs.Substitution.{sub}
use Rattle.qtt_term.specs.Telescopes.{tele}
use Rattle.qtt_term.specs.Term.{Term}
use Rattle.qtt_term.specs.View.{term}
use Rattle.qtt_unify.specs.View.{binders, solution}
use Rattle.qtt_split.specs.declared.node.Entry.{Entry}
use Rattle.qtt_split.specs.declared.node.Node as code_node
use Rattle.qtt_split.specs.Branch.{again, bound_again, moved_row, rebound, seen_as, stands}
use Rattle.qtt_split.specs.Columns.{row_of}
use Rattle.qtt_split.specs.Labels.{labels_of, newest_labels}
use Rattle.qtt_split.specs.Node.{Node, Row}
use Rattle.qtt_split.specs.Nodes.{labels_entered, node_in, again_in}
use Rattle.qtt_split.specs.Seen.{Seen, Sights, all_seen_by, seen_deeper}
use Rattle.qtt_split.specs.Sights.{sights_of}

-- ---- contexts
ext-reverse : (Γ : Ctx) (Θ : Tele) → ext Γ Θ ≡ reverse Θ ++ Γ
ext-reverse Γ [] = refl
ext-reverse Γ (b ∷ Θ) =
    ext-reverse (b ∷ Γ) Θ ∙ sym (append_assoc (reverse Θ) (b ∷ []) Γ) ∙
    ap (λ xs. xs ++ Γ) (sym (reverse-append (b ∷ []) Θ))

pub binders-more : (bs cs : List (Mult × code.Term)) → binders (bs ++ cs) ≡ ext (binders bs) (tele cs)
binders-more bs cs =
    ap reverse (map-append (λ (b : Mult × code.Term). (b.0, term b.1)) bs cs) ∙ reverse-append (tele bs) (tele cs) ∙
    sym (ext-reverse (binders bs) (tele cs))

pub extended-is : (all a f g context fields bound : List (Mult × code.Term)) → all ≡ (a ++ f) ++ g →
    tele a ≡ tele context → tele f ≡ tele fields → tele g ≡ tele bound →
    binders all ≡ ext (ext (binders context) (tele fields)) (tele bound)
extended-is all a f g context fields bound e p q r =
    ap binders e ∙ binders-more (a ++ f) g ∙ ap (λ Γ. ext Γ (tele g)) (binders-more a f) ∙
    ap (λ Θ. ext (ext (reverse Θ) (tele f)) (tele g)) p ∙
    ap (λ Θ. ext (ext (binders context) Θ) (tele g)) q ∙
    ap (λ Θ. ext (ext (binders context) (tele fields)) Θ) r

-- ---- labels
pub labels-joined : (all old names bound : List (Option (Bor (List ℕ)))) (ls : List (Option (List ℕ))) →
    all ≡ (old ++ names) ++ bound → labels_of bound ≡ ls →
    newest_labels all ≡ reverse ls ++ (reverse (labels_of names) ++ newest_labels old)
labels-joined all old names bound ls e d =
    ap newest_labels e ∙
    ap reverse (map-append option_copied (old ++ names) bound) ∙
    reverse-append (labels_of (old ++ names)) (labels_of bound) ∙
    ap (λ xs. reverse (labels_of bound) ++ reverse xs) (map-append option_copied old names) ∙
    ap (λ xs. reverse (labels_of bound) ++ xs) (reverse-append (labels_of old) (labels_of names)) ∙
    ap (λ xs. reverse xs ++ (reverse (labels_of names) ++ newest_labels old)) d

-- ---- rows behind the one that decides
pub rotated : {A : Type 0} (xs : List A) (n m k : ℕ) → m ≡ min n (length xs) → k ≡ length xs - m →
    take k (drop m xs ++ take m xs) ≡ drop n xs
rotated xs n m k e d =
    let whole : k ≡ length (drop m xs) = d ∙ sym (length-drop m xs) in
    let short : k ≤ length (drop m xs) = omega (arith, whole) in
    take-append-le k (drop m xs) (take m xs) short ∙ take_all k (drop m xs) (omega (arith, whole)) ∙
    ap (λ j. drop j xs) e ∙ drop_min n xs

-- ---- the node and the binders of a branch
module _ (N : code_node.Node) (e : Entry) (t : Term) where
  abbrev Γ₀ : Ctx
  Γ₀ = binders N.context.items

  abbrev standing : ℕ → ℕ → Term
  standing n = stands e.variable t (map solution e.solved.now) n

  abbrev seeing : ℕ → ℕ → Seen
  seeing n =
      rebound (Seen.open_at 0) seen_deeper e.reverted.now (seen_as e.variable e.con (map solution e.solved.now) n)

  abbrev node_with : Ctx → List (Option (List ℕ)) → Sights → Term → List Row → Node
  node_with Γ ls ss A rows = record { context = Γ; labels = ls; seen = ss; goal = A; rows = rows }

  -- with so many fields
  abbrev entered_with : ℕ → Node
  entered_with n =
      node_with (ext (ext Γ₀ (tele e.fields.now)) (again Γ₀ e.reverted.now (standing n))) (labels_entered N e)
      (all_seen_by (seeing n) (bound_again e.reverted.now (standing n)) (sights_of N.seen.items))
      (sub (bound_again e.reverted.now (standing n)) (term N.goal))
      (map (moved_row (bound_again e.reverted.now (standing n))) (map row_of N.rows.items))

  counted : (n : ℕ) → n ≡ length e.fields.now → n ≡ length (tele e.fields.now)
  counted n h = h ∙ sym (length-map e.fields.now (λ (b : Mult × code.Term). (b.0, term b.1)))

  pub again-entered : (n : ℕ) (σ : ℕ → Term) (Θ : Tele) → n ≡ length e.fields.now → ((i : ℕ) → σ i ≡ standing n i) →
      Θ ≡ again Γ₀ e.reverted.now σ → Θ ≡ again_in N e t
  again-entered n σ Θ h s d =
      d ∙ ap (again Γ₀ e.reverted.now) (fun_ext s) ∙
      ap (λ k. again Γ₀ e.reverted.now (standing k)) (counted n h)

  pub node-entered : (n : ℕ) (σ ρ : ℕ → Term) (Θ : Tele) (Γ : Ctx) (ls : List (Option (List ℕ))) (ss : Sights)
      (A : Term) (rows : List Row) → n ≡ length e.fields.now → ((i : ℕ) → σ i ≡ standing n i) →
      ((i : ℕ) → ρ i ≡ bound_again e.reverted.now σ i) → Θ ≡ again Γ₀ e.reverted.now σ →
      Γ ≡ ext (ext Γ₀ (tele e.fields.now)) Θ → ls ≡ labels_entered N e →
      ss ≡ all_seen_by (seeing n) ρ (sights_of N.seen.items) → A ≡ sub ρ (term N.goal) →
      rows ≡ map (moved_row ρ) (map row_of N.rows.items) → node_with Γ ls ss A rows ≡ node_in N e t
  node-entered n σ ρ Θ Γ ls ss A rows h s r d c l v g m =
      let along : ρ ≡ bound_again e.reverted.now (standing n) =
      fun_ext r ∙ ap (bound_again e.reverted.now) (fun_ext s) in
      let Θ₀ = again Γ₀ e.reverted.now (standing n) in
      let δ = bound_again e.reverted.now (standing n) in
      let context : Γ ≡ ext (ext Γ₀ (tele e.fields.now)) Θ₀ =
      c ∙ ap (ext (ext Γ₀ (tele e.fields.now))) (d ∙ ap (again Γ₀ e.reverted.now) (fun_ext s)) in
      ap (λ x. node_with x ls ss A rows) context ∙
      ap (λ x. node_with (ext (ext Γ₀ (tele e.fields.now)) Θ₀) x ss A rows) l ∙
      ap (λ x. node_with (ext (ext Γ₀ (tele e.fields.now)) Θ₀) (labels_entered N e) x A rows)
      (v ∙ ap (λ τ. all_seen_by (seeing n) τ (sights_of N.seen.items)) along) ∙
      ap (λ x. node_with (ext (ext Γ₀ (tele e.fields.now)) Θ₀) (labels_entered N e)
      (all_seen_by (seeing n) δ (sights_of N.seen.items)) x rows) (g ∙ ap (λ τ. sub τ (term N.goal)) along) ∙
      ap (λ x. node_with (ext (ext Γ₀ (tele e.fields.now)) Θ₀) (labels_entered N e)
      (all_seen_by (seeing n) δ (sights_of N.seen.items)) (sub δ (term N.goal)) x)
      (m ∙ ap (λ τ. map (moved_row τ) (map row_of N.rows.items)) along) ∙
      ap entered_with (counted n h)

-- ---- columns and rows
pub map-along : {A B C : Type 0} (f : B → C) (g : A → B) (xs : List A) → map (λ x. f (g x)) xs ≡ map f (map g xs)
map-along f g [] = refl
map-along f g (x ∷ xs) = ap (λ ys. f (g x) ∷ ys) (map-along f g xs)
