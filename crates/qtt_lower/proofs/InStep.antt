-- The law of lowering: values go back through the frames that wait for them.
use Rattle.std.proofs.Common.{◌≡◌, ℕ, ◌-◌, List, [], ◌∷◌, ◌++◌, length, take, refl, sym, ◌∙◌, ap, subst, arith, length-append}
use Rattle.qtt_base.specs.declared.place.GlobalId.{GlobalId}
use Rattle.qtt_erase.specs.Binding.{Tree, ∅, ◌◂◌, ◌◂◂◌, subs}
use Rattle.qtt_erase.specs.Operator.{Operator, Def}
use Rattle.qtt_erase.specs.Step.{Bodies, Outcome}
use Rattle.qtt_closure.specs.Flat as flat
use Rattle.qtt_closure.specs.Flat.{Closure, FlatTerm, binders, flat_step}
use Rattle.qtt_code.specs.Value.{Value, Values, ◌▹◌}
use Rattle.qtt_code.specs.Instruction.{Position, Program}
use Rattle.qtt_code.specs.Machine.{Frame, State, Did, moved, onward, left_with, with_locals, returns_to, does, instruction, Reaches}
use Rattle.qtt_lower.specs.Lowerable.{IsLowered}
use Rattle.qtt_lower.specs.Represents.{flat_value, flat_values, filling, filled, Pending, plug, front, rest_end, Waits, Continues, Ends, Represents}
use Rattle.qtt_lower.specs.Laws.{Follows, CodeRunsInStep, RunsBegin}
use Rattle.qtt_lower.proofs.Values.{◌▹▹◌, value-stays}
use Rattle.qtt_lower.proofs.Pending.{ArePending, plug-steps, plug-traps, plug-stuck, ends-pending}
use Rattle.qtt_lower.proofs.Acting.{state, Lands, chained, one, Computes}
use Rattle.qtt_lower.proofs.Computing.{value-first, with-value}
use Rattle.qtt_lower.proofs.Simulation.{term-computes, components-compute}

-- what is kept where the last locals are dropped
kept-is : (kept dropped locals : List Value) → locals ≡ kept ++ dropped →
    take (length locals - length dropped) locals ≡ kept
kept-is kept dropped locals h =
    ap (λ xs. take (length xs - length dropped) xs) h
    ∙ ap (λ n. take n (kept ++ dropped))
    (let k = length-append kept dropped in let z : length (kept ++ dropped) - length dropped ≡ length kept
    = omega (arith, k) in z)
    ∙ whole-first kept
  where
    whole-first : (xs : List Value) → take (length xs) (xs ++ dropped) ≡ xs
    whole-first [] = refl
    whole-first (x ∷ xs) = ap (λ ys. x ∷ ys) (whole-first xs)

module _ (e : GlobalId → ℕ) (P : flat.Program) (D : Bodies Closure) (C : Program) (L : IsLowered e P D C) where
  abbrev Goes : FlatTerm → State → Type 0
  Goes t s = Follows e C t s (flat_step P D t)

  follows-before : (t : FlatTerm) (s r : State) (x : Outcome FlatTerm) → Reaches C 0 s r → Follows e C t r x →
      Follows e C t s x
  follows-before t s r Outcome.value w (v, y, h, z, d) = (v, y, h, chained w refl z, d)
  follows-before t s r (Outcome.step u) w (y, z, h) = (y, chained w refl z, h)
  follows-before t s r (Outcome.trap k) w (y, z, h) = (y, chained w refl z, h)
  follows-before t s r Outcome.stuck w h = tt

  -- what a term does is what the whole does, if its value goes back
  concluded : (o : Position) (f : Frame) (end : ℕ) (fs : List Frame) (ps : List Pending) (s : State)
      (t : FlatTerm) → ArePending ps →
      (x : Outcome FlatTerm) → flat_step P D t ≡ x → Computes e C o f end fs ps s t x →
      ((v : Value) (q : ℕ) → Lands o f.code end q →
      Goes (plug ps (flat_value v)) (state (left_with (v ∷ f.pushed) (moved q f)) fs)) → Goes (plug ps t) s
  concluded o f end fs ps s t a Outcome.value h (v, q, put, l, w) k =
      let r : State = state (left_with (v ∷ f.pushed) (moved q f)) fs in
      subst (λ u. Goes (plug ps u) s) (sym put)
      (follows-before (plug ps (flat_value v)) s r (flat_step P D (plug ps (flat_value v))) w (k v q l))
  concluded o f end fs ps s t a (Outcome.step u) h (r, w, y) k =
      subst (λ x. Follows e C (plug ps t) s x) (sym (plug-steps P D ps a t u h)) (r, w, y)
  concluded o f end fs ps s t a (Outcome.trap c) h (r, w, y) k =
      subst (λ x. Follows e C (plug ps t) s x) (sym (plug-traps P D ps a t c h)) (r, w, y)
  concluded o f end fs ps s t a Outcome.stuck h y k =
      subst (λ x. Follows e C (plug ps t) s x) (sym (plug-stuck P D ps a t h)) tt

  mutual
    waits-follow : {fs : List Frame} {ps : List Pending} → Waits e fs ps →
        (v : Value) (s : State) → instruction C s ≡ returns_to v fs → Goes (plug ps (flat_value v)) s
    waits-follow Waits.nothing v s h =
        subst (λ x. Follows e C (flat_value v) s x) (sym (value-stays P D v)) (v, s, refl, Reaches.here, h)
    waits-follow (Waits.frame {f = f} {fs = fs} {ps = ps} c) v s h =
        follows-before (plug ps (flat_value v)) s (state (left_with (v ∷ f.pushed) f) fs)
        (flat_step P D (plug ps (flat_value v))) (one h) (continues-follow c v)

    continues-follow : {f : Frame} {fs : List Frame} {ps : List Pending} → Continues e f fs ps →
        (v : Value) → Goes (plug ps (flat_value v)) (state (left_with (v ∷ f.pushed) f) fs)
    continues-follow (Continues.returns {f = f} {fs = fs} n p w) v =
        waits-follow w v (state (left_with (v ∷ f.pushed) f) fs)
        (ap (λ i. does C i (state (left_with (v ∷ f.pushed) f) fs)) n)
    continues-follow (Continues.jumps {f = f} {fs = fs} {ps = ps} q n c) v =
        follows-before (plug ps (flat_value v)) (state (left_with (v ∷ f.pushed) f) fs)
        (state (left_with (v ∷ f.pushed) (moved q f)) fs) (flat_step P D (plug ps (flat_value v)))
        (one (ap (λ i. does C i (state (left_with (v ∷ f.pushed) f) fs)) n)) (continues-follow c v)
    continues-follow (Continues.leaves {f = f} {fs = fs} {ps = ps} kept dropped n l c) v =
        follows-before (plug ps (flat_value v)) (state (left_with (v ∷ f.pushed) f) fs)
        (state (left_with (v ∷ f.pushed) (onward (with_locals kept f))) fs)
        (flat_step P D (plug ps (flat_value v)))
        (one (ap (λ i. does C i (state (left_with (v ∷ f.pushed) f) fs)) n
        ∙ ap (λ xs. Did.goes (state (onward (with_locals xs (left_with (v ∷ f.pushed) f))) fs))
        (kept-is kept dropped f.locals l)))
        (continues-follow c v)
    continues-follow (Continues.component {f = f} {fs = fs} {ps = ps} o F ts vs us below i x) v =
        let g : Frame = left_with (v ∷ f.pushed) f in
        let n : FlatTerm = Tree.node F
        ((front f F ts ◂◂ flat_values (vs ▹▹ v ▹ Values.none)) ◂◂ subs binders [] (filling f) us) in
        subst (λ t. Goes (plug ps t) (state g fs))
        (ap (Tree.node F) (value-first (front f F ts) vs v (subs binders [] (filling f) us)))
        (concluded o (left_with below g) (rest_end o f.place F ts us) fs ps (state g fs) n (ends-pending e x)
        (flat_step P D n) refl
        (components-compute e P D C L 0 us o F ts (vs ▹▹ v ▹ Values.none) g fs ps below
        (with-value e f o F ts vs v us below i) x)
        (λ w q l. ends-follow o (left_with below f) (rest_end o f.place F ts us) x w q l))

    ends-follow : (o : Position) (g : Frame) (end : ℕ) {fs : List Frame} {ps : List Pending} →
        Ends e o (moved end g) fs ps → (v : Value) (q : ℕ) → Lands o g.code end q →
        Goes (plug ps (flat_value v)) (state (left_with (v ∷ g.pushed) (moved q g)) fs)
    ends-follow Position.inner g end {fs = fs} {ps = ps} (Ends.goes_on c) v q l =
        subst (λ p. Goes (plug ps (flat_value v)) (state (left_with (v ∷ g.pushed) (moved p g)) fs)) (sym l)
        (continues-follow c v)
    ends-follow Position.tail g end {fs = fs} (Ends.gives_back p w) v q l =
        waits-follow w v (state (left_with (v ∷ g.pushed) (moved q g)) fs)
        (ap (λ i. does C i (state (left_with (v ∷ g.pushed) (moved q g)) fs)) l)

  represented-follows : (t : FlatTerm) (s : State) → Represents e t s → Goes t s
  represented-follows t s (Represents.computes {f = f} {fs = fs} {ps = ps} o u l h x) =
      concluded o f _ fs ps (state f fs) (filled f u) (ends-pending e x) (flat_step P D (filled f u)) refl
      (term-computes e P D C L u o f fs ps l h x)
      (λ v q k. ends-follow o f _ x v q k)
  represented-follows t s (Represents.has v c) = continues-follow c v

pub in_step : CodeRunsInStep
in_step e P D C L t s r = represented-follows e P D C L t s r

-- ---- where runs begin
pub begins : RunsBegin
begins = record {
  definition = λ e d. Represents.computes Position.tail (Def d) (tt, tt) (refl, tt)
      (Ends.gives_back refl Waits.nothing);
  call = λ e f a. Represents.has a
      (Continues.component Position.tail Operator.app (∅ ◂◂ flat_value f ◂ flat_value a ◂ ∅)
      (f ▹ Values.none) ∅ []
      (record {
        computed = tt;
        counted = refl;
        branches_lowerable = tt;
        components_lowerable = tt;
        pushed = refl;
        stands = (refl, tt);
      })
      (Ends.gives_back refl Waits.nothing));
}
