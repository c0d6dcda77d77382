-- Instructions that remain: fewer after each instruction that is no tick.
use Rattle.std.proofs.Common.{◌≡◌, ℕ, suc, ◌+◌, ◌-◌, ◌<◌, ◌≤◌, List, [], ◌∷◌, Option, Some, None, length, refl, ap, subst, arith}
use Rattle.std.specs.List.{slice_get}
use Rattle.qtt_prims.specs.declared.prim.Primitive.{Primitive}
use Rattle.qtt_prims.specs.declared.lit.Lit.{Lit}
use Rattle.qtt_prims.specs.declared.answer.PrimAnswer.{PrimAnswer}
use Rattle.qtt_prims.specs.declared.answer.PrimAnswer.TheVariants as answer
use Rattle.qtt_prims.specs.Apply.{apply}
use Rattle.qtt_code.specs.Value.{Value, Values, listed}
use Rattle.qtt_code.specs.Instruction.{Position, Instr, Block, Program}
use Rattle.qtt_code.specs.Machine.{Frame, State, Did, Taken, taken, literals, arity, in_frame, left_with, does, instruction, suspended, pushes, makes, enters, calls, forces, computes, applies, answers, branches, switches, returns, returns_to}
use Rattle.qtt_code.specs.Forward.{AllJumpForward}
use Rattle.qtt_machine.specs.Forward.{FramesJumpForward, StateJumpsForward}
use Rattle.qtt_machine.specs.Stacks.{IsWithin}

abbrev pub frame_left : Frame → ℕ
frame_left f = length f.code - f.place

abbrev pub waiting_left : List Frame → ℕ
waiting_left [] = 0
waiting_left (f ∷ fs) = suc (frame_left f) + waiting_left fs

abbrev pub instructions_left : State → ℕ
instructions_left s = frame_left s.frame + waiting_left s.waiting

abbrev gone : Did → State → State
gone (Did.goes s) d = s
gone (Did.ticks s) d = s
gone (Did.ends v) d = d
gone (Did.traps k) d = d
gone Did.stuck d = d

pub record Falls (s t : State) : Type 0 where
  pub less : instructions_left t < instructions_left s
  pub forward : StateJumpsForward t

module _ (s : State) (F : StateJumpsForward s) (W : IsWithin s) where
  falls-to : (t u : State) → Did.goes t ≡ Did.goes u → Falls s t → Falls s u
  falls-to t u e x = subst (Falls s) (ap (λ d. gone d t) e) x

  step-falls : length s.frame.code - suc s.frame.place + waiting_left s.waiting < length s.frame.code -
      s.frame.place + waiting_left s.waiting
  step-falls = let w = W in omega (arith, w)

  pushes-fall : (o : Option Value) (t : State) → pushes o s ≡ Did.goes t → Falls s t
  pushes-fall None t e = absurd (cc (e))
  pushes-fall (Some v) t e = falls-to _ t e (record { less = step-falls; forward = F })

  makes-fall : (made : Values → Value) (o : Option Taken) (t : State) → makes made o s ≡ Did.goes t → Falls s t
  makes-fall made None t e = absurd (cc (e))
  makes-fall made (Some v) t e = falls-to _ t e (record { less = step-falls; forward = F })

  enters-not : (o : Position) (B : Option Block) (vs ls : List Value) (s t : State) →
      enters o B vs ls s ≡ Did.goes t → ⊥
  enters-not o None vs ls s t e = cc (e)
  enters-not o (Some B) vs ls s t e = cc (e)

  calls-not : (P : Program) (o : Position) (xs : List Value) (s t : State) → calls P o xs s ≡ Did.goes t → ⊥
  calls-not P o [] s t e = cc (e)
  calls-not P o (a ∷ []) s t e = cc (e)
  calls-not P o (a ∷ Value.literal l ∷ left) s t e = cc (e)
  calls-not P o (a ∷ Value.con c vs ∷ left) s t e = cc (e)
  calls-not P o (a ∷ Value.closure b vs ∷ left) s t e =
      enters-not o (slice_get P b) (listed vs) (a ∷ []) (in_frame (left_with left s.frame) s) t e
  calls-not P o (a ∷ Value.action k vs ∷ left) s t e = cc (e)
  calls-not P o (a ∷ Value.tape n ∷ left) s t e = cc (e)
  calls-not P o (a ∷ Value.type ∷ left) s t e = cc (e)

  forces-not : (P : Program) (o : Position) (xs : List Value) (s t : State) → forces P o xs s ≡ Did.goes t → ⊥
  forces-not P o [] s t e = cc (e)
  forces-not P o (Value.literal l ∷ left) s t e = cc (e)
  forces-not P o (Value.con c vs ∷ left) s t e = cc (e)
  forces-not P o (Value.closure b vs ∷ left) s t e =
      enters-not o (slice_get P b) (listed vs) [] (in_frame (left_with left s.frame) s) t e
  forces-not P o (Value.action k vs ∷ left) s t e = cc (e)
  forces-not P o (Value.tape n ∷ left) s t e = cc (e)
  forces-not P o (Value.type ∷ left) s t e = cc (e)

  answers-not : (a : PrimAnswer) (left : List Value) (s t : State) → answers a left s ≡ Did.goes t → ⊥
  answers-not (answer.Value l) left s t e = cc (e)
  answers-not (answer.Truth b) left s t e = cc (e)
  answers-not answer.DivisionByZero left s t e = cc (e)
  answers-not answer.IllTyped left s t e = cc (e)

  applies-not : (p : Primitive) (ls : Option (List Lit)) (left : List Value) (s t : State) →
      applies p ls left s ≡ Did.goes t → ⊥
  applies-not p None left s t e = cc (e)
  applies-not p (Some ls) left s t e = answers-not (apply p ls) left s t e

  computes-not : (p : Primitive) (o : Option Taken) (s t : State) → computes p o s ≡ Did.goes t → ⊥
  computes-not p None s t e = cc (e)
  computes-not p (Some v) s t e = applies-not p (literals v.values) v.left s t e

  branches-not : (o : Option ℕ) (vs : Values) (left : List Value) (s t : State) → branches o vs left s ≡ Did.goes t → ⊥
  branches-not None vs left s t e = cc (e)
  branches-not (Some q) vs left s t e = cc (e)

  switches-not : (qs : List ℕ) (xs : List Value) (s t : State) → switches qs xs s ≡ Did.goes t → ⊥
  switches-not qs [] s t e = cc (e)
  switches-not qs (Value.literal l ∷ left) s t e = cc (e)
  switches-not qs (Value.con c vs ∷ left) s t e = branches-not (slice_get qs c) vs left s t e
  switches-not qs (Value.closure b vs ∷ left) s t e = cc (e)
  switches-not qs (Value.action k vs ∷ left) s t e = cc (e)
  switches-not qs (Value.tape n ∷ left) s t e = cc (e)
  switches-not qs (Value.type ∷ left) s t e = cc (e)

  given-falls : (v : Value) (fs : List Frame) → FramesJumpForward fs → waiting_left fs ≤ instructions_left s →
      (t : State) → returns_to v fs ≡ Did.goes t → Falls s t
  given-falls v [] G l t e = absurd (cc (e))
  given-falls v (f ∷ fs) G l t e = falls-to _ t e (record { less = omega (arith, l); forward = G })

  returns-fall : (xs : List Value) (t : State) → returns xs s.waiting ≡ Did.goes t → Falls s t
  returns-fall [] t e = absurd (cc (e))
  returns-fall (v ∷ xs) t e = given-falls v s.waiting F.1 (omega arith) t e

  does-falls : (P : Program) (i : Instr) (t : State) → slice_get s.frame.code s.frame.place ≡ Some i →
      does P (Some i) s ≡ Did.goes t → Falls s t
  does-falls P (Instr.local k) t at e = pushes-fall (slice_get s.frame.locals k) t e
  does-falls P (Instr.captured k) t at e = pushes-fall (slice_get s.frame.captured k) t e
  does-falls P (Instr.literal l) t at e = pushes-fall (Some (Value.literal l)) t e
  does-falls P Instr.type t at e = pushes-fall (Some Value.type) t e
  does-falls P (Instr.closure b k) t at e = makes-fall (Value.closure b) (taken k Values.none s.frame.pushed) t e
  does-falls P (Instr.con c k) t at e = makes-fall (Value.con c) (taken k Values.none s.frame.pushed) t e
  does-falls P (Instr.action a k) t at e = makes-fall (Value.action a) (taken k Values.none s.frame.pushed) t e
  does-falls P (Instr.call o) t at e = absurd (calls-not P o s.frame.pushed s t e)
  does-falls P (Instr.force o) t at e = absurd (forces-not P o s.frame.pushed s t e)
  does-falls P (Instr.enter o b) t at e = absurd (enters-not o (slice_get P b) [] [] s t e)
  does-falls P (Instr.prim p) t at e = absurd (computes-not p (taken (arity p) Values.none s.frame.pushed) s t e)
  does-falls P (Instr.switch qs) t at e = absurd (switches-not qs s.frame.pushed s t e)
  does-falls P (Instr.leave k) t at e = falls-to _ t e (record { less = step-falls; forward = F })
  does-falls P (Instr.jump q) t at e =
      let l = F.0 s.frame.place q at in
      let w = W in
      falls-to _ t e (record {
        less = let x : length s.frame.code - q + waiting_left s.waiting < length
            s.frame.code - s.frame.place + waiting_left s.waiting = omega (arith, l, w) in x;
        forward = F;
      })
  does-falls P Instr.return t at e = returns-fall s.frame.pushed t e
  does-falls P Instr.trap t at e = absurd (cc (e))

  at-falls : (P : Program) (o : Option Instr) (t : State) → slice_get s.frame.code s.frame.place ≡ o →
      does P o s ≡ Did.goes t → Falls s t
  at-falls P None t at e = absurd (cc (e))
  at-falls P (Some i) t at e = does-falls P i t at e

  pub goes_falls : (P : Program) (t : State) → instruction P s ≡ Did.goes t → Falls s t
  goes_falls P t e = at-falls P (slice_get s.frame.code s.frame.place) t refl e

-- ---- ticks
pub pushes_no_tick : (o : Option Value) (s t : State) → pushes o s ≡ Did.ticks t → ⊥
pushes_no_tick None s t e = cc (e)
pushes_no_tick (Some v) s t e = cc (e)

pub makes_no_tick : (made : Values → Value) (o : Option Taken) (s t : State) → makes made o s ≡ Did.ticks t → ⊥
makes_no_tick made None s t e = cc (e)
makes_no_tick made (Some v) s t e = cc (e)

given-no-tick : (v : Value) (fs : List Frame) (t : State) → returns_to v fs ≡ Did.ticks t → ⊥
given-no-tick v [] t e = cc (e)
given-no-tick v (f ∷ fs) t e = cc (e)

pub returns_no_tick : (xs : List Value) (fs : List Frame) (t : State) → returns xs fs ≡ Did.ticks t → ⊥
returns_no_tick [] fs t e = cc (e)
returns_no_tick (v ∷ xs) fs t e = given-no-tick v fs t e

module _ (P : Program) (J : AllJumpForward P) where
  leads-to : (t u : State) → Did.ticks t ≡ Did.ticks u → StateJumpsForward t → StateJumpsForward u
  leads-to t u e x = subst StateJumpsForward (ap (λ d. gone d t) e) x

  waiting-leads : (o : Position) (f : Frame) (fs : List Frame) → FramesJumpForward (f ∷ fs) →
      FramesJumpForward (suspended o f fs)
  waiting-leads Position.inner f fs F = F
  waiting-leads Position.tail f fs F = F.1

  enters-lead : (o : Position) (b : ℕ) (B : Option Block) (vs ls : List Value) (s t : State) → slice_get P b ≡ B →
      StateJumpsForward s →
      enters o B vs ls s ≡ Did.ticks t → StateJumpsForward t
  enters-lead o b None vs ls s t at F e = absurd (cc (e))
  enters-lead o b (Some B) vs ls s t at F e = leads-to _ t e (J b B at, waiting-leads o s.frame s.waiting F)

  calls-lead : (o : Position) (xs : List Value) (s t : State) → StateJumpsForward s →
      calls P o xs s ≡ Did.ticks t → StateJumpsForward t
  calls-lead o [] s t F e = absurd (cc (e))
  calls-lead o (a ∷ []) s t F e = absurd (cc (e))
  calls-lead o (a ∷ Value.literal l ∷ left) s t F e = absurd (cc (e))
  calls-lead o (a ∷ Value.con c vs ∷ left) s t F e = absurd (cc (e))
  calls-lead o (a ∷ Value.closure b vs ∷ left) s t F e =
      enters-lead o b (slice_get P b) (listed vs) (a ∷ []) (in_frame (left_with left s.frame) s) t refl F e
  calls-lead o (a ∷ Value.action k vs ∷ left) s t F e = absurd (cc (e))
  calls-lead o (a ∷ Value.tape n ∷ left) s t F e = absurd (cc (e))
  calls-lead o (a ∷ Value.type ∷ left) s t F e = absurd (cc (e))

  forces-lead : (o : Position) (xs : List Value) (s t : State) → StateJumpsForward s →
      forces P o xs s ≡ Did.ticks t → StateJumpsForward t
  forces-lead o [] s t F e = absurd (cc (e))
  forces-lead o (Value.literal l ∷ left) s t F e = absurd (cc (e))
  forces-lead o (Value.con c vs ∷ left) s t F e = absurd (cc (e))
  forces-lead o (Value.closure b vs ∷ left) s t F e =
      enters-lead o b (slice_get P b) (listed vs) [] (in_frame (left_with left s.frame) s) t refl F e
  forces-lead o (Value.action k vs ∷ left) s t F e = absurd (cc (e))
  forces-lead o (Value.tape n ∷ left) s t F e = absurd (cc (e))
  forces-lead o (Value.type ∷ left) s t F e = absurd (cc (e))

  answers-lead : (a : PrimAnswer) (left : List Value) (s t : State) → StateJumpsForward s →
      answers a left s ≡ Did.ticks t → StateJumpsForward t
  answers-lead (answer.Value l) left s t F e = leads-to _ t e F
  answers-lead (answer.Truth b) left s t F e = leads-to _ t e F
  answers-lead answer.DivisionByZero left s t F e = absurd (cc (e))
  answers-lead answer.IllTyped left s t F e = absurd (cc (e))

  applies-lead : (p : Primitive) (ls : Option (List Lit)) (left : List Value) (s t : State) →
      StateJumpsForward s → applies p ls left s ≡ Did.ticks t → StateJumpsForward t
  applies-lead p None left s t F e = absurd (cc (e))
  applies-lead p (Some ls) left s t F e = answers-lead (apply p ls) left s t F e

  computes-lead : (p : Primitive) (o : Option Taken) (s t : State) → StateJumpsForward s →
      computes p o s ≡ Did.ticks t → StateJumpsForward t
  computes-lead p None s t F e = absurd (cc (e))
  computes-lead p (Some v) s t F e = applies-lead p (literals v.values) v.left s t F e

  branches-lead : (o : Option ℕ) (vs : Values) (left : List Value) (s t : State) → StateJumpsForward s →
      branches o vs left s ≡ Did.ticks t → StateJumpsForward t
  branches-lead None vs left s t F e = absurd (cc (e))
  branches-lead (Some q) vs left s t F e = leads-to _ t e F

  switches-lead : (qs : List ℕ) (xs : List Value) (s t : State) → StateJumpsForward s →
      switches qs xs s ≡ Did.ticks t → StateJumpsForward t
  switches-lead qs [] s t F e = absurd (cc (e))
  switches-lead qs (Value.literal l ∷ left) s t F e = absurd (cc (e))
  switches-lead qs (Value.con c vs ∷ left) s t F e = branches-lead (slice_get qs c) vs left s t F e
  switches-lead qs (Value.closure b vs ∷ left) s t F e = absurd (cc (e))
  switches-lead qs (Value.action k vs ∷ left) s t F e = absurd (cc (e))
  switches-lead qs (Value.tape n ∷ left) s t F e = absurd (cc (e))
  switches-lead qs (Value.type ∷ left) s t F e = absurd (cc (e))

  does-leads : (o : Option Instr) (s t : State) → StateJumpsForward s → does P o s ≡ Did.ticks t → StateJumpsForward t
  does-leads None s t F e = absurd (cc (e))
  does-leads (Some (Instr.local k)) s t F e = absurd (pushes_no_tick (slice_get s.frame.locals k) s t e)
  does-leads (Some (Instr.captured k)) s t F e = absurd (pushes_no_tick (slice_get s.frame.captured k) s t e)
  does-leads (Some (Instr.literal l)) s t F e = absurd (pushes_no_tick (Some (Value.literal l)) s t e)
  does-leads (Some Instr.type) s t F e = absurd (pushes_no_tick (Some Value.type) s t e)
  does-leads (Some (Instr.closure b k)) s t F e =
      absurd (makes_no_tick (Value.closure b) (taken k Values.none s.frame.pushed) s t e)
  does-leads (Some (Instr.con c k)) s t F e =
      absurd (makes_no_tick (Value.con c) (taken k Values.none s.frame.pushed) s t e)
  does-leads (Some (Instr.action a k)) s t F e =
      absurd (makes_no_tick (Value.action a) (taken k Values.none s.frame.pushed) s t e)
  does-leads (Some (Instr.call o)) s t F e = calls-lead o s.frame.pushed s t F e
  does-leads (Some (Instr.force o)) s t F e = forces-lead o s.frame.pushed s t F e
  does-leads (Some (Instr.enter o b)) s t F e = enters-lead o b (slice_get P b) [] [] s t refl F e
  does-leads (Some (Instr.prim p)) s t F e = computes-lead p (taken (arity p) Values.none s.frame.pushed) s t F e
  does-leads (Some (Instr.switch qs)) s t F e = switches-lead qs s.frame.pushed s t F e
  does-leads (Some (Instr.leave k)) s t F e = absurd (cc (e))
  does-leads (Some (Instr.jump q)) s t F e = absurd (cc (e))
  does-leads (Some Instr.return) s t F e = absurd (returns_no_tick s.frame.pushed s.waiting t e)
  does-leads (Some Instr.trap) s t F e = absurd (cc (e))

  pub ticks_lead : (s t : State) → StateJumpsForward s → instruction P s ≡ Did.ticks t → StateJumpsForward t
  ticks_lead s t F e = does-leads (slice_get s.frame.code s.frame.place) s t F e
