-- The runner keeps types and tapes.
use Rattle.std.proofs.Common.{◌≡◌, ◌≢◌, ℕ, zero, suc, Bool, true, false, cond, List, [], ◌∷◌, ◌++◌, length, Option, Some, refl, sym, ◌∙◌, ap, subst, arith}
use mathlib.Core.Path.{subst₂}
use Rattle.qtt_base.specs.declared.place.GlobalId.{GlobalId}
use Rattle.qtt_usage.specs.declared.mult.Mult.{Mult}
use Rattle.qtt_usage.specs.Mult.{𝟘, 𝟙, ω, ◌⊕◌, ◌⊙◌, ◌≼◌}
use Rattle.qtt_usage.specs.Uses.{Key, Use, unit, nat_unit, zero_use}
use Rattle.qtt_usage.proofs.Mults.{≼-refl, ⊕-zero}
use Rattle.qtt_prims.specs.Tapes.{new_tape, Taped, with_line, shut}
use Rattle.qtt_prims.specs.declared.lit.Lit.TheVariants as literal
use Rattle.qtt_prims.specs.Lines.{is_line, line_of, after_line}
use Rattle.qtt_term.specs.Signature.{index_binders, family_at, family_of, There, Family, Env, UnitTy, MkUnit, LineTy, Eof, Got, HandleTy, IoTy, mult_of, act_signature}
use Rattle.qtt_term.specs.Term.{Io, PrimTy, Action, Named, Form, Term, Terms, node, ε, ◌▸◌, Sort, Pi, App, Act, Tape, TextLit}
use Rattle.qtt_term.specs.Substitution.{ren, sub, push, inst, closed}
use Rattle.qtt_term.specs.Contraction.{Conv}
use Rattle.qtt_term.specs.FullStep.{Cause, Outcome, Outcomes, finish, full_step, full_steps}
use Rattle.qtt_term.specs.FullRun.{Event, Config, Verdict, Turn, pure_unit, pure_handle, pure_line, at_open, resume, read, use_tape, perform, take_turn, turn}
use Rattle.qtt_term.specs.Value.{mults}
use Rattle.qtt_term.specs.Judgement.{erase_binds, IsCon, Part, under, AtMost, Judged, total, Args, ParamsThenArgs, Rule}
use Rattle.qtt_term.proofs.Evaluation.{finish-values, full-move, before-values}
use Rattle.qtt_term.proofs.Options.{none≢some, some-injective, chain-some, cond-some}
use Rattle.qtt_term.proofs.Subst.{inst-ren}
use Rattle.qtt_confluence.specs.Injective.{Convs}
use Rattle.qtt_confluence.proofs.Confluence.{conv-inside}
use Rattle.qtt_confluence.proofs.Injective.{io_injective, stiff-prim_ty}
use Rattle.qtt_preserve.specs.Configuration.{open_use}
use Rattle.qtt_preserve.specs.Within.{Has, HasAll}
use Rattle.qtt_preserve.proofs.Plain.{there-some, literal_has, handle_has}
use Rattle.qtt_preserve.proofs.Sound.{Sound, Bodied}
use Rattle.qtt_preserve.proofs.Uses.{≼-of}
use Rattle.qtt_preserve.proofs.Travel.{always, has_as}
use Rattle.qtt_preserve.proofs.Preservation.{rule-con, preservation}
use Rattle.qtt_preserve.proofs.Progress.{Goes, Kind, value_kind, value_at, text_value, tape_value, progress}

-- ---- typed configurations, over a bound on uses
abbrev pub as_use : List Taped → Use
as_use T (Key.v i) = 𝟘
as_use T (Key.h i) = open_use T i

pub data Waiting (E : Env) (R : Term) : Io → Term → List Term → Use → Type 0 where
  none : {A : Term} → Conv E A R → Waiting E R Io.io A [] zero_use
  more : {m n : Io} {A B k : Term} {ks : List Term} {u w : Use} →
      Has E Part.run [] k (Pi (mult_of m) A (IoTy n (ren suc B))) w → Waiting E R n B ks u →
      Waiting E R m A (k ∷ ks) (λ x. w x ⊕ u x)

pub record Fine (E : Env) (R t : Term) (ks : List Term) (T : List Taped) : Type 0 where
  pub io : Io
  pub type : Term
  pub use_of_term : Use
  pub use_of_waiting : Use
  pub has : Has E Part.run [] t (IoTy io type) use_of_term
  pub waits : Waiting E R io type ks use_of_waiting
  pub counted : AtMost [] (λ x. use_of_term x ⊕ use_of_waiting x) (as_use T)

-- what a derivation of an action says, at the action's signature
record Invert (E : Env) (a : Action) (ts : Terms) (C : Term) (u : Use) : Type 0 where
  asked : List Judged
  args : Args (act_signature a).arguments closed ts asked
  has : HasAll E Part.run [] [] ts asked
  conv : Conv E (sub (push ts closed) (act_signature a).type) C
  counted : AtMost [] (total zero_use asked) u

invert : {E : Env} {a : Action} {j : ℕ} {ts : Terms} {C : Term} {u : Use} → Has E Part.run [] (Act a j ts) C u →
    Invert E a ts C u
invert (Has.at_node {js = js} (Rule.named there m a) hs c f) =
    record { asked = js; args = a; has = hs; conv = c; counted = f }

-- ---- tables
abbrev pub IsFlag : Mult → Type 0
IsFlag ω = ⊥
IsFlag _ = Unit {0}

abbrev with_one : Mult → Mult → Mult
with_one 𝟙 t = 𝟙
with_one 𝟘 t = t
with_one ω t = t

abbrev without_one : Mult → Mult → Mult
without_one 𝟙 t = 𝟘
without_one 𝟘 t = t
without_one ω t = t

flag_many : (y u w t : Mult) → IsFlag t → (ω ⊙ y ⊕ 𝟘) ⊕ 𝟘 ≼ u → u ⊕ w ≼ t → w ≼ t
flag_many y u w t f h k = grind arith

flag_none : (u w t : Mult) → 𝟘 ⊕ 𝟘 ≼ u → IsFlag t → u ⊕ w ≼ t → w ≼ t
flag_none u w t h f k = grind arith

sum_bind : (m k u w t : Mult) → (m ⊕ (k ⊕ 𝟘)) ⊕ 𝟘 ≼ u → u ⊕ w ≼ t → m ⊕ (k ⊕ w) ≼ t
sum_bind m k u w t h j = grind arith

sum_pure : (y u w r t : Mult) → (y ⊕ 𝟘) ⊕ 𝟘 ≼ u → u ⊕ (w ⊕ r) ≼ t → (w ⊕ y) ⊕ r ≼ t
sum_pure y u w r t h j = grind arith

sum_write : (h y u w t : Mult) → IsFlag t → (h ⊕ (ω ⊙ y ⊕ 𝟘)) ⊕ 𝟘 ≼ u → u ⊕ w ≼ t → h ⊕ w ≼ t
sum_write h y u w t f i j = grind arith

sum_open : (n y u w t : Mult) → (n ≡ 𝟙 → t ≡ 𝟘) → IsFlag n → IsFlag t →
    (ω ⊙ y ⊕ 𝟘) ⊕ 𝟘 ≼ u → u ⊕ w ≼ t → n ⊕ w ≼ with_one n t
sum_open n y u w t e f g i j = grind arith

sum_close : (n h u w t : Mult) → IsFlag n → IsFlag t → n ≼ h → (h ⊕ 𝟘) ⊕ 𝟘 ≼ u → u ⊕ w ≼ t → w ≼ without_one n t
sum_close n h u w t f g i j k = grind arith

table_write : (n z y u w t : Mult) → n ≡ 𝟙 → n ≼ z → IsFlag t → (z ⊕ (ω ⊙ y ⊕ 𝟘)) ⊕ 𝟘 ≼ u → u ⊕ w ≼ t → t ≡ 𝟙
table_write n z y u w t e h f i j = grind arith

table_close : (n z u w t : Mult) → n ≡ 𝟙 → n ≼ z → IsFlag t → (z ⊕ 𝟘) ⊕ 𝟘 ≼ u → u ⊕ w ≼ t → t ≡ 𝟙
table_close n z u w t e h f i j = grind arith

table_end : (y u t : Mult) → IsFlag t → (ω ⊙ y ⊕ 𝟘) ⊕ 𝟘 ≼ u → u ⊕ 𝟘 ≼ t → t ≡ 𝟘
table_end y u t f h k = grind arith

end_table : (m : Io) (y u t : Mult) → m ≡ Io.io → IsFlag t → (mult_of m ⊙ y ⊕ 𝟘) ⊕ 𝟘 ≼ u → u ⊕ 𝟘 ≼ t → t ≡ 𝟘
end_table Io.io y u t e f h k = table_end y u t f h k
end_table Io.io1 y u t e f h k = absurd (cc e)

unit_flag : (n k : ℕ) → IsFlag (nat_unit n k)
unit_flag zero zero = tt
unit_flag zero (suc k) = tt
unit_flag (suc n) zero = tt
unit_flag (suc n) (suc k) = unit_flag n k

unit_same : (n : ℕ) → nat_unit n n ≡ 𝟙
unit_same zero = refl
unit_same (suc n) = unit_same n

bool_flag : (b : Bool) → IsFlag (cond b 𝟙 𝟘)
bool_flag true = tt
bool_flag false = tt

pub flags : (T : List Taped) (n : ℕ) → IsFlag (open_use T n)
flags [] n = tt
flags (t ∷ T) zero = bool_flag t.is_open
flags (t ∷ T) (suc n) = flags T n

-- the next number
opened-flag : (T : List Taped) (s : List ℕ) (n : ℕ) →
    open_use (T ++ new_tape s ∷ []) n ≡ with_one (nat_unit (length T) n) (open_use T n)
opened-flag [] s zero = refl
opened-flag [] s (suc n) = refl
opened-flag (t ∷ T) s zero = refl
opened-flag (t ∷ T) s (suc n) = opened-flag T s n

fresh-flag : (T : List Taped) (n : ℕ) → nat_unit (length T) n ≡ 𝟙 → open_use T n ≡ 𝟘
fresh-flag [] n e = refl
fresh-flag (t ∷ T) zero e = absurd (cc e)
fresh-flag (t ∷ T) (suc n) e = fresh-flag T n e

-- an open tape, changed
record Opened (h : ℕ) (g : Taped → Taped) (T : List Taped) : Type 0 where
  after : List Taped
  is : at_open h g T ≡ Some after

open-one : (b : Bool) → cond b 𝟙 𝟘 ≡ 𝟙 → b ≡ true
open-one true e = refl
open-one false e = absurd (cc e)

is-open : (h : ℕ) (g : Taped → Taped) (T : List Taped) → open_use T h ≡ 𝟙 → Opened h g T
is-open h g [] e = absurd (cc e)
is-open zero g (t ∷ T) e = record { after = g t ∷ T; is = rw (open-one t.is_open e) refl }
is-open (suc h) g (t ∷ T) e =
    let r = is-open h g T e in record { after = t ∷ r.after; is = rw r.is refl }

kept-flag : (h : ℕ) (s : List ℕ) (T U : List Taped) → at_open h (with_line s) T ≡ Some U →
    (n : ℕ) → open_use U n ≡ open_use T n
kept-flag h s [] U e n = absurd (none≢some e)
kept-flag zero s (t ∷ T) U e n =
    let r = cond-some t.is_open (Some (with_line s t ∷ T)) U e in subst (λ U. open_use U n ≡ open_use (t ∷ T) n)
    (some-injective r.1) (same n)
  where
    same : (n : ℕ) → open_use (with_line s t ∷ T) n ≡ open_use (t ∷ T) n
    same zero = refl
    same (suc n) = refl
kept-flag (suc h) s (t ∷ T) U e n =
    let r = chain-some (at_open h (with_line s) T) (λ us. Some (t ∷ us)) U e in
    subst (λ U. open_use U n ≡ open_use (t ∷ T) n) (some-injective r.2) (go r.0 (kept-flag h s T r.0 r.1) n)
  where
    go : (V : List Taped) → ((n : ℕ) → open_use V n ≡ open_use T n) → (n : ℕ) → open_use (t ∷ V) n ≡ open_use (t ∷ T) n
    go V d zero = refl
    go V d (suc n) = d n

shut-flag : (h : ℕ) (T U : List Taped) → at_open h shut T ≡ Some U →
    (n : ℕ) → open_use U n ≡ without_one (nat_unit h n) (open_use T n)
shut-flag h [] U e n = absurd (none≢some e)
shut-flag zero (t ∷ T) U e n =
    let r = cond-some t.is_open (Some (shut t ∷ T)) U e in
    subst (λ U. open_use U n ≡ without_one (nat_unit 0 n) (open_use (t ∷ T) n)) (some-injective r.1) (same n)
  where
    same : (n : ℕ) → open_use (shut t ∷ T) n ≡ without_one (nat_unit 0 n) (open_use (t ∷ T) n)
    same zero = refl
    same (suc n) = refl
shut-flag (suc h) (t ∷ T) U e n =
    let r = chain-some (at_open h shut T) (λ us. Some (t ∷ us)) U e in
    subst (λ U. open_use U n ≡ without_one (nat_unit (suc h) n) (open_use (t ∷ T) n)) (some-injective r.2)
    (go r.0 (shut-flag h T r.0 r.1) n)
  where
    go : (V : List Taped) → ((n : ℕ) → open_use V n ≡ without_one (nat_unit h n) (open_use T n)) →
        (n : ℕ) → open_use (t ∷ V) n ≡ without_one (nat_unit (suc h) n) (open_use (t ∷ T) n)
    go V d zero = refl
    go V d (suc n) = d n

is-act : (F : Form) (m : Io) → value_kind F ≡ Kind.primitive (PrimTy.io_of m) →
    (a : Action) × (j : ℕ) × (F ≡ Form.named (Named.act a j))
is-act (Form.named (Named.act a j)) m e = (a, j, refl)
is-act (Form.named (Named.def x)) m e = absurd (cc e)
is-act (Form.named (Named.prim x)) m e = absurd (cc e)
is-act (Form.named (Named.prim_ty x)) m e = absurd (cc e)
is-act (Form.named (Named.lit (literal.Int z))) m e = absurd (cc e)
is-act (Form.named (Named.lit (literal.Text z))) m e = absurd (cc e)
is-act _ m e = absurd (cc e)

all-values : (E : Env) (F : Form) (ts : Terms) (ms : List Mult) →
    finish E F ts (full_steps E ms ts) ≡ Outcome.value → full_steps E ms ts ≡ Outcomes.values
all-values E F ts ms e = (finish-values E F ts (full_steps E ms ts) e).0

-- ---- what a turn keeps
abbrev pub Kept : Env → Term → Config → Turn → Type 0
Kept E R c (Turn.goes d) = Fine E R d.term d.waiting d.tapes
Kept E R c (Turn.halts Verdict.ended) = (n : ℕ) → open_use c.tapes n ≡ 𝟘
Kept E R c (Turn.halts (Verdict.trapped k)) = Unit {0}
Kept E R c (Turn.halts Verdict.stuck) = ⊥
Kept E R c (Turn.halts Verdict.running) = ⊥

module _ {E : Env} (sound : Sound E) (R : Term) where
  waiting-conv : {m : Io} {A B : Term} {ks : List Term} {w : Use} → Waiting E R m A ks w → Conv E A B →
      Waiting E R m B ks w
  waiting-conv (Waiting.none r) c = Waiting.none (Conv.thence (Conv.back c) r)
  waiting-conv {m} {A} {B} (Waiting.more {n = n} {B = D} {w = w} h ws) c =
      Waiting.more (has_as E (Pi (mult_of m) B (IoTy n (ren suc D))) w h
      (conv-inside (Convs.more c (Convs.more Conv.same Convs.none))) (λ x s. ≼-refl (w x))) ws

  -- continuations that wait for what the action gives
  waits-for : {m o : Io} {A C : Term} {ks : List Term} {w : Use} → Conv E (IoTy m A) (IoTy o C) →
      Waiting E R o C ks w → Waiting E R m A ks w
  waits-for {m} {o} {A} {C} {ks} {w} c ws =
      let same : (m ≡ o) × Conv E A C = io_injective E sound.bodies m o A C c in
      waiting-conv (subst (λ o. Waiting E R o C ks w) (sym same.0) ws) (Conv.back same.1)

  pure_term : (m : Io) {A v : Term} {u z : Use} → Has E Part.erased [] A (Sort 0) z →
      Has E (under Part.run (mult_of m)) [] v A u →
      Has E Part.run [] (Act (Action.pure m) 1 (A ▸ v ▸ ε)) (IoTy m A) (λ x. mult_of m ⊙ u x)
  pure_term m {A} {v} {u} {z} hA hv =
      Has.at_node (Rule.named refl tt (Args.more {u = z} (Args.more {u = u} Args.none)))
      (HasAll.more refl hA tt (HasAll.more refl hv (always (under Part.run (mult_of m)) tt) HasAll.none))
      Conv.same
      (λ x s. ≼-of (⊕-zero _ ∙ ⊕-zero (mult_of m ⊙ u x)))

  rule-fam : {p : Part} {f : GlobalId} {F : Family} {ts : Terms} {js : List Judged} {R : Term} →
      There (E.family f) → family_at E f ≡ F →
      ParamsThenArgs (erase_binds (index_binders 0 F.indices)) F.params closed ts js (Sort F.level) R →
      Rule E p (Form.fam f) ts js R zero_use
  rule-fam {p} {f} {F} {ts} {js} {R} there e a =
      subst (λ F. ParamsThenArgs (erase_binds (index_binders 0 F.indices)) F.params closed ts js
      (Sort F.level) R → Rule E p (Form.fam f) ts js R zero_use) e (λ a. Rule.fam there a) a

  unit_has : Has E Part.erased [] UnitTy (Sort 0) zero_use
  unit_has = Has.at_node (rule-fam (there-some sound.prims.units) (ap family_of sound.prims.units)
      (ParamsThenArgs.done Args.none)) HasAll.none Conv.same tt

  line_has : Has E Part.erased [] LineTy (Sort 0) zero_use
  line_has = Has.at_node (rule-fam (there-some sound.prims.lines) (ap family_of sound.prims.lines)
      (ParamsThenArgs.done Args.none)) HasAll.none Conv.same tt

  mk_unit_has : Has E Part.run [] MkUnit UnitTy zero_use
  mk_unit_has = Has.at_node (rule-con (ap family_of sound.prims.units) IsCon.here (ParamsThenArgs.done Args.none))
      HasAll.none Conv.same (λ x s. tt)

  eof_has : Has E Part.run [] Eof LineTy zero_use
  eof_has = Has.at_node (rule-con (ap family_of sound.prims.lines) IsCon.here (ParamsThenArgs.done Args.none))
      HasAll.none Conv.same (λ x s. tt)

  got_has : (s : List ℕ) → Has E Part.run [] (Got (TextLit s)) LineTy zero_use
  got_has s =
      Has.at_node (rule-con (ap family_of sound.prims.lines) (IsCon.there IsCon.here)
      (ParamsThenArgs.done (Args.more {u = zero_use} Args.none)))
      (HasAll.more refl (literal_has Part.run [] (literal.Text s)) tt HasAll.none) Conv.same (λ x s. tt)

  tape_has : (n : ℕ) → Has E Part.run [] (Tape n) HandleTy (unit (Key.h n))
  tape_has n = Has.at_node Rule.tape HasAll.none Conv.same (λ x s. ≼-of (⊕-zero (unit (Key.h n) x)))

  inversion_tape : {n : ℕ} {C : Term} {u : Use} → Has E Part.run [] (Tape n) C u → (k : ℕ) → nat_unit n k ≼ u (Key.h k)
  inversion_tape {n} {u = u} (Has.at_node Rule.tape HasAll.none c f) k =
      subst (λ m. m ≼ u (Key.h k)) (⊕-zero (nat_unit n k)) (f (Key.h k) tt)

  -- a pure value of no use, and a tape
  plain : {A v C : Term} {o : Io} {ks : List Term} {w : Use} {T : List Taped} →
      Has E Part.erased [] A (Sort 0) zero_use → Has E Part.run [] v A zero_use →
      Conv E (IoTy Io.io A) (IoTy o C) → Waiting E R o C ks w → ((k : ℕ) → w (Key.h k) ≼ open_use T k) →
      Fine E R (Act (Action.pure Io.io) 1 (A ▸ v ▸ ε)) ks T
  plain {A} {ks = ks} {w = w} {T = T} hA hv c ws f =
      record {
        io = Io.io;
        type = A;
        use_of_term = λ x. ω ⊙ zero_use x;
        use_of_waiting = w;
        has = pure_term Io.io hA hv;
        waits = waits-for c ws;
        counted = count;
      }
    where
      count : AtMost [] (λ x. ω ⊙ zero_use x ⊕ w x) (as_use T)
      count (Key.v i) s = absurd s
      count (Key.h k) s = f k

  handled : {h : ℕ} {C : Term} {o : Io} {ks : List Term} {z w : Use} {T : List Taped} →
      Has E Part.run [] (Tape h) HandleTy z →
      Conv E (IoTy Io.io1 HandleTy) (IoTy o C) → Waiting E R o C ks w →
      ((k : ℕ) → z (Key.h k) ⊕ w (Key.h k) ≼ open_use T k) → Fine E R (pure_handle h) ks T
  handled {ks = ks} {z = z} {w = w} {T = T} ht c ws f =
      record {
        io = Io.io1;
        type = HandleTy;
        use_of_term = λ x. z x;
        use_of_waiting = w;
        has = pure_term Io.io1 (handle_has []) ht;
        waits = waits-for c ws;
        counted = count;
      }
    where
      count : AtMost [] (λ x. z x ⊕ w x) (as_use T)
      count (Key.v i) s = absurd s
      count (Key.h k) s = f k

  module _ (c : Config) (u w : Use) {o : Io} {C : Term} (ws : Waiting E R o C c.waiting w)
      (g : AtMost [] (λ x. u x ⊕ w x) (as_use c.tapes)) where
    keep_bind : (m n : Io) (j : ℕ) {ts : Terms} {js : List Judged} →
        Args (act_signature (Action.bind m n)).arguments closed ts js → HasAll E Part.run [] [] ts js →
        Conv E (sub (push ts closed) (act_signature (Action.bind m n)).type) (IoTy o C) →
        AtMost [] (total zero_use js) u → Kept E R c (perform c (Act (Action.bind m n) j ts))
    keep_bind m n j (Args.more {a = A} (Args.more {a = B} (Args.more {u = y} (Args.more {u = z} Args.none))))
        (HasAll.more e₀ h₀ f₀ (HasAll.more e₁ h₁ f₁ (HasAll.more e₂ ht f₂ (HasAll.more e₃ hk f₃ HasAll.none)))) cv d =
        record {
          io = m;
          type = A;
          use_of_term = y;
          use_of_waiting = λ x. z x ⊕ w x;
          has = ht;
          waits = Waiting.more hk (waits-for cv ws);
          counted = λ x s. sum_bind (y x) (z x) (u x) (w x) (as_use c.tapes x) (d x s) (g x s);
        }

    keep_put : (j : ℕ) {ts : Terms} {js : List Judged} →
        Args (act_signature Action.put_line).arguments closed ts js → HasAll E Part.run [] [] ts js →
        full_steps E (ω ∷ []) ts ≡ Outcomes.values → Conv E (IoTy Io.io UnitTy) (IoTy o C) →
        AtMost [] (total zero_use js) u → Kept E R c (perform c (Act Action.put_line j ts))
    keep_put j (Args.more {a = t} {u = y} Args.none) (HasAll.more e h f HasAll.none) v cv d =
        let (x, e) = text_value sound.bodies h (before-values (full_step E t) t ε Outcomes.values v).0 in
        subst (λ t. Kept E R c (perform c (Act Action.put_line j (t ▸ ε)))) (sym e)
        (plain unit_has mk_unit_has cv ws
        (λ k. flag_many (y (Key.h k)) (u (Key.h k)) (w (Key.h k)) (open_use c.tapes k) (flags c.tapes k)
        (d (Key.h k) tt) (g (Key.h k) tt)))

    none_used : {js : List Judged} → Args [] closed ε js → AtMost [] (total zero_use js) u →
        (k : ℕ) → w (Key.h k) ≼ open_use c.tapes k
    none_used Args.none d k =
        flag_none (u (Key.h k)) (w (Key.h k)) (open_use c.tapes k) (d (Key.h k) tt) (flags c.tapes k)
        (g (Key.h k) tt)

    keep_line : (b : Bool) (s r : List ℕ) → Conv E (IoTy Io.io LineTy) (IoTy o C) →
        ((k : ℕ) → w (Key.h k) ≼ open_use c.tapes k) →
        Kept E R c (cond b (Turn.goes (record c { term = pure_line (Got (TextLit s)); input = r }))
        (Turn.halts (Verdict.trapped Cause.bad_input_line)))
    keep_line true s r cv f = plain line_has (got_has s) cv ws f
    keep_line false s r cv f = tt

    keep_read : (bs : List ℕ) → Conv E (IoTy Io.io LineTy) (IoTy o C) →
        ((k : ℕ) → w (Key.h k) ≼ open_use c.tapes k) → Kept E R c (read c bs)
    keep_read [] cv f = plain line_has eof_has cv ws f
    keep_read (b ∷ bs) cv f = keep_line (is_line (line_of (b ∷ bs))) (line_of (b ∷ bs)) (after_line (b ∷ bs)) cv f

    keep_get : (j : ℕ) {ts : Terms} {js : List Judged} →
        Args (act_signature Action.get_line).arguments closed ts js → Conv E (IoTy Io.io LineTy) (IoTy o C) →
        AtMost [] (total zero_use js) u →
        Kept E R c (perform c (Act Action.get_line j ts))
    keep_get j Args.none cv d = keep_read c.input cv (none_used Args.none d)

    keep_open : (j : ℕ) {ts : Terms} {js : List Judged} →
        Args (act_signature Action.opens).arguments closed ts js → HasAll E Part.run [] [] ts js →
        full_steps E (ω ∷ []) ts ≡ Outcomes.values → Conv E (IoTy Io.io1 HandleTy) (IoTy o C) →
        AtMost [] (total zero_use js) u → Kept E R c (perform c (Act Action.opens j ts))
    keep_open j (Args.more {a = t} {u = y} Args.none) (HasAll.more e h f HasAll.none) v cv d =
        let (x, e) = text_value sound.bodies h (before-values (full_step E t) t ε Outcomes.values v).0 in
        subst (λ t. Kept E R c (perform c (Act Action.opens j (t ▸ ε)))) (sym e)
        (handled (tape_has (length c.tapes)) cv ws
        (λ k. subst (λ z. nat_unit (length c.tapes) k ⊕ w (Key.h k) ≼ z) (sym (opened-flag c.tapes x k))
        (sum_open (nat_unit (length c.tapes) k) (y (Key.h k)) (u (Key.h k)) (w (Key.h k)) (open_use c.tapes k)
        (fresh-flag c.tapes k)
        (unit_flag (length c.tapes) k) (flags c.tapes k) (d (Key.h k) tt) (g (Key.h k) tt))))

    use-open : (t : Term) (e : Event) (p : Option (List Taped)) (U : List Taped) → p ≡ Some U →
        Fine E R t c.waiting U → Kept E R c (use_tape c t e p)
    use-open t e p U d f = rw d f

    write_at : (j h : ℕ) (s : List ℕ) (z y : Use) → Has E Part.run [] (Tape h) HandleTy z →
        Conv E (IoTy Io.io1 HandleTy) (IoTy o C) →
        AtMost [] (λ x. (z x ⊕ (ω ⊙ y x ⊕ 𝟘)) ⊕ 𝟘) u →
        Kept E R c (perform c (Act Action.writes j (Tape h ▸ TextLit s ▸ ε)))
    write_at j h s z y ht cv d =
        let r = is-open h (with_line s) c.tapes
        (table_write (nat_unit h h) (z (Key.h h)) (y (Key.h h)) (u (Key.h h)) (w (Key.h h))
        (open_use c.tapes h) (unit_same h) (inversion_tape ht h) (flags c.tapes h) (d (Key.h h) tt)
        (g (Key.h h) tt)) in
        use-open (pure_handle h) (Event.wrote h s) (at_open h (with_line s) c.tapes) r.after r.is
        (handled ht cv ws (λ k. subst (λ f. z (Key.h k) ⊕ w (Key.h k) ≼ f) (sym (kept-flag h s c.tapes r.after r.is k))
        (sum_write (z (Key.h k)) (y (Key.h k)) (u (Key.h k)) (w (Key.h k)) (open_use c.tapes k) (flags c.tapes k)
        (d (Key.h k) tt) (g (Key.h k) tt))))

    keep_write : (j : ℕ) {ts : Terms} {js : List Judged} →
        Args (act_signature Action.writes).arguments closed ts js → HasAll E Part.run [] [] ts js →
        full_steps E (𝟙 ∷ ω ∷ []) ts ≡ Outcomes.values → Conv E (IoTy Io.io1 HandleTy) (IoTy o C) →
        AtMost [] (total zero_use js) u → Kept E R c (perform c (Act Action.writes j ts))
    keep_write j (Args.more {a = t} {u = z} (Args.more {a = s} {u = y} Args.none))
        (HasAll.more e ht f (HasAll.more e₁ hs f₁ HasAll.none)) v cv d =
        let p = before-values (full_step E t) t (s ▸ ε) _ v in
        let q = before-values (full_step E s) s ε _ p.1 in
        let (h, a) = tape_value sound.bodies ht p.0 in
        let (x, b) = text_value sound.bodies hs q.0 in
        subst₂ (λ t s. Kept E R c (perform c (Act Action.writes j (t ▸ s ▸ ε)))) (sym a) (sym b)
        (write_at j h x z y (subst (λ t. Has E Part.run [] t HandleTy z) a ht) cv d)

    close_at : (j h : ℕ) (z : Use) → Has E Part.run [] (Tape h) HandleTy z → Conv E (IoTy Io.io UnitTy) (IoTy o C) →
        AtMost [] (λ x. (z x ⊕ 𝟘) ⊕ 𝟘) u → Kept E R c (perform c (Act Action.closes j (Tape h ▸ ε)))
    close_at j h z ht cv d =
        let r = is-open h shut c.tapes
        (table_close (nat_unit h h) (z (Key.h h)) (u (Key.h h)) (w (Key.h h)) (open_use c.tapes h)
        (unit_same h) (inversion_tape ht h) (flags c.tapes h) (d (Key.h h) tt) (g (Key.h h) tt)) in
        use-open pure_unit (Event.closed_tape h) (at_open h shut c.tapes) r.after r.is
        (plain unit_has mk_unit_has cv ws (λ k. subst (λ f. w (Key.h k) ≼ f) (sym (shut-flag h c.tapes r.after r.is k))
        (sum_close (nat_unit h k) (z (Key.h k)) (u (Key.h k)) (w (Key.h k)) (open_use c.tapes k) (unit_flag h k)
        (flags c.tapes k) (inversion_tape ht k) (d (Key.h k) tt) (g (Key.h k) tt))))

    keep_close : (j : ℕ) {ts : Terms} {js : List Judged} →
        Args (act_signature Action.closes).arguments closed ts js → HasAll E Part.run [] [] ts js →
        full_steps E (𝟙 ∷ []) ts ≡ Outcomes.values → Conv E (IoTy Io.io UnitTy) (IoTy o C) →
        AtMost [] (total zero_use js) u → Kept E R c (perform c (Act Action.closes j ts))
    keep_close j (Args.more {a = t} {u = z} Args.none) (HasAll.more e ht f HasAll.none) v cv d =
        let (h, a) = tape_value sound.bodies ht (before-values (full_step E t) t ε Outcomes.values v).0 in
        subst (λ t. Kept E R c (perform c (Act Action.closes j (t ▸ ε)))) (sym a)
        (close_at j h z (subst (λ t. Has E Part.run [] t HandleTy z) a ht) cv d)

  app_term : {q : Mult} {A C X v k D : Term} {w y : Use} → Has E Part.run [] k (Pi q C X) w →
      Has E (under Part.run q) [] v A y → Conv E A C → inst X v ≡ D →
      Has E Part.run [] (App q k v) D (λ x. w x ⊕ q ⊙ y x)
  app_term {q} {A} {C} {X} {v} {k} {D} {w} {y} hk hv c e =
      subst (λ D. Has E Part.run [] (App q k v) D (λ x. w x ⊕ q ⊙ y x)) e
      (Has.at_node (Rule.app {u = w} {w = y})
      (HasAll.more refl hk tt
      (HasAll.more refl (has_as E C y hv c (always (under Part.run q) λ x s. ≼-refl (y x)))
      (always (under Part.run q) tt) HasAll.none))
      Conv.same (λ x s. ≼-of (⊕-zero _ ∙ ap (λ n. w x ⊕ n) (⊕-zero (q ⊙ y x)))))

  keep_resume : (c : Config) (u w y : Use) (m : Io) {o : Io} {A C v : Term} (ks : List Term) →
      Waiting E R o C ks w → Has E (under Part.run (mult_of m)) [] v A y →
      Conv E (IoTy m A) (IoTy o C) → AtMost [] (λ x. (mult_of m ⊙ y x ⊕ 𝟘) ⊕ 𝟘) u →
      AtMost [] (λ x. u x ⊕ w x) (as_use c.tapes) → Kept E R c (resume m v c ks)
  keep_resume c u w y m [] (Waiting.none z) hv cv d g = λ n.
      end_table m (y (Key.h n)) (u (Key.h n)) (open_use c.tapes n) (io_injective E sound.bodies m Io.io _ _ cv).0
      (flags c.tapes n) (d (Key.h n) tt) (g (Key.h n) tt)
  keep_resume c u w y m {o} {A} {C} {v} (k ∷ ks) (Waiting.more {n = n} {B = B} {u = r} {w = z} hk ws) hv cv d g =
      let same : (m ≡ o) × Conv E A C = io_injective E sound.bodies m o A C cv in
      record {
        io = n;
        type = B;
        use_of_term = λ x. z x ⊕ mult_of m ⊙ y x;
        use_of_waiting = r;
        has = app_term (subst (λ o. Has E Part.run [] k (Pi (mult_of o) C (IoTy n (ren suc B))) z)
            (sym same.0) hk) hv same.1 (ap (IoTy n) (inst-ren v B));
        waits = ws;
        counted = λ x s. sum_pure (mult_of m ⊙ y x) (u x) (z x) (r x) (as_use c.tapes x) (d x s) (g x s);
      }

  keep_pure : (c : Config) (u w : Use) {o : Io} {C : Term} → Waiting E R o C c.waiting w →
      AtMost [] (λ x. u x ⊕ w x) (as_use c.tapes) →
      (m : Io) (j : ℕ) {ts : Terms} {js : List Judged} →
      Args (act_signature (Action.pure m)).arguments closed ts js → HasAll E Part.run [] [] ts js →
      Conv E (sub (push ts closed) (act_signature (Action.pure m)).type) (IoTy o C) →
      AtMost [] (total zero_use js) u → Kept E R c (perform c (Act (Action.pure m) j ts))
  keep_pure c u w ws g m j (Args.more {a = A} (Args.more {a = v} {u = y} Args.none))
      (HasAll.more e₀ h₀ f₀ (HasAll.more e₁ hv f₁ HasAll.none)) cv d =
      keep_resume c u w y m c.waiting ws hv cv d g

  keep_act : (c : Config) (a : Action) (j : ℕ) (ts : Terms) →
      full_steps E (mults (act_signature a).arguments) ts ≡ Outcomes.values →
      Fine E R (Act a j ts) c.waiting c.tapes → Kept E R c (perform c (Act a j ts))
  keep_act c (Action.pure m) j ts v f = let i =
      invert f.has in keep_pure c f.use_of_term f.use_of_waiting f.waits f.counted m j i.args i.has i.conv
      i.counted
  keep_act c (Action.bind m n) j ts v f = let i =
      invert f.has in keep_bind c f.use_of_term f.use_of_waiting f.waits f.counted m n j i.args i.has i.conv
      i.counted
  keep_act c Action.put_line j ts v f = let i =
      invert f.has in keep_put c f.use_of_term f.use_of_waiting f.waits f.counted j i.args i.has v i.conv
      i.counted
  keep_act c Action.get_line j ts v f = let i =
      invert f.has in keep_get c f.use_of_term f.use_of_waiting f.waits f.counted j i.args i.conv i.counted
  keep_act c Action.opens j ts v f = let i =
      invert f.has in keep_open c f.use_of_term f.use_of_waiting f.waits f.counted j i.args i.has v i.conv
      i.counted
  keep_act c Action.writes j ts v f = let i =
      invert f.has in keep_write c f.use_of_term f.use_of_waiting f.waits f.counted j i.args i.has v i.conv
      i.counted
  keep_act c Action.closes j ts v f = let i =
      invert f.has in keep_close c f.use_of_term f.use_of_waiting f.waits f.counted j i.args i.has v i.conv
      i.counted

  -- a value of an IO type is an action
  act_value : {t A : Term} {m : Io} {u : Use} → Has E Part.run [] t (IoTy m A) u → full_step E t ≡ Outcome.value →
      (a : Action) × (j : ℕ) × (ts : Terms) × (t ≡ Act a j ts)
  act_value {t} {A} {m} h v =
      let (F, ts, e, k) = value_at sound.bodies h v (stiff-prim_ty E (PrimTy.io_of m)) in
      let (a, j, d) = is-act F m k in
      (a, j, ts, e ∙ ap (λ F. node F ts) d)

  keep_value : (c : Config) → full_step E c.term ≡ Outcome.value → Fine E R c.term c.waiting c.tapes →
      Kept E R c (perform c c.term)
  keep_value c v f =
      let (a, j, ts, e) = act_value f.has v in
      subst (λ t. Kept E R c (perform c t)) (sym e)
      (keep_act c a j ts (all-values E (Form.named (Named.act a j)) ts _
      (subst (λ t. full_step E t ≡ Outcome.value) e v)) (subst (λ t. Fine E R t c.waiting c.tapes) e f))

  keep_step : (c : Config) (s : Term) → full_step E c.term ≡ Outcome.step s → Fine E R c.term c.waiting c.tapes →
      Fine E R s c.waiting c.tapes
  keep_step c s e f = record {
    io = f.io;
    type = f.type;
    use_of_term = f.use_of_term;
    use_of_waiting = f.use_of_waiting;
    has = preservation (full-move E c.term s e) sound Part.run [] (IoTy f.io f.type) f.use_of_term f.has;
    waits = f.waits;
    counted = f.counted;
  }

  -- a turn that is not stuck, whatever bodies there are
  pub turn_keeps : (c : Config) → Fine E R c.term c.waiting c.tapes →
      (t : Turn) → turn E c ≡ t → t ≢ Turn.halts Verdict.stuck → Kept E R c t
  turn_keeps c f t q moves = go (full_step E c.term) refl q
    where
      go : (o : Outcome) → full_step E c.term ≡ o → take_turn c o ≡ t → Kept E R c t
      go Outcome.value e p = subst (Kept E R c) p (keep_value c e f)
      go (Outcome.step s) e p = subst (Kept E R c) p (keep_step c s e f)
      go (Outcome.trap k) e p = subst (Kept E R c) p tt
      go Outcome.stuck e p = absurd (moves (sym p))

  pub turn_kept : Bodied E → (c : Config) → Fine E R c.term c.waiting c.tapes → Kept E R c (turn E c)
  turn_kept whole c f = go (full_step E c.term) refl (progress sound.bodies sound.prims whole c.term f.has)
    where
      go : (o : Outcome) → full_step E c.term ≡ o → Goes o → Kept E R c (take_turn c o)
      go Outcome.value e g = keep_value c e f
      go (Outcome.step s) e g = keep_step c s e f
      go (Outcome.trap k) e g = tt
      go Outcome.stuck e g = g
