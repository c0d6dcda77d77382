-- The events of every run keep the discipline of tapes, and a typed main is never stuck.
use Rattle.std.proofs.Common.{◌≡◌, ◌≢◌, ℕ, zero, suc, Bool, true, false, cond, List, [], ◌∷◌, ◌++◌, Option, Some, None, refl, sym, ◌∙◌, ap, subst, length, append_assoc}
use Rattle.qtt_base.specs.declared.place.GlobalId.{GlobalId}
use Rattle.qtt_usage.specs.Mult.{𝟘, 𝟙, ◌⊕◌}
use Rattle.qtt_usage.specs.Uses.{Key, zero_use}
use Rattle.qtt_prims.specs.Tapes.{Taped, with_line, shut}
use Rattle.qtt_prims.specs.Lines.{is_line, line_of}
use Rattle.qtt_term.specs.Substitution.{sub, closed}
use Rattle.qtt_term.specs.FullStep.{Cause, Outcome, full_step}
use Rattle.qtt_term.specs.FullRun.{closes_from, all_shut, at_end, start, Event, Config, Verdict, Turn, Run, at_open, resume, read, use_tape, perform, take_turn, turn, stopped, going, run_on, full}
use Rattle.qtt_term.specs.Term.{Io, Action, Term, ε, ◌▸◌, Act, Tape, TextLit, Def}
use Rattle.qtt_term.specs.Signature.{definition_at, definition_of, Env, UnitTy, IoTy}
use Rattle.qtt_term.specs.Contraction.{chain, Conv}
use Rattle.qtt_term.specs.Judgement.{Part, AtMost, Usable, Args, Rule}
use Rattle.qtt_term.specs.Environment.{WellFormed, Complete, IsMain}
use Rattle.qtt_term.specs.TapeDiscipline.{closing, after_event, open_after, AllClosed}
use Rattle.qtt_term.proofs.Closed.{closed-kept}
use Rattle.qtt_term.proofs.Options.{none≢some, some-injective, chain-some, cond-some}
use Rattle.qtt_term.proofs.Output.{next-length}
use Rattle.qtt_preserve.specs.Configuration.{open_use}
use Rattle.qtt_preserve.specs.Within.{Has, HasAll}
use Rattle.qtt_preserve.proofs.Plain.{there-some}
use Rattle.qtt_preserve.proofs.Sound.{type-closed, sound_of, Bodied, bodied_of, Sound}
use Rattle.qtt_preserve.proofs.Run.{as_use, Waiting, Fine, Kept, turn_keeps, turn_kept}

abbrev pub opens-of : List Taped → List Bool
opens-of [] = []
opens-of (t ∷ T) = t.is_open ∷ opens-of T

-- which numbers are open after the events are the tapes that are open
abbrev pub Tracked : Config → Type 0
Tracked c = open_after [] c.events ≡ Some (opens-of c.tapes)

open-append : (bs : List Bool) (es ds : List Event) (cs : List Bool) → open_after bs es ≡ Some cs →
    open_after bs (es ++ ds) ≡ open_after cs ds
open-append bs [] ds cs h = ap (λ bs. open_after bs ds) (some-injective h)
open-append bs (e ∷ es) ds cs h =
    let r = chain-some (after_event e bs) (λ ds. open_after ds es) cs h in
    rw r.1 (open-append r.0 es ds cs r.2)

chain-last : (bs : List Bool) (es : List Event) (e : Event) (cs : List Bool) → open_after bs es ≡ Some cs →
    open_after bs (es ++ e ∷ []) ≡ after_event e cs
chain-last bs es e cs h = open-append bs es (e ∷ []) cs h ∙ last (after_event e cs)
  where
    last : (o : Option (List Bool)) → chain o (λ cs. Some cs) ≡ o
    last None = refl
    last (Some a) = refl

opens-new : (T : List Taped) (t : Taped) → t.is_open ≡ true → opens-of (T ++ t ∷ []) ≡ opens-of T ++ true ∷ []
opens-new [] t e = ap (λ b. b ∷ []) e
opens-new (u ∷ T) t e = ap (λ bs. u.is_open ∷ bs) (opens-new T t e)

closing-shut : (h : ℕ) (T U : List Taped) → at_open h shut T ≡ Some U → closing h (opens-of T) ≡ Some (opens-of U)
closing-shut h [] U e = absurd (none≢some e)
closing-shut zero (t ∷ T) U e =
    let r = cond-some t.is_open (Some (shut t ∷ T)) U e in rw r.0 (ap (λ U. Some (opens-of U)) (some-injective r.1))
closing-shut (suc h) (t ∷ T) U e =
    let r = chain-some (at_open h shut T) (λ us. Some (t ∷ us)) U e in
    rw (closing-shut h T r.0 r.1) (ap (λ U. Some (opens-of U)) (some-injective r.2))

record Written (h : ℕ) (T U : List Taped) : Type 0 where
  closed_list : List Bool
  at : closing h (opens-of T) ≡ Some closed_list
  same : opens-of U ≡ opens-of T

closing-write : (h : ℕ) (s : List ℕ) (T U : List Taped) → at_open h (with_line s) T ≡ Some U → Written h T U
closing-write h s [] U e = absurd (none≢some e)
closing-write zero s (t ∷ T) U e =
    let r = cond-some t.is_open (Some (with_line s t ∷ T)) U e in
    record { closed_list = false ∷ opens-of T; at = rw r.0 refl; same = ap opens-of (sym (some-injective r.1)) }
closing-write (suc h) s (t ∷ T) U e =
    let r = chain-some (at_open h (with_line s) T) (λ us. Some (t ∷ us)) U e in
    let w = closing-write h s T r.0 r.1 in
    record {
      closed_list = t.is_open ∷ w.closed_list;
      at = rw w.at refl;
      same = ap opens-of (sym (some-injective r.2)) ∙ ap (λ bs. t.is_open ∷ bs) w.same;
    }

abbrev pub Goes-on : Turn → Type 0
Goes-on (Turn.goes d) = Tracked d
Goes-on (Turn.halts v) = Unit {0}

resume-disciplined : (m : Io) (v : Term) (c : Config) (ks : List Term) → Tracked c → Goes-on (resume m v c ks)
resume-disciplined m v c [] d = tt
resume-disciplined m v c (k ∷ ks) d = d

line-disciplined : (b : Bool) (t : Turn) (k : Turn) → Goes-on t → Goes-on k → Goes-on (cond b t k)
line-disciplined true t k g h = g
line-disciplined false t k g h = h

read-disciplined : (c : Config) (bs : List ℕ) → Tracked c → Goes-on (read c bs)
read-disciplined c [] d = d
read-disciplined c (b ∷ bs) d = line-disciplined (is_line (line_of (b ∷ bs))) _ _ d tt

tape-disciplined : (c : Config) (t : Term) (e : Event) (o : Option (List Taped)) →
    ((U : List Taped) → o ≡ Some U → open_after [] (c.events ++ e ∷ []) ≡ Some (opens-of U)) →
    Goes-on (use_tape c t e o)
tape-disciplined c t e (Some U) h = h U refl
tape-disciplined c t e None h = tt

perform-disciplined : (c : Config) (t : Term) → Tracked c → Goes-on (perform c t)
perform-disciplined c (Act (Action.bind m n) k (A ▸ B ▸ t ▸ next ▸ ε)) d = d
perform-disciplined c (Act (Action.pure m) k (A ▸ v ▸ ε)) d = resume-disciplined m v c c.waiting d
perform-disciplined c (Act Action.put_line k (TextLit s ▸ ε)) d =
    chain-last [] c.events (Event.line s) (opens-of c.tapes) d
perform-disciplined c (Act Action.get_line k ε) d = read-disciplined c c.input d
perform-disciplined c (Act Action.opens k (TextLit s ▸ ε)) d =
    chain-last [] c.events (Event.opened s) (opens-of c.tapes) d ∙ ap Some (sym (opens-new c.tapes _ refl))
perform-disciplined c (Act Action.writes k (Tape h ▸ TextLit s ▸ ε)) d =
    tape-disciplined c _ (Event.wrote h s) (at_open h (with_line s) c.tapes)
    (λ U e. let w = closing-write h s c.tapes U e in chain-last [] c.events (Event.wrote h s)
    (opens-of c.tapes) d ∙ rw w.at (ap Some (sym w.same)))
perform-disciplined c (Act Action.closes k (Tape h ▸ ε)) d =
    tape-disciplined c _ (Event.closed_tape h) (at_open h shut c.tapes)
    (λ U e. chain-last [] c.events (Event.closed_tape h) (opens-of c.tapes) d ∙ closing-shut h c.tapes U e)
perform-disciplined c _ d = tt

turn-disciplined : (E : Env) (c : Config) → Tracked c → Goes-on (turn E c)
turn-disciplined E c d = go (full_step E c.term)
  where
    go : (o : Outcome) → Goes-on (take_turn c o)
    go Outcome.value = perform-disciplined c c.term d
    go (Outcome.step s) = d
    go (Outcome.trap k) = tt
    go Outcome.stuck = tt

-- ---- the closes after a trap
closing-here : (bs cs : List Bool) → closing (length bs) (bs ++ true ∷ cs) ≡ Some (bs ++ false ∷ cs)
closing-here [] cs = refl
closing-here (b ∷ bs) cs = rw (closing-here bs cs) refl

-- one number after those of bs, and then those of T
one-more : (bs : List Bool) (b : Bool) (T : List Taped) →
    open_after ((bs ++ b ∷ []) ++ opens-of T) (closes_from (length (bs ++ b ∷ [])) T) ≡ Some
    ((bs ++ b ∷ []) ++ opens-of (all_shut T)) →
    open_after (bs ++ b ∷ opens-of T) (closes_from (suc (length bs)) T) ≡ Some (bs ++ b ∷ opens-of (all_shut T))
one-more bs b T h =
    ap (λ cs. open_after cs (closes_from (suc (length bs)) T)) (sym (append_assoc bs (b ∷ []) (opens-of T)))
    ∙ ap (λ n. open_after ((bs ++ b ∷ []) ++ opens-of T) (closes_from n T)) (sym (next-length bs b))
    ∙ h ∙ ap Some (append_assoc bs (b ∷ []) (opens-of (all_shut T)))

close-one : (bs : List Bool) (b : Bool) (T : List Taped) →
    ((c : Bool) → open_after ((bs ++ c ∷ []) ++ opens-of T) (closes_from (length (bs ++ c ∷ [])) T) ≡ Some
    ((bs ++ c ∷ []) ++ opens-of (all_shut T))) →
    open_after (bs ++ b ∷ opens-of T)
    (cond b (Event.closed_tape (length bs) ∷ closes_from (suc (length bs)) T)
    (closes_from (suc (length bs)) T))
    ≡ Some (bs ++ false ∷ opens-of (all_shut T))
close-one bs true T h = rw (closing-here bs (opens-of T)) (one-more bs false T (h false))
close-one bs false T h = one-more bs false T (h false)

closes-shut : (T : List Taped) (bs : List Bool) →
    open_after (bs ++ opens-of T) (closes_from (length bs) T) ≡ Some (bs ++ opens-of (all_shut T))
closes-shut [] bs = refl
closes-shut (t ∷ T) bs = close-one bs t.is_open T (λ c. closes-shut T (bs ++ c ∷ []))

end-tracked : (v : Verdict) (c : Config) → Tracked c → Tracked (at_end v c)
end-tracked (Verdict.trapped k) c d =
    open-append [] c.events (closes_from 0 c.tapes) (opens-of c.tapes) d ∙ closes-shut c.tapes []
end-tracked Verdict.ended c d = d
end-tracked Verdict.stuck c d = d
end-tracked Verdict.running c d = d

all-shut-closed : (T : List Taped) → AllClosed (opens-of (all_shut T))
all-shut-closed [] = tt
all-shut-closed (t ∷ T) = (refl, all-shut-closed T)

-- ---- whole runs
abbrev AllOff : List Taped → Type 0
AllOff T = (n : ℕ) → open_use T n ≡ 𝟘

off-bool : (b : Bool) → cond b 𝟙 𝟘 ≡ 𝟘 → b ≡ false
off-bool true e = absurd (cc e)
off-bool false e = refl

off-closed : (T : List Taped) → AllOff T → AllClosed (opens-of T)
off-closed [] h = tt
off-closed (t ∷ T) h = (off-bool t.is_open (h 0), off-closed T (λ n. h (suc n)))

abbrev Trapped : Verdict → Type 0
Trapped v = (k : Cause) × (v ≡ Verdict.trapped k)

-- where a run was not trapped, it ends in a typed configuration
abbrev pub EndsFine : Env → Term → Run → Type 0
EndsFine E R r = (Trapped r.verdict → ⊥) → Fine E R r.last.term r.last.waiting r.last.tapes

pub record RunGood (E : Env) (R : Term) (r : Run) : Type 0 where
  pub free : r.verdict ≢ Verdict.stuck
  pub events : Tracked r.last
  pub ended : r.verdict ≡ Verdict.ended → AllClosed (opens-of r.last.tapes)
  pub trapped : Trapped r.verdict → AllClosed (opens-of r.last.tapes)

module _ {E : Env} (R : Term) where
  -- ---- whatever bodies there are
  halted-fine : (n : ℕ) (c : Config) (v : Verdict) → Fine E R c.term c.waiting c.tapes →
      EndsFine E R (record { verdict = v; count = n; last = at_end v c })
  halted-fine n c Verdict.ended f = λ h. f
  halted-fine n c (Verdict.trapped x) f = λ h. absurd (h (x, refl))
  halted-fine n c Verdict.stuck f = λ h. f
  halted-fine n c Verdict.running f = λ h. f

  stopped-fine : (n : ℕ) (c : Config) (t : Turn) → Fine E R c.term c.waiting c.tapes → EndsFine E R (stopped n c t)
  stopped-fine n c (Turn.halts v) f = halted-fine n c v f
  stopped-fine n c (Turn.goes x) f = λ h. f

  going-fine : Sound E → (n : ℕ) (c : Config) (t : Turn) (next : Config → Run) → turn E c ≡ t →
      Fine E R c.term c.waiting c.tapes →
      ((x : Config) → Fine E R x.term x.waiting x.tapes → EndsFine E R (next x)) → EndsFine E R (going n c t next)
  going-fine sound n c (Turn.halts v) next e f h = halted-fine n c v f
  going-fine sound n c (Turn.goes x) next e f h = h x (turn_keeps sound R c f (Turn.goes x) e (λ q. cc q))

  run-fine : Sound E → (more n : ℕ) (c : Config) → Fine E R c.term c.waiting c.tapes → EndsFine E R (run_on more E n c)
  run-fine sound zero n c f = stopped-fine n c (turn E c) f
  run-fine sound (suc more) n c f =
      going-fine sound n c (turn E c) (run_on more E (suc n)) refl f (λ x g. run-fine sound more (suc n) x g)

  -- ---- where each function has its body
  halted-good : (n : ℕ) (c : Config) (v : Verdict) → Kept E R c (Turn.halts v) →
      Fine E R c.term c.waiting c.tapes → Tracked c →
      RunGood E R (record { verdict = v; count = n; last = at_end v c })
  halted-good n c Verdict.ended k f d =
      record { free = λ e. cc e; events = d; ended = λ e. off-closed c.tapes k; trapped = λ h. absurd (cc h.1) }
  halted-good n c (Verdict.trapped x) k f d =
      record {
        free = λ e. cc e;
        events = end-tracked (Verdict.trapped x) c d;
        ended = λ e. absurd (cc e);
        trapped = λ h. all-shut-closed c.tapes;
      }
  halted-good n c Verdict.stuck k f d = absurd k
  halted-good n c Verdict.running k f d = absurd k

  stopped-good : (n : ℕ) (c : Config) (t : Turn) → Kept E R c t → Fine E R c.term c.waiting c.tapes → Tracked c →
      RunGood E R (stopped n c t)
  stopped-good n c (Turn.halts v) k f d = halted-good n c v k f d
  stopped-good n c (Turn.goes x) k f d =
      record { free = λ e. cc e; events = d; ended = λ e. absurd (cc e); trapped = λ h. absurd (cc h.1) }

  going-good : (n : ℕ) (c : Config) (t : Turn) (next : Config → Run) → Kept E R c t → Goes-on t →
      Fine E R c.term c.waiting c.tapes → Tracked c →
      ((x : Config) → Fine E R x.term x.waiting x.tapes → Tracked x → RunGood E R (next x)) →
      RunGood E R (going n c t next)
  going-good n c (Turn.halts v) next k g f d h = halted-good n c v k f d
  going-good n c (Turn.goes x) next k g f d h = h x k g

  run-good : Sound E → Bodied E → (more n : ℕ) (c : Config) → Fine E R c.term c.waiting c.tapes → Tracked c →
      RunGood E R (run_on more E n c)
  run-good sound whole zero n c f d = stopped-good n c (turn E c) (turn_kept sound R whole c f) f d
  run-good sound whole (suc more) n c f d =
      going-good n c (turn E c) (run_on more E (suc n)) (turn_kept sound R whole c f) (turn-disciplined E c d) f d
      (λ x g h. run-good sound whole more (suc n) x g h)

-- ---- a main
pub main_fine : {E : Env} → WellFormed E → (main : GlobalId) → IsMain E main → Fine E UnitTy (Def main) [] []
main_fine {E} w main m = record {
  io = Io.io;
  type = UnitTy;
  use_of_term = zero_use;
  use_of_waiting = zero_use;
  has = Has.at_node (Rule.named (there-some m.there) (subst (λ D. Usable Part.run D.mult) (sym is) m.usable)
      Args.none) HasAll.none typed (λ x s. tt);
  waits = Waiting.none Conv.same;
  counted = count;
}
  where
    is : definition_at E main ≡ m.definition
    is = ap definition_of m.there

    typed : Conv E (sub closed (definition_at E main).type) (IoTy Io.io UnitTy)
    typed =
        subst (λ D. Conv E (sub closed D.type) (IoTy Io.io UnitTy)) (sym is)
        (subst (λ A. Conv E A (IoTy Io.io UnitTy))
        (sym (closed-kept m.definition.type (type-closed (w.definitions main m.definition m.there)) closed))
        m.typed)

    count : AtMost [] (λ x. zero_use x ⊕ zero_use x) (as_use [])
    count (Key.v i) s = tt
    count (Key.h i) s = tt

pub full_good : {E : Env} → WellFormed E → Complete E → (main : GlobalId) → IsMain E main →
    (n : ℕ) (input : List ℕ) → RunGood E UnitTy (full n E main input)
full_good {E} w whole main m n input =
    run-good UnitTy (sound_of w) (bodied_of E whole) n 0 (start main input) (main_fine w main m) refl

pub full_fine : {E : Env} → WellFormed E → (main : GlobalId) → IsMain E main →
    (n : ℕ) (input : List ℕ) → EndsFine E UnitTy (full n E main input)
full_fine {E} w main m n input = run-fine UnitTy (sound_of w) n 0 (start main input) (main_fine w main m)
