-- Typed configurations, with exact uses and with bounds on uses.
use Rattle.std.proofs.Common.{◌≡◌, List, [], arith}
use Rattle.qtt_usage.specs.declared.mult.Mult.{Mult}
use Rattle.qtt_usage.specs.Mult.{◌⊕◌, ◌≼◌}
use Rattle.qtt_usage.specs.Uses.{Key, Use, zero_use}
use Rattle.qtt_usage.proofs.Mults.{⊕-mono}
use Rattle.qtt_term.specs.Term.{Io, Term}
use Rattle.qtt_term.specs.Signature.{Env}
use Rattle.qtt_term.specs.FullRun.{Config}
use Rattle.qtt_term.specs.Judgement.{AtMost}
use Rattle.qtt_preserve.specs.Configuration.{open_use, Waits, Configured}
use Rattle.qtt_preserve.proofs.Uses.{≼-of}
use Rattle.qtt_preserve.proofs.Exact.{typed-has, has-typed}
use Rattle.qtt_preserve.proofs.Run.{as_use, IsFlag, flags, Waiting, Fine}

waits-waiting : {E : Env} {R A : Term} {m : Io} {ks : List Term} {u : Use} → Waits E R m A ks u → Waiting E R m A ks u
waits-waiting (Waits.none c) = Waiting.none c
waits-waiting (Waits.more h ws) = Waiting.more (typed-has h) (waits-waiting ws)

pub configured-fine : {E : Env} {R : Term} {c : Config} → Configured E R c → Fine E R c.term c.waiting c.tapes
configured-fine {c = c} f = record {
  io = f.io;
  type = f.type;
  use_of_term = f.use_of_term;
  use_of_waiting = f.use_of_waiting;
  has = typed-has f.typed;
  waits = waits-waiting f.waits;
  counted = count;
}
  where
    count : AtMost [] (λ x. f.use_of_term x ⊕ f.use_of_waiting x) (as_use c.tapes)
    count (Key.v i) s = absurd s
    count (Key.h i) s = ≼-of (f.counted i)

-- the same continuations at exact uses
waiting-waits : {E : Env} {R A : Term} {m : Io} {ks : List Term} {u : Use} → Waiting E R m A ks u →
    (w : Use) × Waits E R m A ks w × AtMost [] w u
waiting-waits (Waiting.none c) = (zero_use, Waits.none c, λ x s. tt)
waiting-waits (Waiting.more {u = u} {w = w} h ws) =
    let (z, t, a) = has-typed h in
    let (y, r, b) = waiting-waits ws in
    ((λ x. z x ⊕ y x), Waits.more t r, λ x s. ⊕-mono (z x) (w x) (y x) (u x) (a x s) (b x s))

-- 0 and 1 bound only themselves
flag-only : (a t : Mult) → IsFlag t → a ≼ t → a ≡ t
flag-only a t f h = grind arith

flag-sum : (a b c d t : Mult) → IsFlag t → a ≼ c → b ≼ d → c ⊕ d ≼ t → a ⊕ b ≡ t
flag-sum a b c d t f h k j = grind arith

pub fine-configured : {E : Env} {R : Term} {c : Config} → Fine E R c.term c.waiting c.tapes → Configured E R c
fine-configured {c = c} f =
    let (w, t, a) = has-typed f.has in
    let (z, r, b) = waiting-waits f.waits in
    record {
      io = f.io;
      type = f.type;
      use_of_term = w;
      use_of_waiting = z;
      typed = t;
      waits = r;
      counted = λ h.
          flag-sum (w (Key.h h)) (z (Key.h h)) (f.use_of_term (Key.h h)) (f.use_of_waiting (Key.h h))
          (open_use c.tapes h) (flags c.tapes h)
          (a (Key.h h) tt) (b (Key.h h) tt) (f.counted (Key.h h) tt);
    }
