-- The reading of an index within a count of contractions.
use Rattle.std.proofs.Common.{◌≡◌, ℕ, zero, suc, ◌+◌, ◌≤◌, refl, sym, ◌∙◌, Option, Some, None, arith}
use Rattle.qtt_term.specs.Term.{Term}
use Rattle.qtt_term.specs.Signature.{Env}
use Rattle.qtt_term.specs.Question.{Head}
use Rattle.qtt_term.specs.Reading.{read_step, read_from, read}
use Rattle.qtt_term.specs.Ask.{ReadingIs}

read-done : (E : Env) (n made : ℕ) (t : Term) → read_step E t ≡ None → read_from E n made t ≡ Head.done t made
read-done E zero made t h = rw (h, read_from) refl
read-done E (suc n) made t h = rw (h, read_from) refl

pub read-on : (E : Env) (n made : ℕ) (t s : Term) → read_step E t ≡ Some s →
    read_from E (suc n) made t ≡ read_from E n (suc made) s
read-on E n made t s h = rw (h, read_from) refl

pub read-out : (E : Env) (made : ℕ) (t s : Term) → read_step E t ≡ Some s → read_from E zero made t ≡ Head.spent
read-out E made t s h = rw (h, read_from) refl

from-stays : (E : Env) (n k made j : ℕ) (t r : Term) (o : Option Term) → read_step E t ≡ o → n ≤ k →
    read_from E n made t ≡ Head.done r j → read_from E k made t ≡ Head.done r j
from-stays E n k made j t r None h l e = read-done E k made t h ∙ sym (read-done E n made t h) ∙ e
from-stays E zero k made j t r (Some s) h l e =
    let d : Head.spent ≡ Head.done r j = sym (read-out E made t s h) ∙ e in absurd (cc d)
from-stays E (suc n) zero made j t r (Some s) h l e = absurd (omega arith)
from-stays E (suc n) (suc k) made j t r (Some s) h l e =
    let m : n ≤ k = omega arith in
    read-on E k made t s h ∙
    from-stays E n k (suc made) j s r (read_step E s) refl m (sym (read-on E n made t s h) ∙ e)

-- a reading that is found stands under each greater bound
pub read-stays : (E : Env) (n m k : ℕ) (t r : Term) → n ≤ m → read E n t ≡ Head.done r k → read E m t ≡ Head.done r k
read-stays E n m k t r l e = from-stays E n m 0 k t r (read_step E t) refl l e

-- so a term has one reading
pub one-reading : (E : Env) (t r s : Term) → ReadingIs E t r → ReadingIs E t s → r ≡ s
one-reading E t r s x y =
    let a = read-stays E x.bound (x.bound + y.bound) x.made t r (omega arith) x.is in
    let b = read-stays E y.bound (x.bound + y.bound) y.made t s (omega arith) y.is in
    let d : Head.done r x.made ≡ Head.done s y.made = sym a ∙ b in cc d
