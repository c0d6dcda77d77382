-- What a list of questions that ends well says of its parts: heads and readings are conversions.
use Rattle.std.proofs.Common.{◌≡◌, ℕ, zero, suc, Bool, true, false, Option, Some, None, refl, ap, subst, ◌⊎◌, inl, inr}
use Rattle.qtt_term.specs.Term.{Term, Terms, Form, var, node, ε, ◌▸◌}
use Rattle.qtt_term.specs.Signature.{Env, family_at}
use Rattle.qtt_term.specs.Contraction.{Step, Steps, Reduces, Conv}
use Rattle.qtt_term.specs.Question as question
use Rattle.qtt_term.specs.Question.{either, wrap, head_step}
use Rattle.qtt_term.specs.Ask.{Ending, Ends, HeadIs, ReadingIs}
use Rattle.qtt_term.specs.Premises as premises
use Rattle.qtt_term.specs.Reading.{is_plain, at_fields, in_fields, read_step, fields_step, read_from}
use Rattle.qtt_confluence.proofs.HeadCount.{head-is_exact}
use Rattle.qtt_confluence.proofs.Compare.{head-steps}
use Rattle.qtt_rules.specs.Refusal.{Cause, Place}
use Rattle.qtt_rules.specs.Asks.{need, found, head_of}
use Rattle.qtt_unify.proofs.Endings.{ended}

-- ---- heads
reduces-conv : {E : Env} {t s : Term} → Reduces E t s → Conv E t s
reduces-conv Reduces.done = Conv.same
reduces-conv (Reduces.then h hs) = Conv.thence (Conv.by_step h) (reduces-conv hs)

pub head-conv : {E : Env} {t h : Term} → HeadIs E t h → Conv E t h
head-conv {E} {t} {h} x = reduces-conv (head-is_exact.reduces E x.bound x.made t h x.is)

-- ---- a step of a reading
either-some : {A : Type 0} (o q : Option A) (a : A) → either o q ≡ Some a → (o ≡ Some a) ⊎ (q ≡ Some a)
either-some None q a e = inr e
either-some (Some b) q a e = inl e

wrap-some : {A B : Type 0} (g : A → B) (o : Option A) (b : B) → wrap g o ≡ Some b → (a : A) × (o ≡ Some a) × (g a ≡ b)
wrap-some g None b e = absurd (cc e)
wrap-some g (Some a) b e = (a, refl, cc e)

at-fields : (b : Bool) (behind : ℕ → Option Terms) (k : ℕ) (ss : Terms) → at_fields b behind k ≡ Some ss →
    behind k ≡ Some ss
at-fields true behind k ss e = e
at-fields false behind k ss e = absurd (cc e)

in-fields : (E : Env) (F : Form) (behind : ℕ → Option Terms) (ss : Terms) → in_fields E F behind ≡ Some ss →
    (k : ℕ) × (behind k ≡ Some ss)
in-fields E (Form.con f c k) behind ss e = (k, at-fields (is_plain (family_at E f)) behind k ss e)
in-fields E _ behind ss e = absurd (cc e)

mutual
  read-steps : (E : Env) (t s : Term) → read_step E t ≡ Some s → Step E t s
  read-steps E (var i) s e = absurd (cc e)
  read-steps E (node F ts) s e =
      elim (either-some (head_step E (node F ts)) (wrap (node F) (in_fields E F (fields_step E ts))) s e) [
        | inl h ↦ head-steps E (node F ts) s h
        | inr h ↦ (let w = wrap-some (node F) (in_fields E F (fields_step E ts)) s h in
            let k = in-fields E F (fields_step E ts) w.0 w.1 in
            subst (Step E (node F ts)) w.2 (Step.inside (fields-steps E ts k.0 w.0 k.1)))
      ]

  fields-steps : (E : Env) (ts : Terms) (k : ℕ) (ss : Terms) → fields_step E ts k ≡ Some ss → Steps E ts ss
  fields-steps E ε k ss e = absurd (cc e)
  fields-steps E (t ▸ ts) (suc k) ss e =
      let w = wrap-some (λ ss. t ▸ ss) (fields_step E ts k) ss e in
      subst (Steps E (t ▸ ts)) w.2 (Steps.after (fields-steps E ts k w.0 w.1))
  fields-steps E (t ▸ ts) zero ss e =
      elim (either-some (wrap (λ s. s ▸ ts) (read_step E t)) (wrap (λ ss. t ▸ ss) (fields_step E ts zero)) ss e) [
        | inl h ↦ (let w = wrap-some (λ s. s ▸ ts) (read_step E t) ss h in
            subst (Steps E (t ▸ ts)) w.2 (Steps.at (read-steps E t w.0 w.1)))
        | inr h ↦ (let w = wrap-some (λ ss. t ▸ ss) (fields_step E ts zero) ss h in
            subst (Steps E (t ▸ ts)) w.2 (Steps.after (fields-steps E ts zero w.0 w.1)))
      ]

-- ---- readings
head-of : {h r : Term} {k l : ℕ} → question.Head.done h k ≡ question.Head.done r l → h ≡ r
head-of e = cc e

read-now : (E : Env) (made : ℕ) (t : Term) (o : Option Term) (r : Term) (k : ℕ) →
    elim o [ None ↦ question.Head.done t made | Some s ↦ question.Head.spent ] ≡ question.Head.done r k →
    Reduces E t r
read-now E made t None r k e = subst (Reduces E t) (head-of e) Reduces.done
read-now E made t (Some s) r k e = absurd (cc e)

read-more : (E : Env) (n made : ℕ) (t : Term) (o : Option Term) → read_step E t ≡ o → (r : Term) (k : ℕ) →
    ((s : Term) → read_from E n (suc made) s ≡ question.Head.done r k → Reduces E s r) →
    elim o [ None ↦ question.Head.done t made | Some s ↦ read_from E n (suc made) s ] ≡ question.Head.done r k →
    Reduces E t r
read-more E n made t None d r k h e = subst (Reduces E t) (head-of e) Reduces.done
read-more E n made t (Some s) d r k h e = Reduces.then (read-steps E t s d) (h s e)

read-from : (E : Env) (n made : ℕ) (t r : Term) (k : ℕ) → read_from E n made t ≡ question.Head.done r k →
    Reduces E t r
read-from E zero made t r k e = read-now E made t (read_step E t) r k e
read-from E (suc n) made t r k e =
    read-more E n made t (read_step E t) refl r k (λ s. read-from E n (suc made) s r k) e

pub reading-reduces : {E : Env} {t r : Term} → ReadingIs E t r → Reduces E t r
reading-reduces {E} {t} {r} x = read-from E x.bound 0 t r x.made x.is

pub reading-conv : {E : Env} {t r : Term} → ReadingIs E t r → Conv E t r
reading-conv x = reduces-conv (reading-reduces x)

-- ---- premises
pub head-asked : {E : Env} (p : Place) (d : ℕ) (t h : Term) → Ends E (head_of p d t) (Ending.ok h) → Conv E t h
head-asked {E} p d t h (Ends.has_head {h = g} x xs) = subst (Conv E t) (ended g h xs) (head-conv x)

pub needed : {E : Env} (b : Bool) (c : Cause) (p : Place) (u : Unit {0}) → Ends E (need b c p) (Ending.ok u) →
    b ≡ true
unfolding premises.need
needed true c p u e = refl
needed false c p u e = elim e [ ]

pub found-is : {E : Env} {A : Type 0} (o : Option A) (c : Cause) (p : Place) (a : A) →
    Ends E (found o c p) (Ending.ok a) → o ≡ Some a
found-is (Some b) c p a e = ap Some (ended b a e)
found-is None c p a e = elim e [ ]
