-- The heads and readings that contraction comes to are heads and readings, and what lists end with they conclude with.
use Rattle.std.proofs.Common.{◌≡◌, ℕ, zero, suc, Option, Some, None, refl, subst, inl, inr, Bool, true, false}
use Rattle.qtt_term.specs.Term.{Term, Terms, Form, var, node, ε, ◌▸◌}
use Rattle.qtt_term.specs.Signature.{Env, family_at}
use Rattle.qtt_term.specs.Contraction.{Step, Steps, Reduces, Conv, BodiesClosed}
use Rattle.qtt_term.specs.Question as question
use Rattle.qtt_term.specs.Question.{wrap, head_step}
use Rattle.qtt_term.specs.Reading.{is_plain, at_fields, in_fields, read_step, fields_step, read_from}
use Rattle.qtt_term.specs.Ask.{Ask, Ending, Ends, HeadIs, ReadingIs}
use Rattle.qtt_confluence.proofs.Compare.{either-some, wrap-some, head-steps}
use Rattle.qtt_confluence.proofs.Facts.{head_is_exact, head_is_reached, convertible_heads_agree, different_is_apart}
use Rattle.qtt_conclusions.specs.NormalForms.{WeakHeadNormal, IsRead}
use Rattle.qtt_conclusions.specs.Conclusions.{SameForm, HeadOf, ReadingOf, Concludes}
use Rattle.qtt_conclusions.specs.Laws.{HeadsAreSo}
use Rattle.qtt_conclusions.proofs.NormalForms.{is-head, is-normal, is-read}

-- ---- heads
reduces-conv : {E : Env} {t s : Term} → Reduces E t s → Conv E t s
reduces-conv Reduces.done = Conv.same
reduces-conv (Reduces.then h hs) = Conv.thence (Conv.by_step h) (reduces-conv hs)

same-form : {E : Env} → BodiesClosed E → (t s : Term) → WeakHeadNormal E t → WeakHeadNormal E s → Conv E t s →
    SameForm E t s
same-form {E} bodies t s n k c =
    let (o, p) = convertible_heads_agree E bodies t s (is-head E t n) (is-head E s k) c in
    record { outlines = o; components = p }

-- a weak head normal form is a head of what is convertible to it
pub normal-head : {E : Env} → BodiesClosed E → {t h : Term} → WeakHeadNormal E h → Conv E t h → HeadOf E t h
normal-head bodies {t} {h} n c = record {
  normal = n;
  convertible = c;
  alone = λ s k d. same-form bodies s h k n (Conv.thence (Conv.back d) c);
}

pub found-head : {E : Env} → BodiesClosed E → {t h : Term} → HeadIs E t h → HeadOf E t h
found-head {E} bodies {t} {h} x =
    let f = (head_is_exact.found E x.bound x.made t h).0 x.is in
    normal-head bodies (is-normal E h f.1) (reduces-conv (head_is_exact.reduces E x.bound x.made t h x.is))

-- ---- readings
at-fields : (b : Bool) (behind : ℕ → Option Terms) (k : ℕ) (ss : Terms) → at_fields b behind k ≡ Some ss →
    behind k ≡ Some ss
at-fields true behind k ss e = e
at-fields false behind k ss e = absurd (cc e)

in-fields : (E : Env) (F : Form) (behind : ℕ → Option Terms) (ss : Terms) → in_fields E F behind ≡ Some ss →
    (k : ℕ) × (behind k ≡ Some ss)
in-fields E (Form.con f c k) behind ss e = (k, at-fields (is_plain (family_at E f)) behind k ss e)
in-fields E _ behind ss e = absurd (cc e)

-- a contraction toward the reading is a contraction
mutual
  read-steps : (E : Env) (t s : Term) → read_step E t ≡ Some s → Step E t s
  read-steps E (var i) s e = absurd (cc e)
  read-steps E (node F ts) s e =
      elim (either-some (head_step E (node F ts)) (wrap (node F) (in_fields E F (fields_step E ts))) s e) [
        | inl h ↦ head-steps E (node F ts) s h
        | inr h ↦ (let w = wrap-some (node F) (in_fields E F (fields_step E ts)) s h in
            let k = in-fields E F (fields_step E ts) w.0 w.1 in
            subst (Step E (node F ts)) w.2 (Step.inside (fields-steps E ts k.0 w.0 k.1)))
      ]

  fields-steps : (E : Env) (ts : Terms) (k : ℕ) (ss : Terms) → fields_step E ts k ≡ Some ss → Steps E ts ss
  fields-steps E ε k ss e = absurd (cc e)
  fields-steps E (t ▸ ts) (suc k) ss e =
      let w = wrap-some (λ ss. t ▸ ss) (fields_step E ts k) ss e in
      subst (Steps E (t ▸ ts)) w.2 (Steps.after (fields-steps E ts k w.0 w.1))
  fields-steps E (t ▸ ts) zero ss e =
      elim (either-some (wrap (λ s. s ▸ ts) (read_step E t)) (wrap (λ ss. t ▸ ss) (fields_step E ts zero)) ss e) [
        | inl h ↦ (let w = wrap-some (λ s. s ▸ ts) (read_step E t) ss h in
            subst (Steps E (t ▸ ts)) w.2 (Steps.at (read-steps E t w.0 w.1)))
        | inr h ↦ (let w = wrap-some (λ ss. t ▸ ss) (fields_step E ts zero) ss h in
            subst (Steps E (t ▸ ts)) w.2 (Steps.after (fields-steps E ts zero w.0 w.1)))
      ]

-- what a reading comes to: contractions lead to it, and none toward a reading is left
record Comes (E : Env) (t r : Term) : Type 0 where
  reduces : Reduces E t r
  ends : read_step E r ≡ None

comes-now : {E : Env} {t r : Term} {k l : ℕ} → read_step E t ≡ None →
    question.Head.done t k ≡ question.Head.done r l →
    Comes E t r
comes-now {E} {t} {r} d e =
    let same : t ≡ r = cc e in
    record { reduces = subst (Reduces E t) same Reduces.done; ends = subst (λ r. read_step E r ≡ None) same d }

comes-last : (E : Env) (made : ℕ) (t : Term) (o : Option Term) → read_step E t ≡ o → (r : Term) (k : ℕ) →
    elim o [ None ↦ question.Head.done t made | Some s ↦ question.Head.spent ] ≡ question.Head.done r k →
    Comes E t r
comes-last E made t None d r k e = comes-now d e
comes-last E made t (Some s) d r k e = absurd (cc e)

comes-later : (E : Env) (n made : ℕ) (t : Term) (o : Option Term) → read_step E t ≡ o → (r : Term) (k : ℕ) →
    ((s : Term) → read_from E n (suc made) s ≡ question.Head.done r k → Comes E s r) →
    elim o [ None ↦ question.Head.done t made | Some s ↦ read_from E n (suc made) s ] ≡ question.Head.done r k →
    Comes E t r
comes-later E n made t None d r k h e = comes-now d e
comes-later E n made t (Some s) d r k h e =
    let c = h s e in record { reduces = Reduces.then (read-steps E t s d) c.reduces; ends = c.ends }

comes : (E : Env) (n made : ℕ) (t r : Term) (k : ℕ) → read_from E n made t ≡ question.Head.done r k → Comes E t r
comes E zero made t r k e = comes-last E made t (read_step E t) refl r k e
comes E (suc n) made t r k e =
    comes-later E n made t (read_step E t) refl r k (λ s. comes E n (suc made) s r k) e

read-normal : {E : Env} {t : Term} → IsRead E t → WeakHeadNormal E t
read-normal IsRead.variable = WeakHeadNormal.variable
read-normal (IsRead.form w fs) = w

pub found-reading : {E : Env} → BodiesClosed E → {t r : Term} → ReadingIs E t r → ReadingOf E t r
found-reading {E} bodies {t} {r} x =
    let c = comes E x.bound 0 t r x.made x.is in
    let i = is-read E r c.ends in
    record { head = normal-head bodies (read-normal i) (reduces-conv c.reduces); read = i }

pub heads-are_so : (E : Env) → BodiesClosed E → HeadsAreSo E
heads-are_so E bodies = record {
  head = λ t h x. found-head bodies x;
  reached = λ t h x. head_is_reached E bodies t h x.convertible (is-head E h x.normal);
  reading = λ t r x. found-reading bodies x;
}

-- ---- lists
pub conclude : {F P A : Type 0} {E : Env} → BodiesClosed E → {m : Ask F P A} {e : Ending F P A} → Ends E m e →
    Concludes E m e
conclude bodies Ends.is_done = Concludes.is_done
conclude bodies Ends.has_failed = Concludes.has_failed
conclude bodies (Ends.has_head x w) = Concludes.has_head (found-head bodies x) (conclude bodies w)
conclude bodies (Ends.has_reading x w) = Concludes.has_reading (found-reading bodies x) (conclude bodies w)
conclude bodies (Ends.are_equal c w) = Concludes.are_convertible c (conclude bodies w)
conclude {E = E} bodies (Ends.are_different {t = t} {s = s} d w) =
    Concludes.are_apart (λ c. different_is_apart E bodies d.bound t s d.path d.is c) (conclude bodies w)
