-- Lists of questions that end with an answer, without a bound.
use Rattle.std.proofs.Common.{◌≡◌, ℕ, Bool, true, false, ◌&&◌, cond, eqb, Some, None, refl, sym, ◌∙◌, subst}
use Rattle.std.proofs.lemmas.Bool.{eq-eqb}
use Rattle.qtt_base.specs.declared.place.GlobalId.{GlobalId}
use Rattle.qtt_usage.specs.declared.mult.Mult.{Mult}
use Rattle.qtt_term.specs.Term.{Form, Term, Terms, node, ε, ◌▸◌, size, Sort, Pi, Fam, same_id}
use Rattle.qtt_term.specs.Signature.{Env}
use Rattle.qtt_term.specs.Contraction.{Conv, BodiesClosed}
use Rattle.qtt_term.specs.Judgement.{Ctx}
use Rattle.qtt_term.specs.Ask.{Ask, ◌>>=◌, Ending, Ends}
use Rattle.qtt_term.specs.Infer.{Premise, agree, sort_of, function_of, as_family, family_of}
use Rattle.qtt_term.specs.Forms.{as_sort, as_function}
use Rattle.qtt_term.specs.Premises.{need, found}
use Rattle.qtt_term.proofs.Same.{id-same}
use Rattle.qtt_confluence.proofs.Facts.{head_is_reached}
use Rattle.qtt_core_check.proofs.Heads.{form-found, sort-head, pi-head, fam-head}

pub record Answered (E : Env) {F P A : Type 0} (m : Ask F P A) : Type 0 where
  pub answer : A
  pub ends : Ends E m (Ending.ok answer)

pub ends-then : {E : Env} {F P A B : Type 0} {a : A} {e : Ending F P B} (m : Ask F P A) (k : A → Ask F P B) →
    Ends E m (Ending.ok a) → Ends E (k a) e → Ends E (m >>= k) e
unfolding ◌>>=◌
ends-then (Ask.done a) k Ends.is_done y = y
ends-then (Ask.fail f) k x y = elim x [ ]
ends-then (Ask.head p d t g) k (Ends.has_head {h = h} e x) y = Ends.has_head e (ends-then (g h) k x y)
ends-then (Ask.read p d t g) k (Ends.has_reading {r = h} e x) y = Ends.has_reading e (ends-then (g h) k x y)
ends-then (Ask.compare p d t s m w) k (Ends.are_equal e x) y = Ends.are_equal e (ends-then m k x y)
ends-then (Ask.compare p d t s m w) k (Ends.are_different e x) y = Ends.are_different e (ends-then w k x y)

pub and-then : {E : Env} {F P A B : Type 0} (m : Ask F P A) (k : A → Ask F P B) → Answered E m →
    ((a : A) → Ends E m (Ending.ok a) → Answered E (k a)) → Answered E (m >>= k)
and-then m k x y =
    let r = y x.answer x.ends in record { answer = r.answer; ends = ends-then m k x.ends r.ends }

pub answered-now : {E : Env} {F P A : Type 0} (a : A) → Answered E {F = F} {P = P} (Ask.done a)
answered-now a = record { answer = a; ends = Ends.is_done }

-- ---- premises that hold
pub need-answered : {E : Env} (b : Bool) (p : Premise) → b ≡ true →
    Answered E {P = Unit {0}} (need b p)
unfolding need
need-answered true p e = answered-now tt
need-answered false p e = absurd (cc e)

pub agree-answered : {E : Env} (Γ : Ctx) (t s : Term) (p : Premise) → Conv E t s → Answered E (agree Γ t s p)
unfolding agree
agree-answered Γ t s p c = record { answer = tt; ends = Ends.are_equal c Ends.is_done }

choice-answered : {E : Env} (b : Bool) (p : Premise) (ts : Terms) → b ≡ true →
    Answered E {F = Premise} {P = Unit {0}} (found (cond b (Some ts) None) p)
choice-answered true p ts e = answered-now ts
choice-answered false p ts e = absurd (cc e)

-- ---- heads
sort-read : {E : Env} (l : ℕ) (ss : Terms) (p : Premise) → size ss ≡ 0 →
    Answered E {P = Unit {0}} (found (as_sort (node (Form.sort l) ss)) p)
sort-read l ε p e = answered-now l
sort-read l (s ▸ ss) p e = absurd (cc e)

function-read : {E : Env} (q : Mult) (ss : Terms) (p : Premise) → size ss ≡ 2 →
    Answered E {P = Unit {0}} (found (as_function (node (Form.pi q) ss)) p)
function-read q ε p e = absurd (cc e)
function-read q (A ▸ ε) p e = absurd (cc e)
function-read q (A ▸ B ▸ ε) p e = answered-now (record { mult = q; domain = A; codomain = B })
function-read q (A ▸ B ▸ C ▸ ss) p e = absurd (cc e)

family-read : {E : Env} (g : GlobalId) (n : ℕ) (ss : Terms) (p : Premise) → size ss ≡ n →
    Answered E {P = Unit {0}} (found (as_family g n (Fam g ss)) p)
family-read g n ss p e =
    let t : (same_id g g && eqb (size ss) n) ≡ true = rw (id-same g, eq-eqb (size ss) n e) refl in
    choice-answered (same_id g g && eqb (size ss) n) p ss t

module _ (E : Env) (bodies : BodiesClosed E) where
  pub sort-answered : (Γ : Ctx) (A : Term) (l : ℕ) (p : Premise) → Conv E A (Sort l) → Answered E (sort_of Γ A p)
  unfolding sort_of
  sort-answered Γ A l p c =
      let r = head_is_reached E bodies A (Sort l) c (sort-head E bodies l) in
      let (ss, e, s, d) = form-found E bodies A r.head (Form.sort l) ε r.is (sort-head E bodies l) c in
      let a = subst (λ h. Answered E {P = Unit {0}} (found (as_sort h) p)) (sym e) (sort-read l ss p s) in
      record { answer = a.answer; ends = Ends.has_head r.is a.ends }

  pub function-answered : (Γ : Ctx) (A : Term) (q : Mult) (B C : Term) (p : Premise) → Conv E A (Pi q B C) →
      Answered E (function_of Γ A p)
  unfolding function_of
  function-answered Γ A q B C p c =
      let r = head_is_reached E bodies A (Pi q B C) c (pi-head E bodies q B C) in
      let (ss, e, s, d) = form-found E bodies A r.head (Form.pi q) (B ▸ C ▸ ε) r.is (pi-head E bodies q B C) c in
      let a = subst (λ h. Answered E {P = Unit {0}} (found (as_function h) p)) (sym e) (function-read q ss p s) in
      record { answer = a.answer; ends = Ends.has_head r.is a.ends }

  pub family-answered : (Γ : Ctx) (A : Term) (g : GlobalId) (n : ℕ) (ts : Terms) (p : Premise) →
      Conv E A (Fam g ts) → size ts ≡ n → Answered E (family_of Γ g n A p)
  unfolding family_of
  family-answered Γ A g n ts p c z =
      let r = head_is_reached E bodies A (Fam g ts) c (fam-head E bodies g ts) in
      let (ss, e, s, d) = form-found E bodies A r.head (Form.fam g) ts r.is (fam-head E bodies g ts) c in
      let a = subst (λ h. Answered E {P = Unit {0}} (found (as_family g n h) p)) (sym e)
      (family-read g n ss p (s ∙ z)) in
      record { answer = a.answer; ends = Ends.has_head r.is a.ends }
