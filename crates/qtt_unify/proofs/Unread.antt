-- Steps of readings inside constructors.
use Rattle.std.proofs.Common.{◌≡◌, ℕ, zero, suc, ◌-◌, ◌≤◌, true, false, List, [], ◌∷◌, length, Option, Some, None, refl, sym, ◌∙◌, ap, arith}
use Rattle.qtt_term.specs.declared.term.Term as code
use Rattle.qtt_term.specs.declared.term.ConId.{ConId}
use Rattle.qtt_term.specs.Term.{Form, Term, Terms, var, node, ◌▸◌, ◌+++◌}
use Rattle.qtt_term.specs.Signature.{Env, family_at}
use Rattle.qtt_term.specs.Contraction.{as_con, contract}
use Rattle.qtt_term.specs.Question.{Head, either, wrap, head_step}
use Rattle.qtt_term.specs.Reading.{is_plain, at_fields, read_step, fields_step, read_from}
use Rattle.qtt_term.specs.View.{term, terms, side_by_side}
use Rattle.qtt_term.proofs.Reading.{read-on, read-out}
use Rattle.qtt_confluence.specs.Heads.{Toward}
use Rattle.qtt_unify.specs.declared.reading.Pending.{Pending}
use Rattle.qtt_unify.specs.Unread.{fields_with, still_behind, plug, con_of, plug_all, AllRead, IsPending, ArePending, GoesOn}

-- ---- options
wrap-same : {A : Type 0} (o : Option A) → wrap (λ a. a) o ≡ o
wrap-same None = refl
wrap-same (Some a) = refl

wrap-wrap : {A B C : Type 0} (g : B → C) (h : A → B) (o : Option A) → wrap g (wrap h o) ≡ wrap (λ a. g (h a)) o
wrap-wrap g h None = refl
wrap-wrap g h (Some a) = refl

-- ---- steps in fields
behind_params : (E : Env) (ts : List Term) (ss : Terms) →
    fields_step E (side_by_side ts +++ ss) (length ts) ≡ wrap (λ us. side_by_side ts +++ us) (fields_step E ss zero)
behind_params E [] ss = sym (wrap-same (fields_step E ss zero))
behind_params E (t ∷ ts) ss =
    ap (wrap (λ us. t ▸ us)) (behind_params E ts ss) ∙
    wrap-wrap (λ us. t ▸ us) (λ us. side_by_side ts +++ us) (fields_step E ss zero)

behind_read : (E : Env) (bs : List code.Term) (ss : Terms) → AllRead E bs →
    fields_step E (side_by_side (terms bs) +++ ss) zero
    ≡ wrap (λ us. side_by_side (terms bs) +++ us) (fields_step E ss zero)
behind_read E [] ss h = sym (wrap-same (fields_step E ss zero))
behind_read E (b ∷ bs) ss h =
    ap (λ o. either (wrap (λ s. s ▸ (side_by_side (terms bs) +++ ss)) o)
    (wrap (λ us. term b ▸ us) (fields_step E (side_by_side (terms bs) +++ ss) zero))) h.0 ∙
    ap (wrap (λ us. term b ▸ us)) (behind_read E bs ss h.1) ∙
    wrap-wrap (λ us. term b ▸ us) (λ us. side_by_side (terms bs) +++ us) (fields_step E ss zero)

-- ---- constructors
-- what a constructor of a plain family steps to is decided by its fields
con-steps : (E : Env) (c : ConId) (n : ℕ) (ts : Terms) → is_plain (family_at E c.family) ≡ true →
    read_step E (node (Form.con c.family c.place n) ts)
    ≡ wrap (node (Form.con c.family c.place n)) (fields_step E ts n)
unfolding contract
con-steps E c n ts h = ap (λ b. wrap (node (Form.con c.family c.place n)) (at_fields b (fields_step E ts) n)) h

pub con-closed : (E : Env) (c : ConId) (n : ℕ) (ts : Terms) → is_plain (family_at E c.family) ≡ false →
    read_step E (node (Form.con c.family c.place n) ts) ≡ None
unfolding contract
con-closed E c n ts h = ap (λ b. wrap (node (Form.con c.family c.place n)) (at_fields b (fields_step E ts) n)) h

none-left : (E : Env) (fs : List code.Term) → AllRead E fs → fields_step E (side_by_side (terms fs)) zero ≡ None
none-left E [] h = refl
none-left E (f ∷ fs) h =
    ap (λ o. either (wrap (λ s. s ▸ side_by_side (terms fs)) o)
    (wrap (λ us. term f ▸ us) (fields_step E (side_by_side (terms fs)) zero))) h.0 ∙
    ap (wrap (λ us. term f ▸ us)) (none-left E fs h.1)

length-terms : (ts : List code.Term) → length (terms ts) ≡ length ts
length-terms [] = refl
length-terms (t ∷ ts) = ap suc (length-terms ts)

params-step : (E : Env) (ps : List code.Term) (ss : Terms) →
    fields_step E (side_by_side (terms ps) +++ ss) (length ps)
    ≡ wrap (λ us. side_by_side (terms ps) +++ us) (fields_step E ss zero)
params-step E ps ss =
    ap (fields_step E (side_by_side (terms ps) +++ ss)) (sym (length-terms ps)) ∙ behind_params E (terms ps) ss

-- a constructor all of whose fields are read
pub con-read : (E : Env) (c : ConId) (ps fs : List code.Term) → is_plain (family_at E c.family) ≡ true →
    AllRead E fs → read_step E (con_of c ps fs) ≡ None
con-read E c ps fs h r =
    con-steps E c (length ps) (side_by_side (terms ps) +++ side_by_side (terms fs)) h ∙
    ap (wrap (node (Form.con c.family c.place (length ps))))
    (params-step E ps (side_by_side (terms fs)) ∙ ap (wrap (λ us. side_by_side (terms ps) +++ us)) (none-left E fs r))

-- a head that is no constructor
pub head-read : (E : Env) (t : Term) → head_step E t ≡ None → as_con t ≡ None → read_step E t ≡ None
head-read E (var i) h e = refl
head-read E (node (Form.con f c k) ts) h e = absurd (cc e)
head-read E (node F ts) h e = rw h refl

-- ---- a step inside
plug-step : (E : Env) (p : Pending) (t s : Term) → IsPending E p → read_step E t ≡ Some s →
    read_step E (plug p t) ≡ Some (plug p s)
plug-step E p t s w h =
    let here : fields_step E (t ▸ still_behind p) zero ≡ Some (s ▸ still_behind p) =
    ap (λ o. either (wrap (λ r. r ▸ still_behind p) o)
    (wrap (λ us. t ▸ us) (fields_step E (still_behind p) zero))) h in
    con-steps E p.con (length p.params.items)
    (side_by_side (terms p.params.items) +++ fields_with p (t ▸ still_behind p))
    w.plain ∙
    ap (wrap (node (Form.con p.con.family p.con.place (length p.params.items))))
    (params-step E p.params.items (fields_with p (t ▸ still_behind p)) ∙
    ap (wrap (λ us. side_by_side (terms p.params.items) +++ us))
    (behind_read E p.before.items (t ▸ still_behind p) w.before ∙ ap (wrap (λ us. fields_with p us)) here))

pub plug_all-step : (E : Env) (ps : List Pending) (t s : Term) → ArePending E ps → read_step E t ≡ Some s →
    read_step E (plug_all ps t) ≡ Some (plug_all ps s)
plug_all-step E [] t s w h = h
plug_all-step E (p ∷ ps) t s w h =
    plug-step E p (plug_all ps t) (plug_all ps s) w.0 (plug_all-step E ps t s w.1 h)

-- ---- contractions toward a head inside
head-reads : (E : Env) (t s : Term) → head_step E t ≡ Some s → read_step E t ≡ Some s
head-reads E (var i) s h = h
head-reads E (node F ts) s h = rw h refl

pub goes-same : (E : Env) (n : ℕ) (t s : Term) → s ≡ t → GoesOn E n t n s
goes-same E n t s e = λ made. (made, ap (λ u. read_from E n made u) (sym e))

pub goes-then : (E : Env) (n m k : ℕ) (t s r : Term) → GoesOn E n t m s → GoesOn E m s k r → GoesOn E n t k r
goes-then E n m k t s r f g = λ made.
    let a = f made in
    let b = g a.0 in
    (b.0, a.1 ∙ b.1)

pub toward-goes : (E : Env) (ps : List Pending) (n j : ℕ) (t h : Term) → ArePending E ps → Toward E j t h → j ≤ n →
    GoesOn E n (plug_all ps t) (n - j) (plug_all ps h)
toward-goes E ps n j t h w Toward.here l =
    let same : n ≡ n - 0 = omega arith in
    λ made. (made, ap (λ k. read_from E k made (plug_all ps t)) same)
toward-goes E ps zero j t h w (Toward.onward e r) l = absurd (omega arith)
toward-goes E ps (suc n) _ t h w (Toward.onward {n = i} {s = s} e r) l = λ made.
    let rest = toward-goes E ps n i s h w r (omega arith) (suc made) in
    let same : n - i ≡ suc n - suc i = omega arith in (
      rest.0,
      read-on E n made (plug_all ps t) (plug_all ps s) (plug_all-step E ps t s w (head-reads E t s e)) ∙
          rest.1 ∙ ap (λ k. read_from E k rest.0 (plug_all ps h)) same,
    )

pub toward-spent : (E : Env) (ps : List Pending) (n : ℕ) (t s : Term) → ArePending E ps → Toward E (suc n) t s →
    (made : ℕ) → read_from E n made (plug_all ps t) ≡ Head.spent
toward-spent E ps zero t s w (Toward.onward {s = r} e x) made =
    read-out E made (plug_all ps t) (plug_all ps r) (plug_all-step E ps t r w (head-reads E t r e))
toward-spent E ps (suc n) t s w (Toward.onward {s = r} e x) made =
    read-on E n made (plug_all ps t) (plug_all ps r) (plug_all-step E ps t r w (head-reads E t r e)) ∙
    toward-spent E ps n r s w x (suc made)

pub toward-none : {E : Env} {t h : Term} (n : ℕ) → n ≡ 0 → Toward E n t h → h ≡ t
toward-none n e Toward.here = refl
toward-none _ e (Toward.onward {n = n} x r) = absurd (omega arith)

pub read-ends : (E : Env) (n made : ℕ) (t : Term) → read_step E t ≡ None → read_from E n made t ≡ Head.done t made
read-ends E zero made t h = rw (h, read_from) refl
read-ends E (suc n) made t h = rw (h, read_from) refl
