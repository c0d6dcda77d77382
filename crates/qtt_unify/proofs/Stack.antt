-- Constructors around what is read, the innermost last.
use Rattle.std.proofs.Common.{◌≡◌, ℕ, ◌+◌, ◌<◌, ◌≤◌, true, List, [], ◌∷◌, ◌++◌, reverse, length, None, refl, sym, ◌∙◌, ap, subst, arith}
use Rattle.std.proofs.lemmas.List.{map-append, reverse-append, reverse-reverse}
use mathlib.Core.Path.{ap₂}
use Rattle.qtt_term.specs.declared.term.Term as code
use Rattle.qtt_term.specs.Term.{Form, Term, Terms, var, node, ε, ◌▸◌, ◌+++◌}
use Rattle.qtt_term.specs.Signature.{Env, family_at}
use Rattle.qtt_term.specs.Question.{weight, weights}
use Rattle.qtt_term.specs.Reading.{is_plain, read_step}
use Rattle.qtt_term.specs.View.{term, terms, side_by_side}
use Rattle.qtt_unify.specs.declared.reading.Pending.{Pending}
use Rattle.qtt_unify.specs.Unread.{plug, con_of, plug_all, AllRead, IsPending, ArePending, behinds}
use Rattle.qtt_unify.proofs.Unread.{con-read}

-- ---- the innermost
pub plug_all-last : (ps : List Pending) (p : Pending) (t : Term) → plug_all (ps ++ p ∷ []) t ≡ plug_all ps (plug p t)
plug_all-last [] p t = refl
plug_all-last (q ∷ ps) p t = ap (plug q) (plug_all-last ps p t)

pub pending-front : (E : Env) (ps : List Pending) (p : Pending) → ArePending E (ps ++ p ∷ []) →
    ArePending E ps × IsPending E p
pending-front E [] p h = (tt, h.0)
pending-front E (q ∷ ps) p h = let r = pending-front E ps p h.1 in ((h.0, r.0), r.1)

pub pending-more : (E : Env) (ps : List Pending) (p : Pending) → ArePending E ps → IsPending E p →
    ArePending E (ps ++ p ∷ [])
pending-more E [] p h w = (w, tt)
pending-more E (q ∷ ps) p h w = (h.0, pending-more E ps p h.1 w)

pub behinds-last : (ps : List Pending) (p : Pending) →
    behinds (ps ++ p ∷ []) ≡ behinds ps + weights (side_by_side (terms p.behind.items))
behinds-last [] p = omega arith
behinds-last (q ∷ ps) p = let h = behinds-last ps p in omega arith

-- ---- fields
all_read-more : (E : Env) (ts : List code.Term) (t : code.Term) → AllRead E ts → read_step E (term t) ≡ None →
    AllRead E (ts ++ t ∷ [])
all_read-more E [] t h e = (e, tt)
all_read-more E (s ∷ ts) t h e = (h.0, all_read-more E ts t h.1 e)

side-front : (ts : List code.Term) (t : code.Term) (ss : Terms) →
    side_by_side (terms ts) +++ (term t ▸ ss) ≡ side_by_side (terms (ts ++ t ∷ [])) +++ ss
side-front [] t ss = refl
side-front (s ∷ ts) t ss = ap (λ us. term s ▸ us) (side-front ts t ss)

side-none : (ts : List code.Term) → side_by_side (terms ts) +++ ε ≡ side_by_side (terms ts)
side-none [] = refl
side-none (t ∷ ts) = ap (λ us. term t ▸ us) (side-none ts)

reversed : (ts : List code.Term) (t : code.Term) →
    side_by_side (reverse (terms (ts ++ t ∷ []))) ≡ term t ▸ side_by_side (reverse (terms ts))
reversed ts t =
    ap (λ xs. side_by_side (reverse xs)) (map-append term ts (t ∷ [])) ∙
    ap side_by_side (reverse-append (terms ts) (term t ∷ []))

weights-last : (ts : List code.Term) (t : code.Term) →
    weights (side_by_side (terms (ts ++ t ∷ []))) ≡ weights (side_by_side (terms ts)) + weight (term t)
weights-last [] t = omega arith
weights-last (s ∷ ts) t = let h = weights-last ts t in omega arith

pub some-weight : (t : Term) → 1 ≤ weight t
some-weight (var i) = omega arith
some-weight (node F ts) = omega arith

-- the next field takes the place of one that is read
pub record Follows (p q : Pending) (t next : code.Term) : Type 0 where
  pub con : q.con ≡ p.con
  pub params : q.params.items ≡ p.params.items
  pub before : q.before.items ≡ p.before.items ++ t ∷ []
  pub behind : p.behind.items ≡ q.behind.items ++ next ∷ []

pub next-plug : (p q : Pending) (t next : code.Term) → Follows p q t next → plug q (term next) ≡ plug p (term t)
next-plug p q t next h =
    ap₂ (λ c ps. node (Form.con c.family c.place (length ps)) (side_by_side (terms ps) +++
    (side_by_side (terms q.before.items) +++ (term next ▸ side_by_side (reverse (terms q.behind.items))))))
    h.con h.params ∙
    ap (λ us. node (Form.con p.con.family p.con.place (length p.params.items))
    (side_by_side (terms p.params.items) +++ us))
    (ap (λ bs. side_by_side (terms bs) +++ (term next ▸ side_by_side (reverse (terms q.behind.items)))) h.before ∙
    sym (side-front p.before.items t (term next ▸ side_by_side (reverse (terms q.behind.items)))) ∙
    ap (λ us. side_by_side (terms p.before.items) +++ (term t ▸ us))
    (sym (reversed q.behind.items next) ∙ ap (λ bs. side_by_side (reverse (terms bs))) (sym h.behind)))

pub next-pending : (E : Env) (p q : Pending) (t next : code.Term) → Follows p q t next → IsPending E p →
    read_step E (term t) ≡ None → IsPending E q
next-pending E p q t next h w e = record {
  plain = subst (λ c. is_plain (family_at E c.family) ≡ true) (sym h.con) w.plain;
  before = subst (λ bs. AllRead E bs) (sym h.before) (all_read-more E p.before.items t w.before e);
}

pub next-weights : (p q : Pending) (t next : code.Term) → Follows p q t next →
    weight (term next) + weights (side_by_side (terms q.behind.items)) ≡ weights (side_by_side (terms p.behind.items))
next-weights p q t next h =
    let e = weights-last q.behind.items next in
    let f = ap (λ bs. weights (side_by_side (terms bs))) h.behind in
    omega arith

-- a constructor all of whose fields are read
pub closed-plug : (p : Pending) (t : code.Term) → p.behind.items ≡ [] →
    plug p (term t) ≡ con_of p.con p.params.items (p.before.items ++ t ∷ [])
closed-plug p t h =
    ap (λ us. node (Form.con p.con.family p.con.place (length p.params.items))
    (side_by_side (terms p.params.items) +++ us))
    (ap (λ bs. side_by_side (terms p.before.items) +++ (term t ▸ side_by_side (reverse (terms bs)))) h ∙
    side-front p.before.items t ε ∙ side-none (p.before.items ++ t ∷ []))

pub closed-read : (E : Env) (p : Pending) (t : code.Term) → IsPending E p → read_step E (term t) ≡ None →
    read_step E (con_of p.con p.params.items (p.before.items ++ t ∷ [])) ≡ None
closed-read E p t w e =
    con-read E p.con p.params.items (p.before.items ++ t ∷ []) w.plain (all_read-more E p.before.items t w.before e)

-- ---- past a term that is read
pub stepped : (E : Env) (ps : List Pending) (p q : Pending) (t next r : code.Term) (old new start : List Pending) →
    old ≡ ps ++ p ∷ [] → new ≡ ps ++ q ∷ [] → Follows p q t next →
    plug_all old (term t) ≡ plug_all start (term r) → read_step E (term t) ≡ None → ArePending E old →
    behinds old ≤ behinds start →
    (plug_all new (term next) ≡ plug_all start (term r)) × ArePending E new
    × (weight (term next) + behinds new < weight (term r) + behinds start)
stepped E ps p q t next r old new start is now f whole read around less =
    let parts = pending-front E ps p (subst (λ qs. ArePending E qs) is around) in
    let a : behinds new ≡ behinds ps + weights (side_by_side (terms q.behind.items)) =
    ap behinds now ∙ behinds-last ps q in
    let b : behinds old ≡ behinds ps + weights (side_by_side (terms p.behind.items)) =
    ap behinds is ∙ behinds-last ps p in
    let c : weight (term next) + weights (side_by_side (terms q.behind.items)) ≡ weights
    (side_by_side (terms p.behind.items)) = next-weights p q t next f in
    let d : 1 ≤ weight (term r) = some-weight (term r) in (
      ap (λ qs. plug_all qs (term next)) now ∙ plug_all-last ps q (term next) ∙
          ap (plug_all ps) (next-plug p q t next f) ∙ sym (plug_all-last ps p (term t)) ∙
          ap (λ qs. plug_all qs (term t)) (sym is) ∙ whole,
      subst (λ qs. ArePending E qs) (sym now)
          (pending-more E ps q parts.0 (next-pending E p q t next f parts.1 read)),
      omega (arith, a, b, c, d, less),
    )

-- the constructor whose last field is read
pub closed-whole : (ps : List Pending) (p : Pending) (t u : code.Term) (old : List Pending) (s : Term) →
    old ≡ ps ++ p ∷ [] → p.behind.items ≡ [] →
    term u ≡ con_of p.con p.params.items (p.before.items ++ t ∷ []) → plug_all old (term t) ≡ s →
    plug_all ps (term u) ≡ s
closed-whole ps p t u old s is none made whole =
    ap (plug_all ps) (made ∙ sym (closed-plug p t none)) ∙ sym (plug_all-last ps p (term t)) ∙
    ap (λ qs. plug_all qs (term t)) (sym is) ∙ whole

pub closed-is_read : (E : Env) (ps : List Pending) (p : Pending) (t u : code.Term) (old : List Pending) →
    old ≡ ps ++ p ∷ [] → term u ≡ con_of p.con p.params.items (p.before.items ++ t ∷ []) →
    read_step E (term t) ≡ None → ArePending E old → read_step E (term u) ≡ None
closed-is_read E ps p t u old is made read around =
    ap (read_step E) made ∙
    closed-read E p t (pending-front E ps p (subst (λ qs. ArePending E qs) is around)).1 read

pub closed-around : (E : Env) (ps : List Pending) (p : Pending) (old : List Pending) → old ≡ ps ++ p ∷ [] →
    ArePending E old → ArePending E ps
closed-around E ps p old is around = (pending-front E ps p (subst (λ qs. ArePending E qs) is around)).0

pub closed-behinds : (ps : List Pending) (p : Pending) (old : List Pending) (n : ℕ) → old ≡ ps ++ p ∷ [] →
    behinds old ≤ n → behinds ps ≤ n
closed-behinds ps p old n is less =
    let b : behinds old ≡ behinds ps + weights (side_by_side (terms p.behind.items)) =
    ap behinds is ∙ behinds-last ps p in
    omega (arith, b, less)

-- ---- into the fields of a constructor
reverse-first : (t : code.Term) (ts : List code.Term) → reverse (t ∷ ts) ≡ reverse ts ++ t ∷ []
reverse-first t ts = reverse-append (t ∷ []) ts

fields-are : (fields rest : List code.Term) (first : code.Term) → reverse fields ≡ rest ++ first ∷ [] →
    fields ≡ first ∷ reverse rest
fields-are fields rest first e =
    sym (reverse-reverse fields) ∙ ap reverse e ∙ reverse-append rest (first ∷ [])

terms-reversed : (ts : List code.Term) → terms (reverse ts) ≡ reverse (terms ts)
terms-reversed [] = refl
terms-reversed (t ∷ ts) =
    ap terms (reverse-first t ts) ∙ map-append term (reverse ts) (t ∷ []) ∙
    ap (λ us. us ++ term t ∷ []) (terms-reversed ts) ∙ sym (reverse-append (term t ∷ []) (terms ts))

weights-reversed : (ts : List code.Term) →
    weights (side_by_side (terms (reverse ts))) ≡ weights (side_by_side (terms ts))
weights-reversed [] = refl
weights-reversed (t ∷ ts) =
    let e = ap (λ us. weights (side_by_side (terms us))) (reverse-first t ts) in
    let f = weights-last (reverse ts) t in
    let h = weights-reversed ts in
    omega (arith, e, f, h)

weights-joined : (ts ss : Terms) → weights (ts +++ ss) ≡ weights ts + weights ss
weights-joined ε ss = omega arith
weights-joined (t ▸ ts) ss = let h = weights-joined ts ss in omega arith

pub entered : (E : Env) (ps new : List Pending) (p : Pending) (fields : List code.Term) (first : code.Term) →
    p.before.items ≡ [] → reverse fields ≡ p.behind.items ++ first ∷ [] → new ≡ ps ++ p ∷ [] →
    is_plain (family_at E p.con.family) ≡ true → ArePending E ps →
    (plug_all new (term first) ≡ plug_all ps (con_of p.con p.params.items fields)) × ArePending E new
    × (weight (term first) + behinds new < weight (con_of p.con p.params.items fields) + behinds ps)
entered E ps new p fields first none turned now plain around =
    let rest = p.behind.items in
    let are = fields-are fields rest first turned in
    let side : side_by_side (terms fields) ≡ term first ▸ side_by_side (reverse (terms rest)) =
    ap (λ us. side_by_side (terms us)) are ∙ ap (λ us. term first ▸ side_by_side us) (terms-reversed rest) in
    let plugged : plug p (term first) ≡ con_of p.con p.params.items fields =
    ap (λ bs. node (Form.con p.con.family p.con.place (length p.params.items)) (side_by_side (terms p.params.items) +++
    (side_by_side (terms bs) +++ (term first ▸ side_by_side (reverse (terms rest)))))) none ∙
    ap (λ us. node (Form.con p.con.family p.con.place (length p.params.items))
    (side_by_side (terms p.params.items) +++ us))
    (sym side) in
    let pending : IsPending E p = record { plain = plain; before = subst (λ bs. AllRead E bs) (sym none) tt } in
    let a : behinds new ≡ behinds ps + weights (side_by_side (terms rest)) = ap behinds now ∙ behinds-last ps p in
    let b = weights-joined (side_by_side (terms p.params.items)) (side_by_side (terms fields)) in
    let c : weights (side_by_side (terms fields)) ≡ weight (term first) +
    weights (side_by_side (terms (reverse rest))) =
    ap (λ us. weights (side_by_side (terms us))) are in
    let d = weights-reversed rest in (
      ap (λ qs. plug_all qs (term first)) now ∙ plug_all-last ps p (term first) ∙ ap (plug_all ps) plugged,
      subst (λ qs. ArePending E qs) (sym now) (pending-more E ps p around pending),
      omega (arith, a, b, c, d),
    )

pub no_fields : (fields : List code.Term) → reverse fields ≡ [] → fields ≡ []
no_fields fields e = sym (reverse-reverse fields) ∙ ap reverse e
