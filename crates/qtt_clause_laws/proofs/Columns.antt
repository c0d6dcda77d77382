-- The columns of a clause read its patterns against the terms that stand for the opened binders.
use Rattle.std.proofs.Common.{◌≡◌, ℕ, zero, suc, List, [], ◌∷◌, ◌++◌, map, Option, None, Bool, true, false, ◌&&◌, cond, refl, sym, ◌∙◌, ap, subst, ◌⊎◌, inl, inr}
use Rattle.qtt_base.specs.declared.place.GlobalId.{GlobalId}
use Rattle.qtt_base.specs.declared.place.Span.{Span}
use Rattle.qtt_syntax.specs.declared.expr.Named.{Named}
use Rattle.qtt_syntax.specs.declared.expr.Mark.{Mark}
use Rattle.qtt_syntax.specs.Tree.{Shape, Shapes}
use Rattle.qtt_syntax.specs.Tree.Shape.{variable, wildcard, constructor, dot}
use Rattle.qtt_syntax.specs.Tree.Shapes.{no_shape, shape_and}
use Rattle.qtt_term.specs.Term.{Form, Term, Terms, var, node, ε, ◌▸◌, skip, ◌+++◌}
use Rattle.qtt_term.specs.Substitution.{sub, subs, cons, push, closed}
use Rattle.qtt_term.specs.Signature.{Tele}
use Rattle.qtt_term.specs.Entries.{Entries}
use Rattle.qtt_match.specs.Constructors.{names_constructor}
use Rattle.qtt_split.specs.Constructors.{fields_at}
use Rattle.qtt_match.specs.Match.{parts, all_parts}
use Rattle.qtt_term.specs.Forms.{front}
use Rattle.qtt_split.specs.Node.{Column, column, Settled, before, settle, settle_fields, settle_all, Examined, examined_by, examined}
use Rattle.qtt_split.specs.Branch.{moved_column}
use Rattle.qtt_split.specs.Laws.{Alike, AllAlike, column_values}

-- ---- lists of terms
pub skip-subs : (k : ℕ) (ts : Terms) (σ : ℕ → Term) → skip k (subs [] σ ts) ≡ subs [] σ (skip k ts)
skip-subs zero ts σ = refl
skip-subs (suc k) ε σ = refl
skip-subs (suc k) (t ▸ ts) σ = skip-subs k ts σ

pub append-assoc : {A : Type 0} (xs ys zs : List A) → (xs ++ ys) ++ zs ≡ xs ++ (ys ++ zs)
append-assoc [] ys zs = refl
append-assoc (x ∷ xs) ys zs = ap (λ zs. x ∷ zs) (append-assoc xs ys zs)

map-append : {A B : Type 0} (f : A → B) (xs ys : List A) → map f (xs ++ ys) ≡ map f xs ++ map f ys
map-append f [] ys = refl
map-append f (x ∷ xs) ys = ap (λ zs. f x ∷ zs) (map-append f xs ys)

pub and-false : (b : Bool) → b && false ≡ false
and-false true = refl
and-false false = refl

-- ---- what settles
settled≢goes : {cs : List Column} → Settled.columns cs ≡ Settled.goes → ⊥
settled≢goes e = cc e

before-assoc : (a b c : Settled) → before (before a b) c ≡ before a (before b c)
before-assoc (Settled.columns xs) (Settled.columns ys) (Settled.columns zs) =
    ap Settled.columns (append-assoc xs ys zs)
before-assoc (Settled.columns xs) (Settled.columns ys) Settled.goes = refl
before-assoc (Settled.columns xs) (Settled.columns ys) (Settled.sticks s t) = refl
before-assoc (Settled.columns xs) Settled.goes c = refl
before-assoc (Settled.columns xs) (Settled.sticks s t) c = refl
before-assoc Settled.goes b c = refl
before-assoc (Settled.sticks s t) b c = refl

before-none : (a : Settled) → before (Settled.columns []) a ≡ a
before-none (Settled.columns cs) = refl
before-none Settled.goes = refl
before-none (Settled.sticks s t) = refl

pub settle-append : (K : Entries) (cs ds : List Column) →
    settle_all K (cs ++ ds) ≡ before (settle_all K cs) (settle_all K ds)
settle-append K [] ds = sym (before-none (settle_all K ds))
settle-append K (c ∷ cs) ds =
    ap (before (settle K c.pattern c.term c.type)) (settle-append K cs ds)
    ∙ sym (before-assoc (settle K c.pattern c.term c.type) (settle_all K cs) (settle_all K ds))

-- both were read
record Both (a b : Settled) (ds : List Column) : Type 0 where
  first : List Column
  second : List Column
  is_first : a ≡ Settled.columns first
  is_second : b ≡ Settled.columns second
  whole : first ++ second ≡ ds

columns-of : {cs ds : List Column} → Settled.columns cs ≡ Settled.columns ds → cs ≡ ds
columns-of e = cc e

before-columns : (a b : Settled) (ds : List Column) → before a b ≡ Settled.columns ds → Both a b ds
before-columns (Settled.columns xs) (Settled.columns ys) ds e =
    record { first = xs; second = ys; is_first = refl; is_second = refl; whole = columns-of e }
before-columns (Settled.columns xs) Settled.goes ds e = absurd (cc e)
before-columns (Settled.columns xs) (Settled.sticks s t) ds e = absurd (cc e)
before-columns Settled.goes b ds e = absurd (cc e)
before-columns (Settled.sticks s t) b ds e = absurd (cc e)

pub before-goes : (a b : Settled) → before a b ≡ Settled.goes → (a ≡ Settled.goes) ⊎ (b ≡ Settled.goes)
before-goes (Settled.columns xs) (Settled.columns ys) e = absurd (cc e)
before-goes (Settled.columns xs) Settled.goes e = inr refl
before-goes (Settled.columns xs) (Settled.sticks s t) e = absurd (cc e)
before-goes Settled.goes b e = inl refl
before-goes (Settled.sticks s t) b e = absurd (cc e)

cond-columns : (b : Bool) (s : Settled) (cs : List Column) → cond b s Settled.goes ≡ Settled.columns cs →
    (b ≡ true) × (s ≡ Settled.columns cs)
cond-columns true s cs e = (refl, e)
cond-columns false s cs e = absurd (cc e)

pub cond-goes : (b : Bool) (s : Settled) → cond b s Settled.goes ≡ Settled.goes → (b ≡ false) ⊎ (s ≡ Settled.goes)
cond-goes true s e = inr e
cond-goes false s e = inl refl

-- ---- columns that read these patterns against these terms: constructor patterns on constructors may have given way
-- to their fields'
pub data Reads (K : Entries) : Shapes → Terms → List Column → Type 0 where
  none : Reads K no_shape ε []
  beside : {p : Shape} {t A : Term} {ps : Shapes} {ts : Terms} {cs : List Column} → Reads K ps ts cs →
      Reads K (shape_and p ps) (t ▸ ts) (column p t A ∷ cs)
  within : {m : Mark} {h : Named} {s : Span} {f : GlobalId} {c k : ℕ} {ps qs : Shapes} {us ts : Terms}
      {ds cs : List Column} →
      names_constructor K.families h f c ≡ true → Reads K ps (skip k us) ds → Reads K qs ts cs →
      Reads K (shape_and (constructor m h ps s) qs) (node (Form.con f c k) us ▸ ts) (ds ++ cs)

pub reads-moved : {K : Entries} {ps : Shapes} {ts : Terms} {cs : List Column} (δ : ℕ → Term) → Reads K ps ts cs →
    Reads K ps (subs [] δ ts) (map (moved_column δ) cs)
reads-moved δ Reads.none = Reads.none
reads-moved δ (Reads.beside h) = Reads.beside (reads-moved δ h)
reads-moved {K} δ (Reads.within {k = k} {ps = ps} {us = us} {ds = ds} {cs = cs} n h g) =
    subst (Reads K _ _) (sym (map-append (moved_column δ) ds cs))
    (Reads.within n (subst (λ ts. Reads K ps ts (map (moved_column δ) ds)) (sym (skip-subs k us δ)) (reads-moved δ h))
    (reads-moved δ g))

module _ (K : Entries) where
  mutual
    read-one : (p : Shape) (t A : Term) (xs : List Column) {qs : Shapes} {ts : Terms} {ys : List Column} →
        settle K p t A ≡ Settled.columns xs → Reads K qs ts ys →
        Reads K (shape_and p qs) (t ▸ ts) (xs ++ ys)
    read-one (variable m n s) t A xs {qs} {ts} {ys} e h =
        subst (λ xs. Reads K (shape_and (variable m n s) qs) (t ▸ ts) (xs ++ ys)) (columns-of e) (Reads.beside h)
    read-one (wildcard m s) t A xs {qs} {ts} {ys} e h =
        subst (λ xs. Reads K (shape_and (wildcard m s) qs) (t ▸ ts) (xs ++ ys)) (columns-of e) (Reads.beside h)
    read-one (dot m x s) t A xs {qs} {ts} {ys} e h = subst
        (λ xs. Reads K (shape_and (dot m x s) qs) (t ▸ ts) (xs ++ ys)) (columns-of e) (Reads.beside h)
    read-one (constructor m g ps s) (var i) A xs {qs} {ts} {ys} e h =
        subst (λ xs. Reads K (shape_and (constructor m g ps s) qs) (var i ▸ ts) (xs ++ ys)) (columns-of e)
        (Reads.beside h)
    read-one (constructor m g ps s) (node (Form.con f c k) us) A xs e h =
        let r = cond-columns (names_constructor K.families g f c)
        (settle_fields K ps (push (front k us) closed) (fields_at K f c) (skip k us)) xs e in
        Reads.within r.0 (read-fields ps (push (front k us) closed) (fields_at K f c) (skip k us) xs r.1) h
    read-one (constructor m g ps s) (node F us) A xs e h = absurd (cc e)

    read-fields : (ps : Shapes) (σ : ℕ → Term) (Θ : Tele) (ts : Terms) (xs : List Column) →
        settle_fields K ps σ Θ ts ≡ Settled.columns xs → Reads K ps ts xs
    read-fields no_shape σ [] ε xs e = subst (Reads K no_shape ε) (columns-of e) Reads.none
    read-fields (shape_and p ps) σ (b ∷ Θ) (t ▸ ts) xs e =
        let r = before-columns (settle K p t (sub σ b.1)) (settle_fields K ps (cons t σ) Θ ts) xs e in
        subst (Reads K (shape_and p ps) (t ▸ ts)) r.whole
        (read-one p t (sub σ b.1) r.first r.is_first (read-fields ps (cons t σ) Θ ts r.second r.is_second))
    read-fields no_shape σ (b ∷ Θ) ts xs e = absurd (cc e)
    read-fields no_shape σ [] (t ▸ ts) xs e = absurd (cc e)
    read-fields (shape_and p ps) σ [] ts xs e = absurd (cc e)
    read-fields (shape_and p ps) σ (b ∷ Θ) ε xs e = absurd (cc e)

  pub settled-reads : {ps : Shapes} {ts : Terms} {cs : List Column} → Reads K ps ts cs → (ds : List Column) →
      settle_all K cs ≡ Settled.columns ds → Reads K ps ts ds
  settled-reads Reads.none ds e = subst (Reads K no_shape ε) (columns-of e) Reads.none
  settled-reads (Reads.beside {p = p} {t = t} {A = A} {ps = ps} {ts = ts} {cs = cs} h) ds e =
      let r = before-columns (settle K p t A) (settle_all K cs) ds e in
      subst (Reads K (shape_and p ps) (t ▸ ts)) r.whole
      (read-one p t A r.first r.is_first (settled-reads h r.second r.is_second))
  settled-reads (Reads.within {m = m} {h = g} {s = s} {f = f} {c = c} {k = k} {ps = ps} {qs = qs} {us = us} {ts = ts}
      {ds = xs} {cs = cs} n h j) ds e =
      let r = before-columns (settle_all K xs) (settle_all K cs) ds (sym (settle-append K xs cs) ∙ e) in
      subst (Reads K (shape_and (constructor m g ps s) qs) (node (Form.con f c k) us ▸ ts)) r.whole
      (Reads.within n (settled-reads h r.first r.is_first) (settled-reads j r.second r.is_second))

-- ---- what is left to examine: constructor patterns stand on variables alone
abbrev pub OnVariable : Shape → Term → Type 0
OnVariable (constructor m h ps s) (node F ts) = ⊥
OnVariable _ _ = Unit {0}

abbrev pub AllOnVariables : List Column → Type 0
AllOnVariables [] = Unit {0}
AllOnVariables (c ∷ cs) = OnVariable c.pattern c.term × AllOnVariables cs

abbrev pub Stands : Shape → Type 0
Stands (constructor m h ps s) = ⊥
Stands _ = Unit {0}

-- no constructor pattern is left
abbrev pub AllStand : List Column → Type 0
AllStand [] = Unit {0}
AllStand (c ∷ cs) = Stands c.pattern × AllStand cs

on_variables-append : (cs ds : List Column) → AllOnVariables cs → AllOnVariables ds → AllOnVariables (cs ++ ds)
on_variables-append [] ds a b = b
on_variables-append (c ∷ cs) ds a b = (a.0, on_variables-append cs ds a.1 b)

module _ (K : Entries) where
  mutual
    left-one : (p : Shape) (t A : Term) (xs : List Column) → settle K p t A ≡ Settled.columns xs → AllOnVariables xs
    left-one (variable m n s) t A xs e = subst AllOnVariables (columns-of e) (tt, tt)
    left-one (wildcard m s) t A xs e = subst AllOnVariables (columns-of e) (tt, tt)
    left-one (dot m x s) t A xs e = subst AllOnVariables (columns-of e) (tt, tt)
    left-one (constructor m g ps s) (var i) A xs e = subst AllOnVariables (columns-of e) (tt, tt)
    left-one (constructor m g ps s) (node (Form.con f c k) us) A xs e =
        left-fields ps (push (front k us) closed) (fields_at K f c) (skip k us) xs
        (cond-columns (names_constructor K.families g f c) _ xs e).1
    left-one (constructor m g ps s) (node F us) A xs e = absurd (cc e)

    left-fields : (ps : Shapes) (σ : ℕ → Term) (Θ : Tele) (ts : Terms) (xs : List Column) →
        settle_fields K ps σ Θ ts ≡ Settled.columns xs → AllOnVariables xs
    left-fields no_shape σ [] ε xs e = subst AllOnVariables (columns-of e) tt
    left-fields (shape_and p ps) σ (b ∷ Θ) (t ▸ ts) xs e =
        let r = before-columns (settle K p t (sub σ b.1)) (settle_fields K ps (cons t σ) Θ ts) xs e in
        subst AllOnVariables r.whole (on_variables-append r.first r.second
        (left-one p t (sub σ b.1) r.first r.is_first) (left-fields ps (cons t σ) Θ ts r.second r.is_second))
    left-fields no_shape σ (b ∷ Θ) ts xs e = absurd (cc e)
    left-fields no_shape σ [] (t ▸ ts) xs e = absurd (cc e)
    left-fields (shape_and p ps) σ [] ts xs e = absurd (cc e)
    left-fields (shape_and p ps) σ (b ∷ Θ) ε xs e = absurd (cc e)

  pub settled-left : (cs ds : List Column) → settle_all K cs ≡ Settled.columns ds → AllOnVariables ds
  settled-left [] ds e = subst AllOnVariables (columns-of e) tt
  settled-left (c ∷ cs) ds e =
      let r = before-columns (settle K c.pattern c.term c.type) (settle_all K cs) ds e in
      subst AllOnVariables r.whole (on_variables-append r.first r.second
      (left-one c.pattern c.term c.type r.first r.is_first) (settled-left cs r.second r.is_second))

none-by : (p : Shape) (t : Term) (o : Option Examined) → OnVariable p t → examined_by p t o ≡ None →
    Stands p × (o ≡ None)
none-by (variable m n s) t o a e = (tt, e)
none-by (wildcard m s) t o a e = (tt, e)
none-by (dot m x s) t o a e = (tt, e)
none-by (constructor m h ps s) (var i) o a e = absurd (cc e)
none-by (constructor m h ps s) (node F ts) o a e = absurd a

pub none-examined : (cs : List Column) → AllOnVariables cs → examined cs ≡ None → AllStand cs
none-examined [] a e = tt
none-examined (c ∷ cs) a e = let r = none-by c.pattern c.term (examined cs) a.0 e in (r.0, none-examined cs a.1 r.1)

pub all-stand : (cs ds : List Column) → AllStand (cs ++ ds) → AllStand cs × AllStand ds
all-stand [] ds a = (tt, a)
all-stand (c ∷ cs) ds a = let r = all-stand cs ds a.1 in ((a.0, r.0), r.1)

-- ---- parts
values-append : (π : ℕ → Term) (cs ds : List Column) → column_values π (cs ++ ds) ≡
    column_values π cs +++ column_values π ds
values-append π [] ds = refl
values-append π (c ∷ cs) ds = ap (λ ts. sub π c.term ▸ ts) (values-append π cs ds)

pub alike-append : {ts ss rs qs : Terms} → AllAlike ts ss → AllAlike rs qs → AllAlike (ts +++ rs) (ss +++ qs)
alike-append AllAlike.none k = k
alike-append (AllAlike.more h hs) k = AllAlike.more h (alike-append hs k)

pub alike-skip : (k : ℕ) {ts ss : Terms} → AllAlike ts ss → AllAlike (skip k ts) (skip k ss)
alike-skip zero h = h
alike-skip (suc k) AllAlike.none = AllAlike.none
alike-skip (suc k) (AllAlike.more h hs) = alike-skip k hs

part-stands : (p : Shape) (t w : Term) → Stands p → Alike t w → AllAlike (t ▸ ε) (parts p w)
part-stands (variable m n s) t w a h = AllAlike.more h AllAlike.none
part-stands (wildcard m s) t w a h = AllAlike.more h AllAlike.none
part-stands (dot m x s) t w a h = AllAlike.more h AllAlike.none
part-stands (constructor m g ps s) t w a h = absurd a

-- where no constructor pattern is left, what the columns' terms are, are the parts
pub parts-are : {K : Entries} {ps : Shapes} {ts : Terms} {cs : List Column} (π : ℕ → Term) → Reads K ps ts cs →
    AllStand cs → {ws : Terms} → AllAlike (subs [] π ts) ws →
    AllAlike (column_values π cs) (all_parts ps ws)
parts-are π Reads.none a AllAlike.none = AllAlike.none
parts-are π (Reads.beside {p = p} {t = t} h) a (AllAlike.more {s = w} k ks) =
    alike-append (part-stands p (sub π t) w a.0 k) (parts-are π h a.1 ks)
parts-are π (Reads.within {k = k} {ps = ps} {qs = qs} {us = us} {ds = ds} {cs = cs} n h g) a
    (AllAlike.more {ss = ws} (Alike.inside {ss = ss} j) ks) =
    let b = all-stand ds cs a in
    subst (λ ts. AllAlike ts (all_parts ps (skip k ss) +++ all_parts qs ws)) (sym (values-append π ds cs))
    (alike-append (parts-are π h b.0 (subst (λ ts. AllAlike ts (skip k ss)) (skip-subs k us π) (alike-skip k j)))
    (parts-are π g b.1 ks))
parts-are π (Reads.within {k = k} {ps = ps} {qs = qs} {us = us} {ds = ds} {cs = cs} n h g) a
    (AllAlike.more {ss = ws} (Alike.made {l = l} {ss = ss} j) ks) =
    let b = all-stand ds cs a in
    subst (λ ts. AllAlike ts (all_parts ps (skip l ss) +++ all_parts qs ws)) (sym (values-append π ds cs))
    (alike-append (parts-are π h b.0 (subst (λ ts. AllAlike ts (skip l ss)) (skip-subs k us π) j))
    (parts-are π g b.1 ks))
