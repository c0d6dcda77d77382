-- A tree that the relation makes is made in larger environments too.
use Rattle.std.proofs.Common.{◌≡◌, ℕ, suc, List, [], ◌∷◌, ◌++◌, map, length, Option, Some, None, option_map, slice_get, Bool, true, false, cond, eqb, refl, sym, ◌∙◌, ap, subst}
use Rattle.std.proofs.lemmas.Bool.{and_parts}
use mathlib.Core.Path.{ap₂}
use Rattle.qtt_base.specs.declared.place.GlobalId.{GlobalId}
use Rattle.qtt_syntax.specs.declared.expr.Named.{Named}
use Rattle.qtt_syntax.specs.declared.expr.Target.{Target}
use Rattle.qtt_syntax.specs.declared.expr.Target.TheVariants.{Unknown, Local, Global}
use Rattle.qtt_syntax.specs.Tree.{Shape, Shapes}
use Rattle.qtt_syntax.specs.Tree.Shape.{variable, wildcard, constructor, dot}
use Rattle.qtt_syntax.specs.Tree.Shapes.{no_shape, shape_and}
use Rattle.qtt_term.specs.declared.term.ConId.{ConId}
use Rattle.qtt_term.specs.Term.{Form, Term, Terms, var, node, ε, ◌▸◌, skip, same_id}
use Rattle.qtt_term.specs.Substitution.{sub, cons, push, closed}
use Rattle.qtt_term.specs.Signature.{Tele, Family, ConSig, Env, There, family_of, family_at, fam_sig}
use Rattle.qtt_term.specs.Judgement.{Ctx, ext}
use Rattle.qtt_term.specs.Forms.{front}
use Rattle.qtt_term.specs.Keyed.{with_id}
use Rattle.qtt_term.specs.Question.{either}
use Rattle.qtt_term.specs.Items.{FamilyEntry, ConstructorEntry, family_id, constructor_from, constructor_in, constructor_of}
use Rattle.qtt_term.specs.Entries.{Entries, env}
use Rattle.qtt_term.proofs.Options.{some-injective}
use Rattle.qtt_term.proofs.Same.{same_id-is, id-same}
use Rattle.qtt_preserve.specs.Grows.{Grows, FamiliesStay}
use Rattle.qtt_preserve.proofs.Grow.{conv-grows}
use Rattle.qtt_match.specs.Constructors.{named_constructor, is_constructor, names_constructor}
use Rattle.qtt_split.specs.Constructors.{fields_of, fields_at}
use Rattle.qtt_split.specs.Tree.{Splitting, Tree, Branches}
use Rattle.qtt_split.specs.Node.{Clause, Column, Row, Node, Settled, before, settle, settle_fields, settle_all, Decision, decide}
use Rattle.qtt_split.specs.Branch.{moved_column, moved_row}
use Rattle.qtt_split.specs.Plan.{Opened, start_columns, start_rows, with_rows}
use Rattle.qtt_split.specs.Group.{Defined}
use Rattle.qtt_split.specs.Relation.{RightSides, Convs, Clash, Solves, Made, MadeBranches}
use Rattle.qtt_split.specs.Laws.{MadeGroup}
use Rattle.qtt_clause_laws.specs.Larger.{NamedAlike, AllNamedAlike, PatternsAlike, ClausesAlike, Larger}
use Rattle.qtt_clause_laws.specs.Accepted.{Indexed, AllIndexed}

-- ---- a constructor that is named is of a family that there is
from-family : (f : GlobalId) (n : ℕ) (cs : List ConstructorEntry) (id : GlobalId) (d : ConId) →
    constructor_from f n cs id ≡ Some d → d.family ≡ f
from-family f n [] id d e = absurd (cc e)
from-family f n (c ∷ cs) id d e = by-test (same_id c.id id) (from-family f (suc n) cs id d) e
  where
    by-test : (b : Bool) → (constructor_from f (suc n) cs id ≡ Some d → d.family ≡ f) →
        cond b (Some (record { family = f; place = n })) (constructor_from f (suc n) cs id) ≡ Some d → d.family ≡ f
    by-test true k e = ap (λ (d : ConId). d.family) (sym (some-injective e))
    by-test false k e = k e

abbrev FamilyThere : List FamilyEntry → GlobalId → Type 0
FamilyThere Fs f = There (option_map (λ (e : FamilyEntry). e.family) (with_id family_id f Fs))

there-first : (b : Bool) (F : FamilyEntry) (o : Option FamilyEntry) →
    There (option_map (λ (e : FamilyEntry). e.family) o) →
    There (option_map (λ (e : FamilyEntry). e.family) (cond b (Some F) o))
there-first true F o h = tt
there-first false F o h = h

found-there : (Fs : List FamilyEntry) (id : GlobalId) (d : ConId) → constructor_of Fs id ≡ Some d →
    FamilyThere Fs d.family
found-there [] id d e = absurd (cc e)
found-there (F ∷ Fs) id d e = go (found-there Fs id d) (constructor_in F id) refl e
  where
    here : d.family ≡ F.id → FamilyThere (F ∷ Fs) d.family
    here q = subst (λ b. There (option_map (λ (e : FamilyEntry). e.family)
        (cond b (Some F) (with_id family_id d.family Fs))))
        (sym (ap (same_id F.id) q ∙ id-same F.id)) tt

    go : (constructor_of Fs id ≡ Some d → FamilyThere Fs d.family) → (o : Option ConId) → constructor_in F id ≡ o →
        either o (constructor_of Fs id) ≡ Some d → FamilyThere (F ∷ Fs) d.family
    go k None f g = there-first (same_id F.id d.family) F (with_id family_id d.family Fs) (k g)
    go k (Some c) f g = here (from-family F.id 0 F.constructors id d (f ∙ g))

named-there : (Fs : List FamilyEntry) (t : Target) (d : ConId) → named_constructor Fs t ≡ Some d →
    FamilyThere Fs d.family
named-there Fs Unknown d e = absurd (cc e)
named-there Fs (Local i) d e = absurd (cc e)
named-there Fs (Global g) d e = found-there Fs g d e

is-there : (Fs : List FamilyEntry) (t : Target) (f : GlobalId) (c : ℕ) (o : Option ConId) →
    named_constructor Fs t ≡ o →
    is_constructor f c o ≡ true → FamilyThere Fs f
is-there Fs t f c None q e = absurd (cc e)
is-there Fs t f c (Some d) q e =
    subst (FamilyThere Fs) (sym (same_id-is f d.family (and_parts (same_id f d.family) (eqb c d.place) e).0))
    (named-there Fs t d q)

-- ---- columns are read alike
module _ (K L : Entries) where
  abbrev pub ColumnsAlike : List Column → Type 0
  ColumnsAlike [] = Unit {0}
  ColumnsAlike (c ∷ cs) = NamedAlike K L c.pattern × ColumnsAlike cs

  abbrev pub RowsAlike : List Row → Type 0
  RowsAlike [] = Unit {0}
  RowsAlike (r ∷ rows) = ColumnsAlike r.columns × RowsAlike rows

  abbrev SettledAlike : Settled → Type 0
  SettledAlike (Settled.columns cs) = ColumnsAlike cs
  SettledAlike Settled.goes = Unit {0}
  SettledAlike (Settled.sticks s t) = Unit {0}

  abbrev DecisionAlike : Decision → Type 0
  DecisionAlike Decision.none_left = Unit {0}
  DecisionAlike (Decision.stuck_on s t) = Unit {0}
  DecisionAlike (Decision.decides r rows) = RowsAlike (r ∷ rows)

  columns-append : (cs ds : List Column) → ColumnsAlike cs → ColumnsAlike ds → ColumnsAlike (cs ++ ds)
  columns-append [] ds h k = k
  columns-append (c ∷ cs) ds h k = (h.0, columns-append cs ds h.1 k)

  before-alike : (a b : Settled) → SettledAlike a → SettledAlike b → SettledAlike (before a b)
  before-alike (Settled.columns cs) (Settled.columns ds) h k = columns-append cs ds h k
  before-alike (Settled.columns cs) Settled.goes h k = tt
  before-alike (Settled.columns cs) (Settled.sticks s t) h k = tt
  before-alike Settled.goes b h k = tt
  before-alike (Settled.sticks s t) b h k = tt

  cond-alike : (b : Bool) (s : Settled) → SettledAlike s → SettledAlike (cond b s Settled.goes)
  cond-alike true s h = h
  cond-alike false s h = tt

  mutual
    settle-alike : (p : Shape) (t A : Term) → NamedAlike K L p → SettledAlike (settle K p t A)
    settle-alike (variable m n s) t A h = (tt, tt)
    settle-alike (wildcard m s) t A h = (tt, tt)
    settle-alike (dot m e s) t A h = (tt, tt)
    settle-alike (constructor m g ps s) (var i) A h = (h, tt)
    settle-alike (constructor m g ps s) (node (Form.con f c k) ts) A h =
        cond-alike (names_constructor K.families g f c) _
        (fields-alike ps (push (front k ts) closed) (fields_at K f c) (skip k ts) h.1)
    settle-alike (constructor m g ps s) (node F ts) A h = tt

    fields-alike : (ps : Shapes) (σ : ℕ → Term) (Θ : Tele) (ts : Terms) → AllNamedAlike K L ps →
        SettledAlike (settle_fields K ps σ Θ ts)
    fields-alike no_shape σ [] ε h = tt
    fields-alike (shape_and p ps) σ (b ∷ Θ) (t ▸ ts) h =
        before-alike (settle K p t (sub σ b.1)) (settle_fields K ps (cons t σ) Θ ts)
        (settle-alike p t (sub σ b.1) h.0) (fields-alike ps (cons t σ) Θ ts h.1)
    fields-alike no_shape σ (b ∷ Θ) ts h = tt
    fields-alike no_shape σ [] (t ▸ ts) h = tt
    fields-alike (shape_and p ps) σ [] ts h = tt
    fields-alike (shape_and p ps) σ (b ∷ Θ) ε h = tt

  all-alike : (cs : List Column) → ColumnsAlike cs → SettledAlike (settle_all K cs)
  all-alike [] h = tt
  all-alike (c ∷ cs) h =
      before-alike (settle K c.pattern c.term c.type) (settle_all K cs) (settle-alike c.pattern c.term c.type h.0)
      (all-alike cs h.1)

  -- what the first row's columns come to, and what the others decide
  abbrev decided_by : Row → List Row → Decision → Settled → Decision
  decided_by r rows d s = elim s [
    | Settled.columns cs ↦ Decision.decides (record { clause = r.clause; columns = cs }) rows
    | Settled.goes ↦ d
    | Settled.sticks s t ↦ Decision.stuck_on s t
  ]

  decided-alike : (r : Row) (rows : List Row) (d : Decision) (s : Settled) → SettledAlike s → RowsAlike rows →
      DecisionAlike d → DecisionAlike (decided_by r rows d s)
  decided-alike r rows d (Settled.columns cs) h k e = (h, k)
  decided-alike r rows d Settled.goes h k e = e
  decided-alike r rows d (Settled.sticks s t) h k e = tt

  decide-alike : (rows : List Row) → RowsAlike rows → DecisionAlike (decide K rows)
  decide-alike [] h = tt
  decide-alike (r ∷ rows) h =
      decided-alike r rows (decide K rows) (settle_all K r.columns) (all-alike r.columns h.0) h.1
      (decide-alike rows h.1)

  pub decides-alike : (rows : List Row) (r : Row) (others : List Row) → RowsAlike rows →
      decide K rows ≡ Decision.decides r others → RowsAlike (r ∷ others)
  decides-alike rows r others h e = subst DecisionAlike e (decide-alike rows h)

  columns-moved : (δ : ℕ → Term) (cs : List Column) → ColumnsAlike cs → ColumnsAlike (map (moved_column δ) cs)
  columns-moved δ [] h = tt
  columns-moved δ (c ∷ cs) h = (h.0, columns-moved δ cs h.1)

  pub rows-moved : (δ : ℕ → Term) (rows : List Row) → RowsAlike rows → RowsAlike (map (moved_row δ) rows)
  rows-moved δ [] h = tt
  rows-moved δ (r ∷ rows) h = (columns-moved δ r.columns h.0, rows-moved δ rows h.1)

  -- ---- the first node
  start-columns : (Γ : Ctx) (ps : List Shape) (is : List ℕ) → PatternsAlike K L ps →
      ColumnsAlike (start_columns Γ ps is)
  start-columns Γ [] is h = tt
  start-columns Γ (p ∷ ps) [] h = tt
  start-columns Γ (p ∷ ps) (i ∷ is) h = (h.0, start-columns Γ ps is h.1)

  pub start-alike : (Γ : Ctx) (n : ℕ) (cs : List Clause) → ClausesAlike K L cs → RowsAlike (start_rows Γ n cs)
  start-alike Γ n [] h = tt
  start-alike Γ n (c ∷ cs) h = (start-columns Γ c.patterns _ h.0, start-alike Γ (suc n) cs h.1)

  module _ (stays : FamiliesStay (env K) (env L)) where
    fields-same : (f : GlobalId) (c : ℕ) → There ((env K).family f) → fields_at L f c ≡ fields_at K f c
    fields-same f c h = ap (λ o. fields_of (slice_get (family_of o).constructors c)) (sym (stays f h))

    -- a constructor pattern on a constructor
    matched : (g : Named) (ps : Shapes) (f : GlobalId) (c : ℕ) (σ : ℕ → Term) (ts : Terms) →
        ((Θ : Tele) → settle_fields L ps σ Θ ts ≡ settle_fields K ps σ Θ ts) →
        (b : Bool) → names_constructor K.families g f c ≡ b →
        cond b (settle_fields L ps σ (fields_at L f c) ts) Settled.goes
        ≡ cond b (settle_fields K ps σ (fields_at K f c) ts) Settled.goes
    matched g ps f c σ ts h true e =
        ap (λ Θ. settle_fields L ps σ Θ ts)
        (fields-same f c (is-there K.families g.target f c (named_constructor K.families g.target) refl e))
        ∙ h (fields_at K f c)
    matched g ps f c σ ts h false e = refl

    mutual
      settle-same : (p : Shape) (t A : Term) → NamedAlike K L p → settle L p t A ≡ settle K p t A
      settle-same (variable m n s) t A h = refl
      settle-same (wildcard m s) t A h = refl
      settle-same (dot m e s) t A h = refl
      settle-same (constructor m g ps s) (var i) A h = refl
      settle-same (constructor m g ps s) (node (Form.con f c k) ts) A h =
          ap (λ b. cond b (settle_fields L ps (push (front k ts) closed) (fields_at L f c) (skip k ts)) Settled.goes)
          (ap (is_constructor f c) (sym h.0))
          ∙ matched g ps f c (push (front k ts) closed) (skip k ts)
          (λ Θ. settle-fields-same ps (push (front k ts) closed) Θ (skip k ts) h.1)
          (names_constructor K.families g f c) refl
      settle-same (constructor m g ps s) (node F ts) A h = refl

      settle-fields-same : (ps : Shapes) (σ : ℕ → Term) (Θ : Tele) (ts : Terms) → AllNamedAlike K L ps →
          settle_fields L ps σ Θ ts ≡ settle_fields K ps σ Θ ts
      settle-fields-same no_shape σ [] ε h = refl
      settle-fields-same (shape_and p ps) σ (b ∷ Θ) (t ▸ ts) h =
          ap₂ before (settle-same p t (sub σ b.1) h.0) (settle-fields-same ps (cons t σ) Θ ts h.1)
      settle-fields-same no_shape σ (b ∷ Θ) ts h = refl
      settle-fields-same no_shape σ [] (t ▸ ts) h = refl
      settle-fields-same (shape_and p ps) σ [] ts h = refl
      settle-fields-same (shape_and p ps) σ (b ∷ Θ) ε h = refl

    all-same : (cs : List Column) → ColumnsAlike cs → settle_all L cs ≡ settle_all K cs
    all-same [] h = refl
    all-same (c ∷ cs) h = ap₂ before (settle-same c.pattern c.term c.type h.0) (all-same cs h.1)

    pub decide-same : (rows : List Row) → RowsAlike rows → decide L rows ≡ decide K rows
    decide-same [] h = refl
    decide-same (r ∷ rows) h = ap₂ (decided_by r rows) (decide-same rows h.1) (all-same r.columns h.0)

-- ---- conversions and equations
module _ {D E : Env} (grows : Grows D E) where
  convs-grow : {ts ss : Terms} → Convs D ts ss → Convs E ts ss
  convs-grow Convs.none = Convs.none
  convs-grow (Convs.more h hs) = Convs.more (conv-grows grows h) (convs-grow hs)

  clash-grows : {ts us : Terms} → Clash D ts us → Clash E ts us
  clash-grows (Clash.conflict c q) = Clash.conflict (conv-grows grows c) q
  clash-grows (Clash.of_fields c h) = Clash.of_fields (conv-grows grows c) (clash-grows h)
  clash-grows (Clash.later h) = Clash.later (clash-grows h)

  solves-grows : {ts us : Terms} {s : List (ℕ × Term)} → Solves D ts us s → Solves E ts us s
  solves-grows Solves.no_target = Solves.no_target
  solves-grows Solves.no_result = Solves.no_result
  solves-grows (Solves.solution h) = Solves.solution (solves-grows h)
  solves-grows (Solves.injectivity c h k) = Solves.injectivity (conv-grows grows c) (solves-grows h) (solves-grows k)

-- ---- trees
module _ (K L : Entries) (grows : Grows (env K) (env L)) (stays : FamiliesStay (env K) (env L)) (side : RightSides)
  where
    mutual
      made-larger : {N : Node} {T : Tree} {ts left : Terms} → Made K side N T ts left → RowsAlike K L N.rows →
          Indexed K T → Made L side N T ts left
      made-larger (Made.none_left {N = N} d) a i = Made.none_left (decide-same K L stays N.rows a ∙ d)
      made-larger (Made.leaf {N = N} d x s) a i = Made.leaf (decide-same K L stays N.rows a ∙ d) x s
      made-larger (Made.split {N = N} {r = r} {rows = rows} {w = w} {xs = xs} {ts = us} {bs = bs} {sides = ss}
          {left = rest} d ir ct pf
          cs zi h) a i =
          let same : family_at (env K) w.family ≡ family_at (env L) w.family = ap family_of (stays w.family i.0) in
          Made.split (decide-same K L stays N.rows a ∙ d) ir (conv-grows grows ct)
          (subst (λ (F : Family). w.params ≡ front (length F.params) xs) same pf)
          (subst (λ (F : Family). Convs (env L) (skip (length F.params) xs) us) same (convs-grow grows cs)) zi
          (subst (λ (F : Family).
          MadeBranches L side (with_rows N (r ∷ rows)) w us 0 (fam_sig w.family F).constructors bs ss rest) same
          (branches-larger h (decides-alike K L N.rows r rows a d) i.2))
      made-larger (Made.delete {N = N} {r = r} {rows = rows} d ir ct ci e h) a i =
          Made.delete (decide-same K L stays N.rows a ∙ d) ir (conv-grows grows ct) (conv-grows grows ci) e
          (made-larger h (rows-moved K L _ (r ∷ rows) (decides-alike K L N.rows r rows a d)) i)

      branches-larger : {N : Node} {w : Splitting} {us : Terms} {c : ℕ} {ds : List ConSig} {bs : Branches}
          {ts left : Terms} → MadeBranches K side N w us c ds bs ts left → RowsAlike K L N.rows → AllIndexed K bs →
          MadeBranches L side N w us c ds bs ts left
      branches-larger MadeBranches.none a i = MadeBranches.none
      branches-larger (MadeBranches.clashes z c h) a i =
          MadeBranches.clashes z (clash-grows grows c) (branches-larger h a i.1)
      branches-larger {N} (MadeBranches.solved names z s e m h) a i =
          MadeBranches.solved names z (solves-grows grows s) e (made-larger m (rows-moved K L _ N.rows a) i.0)
          (branches-larger h a i.1)

-- ---- groups
abbrev pub in_environment : Defined → Entries → Defined
in_environment D L = record D { group = record D.group { globals = L } }

pub group-larger : (side : RightSides) (D : Defined) (L : Entries) (O : Opened) (T : Tree) (sides : Terms) →
    Larger D.group.globals L D.group.clauses → Indexed D.group.globals T → MadeGroup side D O T sides →
    MadeGroup side (in_environment D L) O T sides
group-larger side D L O T sides l i m = record {
  wide = m.wide;
  made = made-larger D.group.globals L l.grows l.stays side m.made
      (start-alike D.group.globals L (ext [] O.binders) 0 D.group.clauses l.names) i;
  closed = m.closed;
}
