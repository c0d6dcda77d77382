-- Columns read from left to right.
use Rattle.std.proofs.Common.{◌≡◌, ◌∙◌, ℕ, ◌+◌, ◌<◌, ◌≤◌, true, cond, List, [], ◌∷◌, ◌++◌, length, get_or, map, drop, length-drop, ◌⊎◌, inl, inr, refl, sym, ap, arith, append_assoc}
use Rattle.std.proofs.lemmas.List.{map-append, drop_more, drop_all}
use Rattle.qtt_base.specs.declared.place.Span.{Span}
use Rattle.qtt_syntax.specs.declared.pattern.Pattern.{Pattern}
use Rattle.qtt_syntax.specs.Tree.{Shapes, shapes}
use Rattle.qtt_syntax.specs.View.{shape_of}
use Rattle.qtt_usage.specs.declared.mult.Mult.{Mult}
use Rattle.qtt_term.specs.declared.term.Term as code_term
use Rattle.qtt_term.specs.declared.term.ConId.{ConId}
use Rattle.qtt_term.specs.Term.{Form, Term, Terms, node, ε, ◌▸◌, skip, ◌+++◌}
use Rattle.qtt_term.specs.Forms.{front}
use Rattle.qtt_match.specs.Constructors.{names_constructor}
use Rattle.qtt_syntax.specs.declared.expr.Mark.{Mark}
use Rattle.qtt_syntax.specs.declared.expr.Named.{Named}
use Rattle.qtt_syntax.specs.Tree.Shape.{constructor}
use Rattle.qtt_split.specs.Constructors.{fields_at}
use Rattle.qtt_term.specs.Substitution.{sub, cons, push, closed}
use Rattle.qtt_term.specs.Signature.{Tele}
use Rattle.qtt_term.specs.Telescopes.{tele, filled}
use Rattle.qtt_term.specs.Entries.{Entries}
use Rattle.qtt_term.specs.View.{term, terms, side_by_side}
use Rattle.qtt_term.proofs.Binders.{push-append}
use Rattle.qtt_unify.specs.View.{all_terms}
use Rattle.qtt_split.specs.declared.columns.Column as code_column
use Rattle.qtt_split.specs.declared.columns.Row as code_row
use Rattle.qtt_split.specs.Columns.{column_of, row_of}
use Rattle.qtt_split.specs.Node.{Column, Row, Settled, Decision, before, settle, settle_fields, settle_all, decide}

pub before-none : (s : Settled) → before (Settled.columns []) s ≡ s
before-none (Settled.columns cs) = refl
before-none Settled.goes = refl
before-none (Settled.sticks s t) = refl

pub before-joined : (cs ds : List Column) (s : Settled) →
    before (Settled.columns (cs ++ ds)) s ≡ before (Settled.columns cs) (before (Settled.columns ds) s)
before-joined cs ds (Settled.columns es) = ap Settled.columns (append_assoc cs ds es)
before-joined cs ds Settled.goes = refl
before-joined cs ds (Settled.sticks s t) = refl

-- what has been read, and more behind it
pub read-more : (cs ds : List code_column.Column) (s : Settled) →
    before (Settled.columns (map column_of (cs ++ ds))) s
    ≡ before (Settled.columns (map column_of cs)) (before (Settled.columns (map column_of ds)) s)
read-more cs ds s =
    ap (λ xs. before (Settled.columns xs) s) (map-append column_of cs ds) ∙
    before-joined (map column_of cs) (map column_of ds) s

-- ---- all columns
pub record SettledSoFar (K : Entries) (cs : List code_column.Column) (i : ℕ) (left : List code_column.Column) : Type 0
  where
    pub is : settle_all K (map column_of cs)
        ≡ before (Settled.columns (map column_of left)) (settle_all K (map column_of (drop i cs)))

abbrev settle_one : Entries → code_column.Column → Settled
settle_one K c = settle K (shape_of c.pattern.now) (term c.term) (term c.ty)

pub none-settled : (K : Entries) (cs : List code_column.Column) → SettledSoFar K cs 0 []
none-settled K cs = record { is = sym (before-none (settle_all K (map column_of cs))) }

settled-step : (K : Entries) (cs : List code_column.Column) (i : ℕ) (left : List code_column.Column)
    (c : code_column.Column) → i < length cs → c ≡ get_or cs i c → SettledSoFar K cs i left →
    settle_all K (map column_of cs)
    ≡ before (Settled.columns (map column_of left))
    (before (settle_one K c) (settle_all K (map column_of (drop (i + 1) cs))))
settled-step K cs i left c h e so =
    so.is ∙
    ap (λ xs. before (Settled.columns (map column_of left)) (settle_all K (map column_of xs)))
    (drop_more cs i c h ∙ ap (λ x. x ∷ drop (i + 1) cs) (sym e))

pub one-settled : (K : Entries) (cs : List code_column.Column) (i : ℕ) (left more : List code_column.Column)
    (c : code_column.Column) → i < length cs → c ≡ get_or cs i c →
    Settled.columns (map column_of more) ≡ settle_one K c →
    SettledSoFar K cs i left → SettledSoFar K cs (i + 1) (left ++ more)
one-settled K cs i left more c h e s so = record {
  is =
      settled-step K cs i left c h e so ∙
      ap (λ x. before (Settled.columns (map column_of left))
      (before x (settle_all K (map column_of (drop (i + 1) cs)))))
      (sym s) ∙
      sym (read-more left more (settle_all K (map column_of (drop (i + 1) cs))));
}

pub settled-goes : (K : Entries) (cs : List code_column.Column) (i : ℕ) (left : List code_column.Column)
    (c : code_column.Column) → i < length cs → c ≡ get_or cs i c → Settled.goes ≡ settle_one K c →
    SettledSoFar K cs i left → Settled.goes ≡ settle_all K (map column_of cs)
settled-goes K cs i left c h e s so =
    sym (settled-step K cs i left c h e so ∙
    ap (λ x. before (Settled.columns (map column_of left)) (before x (settle_all K (map column_of (drop (i + 1) cs)))))
    (sym s))

pub settled-sticks : (K : Entries) (cs : List code_column.Column) (i : ℕ) (left : List code_column.Column)
    (c : code_column.Column) (p : Span) (t : Term) → i < length cs → c ≡ get_or cs i c →
    Settled.sticks p t ≡ settle_one K c → SettledSoFar K cs i left →
    Settled.sticks p t ≡ settle_all K (map column_of cs)
settled-sticks K cs i left c p t h e s so =
    sym (settled-step K cs i left c h e so ∙
    ap (λ x. before (Settled.columns (map column_of left)) (before x (settle_all K (map column_of (drop (i + 1) cs)))))
    (sym s))

pub all-settled : (K : Entries) (cs : List code_column.Column) (i : ℕ) (left : List code_column.Column) →
    length cs ≤ i → SettledSoFar K cs i left →
    Settled.columns (map column_of left) ≡ settle_all K (map column_of cs)
all-settled K cs i left h so =
    sym (so.is ∙
    ap (λ xs. before (Settled.columns (map column_of left)) (settle_all K (map column_of xs))) (drop_all i cs h) ∙
    ap Settled.columns (append-none (map column_of left)))
  where
    append-none : (xs : List Column) → xs ++ [] ≡ xs
    append-none [] = refl
    append-none (x ∷ xs) = ap (λ ys. x ∷ ys) (append-none xs)

-- ---- a constructor
pub front-joined : (ts : List Term) (ss : Terms) → front (length ts) (side_by_side ts +++ ss) ≡ side_by_side ts
front-joined [] ss = refl
front-joined (t ∷ ts) ss = ap (λ xs. t ▸ xs) (front-joined ts ss)

skip-joined : (ts : List Term) (ss : Terms) → skip (length ts) (side_by_side ts +++ ss) ≡ ss
skip-joined [] ss = refl
skip-joined (t ∷ ts) ss = skip-joined ts ss

pub settled-con : (K : Entries) (m : Mark) (h : Named) (ps : Shapes) (s : Span) (con : ConId) (qs fs : List Term)
    (A : Term) → names_constructor K.families h con.family con.place ≡ true →
    settle K (constructor m h ps s)
    (node (Form.con con.family con.place (length qs)) (side_by_side qs +++ side_by_side fs)) A
    ≡ settle_fields K ps (push (side_by_side qs) closed) (fields_at K con.family con.place) (side_by_side fs)
settled-con K m h ps s con qs fs A e =
    let ts = side_by_side qs +++ side_by_side fs in
    ap (λ b. cond b (settle_fields K ps (push (front (length qs) ts) closed) (fields_at K con.family con.place)
    (skip (length qs) ts)) Settled.goes) e ∙
    ap (λ x. settle_fields K ps (push x closed) (fields_at K con.family con.place) (skip (length qs) ts))
    (front-joined qs (side_by_side fs)) ∙
    ap (settle_fields K ps (push (side_by_side qs) closed) (fields_at K con.family con.place))
    (skip-joined qs (side_by_side fs))

-- ---- the columns of fields
pub filled-more : (vs : List code_term.Term) (v : code_term.Term) →
    filled (vs ++ v ∷ []) ≡ cons (term v) (filled vs)
filled-more vs v =
    ap (λ ts. push ts closed) (sides vs v) ∙ push-append (side_by_side (terms vs)) (term v ▸ ε) closed
  where
    sides : (vs : List code_term.Term) (v : code_term.Term) →
        side_by_side (terms (vs ++ v ∷ [])) ≡ side_by_side (terms vs) +++ (term v ▸ ε)
    sides [] v = refl
    sides (w ∷ vs) v = ap (λ ts. term w ▸ ts) (sides vs v)

-- patterns, the parameters of their constructor, and the types of its fields with their terms
pub record Fields : Type 0 where
  pub patterns : List Pattern
  pub params : List code_term.Term
  pub types : List (Mult × code_term.Term)
  pub fields : List code_term.Term

-- what is left at place i, where these values stand before it
abbrev pub fields_left : Entries → Fields → ℕ → List code_term.Term → Settled
fields_left K F i vs =
    settle_fields K (shapes (map shape_of (drop i F.patterns))) (filled vs) (tele (drop i F.types))
    (all_terms (drop i F.fields))

abbrev pub fields_settled : Entries → Fields → Settled
fields_settled K F =
    settle_fields K (shapes (map shape_of F.patterns)) (filled F.params) (tele F.types) (all_terms F.fields)

pub record FieldsSoFar (K : Entries) (F : Fields) (i : ℕ) (left : List code_column.Column)
    (vs : List code_term.Term) : Type 0 where
  pub is : fields_settled K F ≡ before (Settled.columns (map column_of left)) (fields_left K F i vs)

-- a pattern at place i, with the type of its field and its term
pub record FieldAt (F : Fields) (i : ℕ) (p : Pattern) (b : Mult × code_term.Term) (t : code_term.Term) : Type 0 where
  pub in_patterns : i < length F.patterns
  pub in_types : i < length F.types
  pub in_fields : i < length F.fields
  pub pattern : p ≡ get_or F.patterns i p
  pub type : b ≡ get_or F.types i b
  pub field : t ≡ get_or F.fields i t

pub no-field : (K : Entries) (F : Fields) (vs : List code_term.Term) → filled vs ≡ filled F.params →
    FieldsSoFar K F 0 [] vs
no-field K F vs e = record {
  is =
      ap (λ σ. settle_fields K (shapes (map shape_of F.patterns)) σ (tele F.types) (all_terms F.fields)) (sym e) ∙
      sym (before-none (fields_left K F 0 vs));
}

abbrev fields_behind : Entries → Fields → ℕ → (ℕ → Term) → Settled
fields_behind K F i σ =
    settle_fields K (shapes (map shape_of (drop (i + 1) F.patterns))) σ (tele (drop (i + 1) F.types))
    (all_terms (drop (i + 1) F.fields))

field-there : (K : Entries) (F : Fields) (i : ℕ) (vs : List code_term.Term) (p : Pattern) (b : Mult × code_term.Term)
    (t : code_term.Term) → FieldAt F i p b t →
    fields_left K F i vs
    ≡ before (settle K (shape_of p) (term t) (sub (filled vs) (term b.1)))
    (fields_behind K F i (cons (term t) (filled vs)))
field-there K F i vs p b t h =
    ap (λ ps. settle_fields K (shapes (map shape_of ps)) (filled vs) (tele (drop i F.types))
    (all_terms (drop i F.fields)))
    (drop_more F.patterns i p h.in_patterns ∙ ap (λ x. x ∷ drop (i + 1) F.patterns) (sym h.pattern)) ∙
    ap (λ Θ. settle_fields K (shapes (map shape_of (p ∷ drop (i + 1) F.patterns))) (filled vs) (tele Θ)
    (all_terms (drop i F.fields)))
    (drop_more F.types i b h.in_types ∙ ap (λ x. x ∷ drop (i + 1) F.types) (sym h.type)) ∙
    ap (λ ts. settle_fields K (shapes (map shape_of (p ∷ drop (i + 1) F.patterns))) (filled vs)
    (tele (b ∷ drop (i + 1) F.types)) (all_terms ts))
    (drop_more F.fields i t h.in_fields ∙ ap (λ x. x ∷ drop (i + 1) F.fields) (sym h.field))

field-step : (K : Entries) (F : Fields) (i : ℕ) (left : List code_column.Column) (vs : List code_term.Term)
    (p : Pattern) (b : Mult × code_term.Term) (t : code_term.Term) → FieldAt F i p b t → FieldsSoFar K F i left vs →
    fields_settled K F
    ≡ before (Settled.columns (map column_of left))
    (before (settle K (shape_of p) (term t) (sub (filled vs) (term b.1)))
    (fields_behind K F i (cons (term t) (filled vs))))
field-step K F i left vs p b t h so =
    so.is ∙ ap (before (Settled.columns (map column_of left))) (field-there K F i vs p b t h)

-- its type and its copy stand for these
pub record FieldRead (K : Entries) (vs : List code_term.Term) (p : Pattern) (b : Mult × code_term.Term)
    (t : code_term.Term) (s : Settled) : Type 0 where
  pub ty : Term
  pub filled_in : ty ≡ sub (filled vs) (term b.1)
  pub settled : s ≡ settle K (shape_of p) (term t) ty

read-so : (K : Entries) (vs : List code_term.Term) (p : Pattern) (b : Mult × code_term.Term) (t : code_term.Term)
    (s : Settled) → FieldRead K vs p b t s → s ≡ settle K (shape_of p) (term t) (sub (filled vs) (term b.1))
read-so K vs p b t s r = r.settled ∙ ap (settle K (shape_of p) (term t)) r.filled_in

pub one-field : (K : Entries) (F : Fields) (i : ℕ) (left more : List code_column.Column)
    (vs : List code_term.Term) (p : Pattern) (b : Mult × code_term.Term) (t copy : code_term.Term) →
    FieldAt F i p b t → FieldRead K vs p b t (Settled.columns (map column_of more)) → term copy ≡ term t →
    FieldsSoFar K F i left vs → FieldsSoFar K F (i + 1) (left ++ more) (vs ++ copy ∷ [])
one-field K F i left more vs p b t copy h r e so = record {
  is =
      field-step K F i left vs p b t h so ∙
      ap (λ x. before (Settled.columns (map column_of left))
      (before x (fields_behind K F i (cons (term t) (filled vs)))))
      (sym (read-so K vs p b t (Settled.columns (map column_of more)) r)) ∙
      sym (read-more left more (fields_behind K F i (cons (term t) (filled vs)))) ∙
      ap (λ σ. before (Settled.columns (map column_of (left ++ more))) (fields_behind K F i σ))
      (ap (λ x. cons x (filled vs)) (sym e) ∙ sym (filled-more vs copy));
}

pub field-stops : (K : Entries) (F : Fields) (i : ℕ) (left : List code_column.Column) (vs : List code_term.Term)
    (p : Pattern) (b : Mult × code_term.Term) (t : code_term.Term) → FieldAt F i p b t →
    FieldsSoFar K F i left vs →
    (FieldRead K vs p b t Settled.goes → Settled.goes ≡ fields_settled K F)
    × ((q : Span) (u : Term) → FieldRead K vs p b t (Settled.sticks q u) → Settled.sticks q u ≡ fields_settled K F)
field-stops K F i left vs p b t h so =
    let at = field-step K F i left vs p b t h so in
    let next : Settled → Settled =
    λ x. before (Settled.columns (map column_of left)) (before x (fields_behind K F i (cons (term t) (filled vs)))) in (
      λ r. sym (at ∙ ap next (sym (read-so K vs p b t Settled.goes r))),
      λ q u r. sym (at ∙ ap next (sym (read-so K vs p b t (Settled.sticks q u) r))),
    )

-- ---- numbers of patterns, types and fields that differ
no-types : (K : Entries) (ps : Shapes) (p : _) (σ : ℕ → Term) (ts : Terms) →
    settle_fields K (Shapes.shape_and p ps) σ [] ts ≡ Settled.goes
no-types K ps p σ ε = refl
no-types K ps p σ (t ▸ ts) = refl

no-terms : (K : Entries) (ps : Shapes) (p : _) (σ : ℕ → Term) (Θ : Tele) →
    settle_fields K (Shapes.shape_and p ps) σ Θ ε ≡ Settled.goes
no-terms K ps p σ [] = refl
no-terms K ps p σ (b ∷ Θ) = refl

pub too-few : (K : Entries) (F : Fields) (i : ℕ) (left : List code_column.Column) (vs : List code_term.Term)
    (p : Pattern) → i < length F.patterns → p ≡ get_or F.patterns i p →
    (length F.types ≤ i) ⊎ (length F.fields ≤ i) → FieldsSoFar K F i left vs → Settled.goes ≡ fields_settled K F
too-few K F i left vs p h e few so =
    sym (so.is ∙ ap (before (Settled.columns (map column_of left)))
    (ap (λ ps. settle_fields K (shapes (map shape_of ps)) (filled vs) (tele (drop i F.types))
    (all_terms (drop i F.fields)))
    (drop_more F.patterns i p h ∙ ap (λ x. x ∷ drop (i + 1) F.patterns) (sym e)) ∙
    by_kind few))
  where
    by_kind : (length F.types ≤ i) ⊎ (length F.fields ≤ i) →
        settle_fields K (shapes (map shape_of (p ∷ drop (i + 1) F.patterns))) (filled vs) (tele (drop i F.types))
        (all_terms (drop i F.fields)) ≡ Settled.goes
    by_kind (inl a) =
        ap (λ Θ. settle_fields K (shapes (map shape_of (p ∷ drop (i + 1) F.patterns))) (filled vs) (tele Θ)
        (all_terms (drop i F.fields))) (drop_all i F.types a) ∙
        no-types K (shapes (map shape_of (drop (i + 1) F.patterns))) (shape_of p) (filled vs)
        (all_terms (drop i F.fields))
    by_kind (inr b) =
        ap (λ ts. settle_fields K (shapes (map shape_of (p ∷ drop (i + 1) F.patterns))) (filled vs)
        (tele (drop i F.types)) (all_terms ts)) (drop_all i F.fields b) ∙
        no-terms K (shapes (map shape_of (drop (i + 1) F.patterns))) (shape_of p) (filled vs) (tele (drop i F.types))

more-types : (K : Entries) (σ : ℕ → Term) (b : Mult × Term) (Θ : Tele) (ts : Terms) →
    settle_fields K Shapes.no_shape σ (b ∷ Θ) ts ≡ Settled.goes
more-types K σ b Θ ε = refl
more-types K σ b Θ (t ▸ ts) = refl

more-terms : (K : Entries) (σ : ℕ → Term) (Θ : Tele) (t : Term) (ts : Terms) →
    settle_fields K Shapes.no_shape σ Θ (t ▸ ts) ≡ Settled.goes
more-terms K σ [] t ts = refl
more-terms K σ (b ∷ Θ) t ts = refl

at-end : (K : Entries) (F : Fields) (i : ℕ) (vs : List code_term.Term) → length F.patterns ≤ i →
    fields_left K F i vs
    ≡ settle_fields K Shapes.no_shape (filled vs) (tele (drop i F.types)) (all_terms (drop i F.fields))
at-end K F i vs h =
    ap (λ ps. settle_fields K (shapes (map shape_of ps)) (filled vs) (tele (drop i F.types))
    (all_terms (drop i F.fields))) (drop_all i F.patterns h)

pub all-fields : (K : Entries) (F : Fields) (i : ℕ) (left : List code_column.Column) (vs : List code_term.Term) →
    length F.patterns ≤ i → length F.types ≤ i → length F.fields ≤ i → FieldsSoFar K F i left vs →
    Settled.columns (map column_of left) ≡ fields_settled K F
all-fields K F i left vs h a b so =
    sym (so.is ∙ ap (before (Settled.columns (map column_of left)))
    (at-end K F i vs h ∙
    ap (λ Θ. settle_fields K Shapes.no_shape (filled vs) (tele Θ) (all_terms (drop i F.fields)))
    (drop_all i F.types a) ∙
    ap (λ ts. settle_fields K Shapes.no_shape (filled vs) [] (all_terms ts)) (drop_all i F.fields b)) ∙
    ap Settled.columns (append-none (map column_of left)))
  where
    append-none : (xs : List Column) → xs ++ [] ≡ xs
    append-none [] = refl
    append-none (x ∷ xs) = ap (λ ys. x ∷ ys) (append-none xs)

pub too-many : (K : Entries) (F : Fields) (i : ℕ) (left : List code_column.Column) (vs : List code_term.Term) →
    length F.patterns ≤ i → (i < length F.types) ⊎ (i < length F.fields) → FieldsSoFar K F i left vs →
    Settled.goes ≡ fields_settled K F
too-many K F i left vs h more so =
    sym (so.is ∙ ap (before (Settled.columns (map column_of left))) (at-end K F i vs h ∙ by_kind more))
  where
    by_list : (Θ : List (Mult × code_term.Term)) → 0 < length Θ →
        settle_fields K Shapes.no_shape (filled vs) (tele Θ) (all_terms (drop i F.fields)) ≡ Settled.goes
    by_list [] l = absurd (omega arith)
    by_list (b ∷ Θ) l = more-types K (filled vs) (b.0, term b.1) (tele Θ) (all_terms (drop i F.fields))

    by_terms : (ts : List code_term.Term) → 0 < length ts →
        settle_fields K Shapes.no_shape (filled vs) (tele (drop i F.types)) (all_terms ts) ≡ Settled.goes
    by_terms [] l = absurd (omega arith)
    by_terms (t ∷ ts) l = more-terms K (filled vs) (tele (drop i F.types)) (term t) (all_terms ts)

    by_kind : (i < length F.types) ⊎ (i < length F.fields) →
        settle_fields K Shapes.no_shape (filled vs) (tele (drop i F.types)) (all_terms (drop i F.fields))
        ≡ Settled.goes
    by_kind (inl a) = by_list (drop i F.types) (omega (arith, length-drop i F.types))
    by_kind (inr b) = by_terms (drop i F.fields) (omega (arith, length-drop i F.fields))

-- ---- rows
-- the rows so far do not fit
pub record NoneSoFar (K : Entries) (rows : List code_row.Row) (i : ℕ) : Type 0 where
  pub is : decide K (map row_of rows) ≡ decide K (map row_of (drop i rows))

abbrev deciding : Entries → Row → List Row → Settled → Decision
deciding K r rows (Settled.columns cs) = Decision.decides (record { clause = r.clause; columns = cs }) rows
deciding K r rows Settled.goes = decide K rows
deciding K r rows (Settled.sticks s t) = Decision.stuck_on s t

by_settled : (K : Entries) (r : Row) (rows : List Row) (s : Settled) →
    elim s [
      | Settled.columns cs ↦ Decision.decides (record { clause = r.clause; columns = cs }) rows
      | Settled.goes ↦ decide K rows
      | Settled.sticks p t ↦ Decision.stuck_on p t
    ]
    ≡ deciding K r rows s
by_settled K r rows (Settled.columns cs) = refl
by_settled K r rows Settled.goes = refl
by_settled K r rows (Settled.sticks p t) = refl

decide-first : (K : Entries) (r : Row) (rows : List Row) (s : Settled) → s ≡ settle_all K r.columns →
    decide K (r ∷ rows) ≡ deciding K r rows s
decide-first K r rows s e = by_settled K r rows (settle_all K r.columns) ∙ ap (deciding K r rows) (sym e)

row-step : (K : Entries) (rows : List code_row.Row) (i : ℕ) (r : code_row.Row) (s : Settled) → i < length rows →
    r ≡ get_or rows i r → s ≡ settle_all K (map column_of r.columns.items) → NoneSoFar K rows i →
    decide K (map row_of rows) ≡ deciding K (row_of r) (map row_of (drop (i + 1) rows)) s
row-step K rows i r s h e d so =
    so.is ∙
    ap (λ x. decide K (map row_of x)) (drop_more rows i r h ∙ ap (λ x. x ∷ drop (i + 1) rows) (sym e)) ∙
    decide-first K (row_of r) (map row_of (drop (i + 1) rows)) s d

pub row-goes : (K : Entries) (rows : List code_row.Row) (i : ℕ) (r : code_row.Row) → i < length rows →
    r ≡ get_or rows i r → Settled.goes ≡ settle_all K (map column_of r.columns.items) → NoneSoFar K rows i →
    NoneSoFar K rows (i + 1)
row-goes K rows i r h e d so = record { is = row-step K rows i r Settled.goes h e d so }

pub row-decides : (K : Entries) (rows : List code_row.Row) (i : ℕ) (r : code_row.Row) (cs : List Column) →
    i < length rows → r ≡ get_or rows i r → Settled.columns cs ≡ settle_all K (map column_of r.columns.items) →
    NoneSoFar K rows i →
    Decision.decides (record { clause = r.clause; columns = cs }) (map row_of (drop (i + 1) rows))
    ≡ decide K (map row_of rows)
row-decides K rows i r cs h e d so = sym (row-step K rows i r (Settled.columns cs) h e d so)

pub row-sticks : (K : Entries) (rows : List code_row.Row) (i : ℕ) (r : code_row.Row) (p : Span) (t : Term) →
    i < length rows → r ≡ get_or rows i r → Settled.sticks p t ≡ settle_all K (map column_of r.columns.items) →
    NoneSoFar K rows i → Decision.stuck_on p t ≡ decide K (map row_of rows)
row-sticks K rows i r p t h e d so = sym (row-step K rows i r (Settled.sticks p t) h e d so)

pub no-row : (K : Entries) (rows : List code_row.Row) (i : ℕ) → length rows ≤ i → NoneSoFar K rows i →
    Decision.none_left ≡ decide K (map row_of rows)
no-row K rows i h so = sym (so.is ∙ ap (λ x. decide K (map row_of x)) (drop_all i rows h))
