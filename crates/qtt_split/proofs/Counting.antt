-- Reading columns takes no constructor pattern more than there were, and one less where one stood on a constructor.
use Rattle.std.proofs.Common.{◌≡◌, ℕ, suc, ◌+◌, ◌≤◌, List, [], ◌∷◌, ◌++◌, Option, Some, None, Bool, true, false, cond, refl, sym, ap, subst, arith}
use Rattle.std.specs.Prelude.{map}
use Rattle.qtt_base.specs.declared.place.GlobalId.{GlobalId}
use Rattle.qtt_base.specs.declared.place.Span.{Span}
use Rattle.qtt_syntax.specs.declared.expr.Mark.{Mark}
use Rattle.qtt_syntax.specs.declared.expr.Named.{Named}
use Rattle.qtt_syntax.specs.Tree.{Shape, Shapes}
use Rattle.qtt_syntax.specs.Tree.Shape.{variable, wildcard, constructor, dot}
use Rattle.qtt_syntax.specs.Tree.Shapes.{no_shape, shape_and}
use Rattle.qtt_term.specs.Term.{Form, Term, Terms, var, node, ε, ◌▸◌, skip}
use Rattle.qtt_term.specs.Substitution.{sub, cons, push, closed}
use Rattle.qtt_term.specs.Signature.{Tele}
use Rattle.qtt_term.specs.Entries.{Entries}
use Rattle.qtt_term.specs.Forms.{front}
use Rattle.qtt_match.specs.Constructors.{names_constructor}
use Rattle.qtt_split.specs.Constructors.{fields_at}
use Rattle.qtt_split.specs.Node.{Column, Row, Settled, before, settle, settle_fields, settle_all, Decision, decide, Examined, examined, examined_by, constructors_in, constructors_among, constructors_at, constructors_left}
use Rattle.qtt_split.specs.Branch.{moved_column, moved_row}

-- what is left of columns
abbrev pub settled_count : Settled → ℕ
settled_count (Settled.columns cs) = constructors_at cs
settled_count Settled.goes = 0
settled_count (Settled.sticks s t) = 0

count_append : (cs ds : List Column) → constructors_at (cs ++ ds) ≡ constructors_at cs + constructors_at ds
count_append [] ds = omega arith
count_append (c ∷ cs) ds = let h = count_append cs ds in omega arith

before_less : (a b : Settled) → settled_count (before a b) ≤ settled_count a + settled_count b
before_less (Settled.columns cs) (Settled.columns ds) = let h = count_append cs ds in omega arith
before_less (Settled.columns cs) Settled.goes = omega arith
before_less (Settled.columns cs) (Settled.sticks s t) = omega arith
before_less Settled.goes b = omega arith
before_less (Settled.sticks s t) b = omega arith

cond_less : (b : Bool) (s : Settled) (n : ℕ) → settled_count s ≤ n → settled_count (cond b s Settled.goes) ≤ n
cond_less true s n h = h
cond_less false s n h = omega arith

mutual
  pub settle_less : (K : Entries) (p : Shape) (t A : Term) → settled_count (settle K p t A) ≤ constructors_in p
  settle_less K (variable m n s) t A = omega arith
  settle_less K (wildcard m s) t A = omega arith
  settle_less K (dot m e s) t A = omega arith
  settle_less K (constructor m h ps s) (var i) A = omega arith
  settle_less K (constructor m h ps s) (node (Form.con f c k) ts) A =
      let less = fields_less K ps (push (front k ts) closed) (fields_at K f c) (skip k ts) in
      cond_less (names_constructor K.families h f c)
      (settle_fields K ps (push (front k ts) closed) (fields_at K f c) (skip k ts)) (suc (constructors_among ps))
      (omega arith)
  settle_less K (constructor m h ps s) (node F ts) A = omega arith

  pub fields_less : (K : Entries) (ps : Shapes) (σ : ℕ → Term) (Θ : Tele) (ts : Terms) →
      settled_count (settle_fields K ps σ Θ ts) ≤ constructors_among ps
  fields_less K no_shape σ [] ε = omega arith
  fields_less K no_shape σ [] (t ▸ ts) = omega arith
  fields_less K no_shape σ (b ∷ Θ) ts = omega arith
  fields_less K (shape_and p ps) σ [] ts = omega arith
  fields_less K (shape_and p ps) σ (b ∷ Θ) ε = omega arith
  fields_less K (shape_and p ps) σ (b ∷ Θ) (t ▸ ts) =
      let first = settle_less K p t (sub σ b.1) in
      let others = fields_less K ps (cons t σ) Θ ts in
      let both = before_less (settle K p t (sub σ b.1)) (settle_fields K ps (cons t σ) Θ ts) in
      omega arith

pub all_less : (K : Entries) (cs : List Column) → settled_count (settle_all K cs) ≤ constructors_at cs
all_less K [] = omega arith
all_less K (c ∷ cs) =
    let first = settle_less K c.pattern c.term c.type in
    let others = all_less K cs in
    let both = before_less (settle K c.pattern c.term c.type) (settle_all K cs) in
    omega arith

-- ---- a constructor form
pub data IsMade : Term → Type 0 where
  is_made : {f : GlobalId} {c k : ℕ} {ts : Terms} → IsMade (node (Form.con f c k) ts)

-- a constructor pattern that stands on one is matched, or the clause goes
on_made : (K : Entries) (m : Mark) (h : Named) (ps : Shapes) (s : Span) (A : Term) {t : Term} → IsMade t →
    settled_count (settle K (constructor m h ps s) t A) ≤ constructors_among ps
on_made K m h ps s A (is_made {f = f} {c = c} {k = k} {ts = ts}) =
    cond_less (names_constructor K.families h f c)
    (settle_fields K ps (push (front k ts) closed) (fields_at K f c) (skip k ts)) (constructors_among ps)
    (fields_less K ps (push (front k ts) closed) (fields_at K f c) (skip k ts))

-- ---- columns in which one constructor pattern stands on a variable
abbrev some_variable : Option Examined → ℕ
some_variable None = 0
some_variable (Some x) = x.variable

module _ (x : Examined) where
  counted : (p : Shape) (t : Term) (others : Option Examined) (n : ℕ) → (others ≡ Some x → 1 ≤ n) →
      examined_by p t others ≡ Some x → 1 ≤ constructors_in p + n
  counted (variable m y s) t others n ih e = let h = ih e in omega arith
  counted (wildcard m s) t others n ih e = let h = ih e in omega arith
  counted (dot m v s) t others n ih e = let h = ih e in omega arith
  counted (constructor m h ps s) t others n ih e = omega arith

  pub examined_counts : (cs : List Column) → examined cs ≡ Some x → 1 ≤ constructors_at cs
  examined_counts [] e = cc
  examined_counts (c ∷ cs) e = counted c.pattern c.term (examined cs) (constructors_at cs) (examined_counts cs) e

-- where that variable is replaced by a constructor, a pattern is taken
module _ (K : Entries) (x : Examined) (δ : ℕ → Term) (con : IsMade (δ x.variable)) where
  taken : (p : Shape) (t A : Term) (others : Option Examined) (rest : Settled) (n : ℕ) →
      settled_count rest ≤ n → (others ≡ Some x → suc (settled_count rest) ≤ n) → examined_by p t others ≡ Some x →
      suc (settled_count (before (settle K p (sub δ t) (sub δ A)) rest)) ≤ constructors_in p + n
  taken (variable m y s) t A others rest n less ih e =
      let h =
      ih e in let both = before_less (settle K (variable m y s) (sub δ t) (sub δ A)) rest in let first =
      settle_less K (variable m y s) (sub δ t) (sub δ A) in omega arith
  taken (wildcard m s) t A others rest n less ih e =
      let h =
      ih e in let both = before_less (settle K (wildcard m s) (sub δ t) (sub δ A)) rest in let first =
      settle_less K (wildcard m s) (sub δ t) (sub δ A) in omega arith
  taken (dot m v s) t A others rest n less ih e =
      let h =
      ih e in let both = before_less (settle K (dot m v s) (sub δ t) (sub δ A)) rest in let first =
      settle_less K (dot m v s) (sub δ t) (sub δ A) in omega arith
  taken (constructor m h ps s) (var i) A others rest n less ih e =
      let at : IsMade (δ i) = subst (λ j. IsMade (δ j)) (sym (ap some_variable e)) con in
      let first = on_made K m h ps s (sub δ A) at in
      let both = before_less (settle K (constructor m h ps s) (δ i) (sub δ A)) rest in
      omega arith
  taken (constructor m h ps s) (node F ts) A others rest n less ih e =
      let h' = ih e in
      let first = settle_less K (constructor m h ps s) (sub δ (node F ts)) (sub δ A) in
      let both = before_less (settle K (constructor m h ps s) (sub δ (node F ts)) (sub δ A)) rest in
      omega arith

  moved_less : (cs : List Column) → settled_count (settle_all K (map (moved_column δ) cs)) ≤ constructors_at cs
  moved_less [] = omega arith
  moved_less (c ∷ cs) =
      let first = settle_less K c.pattern (sub δ c.term) (sub δ c.type) in
      let others = moved_less cs in
      let both =
      before_less (settle K c.pattern (sub δ c.term) (sub δ c.type)) (settle_all K (map (moved_column δ) cs)) in
      omega arith

  pub one_taken : (cs : List Column) → examined cs ≡ Some x →
      suc (settled_count (settle_all K (map (moved_column δ) cs))) ≤ constructors_at cs
  one_taken [] e = cc
  one_taken (c ∷ cs) e =
      taken c.pattern c.term c.type (examined cs) (settle_all K (map (moved_column δ) cs)) (constructors_at cs)
      (moved_less cs) (one_taken cs) e

-- ---- the clause that decides, with those behind it
abbrev pub decided : Decision → ℕ
decided Decision.none_left = 0
decided (Decision.stuck_on s t) = 0
decided (Decision.decides r rows) = constructors_at r.columns + constructors_left rows

by_settled : (K : Entries) (r : Row) (rows : List Row) (s : Settled) →
    decided (decide K rows) ≤ constructors_left rows →
    decided (elim s [
      | Settled.columns cs ↦ Decision.decides (record { clause = r.clause; columns = cs }) rows
      | Settled.goes ↦ decide K rows
      | Settled.sticks p t ↦ Decision.stuck_on p t
    ])
    ≤ settled_count s + constructors_left rows
by_settled K r rows (Settled.columns cs) h = omega arith
by_settled K r rows Settled.goes h = omega arith
by_settled K r rows (Settled.sticks p t) h = omega arith

pub decide_less : (K : Entries) (rows : List Row) → decided (decide K rows) ≤ constructors_left rows
decide_less K [] = omega arith
decide_less K (r ∷ rows) =
    let h = by_settled K r rows (settle_all K r.columns) (decide_less K rows) in
    let l = all_less K r.columns in
    omega arith

pub decide_first : (K : Entries) (r : Row) (rows : List Row) →
    decided (decide K (r ∷ rows)) ≤ settled_count (settle_all K r.columns) + constructors_left rows
decide_first K r rows = by_settled K r rows (settle_all K r.columns) (decide_less K rows)

-- ---- rows that are moved keep their patterns
moved_columns_count : (δ : ℕ → Term) (cs : List Column) → constructors_at (map (moved_column δ) cs) ≡ constructors_at cs
moved_columns_count δ [] = refl
moved_columns_count δ (c ∷ cs) = ap (λ n. constructors_in c.pattern + n) (moved_columns_count δ cs)

pub moved_rows_count : (δ : ℕ → Term) (rows : List Row) →
    constructors_left (map (moved_row δ) rows) ≡ constructors_left rows
moved_rows_count δ [] = refl
moved_rows_count δ (r ∷ rows) =
    let h = moved_columns_count δ r.columns in let l = moved_rows_count δ rows in omega arith

-- so behind the clause that decides, whose examined variable becomes a constructor, there is a pattern less
pub fewer : (K : Entries) (x : Examined) (δ : ℕ → Term) → IsMade (δ x.variable) → (r : Row) (rows : List Row) →
    examined r.columns ≡ Some x →
    suc (decided (decide K (map (moved_row δ) (r ∷ rows)))) ≤ constructors_at r.columns + constructors_left rows
fewer K x δ con r rows e =
    let first = decide_first K (moved_row δ r) (map (moved_row δ) rows) in
    let taken = one_taken K x δ con r.columns e in
    let others = moved_rows_count δ rows in
    omega arith
