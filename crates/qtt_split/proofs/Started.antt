-- The first node, binder by binder and clause by clause.
use Rattle.std.proofs.Common.{◌≡◌, ◌∙◌, ℕ, suc, ◌+◌, ◌-◌, ◌<◌, ◌≤◌, List, [], ◌∷◌, ◌++◌, length, get_or, map, drop, refl, sym, ap, arith, append_assoc, append-nil}
use Rattle.std.proofs.lemmas.List.{map-append, drop_more, drop_all}
use Rattle.qtt_syntax.specs.declared.module.Clause as code_clause
use Rattle.qtt_syntax.specs.declared.pattern.Pattern.{Pattern}
use Rattle.qtt_syntax.specs.Tree.{Shape}
use Rattle.qtt_syntax.specs.View.{shape_of}
use Rattle.qtt_term.specs.Term.{var}
use Rattle.qtt_term.specs.Judgement.{Ctx, type_at}
use Rattle.qtt_split.specs.declared.columns.Column as code_column
use Rattle.qtt_split.specs.declared.columns.Row as code_row
use Rattle.qtt_split.specs.declared.sights.Seen as code_seen
use Rattle.qtt_split.specs.Calls.{clause_of}
use Rattle.qtt_split.specs.Columns.{column_of, row_of}
use Rattle.qtt_split.specs.Node.{column}
use Rattle.qtt_split.specs.Plan.{start_columns, start_rows, start_sights}
use Rattle.qtt_split.specs.Seen.{Seen, Sights, sights, oldest_first}
use Rattle.qtt_split.specs.Sights.{seen_of, sights_of}

-- ---- columns
pub record ColumnsSoFar (Γ : Ctx) (ps : List Pattern) (n i : ℕ) (cs : List code_column.Column) : Type 0 where
  pub is : start_columns Γ (map shape_of ps) (oldest_first n)
      ≡ map column_of cs ++ start_columns Γ (map shape_of (drop i ps)) (oldest_first (n - i))

pub no-column : (Γ : Ctx) (ps : List Pattern) (n : ℕ) → ColumnsSoFar Γ ps n 0 []
no-column Γ ps n =
    let e : n - 0 ≡ n = omega arith in
    record { is = ap (λ m. start_columns Γ (map shape_of ps) (oldest_first m)) (sym e) }

pub one-column : (Γ : Ctx) (ps : List Pattern) (n i : ℕ) (cs : List code_column.Column) (p : Pattern)
    (c : code_column.Column) → i < length ps → p ≡ get_or ps i p → i < n →
    column_of c ≡ column (shape_of p) (var (n - 1 - i)) (type_at Γ (n - 1 - i)) →
    ColumnsSoFar Γ ps n i cs → ColumnsSoFar Γ ps n (i + 1) (cs ++ c ∷ [])
one-column Γ ps n i cs p c h d k e so =
    let v : n - i ≡ suc (n - 1 - i) = omega arith in
    let less : n - 1 - i ≡ n - (i + 1) = omega arith in
    let rest = start_columns Γ (map shape_of (drop (i + 1) ps)) (oldest_first (n - 1 - i)) in
    record {
      is =
          so.is ∙
          ap (λ xs. map column_of cs ++ xs)
          (ap (λ xs. start_columns Γ (map shape_of xs) (oldest_first (n - i)))
          (drop_more ps i p h ∙ ap (λ x. x ∷ drop (i + 1) ps) (sym d)) ∙
          ap (λ m. start_columns Γ (map shape_of (p ∷ drop (i + 1) ps)) (oldest_first m)) v ∙
          ap (λ x. x ∷ rest) (sym e)) ∙
          sym (append_assoc (map column_of cs) (column_of c ∷ []) rest) ∙
          ap (λ xs. xs ++ rest) (sym (map-append column_of cs (c ∷ []))) ∙
          ap (λ m. map column_of (cs ++ c ∷ []) ++ start_columns Γ (map shape_of (drop (i + 1) ps)) (oldest_first m))
          less;
    }

no-binder : (Γ : Ctx) (ps : List Shape) → start_columns Γ ps [] ≡ []
no-binder Γ [] = refl
no-binder Γ (p ∷ ps) = refl

pub no-binder_left : (Γ : Ctx) (ps : List Pattern) (n i : ℕ) (cs : List code_column.Column) → n ≤ i →
    ColumnsSoFar Γ ps n i cs → map column_of cs ≡ start_columns Γ (map shape_of ps) (oldest_first n)
no-binder_left Γ ps n i cs h so =
    let none : n - i ≡ 0 = omega arith in
    sym (so.is ∙
    ap (λ xs. map column_of cs ++ xs)
    (ap (λ m. start_columns Γ (map shape_of (drop i ps)) (oldest_first m)) none ∙
    no-binder Γ (map shape_of (drop i ps))) ∙
    append-nil (map column_of cs))

pub all-columns : (Γ : Ctx) (ps : List Pattern) (n i : ℕ) (cs : List code_column.Column) → length ps ≤ i →
    ColumnsSoFar Γ ps n i cs → map column_of cs ≡ start_columns Γ (map shape_of ps) (oldest_first n)
all-columns Γ ps n i cs h so =
    sym (so.is ∙
    ap (λ xs. map column_of cs ++ xs)
    (ap (λ xs. start_columns Γ (map shape_of xs) (oldest_first (n - i))) (drop_all i ps h)) ∙
    append-nil (map column_of cs))

-- ---- rows
pub record RowsSoFar (Γ : Ctx) (cs : List code_clause.Clause) (i : ℕ) (rows : List code_row.Row) : Type 0 where
  pub is : start_rows Γ 0 (map clause_of cs) ≡ map row_of rows ++ start_rows Γ i (map clause_of (drop i cs))

pub no-row : (Γ : Ctx) (cs : List code_clause.Clause) → RowsSoFar Γ cs 0 []
no-row Γ cs = record { is = refl }

pub one-row : (Γ : Ctx) (cs : List code_clause.Clause) (i : ℕ) (rows : List code_row.Row) (c : code_clause.Clause)
    (r : code_row.Row) → i < length cs → c ≡ get_or cs i c →
    r.clause ≡ i →
    map column_of r.columns.items ≡ start_columns Γ (map shape_of c.patterns.items) (oldest_first (length Γ)) →
    RowsSoFar Γ cs i rows → RowsSoFar Γ cs (i + 1) (rows ++ r ∷ [])
one-row Γ cs i rows c r h d n e so =
    let next : suc i ≡ i + 1 = omega arith in
    let rest = start_rows Γ (suc i) (map clause_of (drop (i + 1) cs)) in
    record {
      is =
          so.is ∙
          ap (λ xs. map row_of rows ++ xs)
          (ap (λ xs. start_rows Γ i (map clause_of xs)) (drop_more cs i c h ∙ ap (λ x. x ∷ drop (i + 1) cs) (sym d)) ∙
          ap (λ ys. record { clause = i; columns = ys } ∷ rest) (sym e) ∙
          ap (λ m. record { clause = m; columns = map column_of r.columns.items } ∷ rest) (sym n)) ∙
          sym (append_assoc (map row_of rows) (row_of r ∷ []) rest) ∙
          ap (λ xs. xs ++ rest) (sym (map-append row_of rows (r ∷ []))) ∙
          ap (λ m. map row_of (rows ++ r ∷ []) ++ start_rows Γ m (map clause_of (drop (i + 1) cs))) next;
    }

pub all-rows : (Γ : Ctx) (cs : List code_clause.Clause) (i : ℕ) (rows : List code_row.Row) → length cs ≤ i →
    RowsSoFar Γ cs i rows → map row_of rows ≡ start_rows Γ 0 (map clause_of cs)
all-rows Γ cs i rows h so =
    sym (so.is ∙
    ap (λ xs. map row_of rows ++ xs) (ap (λ xs. start_rows Γ i (map clause_of xs)) (drop_all i cs h)) ∙
    append-nil (map row_of rows))

-- ---- sights
abbrev pub opens : List ℕ → List Seen
opens is = map (λ i. Seen.open_at i) is

pub sights-opened : (is : List ℕ) → start_sights is ≡ sights (opens is)
sights-opened [] = refl
sights-opened (i ∷ is) = ap (Sights.sight_and (Seen.open_at i)) (sights-opened is)

pub one-opened : (n : ℕ) (seen : List code_seen.Seen) (y : code_seen.Seen) → seen_of y ≡ Seen.open_at n →
    map seen_of seen ++ opens (oldest_first (suc n)) ≡ map seen_of (seen ++ y ∷ []) ++ opens (oldest_first n)
one-opened n seen y e =
    ap (λ x. map seen_of seen ++ x ∷ opens (oldest_first n)) (sym e) ∙
    sym (append_assoc (map seen_of seen) (seen_of y ∷ []) (opens (oldest_first n))) ∙
    ap (λ xs. xs ++ opens (oldest_first n)) (sym (map-append seen_of seen (y ∷ [])))

pub all-opened : (n : ℕ) (seen : List code_seen.Seen) → opens (oldest_first n) ≡ map seen_of seen ++ [] →
    sights_of seen ≡ start_sights (oldest_first n)
all-opened n seen e =
    sym (sights-opened (oldest_first n) ∙ ap sights (e ∙ append-nil (map seen_of seen)))
