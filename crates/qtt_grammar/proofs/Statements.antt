-- Statements and blocks.
use Rattle.std.proofs.Common.{◌≡◌, ◌∙◌, ℕ, suc, ◌+◌, ◌<◌, ◌≤◌, ◌-◌, Bool, true, false, ◌&&◌, List, [], ◌∷◌, ◌++◌, map, length, get_or, Vec, Global, ap, sym, subst, refl, arith}
use Rattle.std.specs.Prelude.{nat_lt}
use Rattle.qtt_base.specs.declared.place.Span.{Span}
use Rattle.qtt_base.specs.declared.limits.Quantity.TheVariants as quantity
use Rattle.qtt_syntax.specs.declared.expr.Statement as code
use Rattle.qtt_syntax.specs.declared.expr.Expr.TheVariants as expr_code
use Rattle.qtt_syntax.specs.Tree as tree
use Rattle.qtt_syntax.specs.Tree.{statements, Tree}
use Rattle.qtt_syntax.specs.Tree.Tree.{doing}
use Rattle.qtt_syntax.specs.View.{tree_of, statement_of}
use Rattle.qtt_syntax.proofs.Rows.{do_view}
use Rattle.qtt_phrase.specs.Reading.{Read, begins, making_at, placed_at, cap_at, run_at, ended}
use Rattle.qtt_phrase.specs.Reading.Read.{got}
use Rattle.qtt_grammar.specs.declared.class.Pass.{Pass}
use Rattle.qtt_grammar.specs.declared.class.Standing.{Standing}
use Rattle.qtt_grammar.specs.declared.class.Standing.TheVariants.{Before, Within, Last}
use Rattle.qtt_grammar.specs.declared.stop.Excess.{Excess}
use Rattle.qtt_grammar.specs.declared.lexeme.Lexeme.{Lexeme}
use Rattle.qtt_grammar.specs.declared.stop.Stop.{Stop}
use Rattle.qtt_grammar.specs.declared.stop.Stop.TheVariants as stop
use Rattle.qtt_grammar.specs.Classes.{is_let, is_next, is_do, is_open, is_close}
use Rattle.qtt_grammar.specs.Grammar.{of, place, ends_in_hole, last_in_hole, statement_in_hole, standing_of, may_end, may_go, next_line}
use Rattle.qtt_grammar.specs.Limits.{is_full, one_above}
use Rattle.qtt_grammar.specs.Readers.{Reads, LevelReader, symbol_at, statement_starts, bad_start, expr_at, other_expr_at, line_at, level_at, opener_at, block_at, doing_at}
use Rattle.qtt_grammar.specs.View.{Fails, below, inside, first_place_at, with_front, both}
use Rattle.qtt_grammar.proofs.Below.{below_is, level_is}
use Rattle.qtt_grammar.proofs.Loops.{apart, ends_here, ends_out, stops_by, goes_on}

-- an expression that begins with no `let`
pub no_let : (pass : Pass) (n : ℕ) (tail : Bool) (ls : List Lexeme) → begins (of is_let) ls ≡ false →
    inside expr_at pass n tail ls ≡ inside other_expr_at pass n tail ls
unfolding expr_at
no_let pass n tail ls b = rw b refl

module _ {A : Type 0} (p : Reads A) (s : Span) where
  pub placed_stops : (ls : List Lexeme) (e : Stop) → first_place_at ls ≡ got s ls → Fails e (p ls) →
      Fails e (placed_at place p ls)
  placed_stops ls stop.Memory h k = tt
  placed_stops [] e h k = absurd (let x = h in cc)
  placed_stops (x ∷ ls) (stop.Bad y rest) h k = rw k refl
  placed_stops (x ∷ ls) (stop.Over y rest) h k = rw k refl

  pub placed_got : (ls : List Lexeme) (a : A) (r : List Lexeme) → first_place_at ls ≡ got s ls → p ls ≡ got a r →
      placed_at place p ls ≡ got (s, a) r
  placed_got [] a r h k = absurd (let x = h in cc)
  placed_got (x ∷ ls) a r h k = let i : x.place ≡ s = (let y = h in cc) in rw k (ap (λ (q : Span). got (q, a) r) i)

-- ---- the last statement of a block

last_hole : (x : code.Statement) (xs : List code.Statement) (d : code.Statement) →
    last_in_hole (statements (map statement_of (x ∷ xs))) ≡ statement_in_hole
    (statement_of (get_or (x ∷ xs) (length xs) d))
last_hole x [] d = refl
last_hole x (y ∷ r) d = last_hole y r d

hole_of_last : (xs : List code.Statement) (y : code.Statement) → 0 < length xs → y ≡ get_or xs (length xs - 1) y →
    last_in_hole (statements (map statement_of xs)) ≡ statement_in_hole (statement_of y)
hole_of_last [] y h e = absurd (omega arith)
hole_of_last (x ∷ r) y h e =
    let n : length (x ∷ r) - 1 ≡ length r = omega arith in
    last_hole x r y ∙ ap (λ (z : code.Statement). statement_in_hole (statement_of z))
    (sym (e ∙ ap (λ (m : ℕ). get_or (x ∷ r) m y) n))

pub do_last : (v : Vec code.Statement Global) (s : Span) (xs : List code.Statement) (y : code.Statement) →
    xs ≡ v.items → 0 < length xs → y ≡ get_or xs (length xs - 1) y →
    ends_in_hole (tree_of (expr_code.Do v s)) ≡ statement_in_hole (statement_of y)
do_last v s xs y i h e = ap ends_in_hole (do_view v s) ∙
    ap (λ (z : List code.Statement). last_in_hole (statements (map statement_of z))) (sym i) ∙
    hole_of_last xs y h e

no_last : (xs : List code.Statement) → length xs ≤ 0 → last_in_hole (statements (map statement_of xs)) ≡ false
no_last [] h = refl
no_last (x ∷ r) h = absurd (omega arith)

pub do_empty : (v : Vec code.Statement Global) (s : Span) (xs : List code.Statement) → xs ≡ v.items →
    length xs ≤ 0 → ends_in_hole (tree_of (expr_code.Do v s)) ≡ false
do_empty v s xs i h = ap ends_in_hole (do_view v s) ∙
    ap (λ (z : List code.Statement). last_in_hole (statements (map statement_of z))) (sym i) ∙ no_last xs h

-- ---- lines

full_at : (pass : Pass) (may : Bool) (n : ℕ) (tail : Bool) (m : ℕ) (standing : Standing) (ls : List Lexeme)
    (s : Span) (r : List Lexeme) (e : Stop) → symbol_at is_next ls ≡ got s r →
    is_full pass quantity.Statements m ≡ true →
    Fails {A = tree.Statement} e
    (cap_at (λ x. statement_starts (nat_lt 0 n) tail x.class) (λ x. bad_start (nat_lt 0 n) x.class)
    (λ x. one_above quantity.Statements x.place) r) →
    Fails e (line_at pass may (level_at pass (nat_lt 0 n) (below pass n)) tail (m, standing) ls)
unfolding line_at
full_at pass may n tail m standing ls s r stop.Memory h k w = tt
full_at pass may n tail m standing ls s r (stop.Bad x rest) h k w = rw (h, k, w) refl
full_at pass may n tail m standing ls s r (stop.Over x rest) h k w = rw (h, k, w) refl

-- as many statements stand before as may
pub line_full : (pass : Pass) (n : ℕ) (tail : Bool) (m : ℕ) (standing : Standing) (ls : List Lexeme) (s : Span)
    (r : List Lexeme) (e : Stop) → 0 < n → symbol_at is_next ls ≡ got s r →
    is_full pass quantity.Statements m ≡ true →
    Fails {A = tree.Statement} e
    (cap_at (λ x. statement_starts (nat_lt 0 (n - 1)) tail x.class) (λ x. bad_start (nat_lt 0 (n - 1)) x.class)
    (λ x. one_above quantity.Statements x.place) r) → Fails e (inside line_at pass n tail (m, standing) ls)
line_full pass n tail m standing ls s r e lt h k w =
    subst (λ (L : LevelReader). Fails e (line_at pass (nat_lt 0 n) L tail (m, standing) ls))
    (sym (below_is pass n lt ∙ level_is pass (n - 1)))
    (full_at pass (nat_lt 0 n) (n - 1) tail m standing ls s r e h k w)

go_any : (k : ℕ) (standing : Standing) → may_go (k, standing) ≡ may_go (0, standing)
go_any k Before = refl
go_any k Within = refl
go_any k Last = refl

end_any : (k : ℕ) (standing : Standing) → may_end (k, standing) ≡ may_end (0, standing)
end_any k Before = refl
end_any k Within = refl
end_any k Last = refl

module _ (pass : Pass) (n : ℕ) (tail : Bool) (front : List tree.Statement) (k : ℕ) (standing : Standing)
    (ls : List Lexeme) (total : Read Lexeme Excess (List tree.Statement)) where
  abbrev pub lines_from : ℕ → Read Lexeme Excess (List tree.Statement)
  lines_from m = run_at may_end may_go next_line (λ _. of is_next) (inside line_at pass n tail) m (k, standing) ls

  pub lines_end : (m : ℕ) → (may_go (0, standing) && begins (of is_next) ls) ≡ false →
      with_front front (lines_from m) ≡ total → total ≡ with_front front (ended (may_end (0, standing)) ls)
  lines_end m b h = ends_here may_end may_go next_line (λ _. of is_next) (inside line_at pass n tail) front
      (k, standing) ls total m (ap (λ (x : Bool). x && begins (of is_next) ls) (go_any k standing) ∙ b) h ∙
      ap (λ (x : Bool). with_front front (ended x ls)) (end_any k standing)

  pub lines_out : (m : ℕ) → m ≡ 0 → with_front front (lines_from m) ≡ total →
      total ≡ with_front front (ended (may_end (0, standing)) ls)
  lines_out m e h = ends_out may_end may_go next_line (λ _. of is_next) (inside line_at pass n tail) front
      (k, standing) ls total m e h ∙ ap (λ (x : Bool). with_front front (ended x ls)) (end_any k standing)

  pub lines_stop : (e : Stop) (m i : ℕ) → i < m → (may_go (0, standing) && begins (of is_next) ls) ≡ true →
      Fails e (inside line_at pass n tail (k, standing) ls) → with_front front (lines_from (m - i)) ≡ total →
      Fails e total
  lines_stop e m i lt b w h =
      stops_by may_end may_go next_line (λ _. of is_next) (inside line_at pass n tail) front
      (k, standing) ls total e m i lt (ap (λ (x : Bool). x && begins (of is_next) ls) (go_any k standing) ∙ b) w h

  pub lines_go : (m i : ℕ) (r : List Lexeme) (s : tree.Statement) → i < m →
      (may_go (0, standing) && begins (of is_next) ls) ≡ true →
      inside line_at pass n tail (k, standing) ls ≡ got s r → with_front front (lines_from (m - i)) ≡ total →
      with_front (front ++ s ∷ [])
      (run_at may_end may_go next_line (λ _. of is_next) (inside line_at pass n tail) (m - (i + 1))
      (suc k, standing_of s) r) ≡ total
  lines_go m i r s lt b w h =
      goes_on may_end may_go next_line (λ _. of is_next) (inside line_at pass n tail) front
      (k, standing) ls total m i r s lt (ap (λ (x : Bool). x && begins (of is_next) ls) (go_any k standing) ∙ b) w
      h

-- a `do` with its statements
pub do_got : (pass : Pass) (n : ℕ) (tail : Bool) (ls : List Lexeme) (s : Span) (r : List Lexeme) (q : Span)
    (t : List Lexeme) (v : Vec code.Statement Global) (u : List Lexeme) (z : Span) (w : List Lexeme) →
    opener_at (nat_lt 0 n) is_do ls ≡ got s r → symbol_at is_open r ≡ got q t →
    making_at both (inside block_at pass n tail) t ≡ got (map statement_of v.items) u →
    symbol_at is_close u ≡ got z w → inside doing_at pass n tail ls ≡ got (tree_of (expr_code.Do v s)) w
unfolding doing_at
do_got pass n tail ls s r q t v u z w a b c d =
    let p = apart (inside block_at pass n tail) t (map statement_of v.items) u c in
    rw (a, b, p.read, d) (ap (λ (xs : List tree.Statement). got (doing (statements xs) s) w) p.joins ∙
    ap (λ (x : Tree). got x w) (sym (do_view v s)))
