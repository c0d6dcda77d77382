-- Worked examples of holes.
use Rattle.std.specs.Prelude.{◌≡◌, ℕ, List, [], ◌∷◌, codes, Some, None}
use Rattle.qtt_base.specs.declared.place.Span.{Span}
use Rattle.qtt_usage.specs.declared.mult.Mult.{Mult}
use Rattle.qtt_usage.specs.Mult.{𝟘, 𝟙, ω}
use Rattle.qtt_syntax.specs.Tree.{Tree, Statement}
use Rattle.qtt_syntax.specs.Tree.Tree.{hole, letting}
use Rattle.qtt_syntax.specs.Tree.Annotation.{untyped}
use Rattle.qtt_syntax.specs.Tree.Statement.{run}
use Rattle.qtt_term.specs.declared.rule.Rule.{Rule}
use Rattle.qtt_term.specs.Term.{Term, var, node, ε, ◌▸◌, Form, Pi, Def}
use Rattle.qtt_term.specs.Signature.{IntTy, HandleTy, BoolTy, UnitTy, line_id}
use Rattle.qtt_term.specs.Judgement.{Part}
use Rattle.qtt_term.specs.Ask.{Question, Ending, within}
use Rattle.qtt_term.specs.Programs.{io_unit, item}
use Rattle.qtt_term.specs.Entries.{Entries, env, prim_entries}
use Rattle.qtt_term.specs.Scope.{Scope, no_scope}
use Rattle.qtt_rules.specs.Refusal.{Cause, Place, Refusal, refused}
use Rattle.qtt_rules.specs.Report.{Report}
use Rattle.qtt_bidi.specs.Programs.{at, here, plainly, typed_as, int, fun, named, circles}
use Rattle.qtt_bidi.specs.Rows.{with_open, writes, closes}
use Rattle.qtt_holes.specs.Hole.{Seen, Hole}
use Rattle.qtt_holes.specs.Walk.{walk}
use Rattle.qtt_term.specs.declared.rule.Rule.TheVariants as rule
use Rattle.qtt_rules.specs.Refusal as refusal

-- ---- what is asked
-- in a scope whose names are these, the innermost first, with these reports and n contractions for each question
abbrev pub walks_in : Entries → ℕ → Part → Scope → List (List ℕ) → List Report → Term → Tree → Ending Refusal Place Hole
walks_in G n p S ns rs A e = within (env G) n (walk G p S ns rs e A)

-- at a leaf without a pattern variable
abbrev pub walks : Term → Tree → Ending Refusal Place Hole
walks = walks_in prim_entries 0 Part.run no_scope [] []

abbrev pub walks_erased : Term → Tree → Ending Refusal Place Hole
walks_erased = walks_in prim_entries 0 Part.erased no_scope [] []

-- ---- what is answered
abbrev pub left : Mult → List ℕ → Term → Term → Seen
left q n t A = record { name = n; type = A; stands = t; left = Some q }

-- a name that stands for a term
abbrev pub is_term : List ℕ → Term → Term → Seen
is_term n t A = record { name = n; type = A; stands = t; left = None }

abbrev pub found : List ℕ → Span → Term → ℕ → List Seen → Ending Refusal Place Hole
found n s A k xs = Ending.ok (record { name = n; span = s; goal = A; depth = k; seen = xs })

abbrev pub refuses : Cause → Span → Rule → ℕ → Ending Refusal Place Hole
refuses c s r k = Ending.fails (refused c (refusal.at s r k))

-- ---- texts
abbrev pub r_at : ℕ → Statement
r_at l = run (hole (codes "r") (at l 3)) (at l 3)

-- h <- open "a"; h2 <- write h "x"; ?r
abbrev pub written_once : Tree
written_once = with_open (writes 5 (codes "h2") (codes "h") (codes "x") ∷ r_at 6 ∷ [])

-- h <- open "a"; ?r
abbrev pub opened_only : Tree
opened_only = with_open (r_at 5 ∷ [])

-- h <- open "a"; close h; close h; ?r
abbrev pub closed_twice : Tree
closed_twice = with_open (closes 5 (codes "h") ∷ closes 6 (codes "h") ∷ r_at 7 ∷ [])

abbrev pub a_hole : Tree
a_hole = hole (codes "a") (at 3 12)

-- let q y = e in ?a
abbrev pub let_y : Mult → Tree → Tree
let_y q e = letting q (named (codes "y") (at 3 9)) untyped e a_hole (at 3 5)

-- \x => ?a, and \(1 x : Int) => ?a, and \_ => ?a
abbrev pub under_x : Tree
under_x = fun (plainly (codes "x") (at 3 6) ∷ []) a_hole (at 3 5)

abbrev pub under_typed : Mult → Tree
under_typed q = fun (typed_as q (codes "x") (int (at 3 12)) (at 3 6) ∷ []) a_hole (at 3 5)

abbrev pub under_none : Tree
under_none = fun (plainly (codes "_") (at 3 6) ∷ []) a_hole (at 3 5)

-- f : (1 x : Int) -> Bool -> Int; f x True = ?a; f x False = x: at the first leaf x is bound again
abbrev pub leaf_of_f : Scope
leaf_of_f = record { vars = (𝟙, IntTy) ∷ (ω, BoolTy) ∷ (𝟙, IntTy) ∷ []; names = (var 0, IntTy) ∷ [] }

abbrev pub x_reported : List Report
x_reported = record { variable = 0; name = Some (codes "x"); place = at 3 3 } ∷ []

-- a pattern variable x of type Int that is declared so
abbrev pub one_x : Mult → Scope
one_x q = record { vars = (q, IntTy) ∷ []; names = (var 0, IntTy) ∷ [] }

-- l stands for Got s, of a variable s
abbrev pub got : Term
got = node (Form.con line_id 1 0) (var 0 ▸ ε)

abbrev pub line_type : Term
line_type = node (Form.fam line_id) ε

abbrev pub with_got : Scope
with_got = record { vars = (𝟙, IntTy) ∷ []; names = (got, line_type) ∷ [] }

pub record HoleRows : Type 0 where
  -- a handle that was used is used up
  pub in_do : walks io_unit written_once ≡ found (codes "r") (at 6 3) io_unit 2
      (left 𝟘 (codes "h") (var 1) HandleTy ∷ left 𝟙 (codes "h2") (var 0) HandleTy ∷ [])
  pub is_open : walks io_unit opened_only ≡ found (codes "r") (at 5 3) io_unit 1
      (left 𝟙 (codes "h") (var 0) HandleTy ∷ [])
  pub at_leaf : walks_in prim_entries 0 Part.run leaf_of_f (codes "x" ∷ []) x_reported IntTy a_hole
      ≡ found (codes "a") (at 3 12) IntTy 3 (left 𝟙 (codes "x") (var 0) IntTy ∷ [])
  pub used_too_often : walks io_unit closed_twice ≡ refuses (Cause.wrong_usage (Some (codes "h")) 𝟙 ω) (at 4 3)
      rule.DoBind 6
  -- the value of a `let` is used so often as its name may be
  pub in_let : walks_in prim_entries 0 Part.run (one_x 𝟙) (codes "x" ∷ []) x_reported IntTy
      (let_y 𝟙 (here 0 (codes "x") (at 3 13)))
      ≡ found (codes "a") (at 3 12) IntTy 2 (left 𝟘 (codes "x") (var 1) IntTy ∷ left 𝟙 (codes "y") (var 0) IntTy ∷ [])
  pub in_many_let : walks_in prim_entries 0 Part.run (one_x 𝟙) (codes "x" ∷ []) x_reported IntTy
      (let_y ω (here 0 (codes "x") (at 3 13)))
      ≡ refuses (Cause.wrong_usage (Some (codes "x")) 𝟙 ω) (at 3 3) rule.Clauses 16
  pub in_erased_let : walks_in prim_entries 0 Part.run (one_x 𝟙) (codes "x" ∷ []) x_reported IntTy
      (let_y 𝟘 (here 0 (codes "x") (at 3 13)))
      ≡ found (codes "a") (at 3 12) IntTy 2 (left 𝟙 (codes "x") (var 1) IntTy ∷ left 𝟘 (codes "y") (var 0) IntTy ∷ [])
  pub many_stay : walks_in prim_entries 0 Part.run (one_x ω) (codes "x" ∷ []) x_reported IntTy
      (let_y ω (here 0 (codes "x") (at 3 13)))
      ≡ found (codes "a") (at 3 12) IntTy 2 (left ω (codes "x") (var 1) IntTy ∷ left ω (codes "y") (var 0) IntTy ∷ [])
  pub erased_is_none : walks_in prim_entries 0 Part.run (one_x 𝟘) (codes "x" ∷ []) x_reported IntTy a_hole ≡ found
      (codes "a") (at 3 12) IntTy 1 (left 𝟘 (codes "x") (var 0) IntTy ∷ [])
  -- in a 0 definition nothing is left
  pub nothing_left : walks_erased (Pi ω IntTy IntTy) under_x ≡ found (codes "a") (at 3 12) IntTy 1
      (left 𝟘 (codes "x") (var 0) IntTy ∷ [])
  pub under_lambda : walks (Pi 𝟙 IntTy IntTy) (under_typed 𝟙) ≡ found (codes "a") (at 3 12) IntTy 1
      (left 𝟙 (codes "x") (var 0) IntTy ∷ [])
  -- a binder without a name is not told, and need not be used
  pub no_name : walks (Pi 𝟙 IntTy IntTy) under_none ≡ found (codes "a") (at 3 12) IntTy 1 []
  pub for_a_term : walks_in prim_entries 0 Part.run with_got (codes "l" ∷ []) [] IntTy a_hole ≡ found (codes "a")
      (at 3 12) IntTy 1 (is_term (codes "l") got line_type ∷ [])
  -- a pattern that was put in has a name that no text can write
  pub put_in : walks_in prim_entries 0 Part.run (one_x 𝟘) (codes "'0" ∷ []) [] IntTy a_hole ≡ found (codes "a")
      (at 3 12) IntTy 1 []
  pub other_mark : walks (Pi 𝟙 IntTy IntTy) (under_typed ω) ≡ refuses (Cause.wrong_quantity 𝟙 ω) (at 3 5) rule.LamCheck
      2
  pub other_domain : walks (Pi 𝟙 UnitTy IntTy) (under_typed 𝟙) ≡ refuses (Cause.mismatch 0 UnitTy IntTy) (at 3 5)
      rule.LamCheck 3
  pub no_function : walks IntTy under_x ≡ refuses (Cause.not_a_function 0 IntTy) (at 3 5) rule.LamCheck 1
  pub no_action : walks IntTy opened_only ≡ refuses (Cause.not_an_action 0 IntTy) (at 3 8) rule.DoBind 2
  -- w : Type; w = w
  pub for_ever : walks_in circles 10 Part.run no_scope [] [] (Def (item 0)) under_x ≡ Ending.spent
      (refusal.at (at 3 5) rule.LamCheck 1) (Question.head_of 0 (Def (item 0)))
