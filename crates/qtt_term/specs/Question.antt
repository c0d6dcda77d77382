-- Heads, and the comparison of two terms under one count of contractions.
use Rattle.std.specs.Prelude.{ℕ, zero, suc, ◌+◌, List, [], ◌∷◌, ◌++◌, length, Option, Some, None, Bool, true, false, ◌&&◌, not, cond, eqb}
use Rattle.std.specs.Ordering.{int_eq}
use Rattle.std.specs.Str.{bytes_eq}
use Rattle.qtt_usage.specs.Mult.{same_mult}
use Rattle.qtt_prims.specs.declared.prim.Primitive.{Primitive}
use Rattle.qtt_prims.specs.declared.prim.Primitive.TheVariants as prim
use Rattle.qtt_prims.specs.declared.lit.Lit.{Lit}
use Rattle.qtt_prims.specs.declared.lit.Lit.TheVariants as literal
use Rattle.qtt_term.specs.Term.{Io, PrimTy, Action, Named, Form, Term, Terms, var, node, ε, ◌▸◌, size, same_id}
use Rattle.qtt_term.specs.Signature.{Env}
use Rattle.qtt_term.specs.Contraction.{as_lit, contract}

-- ---- heads
-- the first that is there
abbrev pub either : {A : Type 0} → Option A → Option A → Option A
either None o = o
either (Some a) o = Some a

abbrev pub wrap : {A B : Type 0} → (A → B) → Option A → Option B
wrap g None = None
wrap g (Some a) = Some (g a)

-- past a literal, and else in the argument itself
abbrev pub argument_step : Option Lit → Term → Terms → Option Term → Option Terms → Option Terms
argument_step None t ts now later = wrap (λ s. s ▸ ts) now
argument_step (Some l) t ts now later = wrap (λ ss. t ▸ ss) later

-- where a Case's scrutinee stands, behind parameters, motive and branches
abbrev pub scrutinee_place : ℕ → List ℕ → ℕ
scrutinee_place zero ns = suc (length ns)
scrutinee_place (suc k) ns = suc (scrutinee_place k ns)

-- the component whose head a form takes: the function, the scrutinee, or a primitive's first argument that is no
-- literal
abbrev pub asked : Form → (ℕ → Option Terms) → Option Terms → Option Terms
asked (Form.app q) at_place in_arguments = at_place 0
asked (Form.case q f k m ns) at_place in_arguments = at_place (scrutinee_place k ns)
asked (Form.delete q) at_place in_arguments = at_place 4
asked (Form.named (Named.prim p)) at_place in_arguments = in_arguments
asked _ at_place in_arguments = None

-- one contraction toward the head; none at a head
abbrev mutual
  pub head_step : Env → Term → Option Term
  head_step E (var i) = None
  head_step E (node F ts) = either (contract E F ts) (wrap (node F) (asked F (step_at E ts) (arguments_step E ts)))

  pub step_at : Env → Terms → ℕ → Option Terms
  step_at E ε n = None
  step_at E (t ▸ ts) zero = wrap (λ s. s ▸ ts) (head_step E t)
  step_at E (t ▸ ts) (suc n) = wrap (λ ss. t ▸ ss) (step_at E ts n)

  pub arguments_step : Env → Terms → Option Terms
  arguments_step E ε = None
  arguments_step E (t ▸ ts) = argument_step (as_lit t) t ts (head_step E t) (arguments_step E ts)

-- a head with the number of contractions made, or that one more than may be made would be
pub data Head : Type 0 where
  done : Term → ℕ → Head
  spent : Head

-- the head where so many more contractions may be made after so many
abbrev pub head_from : Env → ℕ → ℕ → Term → Head
head_from E zero made t = elim (head_step E t) [ None ↦ Head.done t made | Some s ↦ Head.spent ]
head_from E (suc n) made t = elim (head_step E t) [ None ↦ Head.done t made | Some s ↦ head_from E n (suc made) s ]

-- the head of t within n contractions
abbrev pub head : Env → ℕ → Term → Head
head E n t = head_from E n 0 t

-- ---- syntactic equality
abbrev pub same_io : Io → Io → Bool
same_io Io.io Io.io = true
same_io Io.io1 Io.io1 = true
same_io _ _ = false

abbrev pub same_prim_ty : PrimTy → PrimTy → Bool
same_prim_ty PrimTy.int PrimTy.int = true
same_prim_ty PrimTy.string PrimTy.string = true
same_prim_ty PrimTy.handle PrimTy.handle = true
same_prim_ty (PrimTy.io_of m) (PrimTy.io_of n) = same_io m n
same_prim_ty _ _ = false

abbrev pub same_prim : Primitive → Primitive → Bool
same_prim prim.AddInt prim.AddInt = true
same_prim prim.SubInt prim.SubInt = true
same_prim prim.MulInt prim.MulInt = true
same_prim prim.DivInt prim.DivInt = true
same_prim prim.ModInt prim.ModInt = true
same_prim prim.EqInt prim.EqInt = true
same_prim prim.LtInt prim.LtInt = true
same_prim prim.AppendString prim.AppendString = true
same_prim prim.EqString prim.EqString = true
same_prim prim.ShowInt prim.ShowInt = true
same_prim _ _ = false

abbrev pub same_action : Action → Action → Bool
same_action (Action.pure m) (Action.pure n) = same_io m n
same_action (Action.bind m n) (Action.bind k l) = same_io m k && same_io n l
same_action Action.put_line Action.put_line = true
same_action Action.get_line Action.get_line = true
same_action Action.opens Action.opens = true
same_action Action.writes Action.writes = true
same_action Action.closes Action.closes = true
same_action _ _ = false

abbrev pub same_lit : Lit → Lit → Bool
same_lit (literal.Int a) (literal.Int b) = int_eq a b
same_lit (literal.Text a) (literal.Text b) = bytes_eq a b
same_lit _ _ = false

abbrev pub same_named : Named → Named → Bool
same_named (Named.def d) (Named.def e) = same_id d e
same_named (Named.lit l) (Named.lit m) = same_lit l m
same_named (Named.prim_ty p) (Named.prim_ty r) = same_prim_ty p r
same_named (Named.prim p) (Named.prim r) = same_prim p r
same_named (Named.act a k) (Named.act b l) = same_action a b && eqb k l
same_named _ _ = false

abbrev pub same_counts : List ℕ → List ℕ → Bool
same_counts [] [] = true
same_counts (m ∷ ms) (n ∷ ns) = eqb m n && same_counts ms ns
same_counts _ _ = false

-- forms with the same fixed parts
unfoldable pub same_form : Form → Form → Bool
same_form (Form.sort l) (Form.sort k) = eqb l k
same_form (Form.pi q) (Form.pi r) = same_mult q r
same_form (Form.lam q) (Form.lam r) = same_mult q r
same_form (Form.app q) (Form.app r) = same_mult q r
same_form (Form.fam f) (Form.fam g) = same_id f g
same_form (Form.con f c k) (Form.con g d l) = same_id f g && (eqb c d && eqb k l)
same_form (Form.case q f k m ms) (Form.case r g l n ns) =
    same_mult q r && (same_id f g && (eqb k l && (eqb m n && same_counts ms ns)))
same_form (Form.delete q) (Form.delete r) = same_mult q r
same_form (Form.named m) (Form.named n) = same_named m n
same_form Form.trap Form.trap = true
same_form (Form.tape m) (Form.tape n) = eqb m n
same_form _ _ = false

-- syntactically the same
abbrev mutual
  pub same : Term → Term → Bool
  same (var i) (var j) = eqb i j
  same (node F ts) (node G ss) = same_form F G && sames ts ss
  same _ _ = false

  pub sames : Terms → Terms → Bool
  sames ε ε = true
  sames (t ▸ ts) (s ▸ ss) = same t s && sames ts ss
  sames _ _ = false

-- ---- comparison
-- forms, their fixed parts and the number of components
abbrev pub same_outline : Term → Term → Bool
same_outline (var i) (var j) = eqb i j
same_outline (node F ts) (node G ss) = same_form F G && eqb (size ts) (size ss)
same_outline _ _ = false

-- two terms that are asked about, at a path of component numbers, and whether they were tested to be the same
pub record Item : Type 0 where
  pub tested : Bool
  pub path : List ℕ
  pub left : Term
  pub right : Term

-- the components side by side, numbered from k
abbrev pub beside : List ℕ → ℕ → Terms → Terms → List Item
beside path k (t ▸ ts) (s ▸ ss) =
    record { tested = false; path = path ++ k ∷ []; left = t; right = s } ∷ beside path (suc k) ts ss
beside path k _ _ = []

abbrev pub components : List ℕ → Term → Term → List Item
components path (node F ts) (node G ss) = beside path 0 ts ss
components path _ _ = []

-- what is done with an item: it gives way to its components, it makes a contraction, or its terms differ
pub data Move : Type 0 where
  splits : List Item → Move
  contracts : Item → Move
  differs : Move

-- the head of the left, then of the right, then their outlines
abbrev pub of_heads : Option Term → Option Term → Item → Move
of_heads (Some t) o i = Move.contracts (record { tested = true; path = i.path; left = t; right = i.right })
of_heads None (Some s) i = Move.contracts (record { tested = true; path = i.path; left = i.left; right = s })
of_heads None None i = cond (same_outline i.left i.right) (Move.splits (components i.path i.left i.right)) Move.differs

-- terms that are the same are done with
abbrev pub move : Env → Item → Move
move E i = cond (not i.tested && same i.left i.right) (Move.splits [])
    (of_heads (head_step E i.left) (head_step E i.right) i)

pub data Answer : Type 0 where
  equal : Answer
  different : List ℕ → Answer
  spent : Answer

abbrev mutual
  pub weight : Term → ℕ
  weight (var i) = 1
  weight (node F ts) = suc (weights ts)

  pub weights : Terms → ℕ
  weights ε = 0
  weights (t ▸ ts) = weight t + weights ts

abbrev pub weight_of : List Item → ℕ
weight_of [] = 0
weight_of (i ∷ is) = weight i.left + weight_of is

-- what a move leads to: `again` goes on under the same count, `next` under the next
abbrev pub follow : Move → Item → List Item → (List Item → Answer) → (List Item → Answer) → Answer
follow (Move.splits js) i is again next = again (js ++ is)
follow (Move.contracts j) i is again next = next (j ∷ is)
follow Move.differs i is again next = Answer.different i.path

-- answers the items in order; each contraction goes on by `next`. Each move that is no contraction takes from the
-- weight of the left terms, so that as many of them as they weigh are enough
abbrev pub answer : Env → (List Item → Answer) → ℕ → List Item → Answer
answer E next s [] = Answer.equal
answer E next zero (i ∷ is) = Answer.spent
answer E next (suc s) (i ∷ is) = follow (move E i) i is (λ js. answer E next s js) next

-- the answer within n contractions
abbrev pub within_count : Env → ℕ → List Item → Answer
within_count E zero is = answer E (λ js. Answer.spent) (weight_of is) is
within_count E (suc n) is = answer E (within_count E n) (weight_of is) is

-- whether t and s are the same by what n contractions show
abbrev pub compare : Env → ℕ → Term → Term → Answer
compare E n t s = within_count E n (record { tested = false; path = []; left = t; right = s } ∷ [])
