-- Terms taken apart on the way to their heads: frames, each around a place, and what stands in the innermost
-- place.
use Rattle.std.specs.Prelude.{◌≡◌, ℕ, zero, suc, ◌+◌, ◌<◌, List, [], ◌∷◌, ◌++◌, map, length, Option, Some, None}
use Rattle.qtt_prims.specs.declared.lit.Lit.{Lit}
use Rattle.qtt_term.specs.declared.term.Case.{Case, out-Case}
use Rattle.qtt_term.specs.Term.{Named, Form, Term, Terms, var, node, ε, ◌▸◌, ◌+++◌, size, skip}
use Rattle.qtt_term.specs.Shift.{sub_branch}
use Rattle.qtt_term.specs.Signature.{Env}
use Rattle.qtt_term.specs.Substitution.{sub, lifts}
use Rattle.qtt_term.specs.Contraction.{as_lam, as_con, as_lit, literal_term, contract}
use Rattle.qtt_term.specs.Question.{scrutinee_place, head_step, weight, weights}
use Rattle.qtt_term.specs.View.{term, branches, side_by_side}
use Rattle.qtt_confluence.specs.Heads.{parts}
use Rattle.qtt_envconv.specs.declared.frame.Frame.{Frame}
use Rattle.qtt_envconv.specs.declared.frame.Past.{Past}
use Rattle.qtt_envconv.specs.declared.frame.Past.TheVariants as past
use Rattle.qtt_envconv.specs.declared.contraction.Reduct.{Reduct}
use Rattle.qtt_envconv.specs.declared.contraction.Reduct.TheVariants as reduct_code
use Rattle.qtt_envconv.specs.declared.spine.Focus.{Focus}
use Rattle.qtt_envconv.specs.declared.spine.Focus.TheVariants as focus_code
use Rattle.qtt_envconv.specs.Closures.{closure, IsForm}
use Rattle.qtt_envconv.specs.Shapes.{literal}
use Rattle.qtt_envconv.specs.Nodes.{put_in, over_in}

-- ---- frames
-- a term in the place of a frame
abbrev pub plug : Frame → Term → Term
plug f t = put_in f.place t (over_in (map literal f.literals.items) (closure f.closure))

-- a term in the place of the innermost of frames, of which the outermost stands first
abbrev pub plug_all : List Frame → Term → Term
plug_all [] t = t
plug_all (f ∷ fs) t = plug f (plug_all fs t)

-- component k
abbrev pub component : ℕ → Terms → Option Term
component k ε = None
component zero (t ▸ ts) = Some t
component (suc k) (t ▸ ts) = component k ts

-- a form with these components takes the head of component k, behind so many literals
abbrev pub TakesAt : Form → Terms → List Lit → ℕ → Type 0
TakesAt (Form.app q) ts ls k = (ls ≡ []) × (k ≡ 0) × (size ts ≡ 2)
TakesAt (Form.case q f n m ns) ts ls k = (ls ≡ []) × (k ≡ scrutinee_place n ns) × (size ts ≡ suc k)
TakesAt (Form.delete q) ts ls k = (ls ≡ []) × (k ≡ 4) × (size ts ≡ 5)
TakesAt (Form.named (Named.prim p)) ts ls k = (k ≡ length ls) × (k < size ts)
TakesAt _ ts ls k = ⊥

abbrev pub Takes : Term → List Lit → ℕ → Type 0
Takes (var i) ls k = ⊥
Takes (node F ts) ls k = TakesAt F ts ls k

abbrev pub IsFrame : Frame → Type 0
IsFrame f = IsForm (term f.closure.code.now) × Takes (closure f.closure) (map literal f.literals.items) f.place

abbrev pub AreFrames : List Frame → Type 0
AreFrames [] = Unit {0}
AreFrames (f ∷ fs) = IsFrame f × AreFrames fs

-- the form of a primitive
abbrev pub IsCall : Term → Type 0
IsCall (node (Form.named (Named.prim p)) ts) = Unit {0}
IsCall _ = ⊥

-- an argument of a primitive in a frame's place is no literal: the head of a later one is taken past it
abbrev pub Fits : Frame → Term → Type 0
Fits f t = IsCall (closure f.closure) → as_lit t ≡ None

-- no literal stands directly in the place of a primitive's frame
abbrev pub Waits : List Frame → Term → Type 0
Waits fs t = (gs : List Frame) (f : Frame) → fs ≡ gs ++ f ∷ [] → Fits f t

-- ---- weights
-- of the components behind a frame's place
abbrev pub behind : Frame → ℕ
behind f = weights (skip (suc f.place) (parts (closure f.closure)))

abbrev pub all_behind : List Frame → ℕ
all_behind [] = 0
all_behind (f ∷ fs) = behind f + all_behind fs

-- ---- focuses
abbrev pub focus : Focus → Term
focus (focus_code.Variable i) = var i
focus (focus_code.Literal l) = literal_term (literal l)
focus (focus_code.Closure c) = closure c
focus (focus_code.Call c ls) = over_in (map literal ls.items) (closure c)

-- the head of no component is taken
abbrev pub TakesNone : Term → Type 0
TakesNone (node (Form.app q) ts) = ⊥
TakesNone (node (Form.case q f n m ns) ts) = ⊥
TakesNone (node (Form.delete q) ts) = ⊥
TakesNone (node (Form.named (Named.prim p)) ts) = ts ≡ ε
TakesNone _ = Unit {0}

-- nor is it a literal or a primitive
abbrev pub IsAtRest : Term → Type 0
IsAtRest (var i) = ⊥
IsAtRest (node (Form.app q) ts) = ⊥
IsAtRest (node (Form.case q f n m ns) ts) = ⊥
IsAtRest (node (Form.delete q) ts) = ⊥
IsAtRest (node (Form.named (Named.prim p)) ts) = ⊥
IsAtRest (node (Form.named (Named.lit l)) ts) = ⊥
IsAtRest (node F ts) = Unit {0}

-- a primitive with so many arguments
abbrev pub IsCallOf : ℕ → Term → Type 0
IsCallOf n (node (Form.named (Named.prim p)) ts) = size ts ≡ n
IsCallOf n _ = ⊥

abbrev pub IsFocus : Focus → Type 0
IsFocus (focus_code.Variable i) = Unit {0}
IsFocus (focus_code.Literal l) = Unit {0}
IsFocus (focus_code.Closure c) = IsAtRest (term c.code.now)
IsFocus (focus_code.Call c ls) = IsCallOf (length ls.items) (term c.code.now)

abbrev pub reduct : Reduct → Term
reduct (reduct_code.Closure c) = closure c
reduct (reduct_code.Literal l) = literal_term (literal l)

-- ---- what comes of a literal in the place of a frame
abbrev pub GoesPast : Frame → Term → Past → Type 0
GoesPast f l (past.Next g c) = IsFrame g × (plug g (closure c) ≡ plug f l) × (weight (closure c) + behind g ≡ behind f)
GoesPast f l (past.Last c ls) =
    IsCallOf (length ls.items) (term c.code.now) × (over_in (map literal ls.items) (closure c) ≡ plug f l)
GoesPast f l (past.Kept g) = (g ≡ f) × (IsCall (closure f.closure) → ⊥)

-- neither a function, nor a constructor, nor a literal
abbrev pub IsNoValue : Term → Type 0
IsNoValue t = (as_lam t ≡ None) × (as_con t ≡ None) × (as_lit t ≡ None)

-- a head around which no rule contracts
abbrev pub HasStopped : Env → Term → Type 0
HasStopped E t = (head_step E t ≡ None) × IsNoValue t

-- the contraction of a term itself
abbrev pub contracted : Env → Term → Option Term
contracted E (var i) = None
contracted E (node F ts) = contract E F ts

-- behind its parameters, a Case whose free variables stand for σ and whose scrutinee is t
abbrev pub case_rest : (ℕ → Term) → Case → Term → Terms
case_rest σ c t =
    sub (lifts ((out-Case c).indices + 1) σ) (term (out-Case c).motive) ▸
    (side_by_side (map (λ b. b.1) (map (sub_branch σ) (branches (out-Case c).branches.items))) +++ (t ▸ ε))
