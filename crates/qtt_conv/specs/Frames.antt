-- Terms taken apart on the way to their heads: frames, each around a place, and what stands in the innermost
-- place.
use Rattle.std.specs.Prelude.{◌≡◌, ℕ, ◌+◌, List, [], ◌∷◌, map, length, slice_get, Option, Some, None, cond, eqb}
use Rattle.qtt_base.specs.declared.place.GlobalId.{GlobalId}
use Rattle.qtt_prims.specs.declared.lit.Lit.{Lit}
use Rattle.qtt_term.specs.declared.term.ConId.{ConId}
use Rattle.qtt_term.specs.Term.{Named, Form, Term, Terms, node, ε, ◌▸◌, ◌+++◌, same_id}
use Rattle.qtt_term.specs.Signature.{Env}
use Rattle.qtt_term.specs.View.{term, terms, branches, side_by_side}
use Rattle.qtt_term.specs.Contraction.{chain, as_lit, literal_term, delta, literals, computed}
use Rattle.qtt_conv.specs.declared.frame.Branching.{Branching}
use Rattle.qtt_conv.specs.declared.frame.Deletion.{Deletion}
use Rattle.qtt_conv.specs.declared.frame.Frame.{Frame}
use Rattle.qtt_conv.specs.declared.frame.Frame.TheVariants as frame

-- literals as components
abbrev pub literal_terms : List Lit → Terms
literal_terms [] = ε
literal_terms (l ∷ ls) = literal_term l ▸ literal_terms ls

abbrev pub case_form : Branching → Form
case_form c = Form.case c.mult c.family (length c.params.items) (c.indices + 1)
    (map (λ b. b.0) (branches c.branches.items))

-- the components of a Case with this scrutinee
abbrev pub case_parts : Branching → Term → Terms
case_parts c t = side_by_side (terms c.params.items) +++
    (term c.motive ▸ (side_by_side (map (λ b. b.1) (branches c.branches.items)) +++ (t ▸ ε)))

abbrev pub delete_form : Deletion → Form
delete_form d = Form.delete d.mult

-- the components of a Delete with this scrutinee
abbrev pub delete_parts : Deletion → Term → Terms
delete_parts d t = term d.ty ▸ term d.point ▸ term d.motive ▸ term d.branch ▸ t ▸ ε

abbrev pub form_of : Frame → Form
form_of (frame.Argument q a) = Form.app q
form_of (frame.Case c) = case_form c.value
form_of (frame.Delete d) = delete_form d.value
form_of (frame.Prim p ls ts) = Form.named (Named.prim p)

abbrev pub parts_of : Frame → Term → Terms
parts_of (frame.Argument q a) t = t ▸ term a ▸ ε
parts_of (frame.Case c) t = case_parts c.value t
parts_of (frame.Delete d) t = delete_parts d.value t
parts_of (frame.Prim p ls ts) t = literal_terms ls.items +++ (t ▸ side_by_side (terms ts.items))

-- a term in the place of a frame
abbrev pub plug : Frame → Term → Term
plug f t = node (form_of f) (parts_of f t)

-- a term in the place of the innermost of frames, of which the outermost stands first
abbrev pub plug_all : List Frame → Term → Term
plug_all [] t = t
plug_all (f ∷ fs) t = plug f (plug_all fs t)

-- an argument of a primitive in a frame's place is no literal: the head of a later one is taken past it
abbrev pub Fits : Frame → Term → Type 0
Fits (frame.Prim p ls ts) t = as_lit t ≡ None
Fits _ t = Unit {0}

abbrev pub starts_with_no_literal : Terms → Type 0
starts_with_no_literal ε = Unit {0}
starts_with_no_literal (t ▸ ts) = as_lit t ≡ None

abbrev pub AreLiterals : Terms → Type 0
AreLiterals ts = (ls : List Lit) × (ts ≡ literal_terms ls)

-- no component's head is taken
abbrev pub IsFocus : Term → Type 0
IsFocus (node (Form.app q) ts) = ⊥
IsFocus (node (Form.case q f k m ns) ts) = ⊥
IsFocus (node (Form.delete q) ts) = ⊥
IsFocus (node (Form.named (Named.prim p)) ts) = AreLiterals ts
IsFocus _ = Unit {0}

-- ---- branches
-- the body of a branch under so many fields
abbrev pub fitting_body : ℕ → ℕ × Term → Option Term
fitting_body n b = cond (eqb n b.0) (Some b.1) None

-- of a Case of a family with these branches, the body for a constructor with so many fields
abbrev pub body_for : GlobalId → List (ℕ × Term) → ConId → ℕ → Option Term
body_for f bs con n = cond (same_id f con.family) (chain (slice_get bs con.place) (fitting_body n)) None

-- ---- what a term contracts to where the head of none of its components is taken
abbrev pub focus_step : Env → Term → Option Term
focus_step E (node (Form.named (Named.def d)) ts) = delta E d ts
focus_step E (node (Form.named (Named.prim p)) ts) = chain (literals ts) (computed p)
focus_step E _ = None
