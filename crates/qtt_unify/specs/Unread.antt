-- Indices on the way to their readings: a term that is to be read next, and the constructors around it, some of whose
-- fields are read.
use Rattle.std.specs.Prelude.{◌≡◌, ℕ, ◌+◌, ◌<◌, ◌≤◌, List, [], ◌∷◌, reverse, length, Option, Some, None, true}
use Rattle.qtt_term.specs.declared.term.Term as code
use Rattle.qtt_term.specs.declared.term.ConId.{ConId}
use Rattle.qtt_term.specs.Term.{Form, Term, Terms, node, ◌▸◌, ◌+++◌}
use Rattle.qtt_term.specs.Signature.{Env, family_at}
use Rattle.qtt_term.specs.Question.{Head, head_step, weight, weights}
use Rattle.qtt_term.specs.Reading.{is_plain, read_step, read_from, read}
use Rattle.qtt_term.specs.View.{term, terms, side_by_side}
use Rattle.qtt_unify.specs.declared.reading.Applied.{Applied}
use Rattle.qtt_unify.specs.declared.reading.Pending.{Pending}
use Rattle.qtt_unify.specs.declared.reading.Reading.{Reading}
use Rattle.qtt_unify.specs.declared.reading.Round.{Round}
use Rattle.qtt_unify.specs.declared.reading.Round.TheVariants as round
use Rattle.qtt_unify.specs.declared.reading.Step.{Step}
use Rattle.qtt_unify.specs.declared.reading.Step.TheVariants as step

-- the fields with a term among them; those behind it stand the last first
abbrev pub fields_with : Pending → Terms → Terms
fields_with p ts = side_by_side (terms p.before.items) +++ ts

abbrev pub still_behind : Pending → Terms
still_behind p = side_by_side (reverse (terms p.behind.items))

-- a constructor with a term in the place of the field that is being read
abbrev pub plug : Pending → Term → Term
plug p t = node (Form.con p.con.family p.con.place (length p.params.items))
    (side_by_side (terms p.params.items) +++ fields_with p (t ▸ still_behind p))

abbrev pub con_of : ConId → List code.Term → List code.Term → Term
con_of c ps ts = node (Form.con c.family c.place (length ps)) (side_by_side (terms ps) +++ side_by_side (terms ts))

-- the outermost stands first
abbrev pub plug_all : List Pending → Term → Term
plug_all [] t = t
plug_all (p ∷ ps) t = plug p (plug_all ps t)

abbrev pub whole : Reading → Term
whole r = plug_all r.around.items (term r.focus)

abbrev pub AllRead : Env → List code.Term → Type 0
AllRead E [] = Unit {0}
AllRead E (t ∷ ts) = (read_step E (term t) ≡ None) × AllRead E ts

-- its family is plain, and the fields before the place are read
pub record IsPending (E : Env) (p : Pending) : Type 0 where
  pub plain : is_plain (family_at E p.con.family) ≡ true
  pub before : AllRead E p.before.items

abbrev pub ArePending : Env → List Pending → Type 0
ArePending E [] = Unit {0}
ArePending E (p ∷ ps) = IsPending E p × ArePending E ps

-- ---- what is still to be read
abbrev pub behinds : List Pending → ℕ
behinds [] = 0
behinds (p ∷ ps) = weights (side_by_side (terms p.behind.items)) + behinds ps

abbrev pub unread : Reading → ℕ
unread r = weight (term r.focus) + behinds r.around.items

-- ---- steps
-- the reading of t within n contractions goes on with that of s within k
abbrev pub GoesOn : Env → ℕ → Term → ℕ → Term → Type 0
GoesOn E n t k s = (made : ℕ) → (more : ℕ) × (read_from E n made t ≡ read_from E k more s)

-- a constructor of a plain family was taken apart, or else the head is what it was
abbrev pub TakenApart : Env → code.Term → code.Term → Option Applied → Type 0
TakenApart E t u (Some a) =
    (term t ≡ con_of a.con a.params.items a.fields.items) × (is_plain (family_at E a.con.family) ≡ true)
TakenApart E t u None = (term u ≡ term t) × (head_step E (term t) ≡ None → read_step E (term t) ≡ None)

-- it is read, or something else is to be read next, which weighs less than a bound
abbrev pub StepsTo : Env → Term → ℕ → Step → Type 0
StepsTo E t bound (step.Whole r) = (term r ≡ t) × (read_step E t ≡ None)
StepsTo E t bound (step.Next r) = (whole r ≡ t) × ArePending E r.around.items × (unread r < bound)

-- the answer, or a reading within fewer contractions
abbrev pub RoundTo : Env → ℕ → Term → Round → Type 0
RoundTo E n t (round.Read r) = (term r ≡ t) × (read_step E t ≡ None)
RoundTo E n t round.Spent = (made : ℕ) → read_from E n made t ≡ Head.spent
RoundTo E n t (round.Contracted fewer r) = GoesOn E n t fewer (whole r) × ArePending E r.around.items × (fewer < n)

-- the answer, or a reading within as many contractions or fewer, of which less is left where none was made
abbrev pub TakesTo : Env → ℕ → Term → ℕ → Round → Type 0
TakesTo E n t bound (round.Read r) = (term r ≡ t) × (read_step E t ≡ None)
TakesTo E n t bound round.Spent = (made : ℕ) → read_from E n made t ≡ Head.spent
TakesTo E n t bound (round.Contracted fewer r) =
    GoesOn E n t fewer (whole r) × ArePending E r.around.items × (fewer ≤ n)
    × (fewer ≡ n → (whole r ≡ t) × (unread r < bound))

-- the reading, or that it is spent
abbrev pub ReadTo : Env → ℕ → Term → Option code.Term → Type 0
ReadTo E n t None = read E n t ≡ Head.spent
ReadTo E n t (Some r) = (made : ℕ) × (read E n t ≡ Head.done (term r) made)
